-- What the calls on segments leave, by the pass before and after.
use Rattle.std.specs.Prelude.{◌≡◌, ℕ, ◌+◌, List, [], ◌∷◌, ◌++◌}
use Rattle.cqs_words.specs.declared.segment.LinkWord.{LinkWord}
use Rattle.cqs_words.specs.declared.segment.TailWord.{TailWord}
use Rattle.cqs_words.specs.Segment.{packed_tail}
use Rattle.cqs_slots.specs.Slots.{IsRaised}
use Rattle.cqs_rule_laws.specs.declared.client.ClientWords.{Ghosts}
use Rattle.cqs_rule_laws.specs.declared.view.Spare.{Spare}
use Rattle.cqs_rule_laws.specs.declared.view.View.{View}
use Rattle.cqs_rule_laws.specs.SegmentSteps.{claimed_slot, LeftBy}
use Rattle.cqs_segment.specs.declared.extending.Extended.{Extended}
use Rattle.cqs_segment.specs.declared.extending.Extended.TheVariants.{Made, Seen}
use Rattle.cqs_segment.specs.Extends.{ExtendsTo, IsMade}
use Rattle.cqs_segment.specs.Walks.{but_last, EndsWith, Left}
use Rattle.cqs_rule.specs.declared.queue.Pass.{Pass}
use Rattle.cqs_rule.specs.Passes.{pass_view}

-- The spare became the segment after this one, and the pass is to retire what it was to; or the
-- tail was found to be another.
abbrev pub ExtendsAlone : {E S : Type 0} → TailWord → ℕ → Extended → View E S → View E S → Type 0
ExtendsAlone after x (Made tail) v w =
    (tail ≡ record { id = after.id + 1; slot = x })
    × IsMade tail w × Left (but_last v.facts.spare_slots) v.facts.duties v w
ExtendsAlone after x (Seen tail) v w = ExtendsTo after x (Seen tail) v w

-- the same segment, as a link names it
abbrev pub as_link : TailWord → LinkWord
as_link tail = record { id = tail.id; slot = tail.slot }

-- the link of the last segment's slot was raised to the one that was made after it
abbrev pub IsLinkedTo : {E S : Type 0} → TailWord → Extended → View E S → Type 0
IsLinkedTo after (Made tail) w = IsRaised after.slot (packed_tail tail) w.segments.links
IsLinkedTo after (Seen tail) w = Unit {0}

-- The last spare slot is the home of the segment after this one now, and the pass is to retire
-- none; or the slot stays spare.
abbrev pub ExtendsLast : {E S : Type 0} → TailWord → Extended → View E S → View E S → Type 0
ExtendsLast after answer v w =
    (x : ℕ) × EndsWith v.facts.spare_slots x × ExtendsAlone after x answer v w

module _ {C S E : Type 0} {g : Ghosts C S E} where
  -- how many slots for segments the pass's table has
  abbrev pub slot_count : Pass C S E g → ℕ
  slot_count p = (pass_view p).slots

  -- those that it has spare
  abbrev pub spares_of : Pass C S E g → List Spare
  spares_of p = (pass_view p).facts.spare_slots

  -- The pass has these slots spare and these cells to count now; all else that it knows is as it
  -- was, but that it has seen more of the segments.
  abbrev pub HasLeft : List Spare → List ℕ → Pass C S E g → Pass C S E g → Type 0
  HasLeft spares duties p p' = Left spares duties (pass_view p) (pass_view p')

  -- it has what it had
  abbrev pub HasPassed : Pass C S E g → Pass C S E g → Type 0
  HasPassed p p' = HasLeft (spares_of p) (pass_view p).facts.duties p p'

  -- and looked at no head
  abbrev pub HasStayed : Pass C S E g → Pass C S E g → Type 0
  HasStayed p p' = LeftBy [] (spares_of p) (pass_view p).facts.duties (pass_view p) (pass_view p')

  -- it has one slot more, the last
  abbrev pub HasClaimed : Pass C S E g → Pass C S E g → Type 0
  HasClaimed p p' =
      (x : ℕ) × HasLeft (spares_of p ++ claimed_slot x ∷ []) (pass_view p).facts.duties p p'

  -- it has one less, the last, and looked at no head
  abbrev pub HasGivenBack : Pass C S E g → Pass C S E g → Type 0
  HasGivenBack p p' =
      LeftBy [] (but_last (spares_of p)) (pass_view p).facts.duties (pass_view p) (pass_view p')

  -- its last spare slot is that of the segment after this one now, or stays spare
  abbrev pub HasExtended : TailWord → Extended → Pass C S E g → Pass C S E g → Type 0
  HasExtended after answer p p' = ExtendsLast after answer (pass_view p) (pass_view p')
