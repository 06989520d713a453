-- What an extension answers.
use Rattle.std.specs.Prelude.{◌≡◌, ◌≢◌, ◌⊎◌, ℕ, ◌+◌, ◌<◌, [], ◌∷◌, ◌++◌}
use Rattle.cqs_words.specs.declared.segment.TailWord.{TailWord}
use Rattle.cqs_words.specs.Segment.{packed_tail, TailFits}
use Rattle.cqs_slots.specs.Slots.{IsHome}
use Rattle.cqs_slots.specs.Told.{TailFound}
use Rattle.cqs_rule_laws.specs.declared.view.View.{View}
use Rattle.cqs_rule_laws.specs.SegmentSteps.{LeftBy, reset_slot, retiring_too}
use Rattle.cqs_segment.specs.Walks.{but_last, Left}
use Rattle.cqs_segment.specs.declared.extending.Extended.{Extended}
use Rattle.cqs_segment.specs.declared.extending.Extended.TheVariants.{Made, Seen}

-- The segment was made live in this slot, and by then was the last.
pub record IsMade {E S : Type 0} (tail : TailWord) (w : View E S) : Type 0 where
  pub home : IsHome w.segments.homes tail.id tail.slot
  pub lit : tail.id < w.segments.lit

-- The pass knows the slot where this segment was made, which was the last.
pub record WasLast {E S : Type 0} (tail : TailWord) (w : View E S) : Type 0 where
  pub home : IsHome w.segments.homes tail.id tail.slot
  pub low : tail.slot < w.slots

module _ {E S : Type 0} where
  -- The pass keeps the spare. Either its first load found this tail, and it changed no word; or it
  -- reset all of the spare, and the head of the segment before was made live.
  abbrev pub IsKept : TailWord → ℕ → TailWord → View E S → View E S → Type 0
  IsKept after x tail v w =
      LeftBy [] (but_last v.facts.spare_slots ++ reset_slot x tail.id 1 ∷ []) v.facts.duties v w
      ⊎ (Left (but_last v.facts.spare_slots ++ reset_slot x after.id 34 ∷ []) v.facts.duties v w
      × (after.id < w.segments.lit))

  -- The spare became the segment after this one, which the pass is to retire then; or the tail was
  -- found to be another, whose word this is.
  abbrev pub ExtendsTo : TailWord → ℕ → Extended → View E S → View E S → Type 0
  ExtendsTo after x (Made tail) v w =
      (tail ≡ record { id = after.id + 1; slot = x })
      × IsMade tail w × WasLast after w
      × Left (but_last v.facts.spare_slots) v.facts.duties (retiring_too after.id v) w
  ExtendsTo after x (Seen tail) v w =
      (tail ≢ after) × TailFound w.slots (packed_tail tail) w.segments
      × IsKept after x tail v w × TailFits tail
