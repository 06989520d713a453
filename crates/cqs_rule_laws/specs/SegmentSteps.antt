-- The steps on the words of segments: none is an event, and each leaves its pass at what it was at,
-- but for the slots that it has spare, the cells that it is to count, and the segments that it is
-- to retire.
use Rattle.std.specs.Prelude.{◌≡◌, ◌≢◌, ◌⊎◌, ℕ, ◌+◌, ◌/◌, ◌<◌, ◌≤◌, ◌^◌, Bool, List, [], ◌∷◌, ◌++◌, length}
use Rattle.cqs_core.specs.declared.doings.Doing.TheVariants as doing
use Rattle.cqs_words.specs.Head.{head_word}
use Rattle.cqs_words.specs.Segment.{segment_word}
use Rattle.cqs_slots.specs.Slots.{IsHome, IsRaised}
use Rattle.cqs_slots.specs.declared.seen.Seen.{Seen}
use Rattle.cqs_slots.specs.Told.{TailFound, HeadFound, LinkFound, CountFound, SeesMore}
use Rattle.cqs_rule_laws.specs.declared.config.CancelMode.TheVariants.{Simple}
use Rattle.cqs_rule_laws.specs.declared.view.Facts.{Facts}
use Rattle.cqs_rule_laws.specs.declared.view.Spare.{Spare}
use Rattle.cqs_rule_laws.specs.declared.view.View.{View}
use Rattle.cqs_rule_laws.specs.Lists.{Has, without}

-- a pass at these facts that has these slots spare and these cells to count, and found these heads
-- besides
abbrev pub facts_left : List Spare → List (ℕ × ℕ) → List ℕ → Facts → Facts
facts_left spares heads duties f =
    record f { spare_slots = spares; heads = f.heads ++ heads; duties = duties }

-- a slot that was claimed just now
abbrev pub claimed_slot : ℕ → Spare
claimed_slot x = record { slot = x; after = 0; done = 0 }

-- a spare that is reset so far, for the segment after this one
abbrev pub reset_slot : ℕ → ℕ → ℕ → Spare
reset_slot x after done = record { slot = x; after = after; done = done }

module _ {E S : Type 0} where
  -- the view at these facts, with these segments seen
  abbrev pub view_left : List Spare → List (ℕ × ℕ) → List ℕ → Seen → View E S → View E S
  view_left spares heads duties seen v =
      record v { facts = facts_left spares heads duties v.facts; segments = seen }

  -- the view of a pass that is to retire these segments, and has all else as it has it
  abbrev pub retiring : List ℕ → View E S → View E S
  retiring segments v = record v { facts = record v.facts { to_retire = segments } }

  -- and one that is to retire this segment besides, or isn't to retire it any more
  abbrev pub retiring_too : ℕ → View E S → View E S
  retiring_too s v = retiring (v.facts.to_retire ++ s ∷ []) v

  abbrev pub not_retiring : ℕ → View E S → View E S
  not_retiring s v = retiring (without s v.facts.to_retire) v

  -- All that the pass knows stays, but for these spare slots, heads and cells to count; and of the
  -- segments it has seen more.
  pub record LeftBy (heads : List (ℕ × ℕ)) (spares : List Spare) (duties : List ℕ) (v w : View E S)
      : Type 0 where
    pub is : w ≡ view_left spares heads duties w.segments v
    pub segments : SeesMore v.segments w.segments

  -- a step was made that leaves the pass these spare slots
  abbrev pub Went : List Spare → List (ℕ × ℕ) → View E S → View E S → Type 0
  Went spares heads v w = LeftBy heads spares v.facts.duties v w

  -- The number is one that the pass works at, or waits at, and isn't to pass over: it is to install
  -- its wait there, or is in the middle of leaving; or it has the ticket, in simple mode.
  abbrev pub IsOwnNumber : View E S → ℕ → Type 0
  IsOwnNumber v k =
      (v.facts.doing ≡ doing.Drawn k) ⊎ (Has k v.facts.waits ⊎ ((v.facts.doing ≡ doing.Leaving k)
      ⊎ (((on : Bool) × (v.facts.doing ≡ doing.Decided k on))
      ⊎ ((v.facts.doing ≡ doing.Ticket k) × (v.opening.mode ≡ Simple)))))

  -- no segment of such a number was taken out
  abbrev pub OwnStand : View E S → View E S → Type 0
  OwnStand v w = (k : ℕ) → IsOwnNumber v k → Has (k / 32) w.segments.outs → ⊥

  -- The pass drew this number, and is to suspend or to resume at its cell.
  abbrev pub HasDrawn : View E S → ℕ → Type 0
  HasDrawn v k = (v.facts.doing ≡ doing.Drawn k) ⊎ (v.facts.doing ≡ doing.Ticket k)

  -- The tail was loaded. The segment of a number that the pass drew is at most one further, and
  -- that of one at which it waits isn't.
  pub record TailLoaded (v : View E S) (n : ℕ) (w : View E S) : Type 0 where
    pub found : TailFound v.slots n w.segments
    pub stands : OwnStand v w
    pub near : (k : ℕ) → HasDrawn v k → k / 32 ≤ found.id + 1
    pub made : (k : ℕ) → Has k v.facts.waits → k / 32 ≤ found.id
    pub went : Went v.facts.spare_slots [] v w

  -- The tail was loaded by a pass that is to retire a segment. The last one is none of those any
  -- more: who makes the next is to retire it.
  pub record LastKept (v : View E S) (n : ℕ) (w : View E S) : Type 0 where
    pub found : TailFound v.slots n w.segments
    pub went : Went v.facts.spare_slots [] (not_retiring found.id v) w

  -- the head of the slot x was
  pub record HeadLoaded (x : ℕ) (v : View E S) (n : ℕ) (w : View E S) : Type 0 where
    pub found : HeadFound x n v.segments w.segments
    pub stands : OwnStand v w
    pub went : Went v.facts.spare_slots ((x, n) ∷ []) v w

  -- It was looked at by a pass that took a segment out, and looks for those on both sides of it.
  -- Such a head isn't kept with those that it found.
  pub record HeadSeen (x : ℕ) (v : View E S) (n : ℕ) (w : View E S) : Type 0 where
    pub found : HeadFound x n v.segments w.segments
    pub went : Went v.facts.spare_slots [] v w

  -- the link of the slot x was
  pub record LinkLoaded (x : ℕ) (v : View E S) (n : ℕ) (w : View E S) : Type 0 where
    pub found : LinkFound v.slots x n v.segments w.segments
    pub stands : OwnStand v w
    pub went : Went v.facts.spare_slots [] v w

  -- it was raised to this word
  pub record LinkRaised (x word : ℕ) (v w : View E S) : Type 0 where
    pub raised : IsRaised x word w.segments.links
    pub went : Went v.facts.spare_slots [] v w

  -- a free slot was claimed, where its head still was this
  pub record Claimed (x expected : ℕ) (v : View E S) (n : ℕ) (w : View E S) : Type 0 where
    pub found : HeadFound x n v.segments w.segments
    pub made : n ≡ expected
        → Went (v.facts.spare_slots ++ claimed_slot x ∷ []) ((x, n) ∷ []) v w
    pub missed : n ≢ expected → Went v.facts.spare_slots ((x, n) ∷ []) v w

  -- The tail was loaded, and with that the reset of the pass's last spare began, for the segment
  -- after the tail's.
  pub record Began (before : List Spare) (x : ℕ) (v : View E S) (n : ℕ) (w : View E S) : Type 0
    where
      pub fits : x < 2 ^ 16
      pub found : TailFound v.slots n w.segments
      pub went : Went (before ++ reset_slot x found.id 1 ∷ []) [] v w

  -- one more of its words was reset
  abbrev pub Reset : List Spare → ℕ → ℕ → ℕ → View E S → View E S → Type 0
  Reset before x after done v w = Went (before ++ reset_slot x after (done + 1) ∷ []) [] v w

  -- a head that was found claimed was made live, by this pass or before
  pub record Lit (s : ℕ) (v w : View E S) : Type 0 where
    pub lit : s < w.segments.lit
    pub went : Went v.facts.spare_slots [] v w

  -- The pass's last spare became the home of the segment after a, which the pass is to retire then;
  -- or the tail was found to be another.
  pub record Extended (before : List Spare) (x a slot : ℕ) (v : View E S) (n : ℕ) (w : View E S)
      : Type 0 where
    pub home : n ≡ segment_word a slot → IsHome w.segments.homes (a + 1) x
    pub last : n ≡ segment_word a slot → length w.segments.homes ≡ a + 2
    pub made : n ≡ segment_word a slot → Went before [] (retiring_too a v) w
    pub found : n ≢ segment_word a slot → TailFound v.slots n w.segments
    pub missed : n ≢ segment_word a slot → Went v.facts.spare_slots [] v w

  -- A cell that the pass settled was counted, as it was to do last. Where it was the last of its
  -- segment, the pass is to retire that.
  pub record CellCounted (before : List ℕ) (s : ℕ) (v : View E S) (n : ℕ) (w : View E S) : Type 0
    where
      pub few : n < 32
      pub full : n ≡ 31 → Has s w.segments.full
      pub early : n < 31 → Has s w.segments.full → ⊥
      pub left : n < 31 → LeftBy [] v.facts.spare_slots before v w
      pub last : n ≡ 31 → LeftBy [] v.facts.spare_slots before (retiring_too s v) w

  -- The number of settled cells in the slot x was loaded. Where it isn't that of all cells, no
  -- segment whose home the slot was is to be retired by the pass any more.
  pub record CountLoaded (x : ℕ) (v : View E S) (n : ℕ) (w : View E S) : Type 0 where
    pub found : CountFound x n v.segments w.segments
    pub to_retire : List ℕ
    pub fewer : (s : ℕ) → Has s to_retire → Has s v.facts.to_retire
    pub early : n < 32 → (s : ℕ) → IsHome v.segments.homes s x → Has s to_retire → ⊥
    pub went : Went v.facts.spare_slots [] (retiring to_retire v) w

  -- The segment left by this step, and is the last that did; or it had left before. The pass isn't
  -- to retire it any more.
  pub record Retired (x s : ℕ) (v : View E S) (n : ℕ) (w : View E S) : Type 0 where
    pub out : Has s w.segments.outs
    pub last : n ≡ head_word s 2 → (before : List ℕ) × (w.segments.outs ≡ before ++ s ∷ [])
    pub went : Went v.facts.spare_slots ((x, n) ∷ []) (not_retiring s v) w
