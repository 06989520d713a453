-- Where a segment is told to be, how many of its cells are counted, and what became of it.
use Rattle.std.specs.Prelude.{◌≡◌, ◌≢◌, ◌⊎◌, ℕ, ◌+◌, ◌/◌, ◌<◌, ◌≤◌, ◌^◌, ◌++◌, [], ◌∷◌, List, length}
use Rattle.cqs_words.specs.declared.segment.TailWord.{TailWord}
use Rattle.cqs_words.specs.Head.{head_word}
use Rattle.cqs_slots.specs.Slots.{IsHome}
use Rattle.cqs_rule_laws.specs.declared.view.View.{View}
use Rattle.cqs_rule_laws.specs.Lists.{Has}
use Rattle.cqs_rule_laws.specs.SegmentSteps.{HasDrawn, LeftBy, retiring, retiring_too}
use Rattle.cqs_segment.specs.Links.{IsClosed}
use Rattle.cqs_segment.specs.Walks.{but_last, Looked}
use Rattle.cqs_segment.specs.declared.walk.Found.{Found}
use Rattle.cqs_segment.specs.declared.walk.Found.TheVariants.{At, Over, Far}
use Rattle.cqs_segment.specs.declared.leaving.Retired.{Retired}
use Rattle.cqs_segment.specs.declared.leaving.Retired.TheVariants.{Out, Gone, Last, Early}

-- all segments from this one to before that one were taken out
abbrev pub HaveLeft : {E S : Type 0} → ℕ → ℕ → View E S → Type 0
HaveLeft s next w = (j : ℕ) → s ≤ j → j < next → Has j w.segments.outs

-- The segment was made in this slot, which is its home for good, and stood there when that was
-- loaded; or it was taken out with all before `next`, which was made; or it wasn't made when the
-- tail was loaded, and each segment at which the pass waits was.
abbrev pub Finds : {E S : Type 0} → ℕ → Found → View E S → Type 0
Finds s (At x) w =
    IsHome w.segments.homes s x × (x < w.slots) × (Has s w.segments.outs → ⊥)
Finds s (Over next) w =
    HaveLeft s next w × (s < next) × (next < length w.segments.homes) × (next < 2 ^ 36)
Finds s Far w =
    (length w.segments.homes ≤ s)
    × ((k : ℕ) → Has k w.facts.waits → k / 32 < length w.segments.homes)

-- the segment of each number that the pass drew is at most one after this last one
abbrev pub IsNear : {E S : Type 0} → TailWord → View E S → Type 0
IsNear last v = (k : ℕ) → HasDrawn v k → k / 32 ≤ last.id + 1

-- of the segments from this one to before `next` each was taken out whose home is one of these
-- slots
abbrev pub HaveLeftFrom : {E S : Type 0} → ℕ → ℕ → ℕ → ℕ → View E S → View E S → Type 0
HaveLeftFrom first end s next v w =
    (j x : ℕ) → s ≤ j → j < next → IsHome v.segments.homes j x → first ≤ x → x < end
    → Has j w.segments.outs

-- Of the segments after this one `then` is the nearest that is known to stand, where `next` was and
-- this head was found: no other before it is named by the head.
pub record IsNearer (s next head then : ℕ) : Type 0 where
  pub order : s < then
  pub near : then ≤ next
  pub named : (then ≡ next) ⊎ (head ≡ head_word then 2)
  pub none : (j : ℕ) → s < j → j < then → head ≢ head_word j 2

-- the head of some slot was found at a step of this call, live with this id
pub record SawLive {E S : Type 0} (id : ℕ) (v w : View E S) : Type 0 where
  pub slot : ℕ
  pub before : List (ℕ × ℕ)
  pub then : List (ℕ × ℕ)
  pub heads : w.facts.heads ≡ v.facts.heads ++ (before ++ (slot, head_word id 2) ∷ then)

-- the segment is made, and the pass knew of no later one before this call
pub record WasLast {E S : Type 0} (id : ℕ) (v w : View E S) : Type 0 where
  pub made : id < length w.segments.homes
  pub last : length v.segments.homes ≤ id + 1

-- where the segment was taken out: the head of the one before which all were was found live at a
-- step of this call, or no later one was known before
abbrev pub SeesAhead : {E S : Type 0} → Found → View E S → View E S → Type 0
SeesAhead (At x) v w = Unit {0}
SeesAhead (Over next) v w = WasLast next v w ⊎ SawLive next v w
SeesAhead Far v w = Unit {0}

-- The segment left by this call, whose exchange found its head live; or it had left before, and the
-- exchange found another head; it is the last; or fewer than 32 cells were loaded as counted: where
-- all were, it had left, and the slot is another's. The pass has what it had.
abbrev pub Retires : {E S : Type 0} → ℕ → ℕ → Retired → View E S → View E S → Type 0
Retires x s Out v w =
    ((before : List ℕ) × (w.segments.outs ≡ before ++ s ∷ []))
    × LeftBy ((x, head_word s 2) ∷ []) v.facts.spare_slots v.facts.duties v w
Retires x s Gone v w =
    Has s w.segments.outs
    × ((n : ℕ) × (n ≢ head_word s 2)
    × LeftBy ((x, n) ∷ []) v.facts.spare_slots v.facts.duties v w)
Retires x s Last v w =
    (length w.segments.homes ≡ s + 1) × LeftBy [] v.facts.spare_slots v.facts.duties v w
Retires x s (Early counted) v w =
    (counted < 32) × (Has s w.segments.full → Has s w.segments.outs)
    × LeftBy [] v.facts.spare_slots v.facts.duties v w

-- After this answer the pass isn't to retire the segment any more, and no other one that it wasn't
-- to retire before. All else that it has is as it was.
pub record IsDoneWith {E S : Type 0} (x s : ℕ) (answer : Retired) (v w : View E S) : Type 0 where
  pub to_retire : List ℕ
  pub done : Has s to_retire → ⊥
  pub fewer : (q : ℕ) → Has q to_retire → Has q v.facts.to_retire
  pub retires : Retires x s answer (retiring to_retire v) w
  pub looked : Looked (retiring to_retire v) w

-- the same where a segment that left by this call was passed by then
abbrev pub TakesOut : {E S : Type 0} → ℕ → ℕ → Retired → View E S → View E S → Type 0
TakesOut {E} {S} x s Out v w =
    (u : View E S) × IsDoneWith x s Out v u
    × LeftBy [] u.facts.spare_slots u.facts.duties u w × IsClosed s w
TakesOut x s Gone v w = IsDoneWith x s Gone v w
TakesOut x s Last v w = IsDoneWith x s Last v w
TakesOut x s (Early counted) v w = IsDoneWith x s (Early counted) v w

-- Whatever became of the segment, the pass isn't to retire it any more, and no other one that it
-- wasn't to retire before. It found one head at most, and all else that it has is as it was.
pub record HasDone {E S : Type 0} (s : ℕ) (v w : View E S) : Type 0 where
  pub to_retire : List ℕ
  pub done : Has s to_retire → ⊥
  pub fewer : (q : ℕ) → Has q to_retire → Has q v.facts.to_retire
  pub heads : List (ℕ × ℕ)
  pub few : length heads ≤ 1
  pub left : LeftBy heads v.facts.spare_slots v.facts.duties (retiring to_retire v) w

-- The pass has one cell less to count, the last. Where all 32 of its segment are counted then, the
-- pass is to retire the segment.
pub record Counts {E S : Type 0} (s counted : ℕ) (v w : View E S) : Type 0 where
  pub some : counted < 32 → LeftBy [] v.facts.spare_slots (but_last v.facts.duties) v w
  pub all : counted ≡ 32
      → LeftBy [] v.facts.spare_slots (but_last v.facts.duties) (retiring_too s v) w
