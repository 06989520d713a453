-- The laws of the count-down latch: what holds of every legal history, whatever machine it comes
-- from; and how far the words of a latch go.
use Rattle.std.specs.Prelude.{◌≡◌, ℕ, ◌+◌, ◌≤◌, Bool, true, false, List, [], take, length, Some, slice_get, count_by, negsuc, ◌≤ℤ◌, pos}
use Rattle.cqs_latch_object.specs.declared.entries.LatchEntry.{LatchEntry}
use Rattle.cqs_latch_object.specs.declared.entries.LatchEntry.TheVariants as entry
use Rattle.cqs_latch_object.specs.LatchObject.{Latch, due}
use Rattle.cqs_latch_object.specs.LatchEntries.{object_after, IsLegal}
use Rattle.cqs_latch_object.specs.LatchShown.{LatchShape, IsLatchCore}

-- It is open only where its count is used up, and then just as many resumptions are on their way as
-- numbers are to be resumed; before, none is. In smart mode nobody leaves a hole.
pub record IsBalanced (o : Latch) : Type 0 where
  pub used : o.opened ≡ true → o.count ≡ 0
  pub ways : o.opened ≡ true → o.way ≡ due o
  pub none : o.opened ≡ false → o.way ≡ 0
  pub whole : o.simple ≡ false → o.holes ≡ []

abbrev pub EveryLegalHistoryIsBalanced : Type 0
EveryLegalHistoryIsBalanced =
    (simple : Bool) (size : ℕ) (history : List LatchEntry) → IsLegal simple size history
    → IsBalanced (object_after simple size history)

-- the entry takes one from the count
abbrev pub counts_down : LatchEntry → Bool
counts_down (entry.DownLeft c n) = true
counts_down (entry.DownLast c) = true
counts_down (entry.DownAlready c) = false
counts_down (entry.Open c) = false
counts_down (entry.Passed c) = false
counts_down (entry.AwaitDoor c) = false
counts_down (entry.Enter c k) = false
counts_down (entry.Deliver k) = false
counts_down (entry.Leave c k) = false
counts_down (entry.Miss k) = false
counts_down (entry.Late c k) = false
counts_down (entry.LookGranted c k) = false
counts_down (entry.LookPending c k) = false

-- what is left of the count, and how often it was counted down, are what it opened with
abbrev pub EveryCountIsKept : Type 0
EveryCountIsKept =
    (simple : Bool) (size : ℕ) (history : List LatchEntry) → IsLegal simple size history
    → (object_after simple size history).count + count_by counts_down history ≡ size

-- by the entry somebody comes past the latch: it opens; a caller passes; or a wait is served
abbrev pub LetsThrough : LatchEntry → Type 0
LetsThrough (entry.Open c) = Unit {0}
LetsThrough (entry.Passed c) = Unit {0}
LetsThrough (entry.Deliver k) = Unit {0}
LetsThrough (entry.DownLeft c n) = ⊥
LetsThrough (entry.DownLast c) = ⊥
LetsThrough (entry.DownAlready c) = ⊥
LetsThrough (entry.AwaitDoor c) = ⊥
LetsThrough (entry.Enter c k) = ⊥
LetsThrough (entry.Leave c k) = ⊥
LetsThrough (entry.Miss k) = ⊥
LetsThrough (entry.Late c k) = ⊥
LetsThrough (entry.LookGranted c k) = ⊥
LetsThrough (entry.LookPending c k) = ⊥

-- nobody comes past it before it was counted down as often as it opened with
abbrev pub NobodyComesPastEarly : Type 0
NobodyComesPastEarly =
    (simple : Bool) (size : ℕ) (history : List LatchEntry) (n : ℕ) (e : LatchEntry)
    → IsLegal simple size history → slice_get history n ≡ Some e → LetsThrough e
    → count_by counts_down (take n history) ≡ size

-- the count word of a latch with 32 passes at most never falls below -32
abbrev pub EveryCountIsHigh : Type 0
EveryCountIsHigh =
    (s : LatchShape) → IsLatchCore s → length s.queue.doing ≤ 32 → negsuc 31 ≤ℤ s.count

-- nor rises above what it opened with
abbrev pub EveryCountIsLow : Type 0
EveryCountIsLow = (s : LatchShape) → IsLatchCore s → s.count ≤ℤ pos s.size

-- the number of waiters is no more than the numbers drawn and the passes
abbrev pub WaitersAreFew : Type 0
WaitersAreFew =
    (s : LatchShape) → IsLatchCore s
    → s.word ≤ s.queue.suspends + length s.queue.doing
