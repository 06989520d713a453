-- The laws of the barrier: what holds of every legal history, whatever machine it comes from.
use Rattle.std.specs.Prelude.{◌≡◌, ℕ, ◌+◌, ◌<◌, ◌≤◌, List, take, Some, slice_get}
use Rattle.cqs_core.specs.Numbered.{IsIn}
use Rattle.cqs_core.specs.QueueWaiters.{due_of}
use Rattle.cqs_barrier_object.specs.declared.entries.BarrierEntry.{BarrierEntry}
use Rattle.cqs_barrier_object.specs.declared.entries.BarrierEntry.TheVariants as entry
use Rattle.cqs_barrier_object.specs.BarrierEntries.{object_after, IsLegal}
use Rattle.cqs_barrier_object.specs.BarrierObject.{Barrier}

-- Before all have arrived, those still to come and those that wait are all the parties, and nothing
-- is on its way; afterwards as many resumptions are on their way as wait.
pub record IsBalanced (parties : ℕ) (o : Barrier) : Type 0 where
  pub before : 0 < o.remaining → (o.remaining + due_of o.waiters ≡ parties) × (o.way ≡ 0)
  pub after : o.remaining ≡ 0 → o.way ≡ due_of o.waiters

abbrev pub EveryLegalHistoryIsBalanced : Type 0
EveryLegalHistoryIsBalanced =
    (parties : ℕ) (history : List BarrierEntry) → 0 < parties → IsLegal parties history
    → IsBalanced parties (object_after parties history)

-- A party goes through: its resumption reaches it, or it stays.
abbrev pub GoesThrough : BarrierEntry → Type 0
GoesThrough (entry.Deliver k) = Unit {0}
GoesThrough (entry.Stay c k) = Unit {0}
GoesThrough (entry.ArriveLast c) = ⊥
GoesThrough (entry.ArriveDoor c) = ⊥
GoesThrough (entry.Enter c k) = ⊥
GoesThrough (entry.Withdraw c k) = ⊥
GoesThrough (entry.Late c k) = ⊥
GoesThrough (entry.LookGranted c k) = ⊥
GoesThrough (entry.LookPending c k) = ⊥

-- some pass's party was the last to arrive
pub record HasLast (history : List BarrierEntry) : Type 0 where
  pub pass : ℕ
  pub there : IsIn (entry.ArriveLast pass) history

-- nobody goes through before the last has arrived
abbrev pub NobodyGoesThroughBeforeTheLast : Type 0
NobodyGoesThroughBeforeTheLast =
    (parties : ℕ) (history : List BarrierEntry) (n : ℕ) (e : BarrierEntry) → 0 < parties
    → IsLegal parties history → slice_get history n ≡ Some e → GoesThrough e
    → HasLast (take n history)

-- once the last has arrived, no party arrives or withdraws
abbrev pub ComesOrWithdraws : BarrierEntry → Type 0
ComesOrWithdraws (entry.ArriveLast c) = Unit {0}
ComesOrWithdraws (entry.ArriveDoor c) = Unit {0}
ComesOrWithdraws (entry.Withdraw c k) = Unit {0}
ComesOrWithdraws (entry.Enter c k) = ⊥
ComesOrWithdraws (entry.Deliver k) = ⊥
ComesOrWithdraws (entry.Stay c k) = ⊥
ComesOrWithdraws (entry.Late c k) = ⊥
ComesOrWithdraws (entry.LookGranted c k) = ⊥
ComesOrWithdraws (entry.LookPending c k) = ⊥

abbrev pub TheLastIsTheLast : Type 0
TheLastIsTheLast =
    (parties : ℕ) (history : List BarrierEntry) (m n c : ℕ) (e : BarrierEntry)
    → IsLegal parties history
    → slice_get history m ≡ Some (entry.ArriveLast c) → slice_get history n ≡ Some e
    → ComesOrWithdraws e → n ≤ m
