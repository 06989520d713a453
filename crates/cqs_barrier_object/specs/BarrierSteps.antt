-- The steps of a barrier's passes: those of the queue that they make, and those on its remaining
-- number; and what each makes of what the barrier stands for.
use Rattle.std.specs.Prelude.{◌≡◌, ℕ, ◌+◌, ◌-◌, ◌<◌, ◌≤◌, true, false, List, [], ◌∷◌, ◌++◌, replicate, Option, Some, slice_get, slice_index, slice_set}
use Rattle.cqs_core.specs.declared.cells.CoreCell.{CoreCell}
use Rattle.cqs_core.specs.declared.cells.CoreState.TheVariants as state
use Rattle.cqs_core.specs.declared.doings.Doing.TheVariants as doing
use Rattle.cqs_core.specs.QueueMoves as move
use Rattle.cqs_core.specs.QueueMoves.{Works, move_queue}
use Rattle.cqs_core.specs.QueueOpening.{opened_queue}
use Rattle.cqs_core.specs.QueueSteps as step
use Rattle.cqs_core.specs.QueueSteps.{QueueStep, StepRow, at_counter, at_cell, Cost, no_cost, one_owed, one_element, row_of, IsOpenStep, queue_after}
use Rattle.cqs_barrier_object.specs.declared.entries.BarrierEntry.{BarrierEntry}
use Rattle.cqs_barrier_object.specs.declared.entries.BarrierEntry.TheVariants as entry
use Rattle.cqs_barrier_object.specs.BarrierShown.{Shape, IsBarrier}

-- Its passes come to the door by a step on the remaining number; the last owes several resumptions,
-- and begins each by drawing its number; a wait leaves as the remaining number says.
abbrev pub IsBarrierStep : QueueStep → Type 0
IsBarrierStep step.draws = Unit {0}
IsBarrierStep step.enters = ⊥
IsBarrierStep step.reaches = Unit {0}
IsBarrierStep step.begins = Unit {0}
IsBarrierStep step.puts = ⊥
IsBarrierStep step.installs = Unit {0}
IsBarrierStep step.takes = Unit {0}
IsBarrierStep step.serves = Unit {0}
IsBarrierStep step.leaves = Unit {0}
IsBarrierStep step.delegates = Unit {0}
IsBarrierStep step.passes_over = Unit {0}
IsBarrierStep step.ends_refused = Unit {0}
IsBarrierStep step.ends_missed = ⊥
IsBarrierStep step.starts_leaving = Unit {0}
IsBarrierStep step.leaves_line = ⊥
IsBarrierStep step.leaves_at_once = ⊥
IsBarrierStep step.settles = Unit {0}
IsBarrierStep step.settles_owing = Unit {0}
IsBarrierStep step.refuses = Unit {0}
IsBarrierStep step.refuses_value = Unit {0}
IsBarrierStep (step.looks e) = Unit {0}
IsBarrierStep (step.in_sync e) = ⊥

-- what no history has: a party that is the last arrives, and another one after it
abbrev pub never : ℕ → List BarrierEntry
never p = entry.ArriveLast p ∷ entry.ArriveLast p ∷ []

-- The entries of a step of the pass p at the number k. One that withdraws never finds that a value
-- was left to it, and so the entries of that step are such as no history has.
abbrev pub step_entries : QueueStep → ℕ → ℕ → List BarrierEntry
step_entries step.draws p k = entry.Enter p k ∷ []
step_entries step.enters p k = []
step_entries step.reaches p k = []
step_entries step.begins p k = []
step_entries step.puts p k = []
step_entries step.installs p k = []
step_entries step.takes p k = entry.Deliver k ∷ []
step_entries step.serves p k = entry.Deliver k ∷ []
step_entries step.leaves p k = []
step_entries step.delegates p k = []
step_entries step.passes_over p k = []
step_entries step.ends_refused p k = []
step_entries step.ends_missed p k = []
step_entries step.starts_leaving p k = []
step_entries step.leaves_line p k = []
step_entries step.leaves_at_once p k = []
step_entries step.settles p k = []
step_entries step.settles_owing p k = never p
step_entries step.refuses p k = []
step_entries step.refuses_value p k = []
step_entries (step.looks step.pends) p k = entry.LookPending p k ∷ []
step_entries (step.looks step.grants) p k = entry.LookGranted p k ∷ []
step_entries (step.looks step.late) p k = entry.Late p k ∷ []
step_entries (step.in_sync e) p k = []

-- what p owes further pays for the resumption that it begins
abbrev pub IsPaid : Cost → List ℕ → ℕ → Type 0
IsPaid no_cost owed p = Unit {0}
IsPaid one_owed owed p = 0 < slice_index owed p
IsPaid one_element owed p = ⊥

abbrev pub owed_paid : Cost → List ℕ → ℕ → List ℕ
owed_paid no_cost owed p = owed
owed_paid one_owed owed p = slice_set owed p (slice_index owed p - 1)
owed_paid one_element owed p = owed

abbrev pub cost_of : StepRow → Cost
cost_of (at_counter row) = row.cost
cost_of (at_cell row) = no_cost

-- the barrier after a step of the queue
abbrev pub after_step : Shape → QueueStep → ℕ → ℕ → Option CoreCell → Shape
after_step s step p k found = record {
  parties = s.parties;
  remaining = s.remaining;
  held = s.held;
  owed = owed_paid (cost_of (row_of step)) s.owed p;
  history = s.history ++ step_entries step p k;
  queue = queue_after step s.queue p k found;
}

-- each step of the queue, wherever it may be made, leads from barrier to barrier
abbrev pub EveryStepKeepsTheBarrier : Type 0
EveryStepKeepsTheBarrier =
    (s : Shape) (step : QueueStep) (p k : ℕ) (found : Option CoreCell) → IsBarrier s
    → IsBarrierStep step
    → IsOpenStep s.queue step p k found → IsPaid (cost_of (row_of step)) s.owed p
    → IsBarrier (after_step s step p k found)

-- p has another number of parties
abbrev pub holding : List ℕ → ℕ → ℕ → List ℕ
holding held p n = slice_set held p n

-- a party of p arrives, and is not the last
abbrev pub after_arrival : Shape → ℕ → Shape
after_arrival s p = record {
  parties = s.parties;
  remaining = s.remaining - 1;
  held = holding s.held p (slice_index s.held p - 1);
  owed = s.owed;
  history = s.history ++ entry.ArriveDoor p ∷ [];
  queue = move_queue s.queue (move.turn p doing.Idle doing.Door);
}

-- the last party arrives: its pass owes a resumption for each of the others
abbrev pub after_last : Shape → ℕ → Shape
after_last s p = record {
  parties = s.parties;
  remaining = 0;
  held = holding s.held p (slice_index s.held p - 1);
  owed = slice_set s.owed p (s.parties - 1);
  history = s.history ++ entry.ArriveLast p ∷ [];
  queue = s.queue;
}

-- a canceller raises the remaining number: the party is its pass's again
abbrev pub after_withdrawal : Shape → ℕ → ℕ → Shape
after_withdrawal s p k = record {
  parties = s.parties;
  remaining = s.remaining + 1;
  held = holding s.held p (slice_index s.held p + 1);
  owed = s.owed;
  history = s.history ++ entry.Withdraw p k ∷ [];
  queue = move_queue s.queue (move.decide p k true);
}

-- a canceller finds that all have arrived
abbrev pub after_staying : Shape → ℕ → ℕ → Shape
after_staying s p k = record {
  parties = s.parties;
  remaining = s.remaining;
  held = s.held;
  owed = s.owed;
  history = s.history ++ entry.Stay p k ∷ [];
  queue = move_queue s.queue (move.decide p k false);
}

-- the pass p may arrive: it is between two calls, and has a party that hasn't arrived
pub record MayArrive (s : Shape) (p : ℕ) : Type 0 where
  pub idle : slice_get s.queue.doing p ≡ Some doing.Idle
  pub holds : 0 < slice_index s.held p

abbrev pub EveryArrivalKeepsTheBarrier : Type 0
EveryArrivalKeepsTheBarrier =
    (s : Shape) (p : ℕ) → IsBarrier s → MayArrive s p → 1 < s.remaining
    → IsBarrier (after_arrival s p)

abbrev pub TheLastArrivalKeepsTheBarrier : Type 0
TheLastArrivalKeepsTheBarrier =
    (s : Shape) (p : ℕ) → IsBarrier s → MayArrive s p → s.remaining ≡ 1
    → IsBarrier (after_last s p)

abbrev pub EveryWithdrawalKeepsTheBarrier : Type 0
EveryWithdrawalKeepsTheBarrier =
    (s : Shape) (p k : ℕ) → IsBarrier s → slice_get s.queue.doing p ≡ Some (doing.Leaving k)
    → 0 < s.remaining
    → IsBarrier (after_withdrawal s p k)

abbrev pub EveryStayKeepsTheBarrier : Type 0
EveryStayKeepsTheBarrier =
    (s : Shape) (p k : ℕ) → IsBarrier s → slice_get s.queue.doing p ≡ Some (doing.Leaving k)
    → s.remaining ≡ 0
    → IsBarrier (after_staying s p k)

-- a withdrawer's cell has no value left in it: nobody resumes before all have arrived,
-- and its party hasn't
abbrev pub NothingIsLeftToAWithdrawer : Type 0
NothingIsLeftToAWithdrawer =
    (s : Shape) (p k : ℕ) (found : CoreCell) → IsBarrier s
    → Works s.queue p (doing.Decided k true) k found state.Delegated → ⊥

-- so many parties of one pass become another's
abbrev pub held_after_share : List ℕ → ℕ → ℕ → ℕ → List ℕ
held_after_share held from to many =
    let rest = holding held from (slice_index held from - many) in
    holding rest to (slice_index rest to + many)

abbrev pub EveryHandoverKeepsTheBarrier : Type 0
EveryHandoverKeepsTheBarrier =
    (s : Shape) (from to many : ℕ) → IsBarrier s
    → slice_get s.queue.doing from ≡ Some doing.Idle → slice_get s.queue.doing to ≡ Some doing.Idle
    → many ≤ slice_index s.held from
    → IsBarrier (record s { held = held_after_share s.held from to many })

-- a barrier as it opens: the first pass has all its parties
abbrev pub first_shape : ℕ → ℕ → Shape
first_shape parties passes = record {
  parties = parties;
  remaining = parties;
  held = parties ∷ replicate (passes - 1) 0;
  owed = replicate passes 0;
  history = [];
  queue = opened_queue 0 passes;
}

abbrev pub EveryBarrierOpens : Type 0
EveryBarrierOpens =
    (parties passes : ℕ) → 0 < parties → 0 < passes → IsBarrier (first_shape parties passes)
