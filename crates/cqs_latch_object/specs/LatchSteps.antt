-- The steps of the queue as a latch makes them, by its mode: which ones, with which entries, and
-- what they make of it.
use Rattle.std.specs.Prelude.{◌≡◌, ℕ, ◌-◌, ◌<◌, Bool, true, false, List, [], ◌∷◌, ◌++◌, Option, slice_index, slice_set}
use Rattle.cqs_core.specs.declared.cells.CoreCell.{CoreCell}
use Rattle.cqs_core.specs.QueueSteps as step
use Rattle.cqs_core.specs.QueueSteps.{QueueStep, Cost, no_cost, one_owed, one_element, StepRow, at_counter, at_cell, row_of, IsOpenStep, queue_after}
use Rattle.cqs_latch_object.specs.declared.entries.LatchEntry.{LatchEntry}
use Rattle.cqs_latch_object.specs.declared.entries.LatchEntry.TheVariants as entry
use Rattle.cqs_latch_object.specs.LatchShown.{LatchShape, IsLatchCore}

-- Its passes come to the door by a step on the waiters, and begin each resumption that they owe as
-- they are idle. In smart mode a wait leaves as the waiters' old word answers, and resumes pass
-- over its cell. In simple mode it leaves at once, and a resume ends at its cell.
abbrev pub IsLatchStep : Bool → QueueStep → Type 0
IsLatchStep simple step.draws = Unit {0}
IsLatchStep simple step.enters = ⊥
IsLatchStep simple step.reaches = Unit {0}
IsLatchStep simple step.begins = Unit {0}
IsLatchStep simple step.puts = ⊥
IsLatchStep simple step.installs = Unit {0}
IsLatchStep simple step.takes = Unit {0}
IsLatchStep simple step.serves = Unit {0}
IsLatchStep simple step.leaves = Unit {0}
IsLatchStep simple step.delegates = simple ≡ false
IsLatchStep simple step.passes_over = simple ≡ false
IsLatchStep simple step.ends_refused = simple ≡ false
IsLatchStep simple step.ends_missed = simple ≡ true
IsLatchStep simple step.starts_leaving = simple ≡ false
IsLatchStep simple step.leaves_line = ⊥
IsLatchStep simple step.leaves_at_once = simple ≡ true
IsLatchStep simple step.settles = simple ≡ false
IsLatchStep simple step.settles_owing = simple ≡ false
IsLatchStep simple step.refuses = simple ≡ false
IsLatchStep simple step.refuses_value = simple ≡ false
IsLatchStep simple (step.looks e) = Unit {0}
IsLatchStep simple (step.in_sync e) = ⊥

-- the entries of a step of the pass p at the number k
abbrev pub step_entries : QueueStep → ℕ → ℕ → List LatchEntry
step_entries step.draws p k = entry.Enter p k ∷ []
step_entries step.enters p k = []
step_entries step.reaches p k = []
step_entries step.begins p k = []
step_entries step.puts p k = []
step_entries step.installs p k = []
step_entries step.takes p k = entry.Deliver k ∷ []
step_entries step.serves p k = entry.Deliver k ∷ []
step_entries step.leaves p k = []
step_entries step.delegates p k = []
step_entries step.passes_over p k = []
step_entries step.ends_refused p k = []
step_entries step.ends_missed p k = entry.Miss k ∷ []
step_entries step.starts_leaving p k = []
step_entries step.leaves_line p k = []
step_entries step.leaves_at_once p k = entry.Leave p k ∷ []
step_entries step.settles p k = []
step_entries step.settles_owing p k = []
step_entries step.refuses p k = []
step_entries step.refuses_value p k = []
step_entries (step.looks step.pends) p k = entry.LookPending p k ∷ []
step_entries (step.looks step.grants) p k = entry.LookGranted p k ∷ []
step_entries (step.looks step.late) p k = entry.Late p k ∷ []
step_entries (step.in_sync e) p k = []

abbrev pub cost_of : StepRow → Cost
cost_of (at_counter row) = row.cost
cost_of (at_cell row) = no_cost

-- what the pass owes pays for a resumption that it begins
abbrev pub IsPaid : Cost → List ℕ → ℕ → Type 0
IsPaid no_cost owed p = Unit {0}
IsPaid one_owed owed p = 0 < slice_index owed p
IsPaid one_element owed p = Unit {0}

abbrev pub owed_by : Cost → List ℕ → ℕ → List ℕ
owed_by no_cost owed p = owed
owed_by one_owed owed p = slice_set owed p (slice_index owed p - 1)
owed_by one_element owed p = owed

-- the latch after the step
abbrev pub after_queue_step : LatchShape → QueueStep → ℕ → ℕ → Option CoreCell → LatchShape
after_queue_step s step p k found = record {
  simple = s.simple;
  size = s.size;
  count = s.count;
  word = s.word;
  done = s.done;
  owed = owed_by (cost_of (row_of step)) s.owed p;
  history = s.history ++ step_entries step p k;
  queue = queue_after step s.queue p k found;
}

abbrev pub EveryStepKeepsTheLatch : Type 0
EveryStepKeepsTheLatch =
    (s : LatchShape) (step : QueueStep) (p k : ℕ) (found : Option CoreCell) → IsLatchCore s
    → IsLatchStep s.simple step → IsOpenStep s.queue step p k found
    → IsPaid (cost_of (row_of step)) s.owed p
    → IsLatchCore (after_queue_step s step p k found)
