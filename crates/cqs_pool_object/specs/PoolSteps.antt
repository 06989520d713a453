-- The steps of the queue as a pool makes them: which ones, with which entries, and what they make
-- of what its table stands for.
use Rattle.std.specs.Prelude.{◌≡◌, ℕ, List, [], ◌∷◌, ◌++◌, Option, slice_index, slice_index_or, slice_set}
use Rattle.cqs_core.specs.declared.cells.CoreCell.{CoreCell}
use Rattle.cqs_core.specs.Numbered.{IsIn}
use Rattle.cqs_core.specs.QueueSteps as step
use Rattle.cqs_core.specs.QueueSteps.{QueueStep, Cost, no_cost, one_owed, one_element, Gain, nothing, its_own, a_debt, payload_told, payloads_after, StepRow, at_counter, at_cell, row_of, queue_after}
use Rattle.cqs_pool_object.specs.declared.entries.PoolEntry.{PoolEntry}
use Rattle.cqs_pool_object.specs.declared.entries.PoolEntry.TheVariants as entry
use Rattle.cqs_pool_object.specs.PoolEntries.{less}
use Rattle.cqs_pool_object.specs.PoolShown.{PoolShape}

-- A taker draws its number, by a step from idle, and would from the door; a put draws by a step
-- from idle. A wait leaves by the exchange itself, and resumes pass over its cell.
abbrev pub IsPoolStep : QueueStep → Type 0
IsPoolStep step.draws = Unit {0}
IsPoolStep step.enters = Unit {0}
IsPoolStep step.reaches = Unit {0}
IsPoolStep step.begins = ⊥
IsPoolStep step.puts = Unit {0}
IsPoolStep step.installs = Unit {0}
IsPoolStep step.takes = Unit {0}
IsPoolStep step.serves = Unit {0}
IsPoolStep step.leaves = Unit {0}
IsPoolStep step.delegates = Unit {0}
IsPoolStep step.passes_over = Unit {0}
IsPoolStep step.ends_refused = Unit {0}
IsPoolStep step.ends_missed = ⊥
IsPoolStep step.starts_leaving = ⊥
IsPoolStep step.leaves_line = Unit {0}
IsPoolStep step.leaves_at_once = ⊥
IsPoolStep step.settles = Unit {0}
IsPoolStep step.settles_owing = Unit {0}
IsPoolStep step.refuses = ⊥
IsPoolStep step.refuses_value = ⊥
IsPoolStep (step.looks e) = Unit {0}
IsPoolStep (step.in_sync e) = ⊥

-- the entries of a step of the pass p at the number k, whose payload is this
abbrev pub step_entries : QueueStep → ℕ → ℕ → ℕ → List PoolEntry
step_entries step.draws p k e = entry.Enter p k ∷ []
step_entries step.enters p k e = entry.Enter p k ∷ []
step_entries step.reaches p k e = []
step_entries step.begins p k e = []
step_entries step.puts p k e = entry.Put p e ∷ []
step_entries step.installs p k e = []
step_entries step.takes p k e = entry.Deliver k e ∷ []
step_entries step.serves p k e = entry.Deliver k e ∷ []
step_entries step.leaves p k e = []
step_entries step.delegates p k e = []
step_entries step.passes_over p k e = []
step_entries step.ends_refused p k e = []
step_entries step.ends_missed p k e = []
step_entries step.starts_leaving p k e = []
step_entries step.leaves_line p k e = entry.Leave p k ∷ []
step_entries step.leaves_at_once p k e = []
step_entries step.settles p k e = []
step_entries step.settles_owing p k e = []
step_entries step.refuses p k e = []
step_entries step.refuses_value p k e = []
step_entries (step.looks step.pends) p k e = entry.LookPending p k ∷ []
step_entries (step.looks step.grants) p k e = entry.LookGranted p k e ∷ []
step_entries (step.looks step.late) p k e = entry.Late p k e ∷ []
step_entries (step.in_sync s) p k e = []

-- the elements that a pass has in hand
abbrev pub hold_of : List (List ℕ) → ℕ → List ℕ
hold_of holds p = slice_index_or holds p []

-- what pays for a number to resume at is at hand: the element that a put names
abbrev pub IsPaid : Cost → PoolShape → ℕ → ℕ → Type 0
IsPaid no_cost s p e = e ≡ slice_index s.loads p
IsPaid one_owed s p e = e ≡ slice_index s.loads p
IsPaid one_element s p e = IsIn e (hold_of s.holds p)

-- the payload of a step: what the pass has from the cell, and else what it brings
abbrev pub IsPayload : StepRow → PoolShape → ℕ → ℕ → ℕ → Type 0
IsPayload (at_counter row) s p k e = IsPaid row.cost s p e
IsPayload (at_cell row) s p k e = e ≡ payload_told row.gain (s.payloads k) (slice_index s.loads p)

-- a pass brings the element that it puts, and the one that was left for a wait of its own that has
-- left
abbrev pub loads_paid : Cost → List ℕ → ℕ → ℕ → List ℕ
loads_paid no_cost loads p e = loads
loads_paid one_owed loads p e = loads
loads_paid one_element loads p e = slice_set loads p e

abbrev pub loads_gained : Gain → List ℕ → ℕ → ℕ → List ℕ
loads_gained nothing loads p e = loads
loads_gained its_own loads p e = loads
loads_gained a_debt loads p e = slice_set loads p e

abbrev pub loads_after : StepRow → List ℕ → ℕ → ℕ → List ℕ
loads_after (at_counter row) loads p e = loads_paid row.cost loads p e
loads_after (at_cell row) loads p e = loads_gained row.gain loads p e

abbrev pub left_after : StepRow → (ℕ → ℕ) → ℕ → ℕ → ℕ → ℕ
left_after (at_counter row) payloads k e = payloads
left_after (at_cell row) payloads k e = payloads_after row payloads k e

-- a pass has in hand what it took or was given, and no more what it puts
abbrev pub holds_paid : Cost → List (List ℕ) → ℕ → ℕ → List (List ℕ)
holds_paid no_cost holds p e = holds
holds_paid one_owed holds p e = holds
holds_paid one_element holds p e = slice_set holds p (less e (hold_of holds p))

abbrev pub holds_gained : Gain → List (List ℕ) → ℕ → ℕ → List (List ℕ)
holds_gained nothing holds p e = holds
holds_gained its_own holds p e = slice_set holds p (e ∷ hold_of holds p)
holds_gained a_debt holds p e = holds

abbrev pub holds_after : StepRow → List (List ℕ) → ℕ → ℕ → List (List ℕ)
holds_after (at_counter row) holds p e = holds_paid row.cost holds p e
holds_after (at_cell row) holds p e = holds_gained row.gain holds p e

-- what the table stands for after the step
abbrev pub shape_after : PoolShape → QueueStep → ℕ → ℕ → Option CoreCell → ℕ → PoolShape
shape_after s step p k found e = record {
  size = s.size;
  loads = loads_after (row_of step) s.loads p e;
  payloads = left_after (row_of step) s.payloads k e;
  holds = holds_after (row_of step) s.holds p e;
  history = s.history ++ step_entries step p k e;
  queue = queue_after step s.queue p k found;
}
