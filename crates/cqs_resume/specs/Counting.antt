-- What a pass is to count after a step of the queue: the segment of the cell that the step settled,
-- and how often it found the value there that it watches.
use Rattle.std.specs.Prelude.{ℕ, Bool, List}
use Rattle.cqs_core.specs.QueueSteps.{QueueStep, StepRow, row_of, at_counter, at_cell}
use Rattle.cqs_rule_laws.specs.Facts.{looked_then}
use Rattle.cqs_rule_laws.specs.Kinds.{change_of}
use Rattle.cqs_rule_laws.specs.Settling.{duties_then, settles_row}

abbrev pub duties_by : StepRow → ℕ → List ℕ → List ℕ
duties_by (at_counter row) k duties = duties
duties_by (at_cell row) k duties = duties_then (settles_row row) k duties

-- after the step s at the cell of the number k
abbrev pub duties_after : QueueStep → ℕ → List ℕ → List ℕ
duties_after s k duties = duties_by (row_of s) k duties

-- how often the pass found there what it left last
abbrev pub looked_by : StepRow → ℕ → ℕ
looked_by (at_counter row) looked = looked
looked_by (at_cell row) looked = looked_then row.works_at row.goes_to looked

abbrev pub looked_after : QueueStep → ℕ → ℕ
looked_after s looked = looked_by (row_of s) looked

-- whether it settles its cell
abbrev pub settles_at : QueueStep → Bool
settles_at s = (change_of s).settles
