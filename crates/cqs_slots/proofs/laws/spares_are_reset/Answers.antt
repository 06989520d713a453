use Rattle.cqs_slots.proofs.Resets.{begun, cell-reset, count-reset}
use Rattle.cqs_slots.proofs.laws.spares_are_reset.Goals as goal

pub returns-clause-begins : goal.returns-clause-begins
returns-clause-begins c = begun

pub returns-clause-cells : goal.returns-clause-cells
returns-clause-cells c = cell-reset

pub returns-clause-counts : goal.returns-clause-counts
returns-clause-counts c = count-reset
