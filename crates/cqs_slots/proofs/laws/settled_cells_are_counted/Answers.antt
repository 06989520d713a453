use Rattle.cqs_slots.proofs.Joined.{counts}
use Rattle.cqs_slots.proofs.Writes.{settled-counts}
use Rattle.cqs_slots.proofs.laws.settled_cells_are_counted.Goals as goal

pub returns-clause-owed : goal.returns-clause-owed
returns-clause-owed c = settled-counts

pub returns-clause-done : goal.returns-clause-done
returns-clause-done c = counts
