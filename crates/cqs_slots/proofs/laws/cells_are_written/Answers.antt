use Rattle.cqs_slots.proofs.Joined.{writes, stays-before}
use Rattle.cqs_slots.proofs.laws.cells_are_written.Goals as goal

pub returns-clause-here : goal.returns-clause-here
returns-clause-here c = writes

pub returns-clause-before : goal.returns-clause-before
returns-clause-before c = stays-before
