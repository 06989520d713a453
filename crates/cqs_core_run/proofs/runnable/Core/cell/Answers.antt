use Rattle.cqs_core_run.proofs.RestingCalls.{cell-tells}
use Rattle.cqs_core_run.proofs.runnable.Core.cell.Goals as goal

pub returns-clause-sole : goal.returns-clause-sole
returns-clause-sole c =
    rw (← c.self.view_is, c.cell.ensures) (cell-tells c.self.inside.table.shape c.args.number c.self.invariant)
