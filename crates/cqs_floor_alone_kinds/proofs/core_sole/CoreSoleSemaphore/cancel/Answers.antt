use Rattle.cqs_floor_alone_kinds.proofs.CoreSole.{end-ready, core-cancels}
use Rattle.cqs_floor_alone_kinds.proofs.core_sole.CoreSoleSemaphore.cancel.Goals as goal

pub call_core-requires-clause-ready : goal.call_core-requires-clause-ready
call_core-requires-clause-ready c = end-ready _ _ c.requires

pub call_core-requires-clause-allowed : goal.call_core-requires-clause-allowed
call_core-requires-clause-allowed c = c.requires.has

pub returns : goal.returns
returns c =
    rw c.has_left.ensures
    (core-cancels _ _ _ c.call_core.result c.requires c.call_core.ensures)
