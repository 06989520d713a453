use Rattle.cqs_floor_alone_kinds.proofs.CoreSole.{acquire-ready, may-acquire, core-acquires}
use Rattle.cqs_floor_alone_kinds.proofs.core_sole.CoreSoleSemaphore.acquire.Goals as goal

pub call_core-requires-clause-ready : goal.call_core-requires-clause-ready
call_core-requires-clause-ready c = acquire-ready _ c.requires

pub call_core-requires-clause-allowed : goal.call_core-requires-clause-allowed
call_core-requires-clause-allowed c = may-acquire _ c.requires

pub returns : goal.returns
returns c =
    rw c.wait_in.ensures
    (core-acquires _ _ c.call_core.result (acquire-ready _ c.requires).sole c.call_core.ensures)
