use Rattle.cqs_floor_alone_kinds.proofs.CoreSole.{release-ready, may-release, core-releases}
use Rattle.cqs_floor_alone_kinds.proofs.core_sole.CoreSoleSemaphore.release.Goals as goal

pub call_core-requires-clause-ready : goal.call_core-requires-clause-ready
call_core-requires-clause-ready c = release-ready _ c.requires

pub call_core-requires-clause-allowed : goal.call_core-requires-clause-allowed
call_core-requires-clause-allowed c = may-release _ c.requires

pub returns : goal.returns
returns c =
    rw c.sent_in.ensures
    (core-releases _ _ c.call_core.result (release-ready _ c.requires).sole c.call_core.ensures)
