use Rattle.std.proofs.Common.{rules}
use Rattle.cqs_floor_alone_kinds.proofs.CoreSole.{end-ready, core-grants, core-pends}
use Rattle.cqs_floor_alone_kinds.proofs.core_sole.CoreSoleSemaphore.poll.Goals as goal

pub call_core-requires-clause-ready : goal.call_core-requires-clause-ready
call_core-requires-clause-ready c = end-ready _ _ c.requires

pub call_core-requires-clause-allowed : goal.call_core-requires-clause-allowed
call_core-requires-clause-allowed c = c.requires.has

pub returns-then-not-is_served : goal.returns-then-not-is_served
returns-then-not-is_served c = core-pends _ _ c.requires (search rules)

pub returns : goal.returns
returns c = core-grants _ _ _ c.call_core.result c.requires (search rules) c.call_core.ensures
