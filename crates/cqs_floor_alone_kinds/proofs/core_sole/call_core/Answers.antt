use Rattle.cqs_floor_alone_kinds.proofs.SoleMade.{made-sole}
use Rattle.cqs_floor_alone_kinds.proofs.core_sole.call_core.Goals as goal

pub returns : goal.returns
returns c =
    made-sole _ _ _ _ c.requires.ready c.in-Some.ensures.made c.in-Some.ensures.sole c.in-Some.ensures.shown
