use Rattle.cqs_floor_alone_kinds.proofs.CoreSole.{core-tells, state-most}
use Rattle.cqs_floor_alone_kinds.proofs.core_sole.CoreSoleSemaphore.stand.Goals as goal

pub stand_of-requires-clause-least : goal.stand_of-requires-clause-least
stand_of-requires-clause-least c = c.requires.1.funded.sole.core.range.state

pub stand_of-requires-clause-most : goal.stand_of-requires-clause-most
stand_of-requires-clause-most c = state-most _ c.requires.0 _ _ _ c.requires.1.funded

pub returns : goal.returns
returns c size room waiting held funded =
    core-tells _ size room waiting held funded _ c.stand_of.ensures.free c.stand_of.ensures.line
