use Rattle.std.proofs.Common.{refl}
use Rattle.cqs_floor_alone_kinds.specs.SoleQueue.{mutex_pass}
use Rattle.cqs_floor_alone_kinds.proofs.QueueStands.{one-tells, state-least, state-most}
use Rattle.cqs_floor_alone_kinds.proofs.mutex_sole.MutexSoleSoleSemaphore.stand.Goals as goal

pub stand_of-requires-clause-least : goal.stand_of-requires-clause-least
stand_of-requires-clause-least c =
    state-least _ _ _ _ c.requires.1.funded.rests c.requires.1.funded.mine.mine.live.legal.legal

pub stand_of-requires-clause-most : goal.stand_of-requires-clause-most
stand_of-requires-clause-most c =
    state-most _ _ _ _ c.requires.1.funded.rests c.requires.1.funded.mine.mine.live.legal.legal

pub returns : goal.returns
returns c =
    one-tells mutex_pass (λ x belongs. belongs.mine.live.legal.legal) _ _ _ c.stand_of.ensures.belongs refl refl
    c.stand_of.ensures.called c.stand_of.ensures.rests
    c.stand_of.ensures.free c.stand_of.ensures.line
