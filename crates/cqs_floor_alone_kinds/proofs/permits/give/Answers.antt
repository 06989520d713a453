use Rattle.cqs_floor_alone_kinds.proofs.Lifted.{frees-lifted, sends-lifted}
use Rattle.cqs_floor_alone_kinds.proofs.permits.give.Goals as goal

pub returns-in-None : goal.returns-in-None
returns-in-None g c =
    frees-lifted g.S.SoleSemaphore.sole c.args.job c.args.sole.now c.release.new.self
    (rw c.in-None.is at c.release.ensures)

pub returns-in-Some : goal.returns-in-Some
returns-in-Some g c =
    sends-lifted g.S.SoleSemaphore.sole c.args.job c.args.sole.now c.release.new.self c.in-Some.number
    (rw c.in-Some.is at c.release.ensures)
