use Rattle.cqs_floor_alone_kinds.proofs.Lifted.{takes-lifted}
use Rattle.cqs_floor_alone_kinds.proofs.permits.take.Goals as goal

pub returns-in-None : goal.returns-in-None
returns-in-None g c =
    takes-lifted g.S.SoleSemaphore.sole c.args.job c.args.sole.now c.acquire.new.self
    (rw c.in-None.is at c.acquire.ensures)
