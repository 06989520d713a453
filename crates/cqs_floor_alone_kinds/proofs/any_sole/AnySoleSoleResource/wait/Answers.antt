use Rattle.cqs_floor_alone_kinds.specs.declared.any_sole.AnySole.TheVariants.{Latch}
use Rattle.cqs_floor_alone_kinds.specs.AnySoles.{store_any}
use Rattle.cqs_floor_alone_kinds.specs.SoleLatch.{store_latch}
use Rattle.cqs_floor_alone_kinds.proofs.AmongStores.{waits-among}
use Rattle.cqs_floor_alone_kinds.proofs.AnySoles.{latch-among}
use Rattle.cqs_floor_alone_kinds.proofs.any_sole.AnySoleSoleResource.wait.Goals as goal

pub returns : goal.returns
returns g c =
    let s = g.S.SoleSemaphore.sole in
    rw c.in-Latch.is
    (waits-among store_latch (store_any s) Latch (latch-among s) c.in-Latch.sole c.wait.new.self
    c.args.job c.wait.result c.wait.ensures)
