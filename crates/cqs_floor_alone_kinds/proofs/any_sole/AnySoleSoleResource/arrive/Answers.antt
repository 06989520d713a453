use Rattle.cqs_floor_alone_kinds.specs.declared.any_sole.AnySole.TheVariants.{Rounds}
use Rattle.cqs_floor_alone_kinds.specs.AnySoles.{store_any}
use Rattle.cqs_floor_alone_kinds.specs.SoleRounds.{store_rounds}
use Rattle.cqs_floor_alone_kinds.proofs.AmongStores.{arrives-among}
use Rattle.cqs_floor_alone_kinds.proofs.AnySoles.{rounds-among}
use Rattle.cqs_floor_alone_kinds.proofs.any_sole.AnySoleSoleResource.arrive.Goals as goal

pub returns : goal.returns
returns g c =
    let s = g.S.SoleSemaphore.sole in
    rw c.in-Rounds.is
    (arrives-among store_rounds (store_any s) Rounds (rounds-among s) c.in-Rounds.sole c.arrive.new.self
    c.args.job c.args.round c.arrive.result c.arrive.ensures)
