use Rattle.std.proofs.Common.{refl}
use Rattle.cqs_floor_alone_kinds.proofs.BarrierSole.{ends-below, ends-there, rounds-look, stands-there}
use Rattle.cqs_floor_alone_kinds.proofs.rounds_sole.RoundsSole.look.Goals as goal

pub look-requires : goal.look-requires
look-requires c =
    let x = c.args.self.now in
    let round = c.args.round in
    let below = ends-below x c.args._job round c.args.wait c.requires in
    ends-there x round _ (stands-there x round _ below c.index_mut.ensures.value) c.args._job c.args.wait c.requires

pub returns : goal.returns
returns c =
    let x = c.args.self.now in
    let round = c.args.round in
    let below = ends-below x c.args._job round c.args.wait c.requires in
    rounds-look x round _ (stands-there x round _ below c.index_mut.ensures.value) _ _ refl c.args.wait c.args._job
    c.look.result c.look.ensures refl
