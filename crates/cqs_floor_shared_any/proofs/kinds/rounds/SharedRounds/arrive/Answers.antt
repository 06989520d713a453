use Rattle.std.proofs.Common.{refl}
use Rattle.cqs_floor_shared_any.proofs.RoundsShares.{arrives-below, arrives-there, rounds-arrive, stands-there}
use Rattle.cqs_floor_shared_any.proofs.kinds.rounds.SharedRounds.arrive.Goals as goal

pub arrive-requires : goal.arrive-requires
arrive-requires g c =
    let x = c.args.self.now in
    let round = c.args.round in
    arrives-there x round _
    (stands-there x round _ (arrives-below x c.args.job round c.requires) c.index_mut.ensures.value) c.args.job
    c.requires

pub returns : goal.returns
returns g c =
    let x = c.args.self.now in
    let round = c.args.round in
    rounds-arrive x _ round _ _
    (stands-there x round _ (arrives-below x c.args.job round c.requires) c.index_mut.ensures.value) refl c.args.job
    c.arrive.result c.arrive.ensures
