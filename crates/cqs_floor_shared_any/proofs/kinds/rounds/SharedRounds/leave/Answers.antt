use Rattle.std.proofs.Common.{refl}
use Rattle.cqs_floor_shared_any.proofs.RoundsShares.{ends-below, ends-there, rounds-leave, stands-there, waits-there}
use Rattle.cqs_floor_shared_any.proofs.kinds.rounds.SharedRounds.leave.Goals as goal

pub leave-requires : goal.leave-requires
leave-requires g c =
    let x = c.args.self.now in
    let round = c.args.round in
    let below = ends-below x c.args.job round c.args.wait c.requires in
    ends-there x round _ (stands-there x round _ below c.index_mut.ensures.value) c.args.job c.args.wait c.requires

pub returns : goal.returns
returns g c =
    let x = c.args.self.now in
    let round = c.args.round in
    let below = ends-below x c.args.job round c.args.wait c.requires in
    let there = stands-there x round _ below c.index_mut.ensures.value in
    rounds-leave x _ round _ _ there refl c.args.wait c.args.job c.leave.result
    (waits-there x round _ there c.args.job c.args.wait c.requires) c.leave.ensures
