use Rattle.std.proofs.Common.{refl}
use Rattle.cqs_floor_alone_kinds.proofs.BarrierSole.{arrives-below, arrives-there, rounds-last, rounds-wait, stands-there}
use Rattle.cqs_floor_alone_kinds.proofs.rounds_sole.RoundsSole.arrive.Goals as goal

pub arrive-waits-requires : goal.arrive-waits-requires
arrive-waits-requires c =
    let x = c.args.self.now in
    let round = c.args.round in
    arrives-there x round _
    (stands-there x round _ (arrives-below x c.args._job round c.requires) c.index_mut.ensures.value) c.args._job
    c.requires

pub returns-then-is_none : goal.returns-then-is_none
returns-then-is_none c =
    let x = c.args.self.now in
    let round = c.args.round in
    rounds-last x round _
    (stands-there x round _ (arrives-below x c.args._job round c.requires) c.index_mut.ensures.value) _ _ refl
    c.args._job c.arrive-waits.result c.if-is_none.ensures c.arrive-waits.ensures refl

pub returns-else-is_none : goal.returns-else-is_none
returns-else-is_none c =
    let x = c.args.self.now in
    let round = c.args.round in
    rounds-wait x round _
    (stands-there x round _ (arrives-below x c.args._job round c.requires) c.index_mut.ensures.value) _ _ refl
    c.args._job c.arrive-waits.result c.if-is_none.ensures c.arrive-waits.ensures refl
