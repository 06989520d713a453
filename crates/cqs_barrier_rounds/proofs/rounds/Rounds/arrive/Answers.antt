use Rattle.std.proofs.Common.{◌<◌, length, arith}
use Rattle.cqs_barrier_rounds.proofs.Mine.{at-pass, mine-set, called-set}
use Rattle.cqs_barrier_rounds.proofs.Placed.{stands-at}
use Rattle.cqs_barrier_rounds.proofs.rounds.Rounds.arrive.Goals as goal

pub arrive_at-requires-clause-belongs : goal.arrive_at-requires-clause-belongs
arrive_at-requires-clause-belongs c =
    let low : c.args.member.round < length c.args.self.now.barriers.items = omega arith in
    c.requires.belongs.each _ _ _ (stands-at _ _ _ low c.index.ensures)
    (at-pass _ _ _ _ c.requires.belongs low c.index_mut.ensures.value)

pub arrive_at-requires-clause-ready : goal.arrive_at-requires-clause-ready
arrive_at-requires-clause-ready c =
    let low : c.args.member.round < length c.args.self.now.barriers.items = omega arith in
    c.requires.ready _ (at-pass _ _ _ _ c.requires.belongs low c.index_mut.ensures.value)

pub arrive_at-requires-clause-holds : goal.arrive_at-requires-clause-holds
arrive_at-requires-clause-holds c =
    let low : c.args.member.round < length c.args.self.now.barriers.items = omega arith in
    c.requires.holds _ (at-pass _ _ _ _ c.requires.belongs low c.index_mut.ensures.value)

pub returns-clause-belongs : goal.returns-clause-belongs
returns-clause-belongs c =
    let low : c.args.member.round < length c.args.self.now.barriers.items = omega arith in
    mine-set _ _ _ _ _ _ c.requires.belongs (stands-at _ _ _ low c.index.ensures)
    (at-pass _ _ _ _ c.requires.belongs low c.index_mut.ensures.value) c.arrive_at.ensures.belongs

pub returns-clause-arrived : goal.returns-clause-arrived
returns-clause-arrived c = λ in_time.
    called-set _ _ _ _ _ (at-pass _ _ _ _ c.requires.belongs in_time c.index_mut.ensures.value)
    c.arrive_at.ensures.arrived

pub returns-clause-never_crowded : goal.returns-clause-never_crowded
returns-clause-never_crowded c = λ ample.
    let low : c.args.member.round < length c.args.self.now.barriers.items = omega arith in
    c.arrive_at.ensures.never_crowded (ample _ _ (stands-at _ _ _ low c.index.ensures))
