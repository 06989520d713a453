use Rattle.std.proofs.Common.{◌≡◌, ◌<◌, length, refl, arith, subst}
use Rattle.cqs_barrier_rounds.specs.Passes.{AreCalledWithin}
use Rattle.cqs_barrier_rounds.specs.Seats.{HasTaken}
use Rattle.cqs_barrier_rounds.proofs.Lasts.{first-all, first-fewer}
use Rattle.cqs_barrier_rounds.proofs.Mine.{at-pass, mine-set}
use Rattle.cqs_barrier_rounds.proofs.Placed.{stands-at, called-none}
use Rattle.cqs_barrier_rounds.proofs.Takes.{take-there, take-ready, take-more}
use Rattle.cqs_barrier_rounds.proofs.rounds.Rounds.take_in.Goals as goal

pub loop-given-init : goal.loop-given-init
loop-given-init c = record {
  mine = c.requires.belongs;
  first = first-all _;
  taken = called-none _ _ _;
}

pub index-requires : goal.index-requires
index-requires c =
    let many = c.requires.belongs.many in
    let few = c.loop-given.invariant.first.few in
    omega (arith, c.in-Some.ensures.cases, c.requires.few)

pub index_mut-requires : goal.index_mut-requires
index_mut-requires c =
    let many = c.requires.belongs.many in
    let same = c.loop-given.invariant.mine.many in
    let few = c.loop-given.invariant.first.few in
    omega (arith, c.in-Some.ensures.cases, c.requires.few)

pub meet-requires-clause-belongs : goal.meet-requires-clause-belongs
meet-requires-clause-belongs c = λ κs.
    let many = c.requires.belongs.many in
    let few = c.loop-given.invariant.first.few in
    let low : c.len-round.result < length c.args.self.now.barriers.items
    = omega (arith, c.in-Some.ensures.cases, c.requires.few) in
    c.loop-given.invariant.mine.each _ _ _ (stands-at _ _ _ low c.index.ensures)
    (at-pass _ _ _ _ c.loop-given.invariant.mine low c.index_mut.ensures.value)

pub meet-requires-clause-given_belongs : goal.meet-requires-clause-given_belongs
meet-requires-clause-given_belongs c = λ κs.
    let at : c.len-round.result ≡ length c.pop.new.self.items = omega (arith, c.len-round.ensures) in
    let many = c.requires.belongs.many in
    let few = c.loop-given.invariant.first.few in
    let low : c.len-round.result < length c.args.self.now.barriers.items
    = omega (arith, c.in-Some.ensures.cases, c.requires.few) in
    c.requires.given_belongs _ _ _ (stands-at _ _ _ low c.index.ensures)
    (take-there _ _ _ _ _ c.loop-given.invariant.first c.in-Some.ensures.items at)

pub meet-requires-clause-ready : goal.meet-requires-clause-ready
meet-requires-clause-ready c = λ κs.
    let at : c.len-round.result ≡ length c.pop.new.self.items = omega (arith, c.len-round.ensures) in
    let many = c.requires.belongs.many in
    let few = c.loop-given.invariant.first.few in
    let low : c.len-round.result < length c.args.self.now.barriers.items
    = omega (arith, c.in-Some.ensures.cases, c.requires.few) in
    take-ready _ _ _ _ _ _ _ _ c.in-Some.ensures.items at c.requires.ready
    c.loop-given.invariant.taken (at-pass _ _ _ _ c.loop-given.invariant.mine low c.index_mut.ensures.value)

pub meet-requires-clause-between : goal.meet-requires-clause-between
meet-requires-clause-between c = λ κs.
    let at : c.len-round.result ≡ length c.pop.new.self.items = omega (arith, c.len-round.ensures) in
    (c.requires.free _ _
    (take-there _ _ _ _ _ c.loop-given.invariant.first c.in-Some.ensures.items at)).between

pub loop-given-preserved : goal.loop-given-preserved
loop-given-preserved c =
    let at : c.len-round.result ≡ length c.pop.new.self.items = omega (arith, c.len-round.ensures) in
    let many = c.requires.belongs.many in
    let few = c.loop-given.invariant.first.few in
    let low : c.len-round.result < length c.args.self.now.barriers.items
    = omega (arith, c.in-Some.ensures.cases, c.requires.few) in
    record {
      mine = mine-set _ _ _ _ _ _ c.loop-given.invariant.mine (stands-at _ _ _ low c.index.ensures)
          (at-pass _ _ _ _ c.loop-given.invariant.mine low c.index_mut.ensures.value) c.in-Ok.ensures.belongs;
      first = first-fewer _ _ _ _ c.loop-given.invariant.first c.in-Some.ensures.items;
      taken = take-more _ _ _ _ _ _ _ _ _ c.loop-given.invariant.first c.in-Some.ensures.items at
          c.loop-given.invariant.taken
          (at-pass _ _ _ _ c.loop-given.invariant.mine low c.index_mut.ensures.value)
          (record {
            met = c.in-Ok.ensures.met;
            laid = c.in-Ok.ensures.laid;
            held = c.in-Ok.ensures.held;
            ready = c.in-Ok.ensures.ready;
          });
    }

pub unreachable-requires : goal.unreachable-requires
unreachable-requires c =
    let at : c.len-round.result ≡ length c.pop.new.self.items = omega (arith, c.len-round.ensures) in
    (c.requires.free _ _
    (take-there _ _ _ _ _ c.loop-given.invariant.first c.in-Some.ensures.items at)).free
    (c.in-Err.ensures.busy.0 refl)

pub returns-clause-belongs : goal.returns-clause-belongs
returns-clause-belongs c = c.loop-given.invariant.mine

pub returns-clause-taken : goal.returns-clause-taken
returns-clause-taken c =
    let none : length c.loop-given.left.items ≡ 0 = omega (arith, c.in_default.ensures.cases) in
    subst (λ n. AreCalledWithin (HasTaken c.args.givens.items) n (length c.args.givens.items)
    c.args.pass.now.passes.items c.loop-given.pass.passes.items)
    none c.loop-given.invariant.taken
