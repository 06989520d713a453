use Rattle.std.proofs.Common.{◌<◌, ◌≤◌, length, refl, sym, ap, ◌∙◌, arith}
use Rattle.std.proofs.lemmas.List.{length_push}
use Rattle.cqs_core.proofs.Places.{get-below}
use Rattle.cqs_rule.specs.Passes.{pass_view, passes_of}
use Rattle.cqs_rule_laws.specs.Views.{made_in}
use Rattle.cqs_barrier_rounds.proofs.Crowds.{split-more, ready-after, free-made, crowded-at}
use Rattle.cqs_barrier_rounds.proofs.Mine.{at-pass, for-none, for-push, mine-set}
use Rattle.cqs_barrier_rounds.proofs.Pairs.{pairs-set}
use Rattle.cqs_barrier_rounds.proofs.Placed.{stands-at, called-none, called-all}
use Rattle.cqs_barrier_rounds.proofs.Splits.{room-there}
use Rattle.cqs_barrier_rounds.proofs.rounds.Rounds.split.Goals as goal

pub loop-round-init : goal.loop-round-init
loop-round-init c = record {
  mine = c.requires.belongs;
  long = ap length c.in_ok-made.ensures.items;
  reserved = omega (arith, c.in_ok-made.ensures.exact);
  made_for = for-none _ _ c.in_ok-made.ensures.items;
  split = called-none _ _ _;
  room = λ r b q low got now. absurd (omega arith);
}

pub split-requires-clause-belongs : goal.split-requires-clause-belongs
split-requires-clause-belongs c = λ κs.
    let low : c.loop-round.round < length c.args.self.now.barriers.items = omega arith in
    c.loop-round.invariant.mine.each _ _ _ (stands-at _ _ _ low c.index.ensures)
    (at-pass _ _ _ _ c.loop-round.invariant.mine low c.index_mut.ensures.value)

pub split-requires-clause-ready : goal.split-requires-clause-ready
split-requires-clause-ready c = λ κs.
    let low : c.loop-round.round < length c.args.self.now.barriers.items = omega arith in
    let here : c.loop-round.round ≤ c.loop-round.round = omega arith in
    c.requires.ready _ _ (sym (c.loop-round.invariant.split.behind _ here)
    ∙ at-pass _ _ _ _ c.loop-round.invariant.mine low c.index_mut.ensures.value)

pub split-requires-clause-enough : goal.split-requires-clause-enough
split-requires-clause-enough c = λ κs.
    let low : c.loop-round.round < length c.args.self.now.barriers.items = omega arith in
    let here : c.loop-round.round ≤ c.loop-round.round = omega arith in
    c.requires.enough _ _ (sym (c.loop-round.invariant.split.behind _ here)
    ∙ at-pass _ _ _ _ c.loop-round.invariant.mine low c.index_mut.ensures.value)

pub push_reserved-requires : goal.push_reserved-requires
push_reserved-requires c =
    let long = c.loop-round.invariant.long in
    let reserved = c.loop-round.invariant.reserved in
    omega arith

pub take_in-requires-clause-belongs : goal.take_in-requires-clause-belongs
take_in-requires-clause-belongs c =
    let low : c.loop-round.round < length c.args.self.now.barriers.items = omega arith in
    mine-set _ _ _ _ _ _ c.loop-round.invariant.mine (stands-at _ _ _ low c.index.ensures)
    (at-pass _ _ _ _ c.loop-round.invariant.mine low c.index_mut.ensures.value) c.in-Err.ensures.belongs

pub take_in-requires-clause-few : goal.take_in-requires-clause-few
take_in-requires-clause-few c =
    let many = c.loop-round.invariant.mine.many in
    let long = c.loop-round.invariant.long in
    omega arith

pub take_in-requires-clause-given_belongs : goal.take_in-requires-clause-given_belongs
take_in-requires-clause-given_belongs c = c.loop-round.invariant.made_for

pub take_in-requires-clause-ready : goal.take_in-requires-clause-ready
take_in-requires-clause-ready c =
    let low : c.loop-round.round < length c.args.self.now.barriers.items = omega arith in
    ready-after _ _ _ _ _ _ _ c.requires.ready c.loop-round.invariant.split
    (at-pass _ _ _ _ c.loop-round.invariant.mine low c.index_mut.ensures.value) c.in-Err.ensures.refused

pub take_in-requires-clause-free : goal.take_in-requires-clause-free
take_in-requires-clause-free c =
    let many = c.requires.belongs.many in
    let inside : c.loop-round.round ≤ length c.args.pass.now.passes.items = omega arith in
    free-made _ _ _ _ _ c.loop-round.invariant.split c.loop-round.invariant.long inside

pub returns-in-Err-clause-crowd : goal.returns-in-Err-clause-crowd
returns-in-Err-clause-crowd c =
    let low : c.loop-round.round < length c.args.self.now.barriers.items = omega arith in
    λ crowd. crowded-at _ _ _ _ _ _ _ _ _ _ c.requires.enough c.loop-round.invariant.split
    c.loop-round.invariant.long c.take_in.ensures.taken (stands-at _ _ _ low c.index.ensures)
    (at-pass _ _ _ _ c.loop-round.invariant.mine low c.index_mut.ensures.value)
    (c.in-Err.ensures.crowd.0 refl) c.in-Err.ensures.refused c.in-Err.ensures.made_none
    c.in-Err.ensures.kept

pub loop-round-preserved : goal.loop-round-preserved
loop-round-preserved c =
    let low : c.loop-round.round < length c.args.self.now.barriers.items = omega arith in
    let long = c.loop-round.invariant.long in
    record {
      mine = mine-set _ _ _ _ _ _ c.loop-round.invariant.mine (stands-at _ _ _ low c.index.ensures)
          (at-pass _ _ _ _ c.loop-round.invariant.mine low c.index_mut.ensures.value) c.in-Ok.ensures.belongs;
      long = rw c.push_reserved.ensures.items
          (omega (arith, length_push c.loop-round.made.items c.in-Ok.new, long));
      reserved = c.push_reserved.ensures.capacity ∙ c.loop-round.invariant.reserved;
      made_for = rw c.push_reserved.ensures.items
          (for-push _ _ _ _ _ c.loop-round.invariant.made_for long (stands-at _ _ _ low c.index.ensures)
          c.in-Ok.ensures.new_belongs);
      split = rw c.push_reserved.ensures.items
          (split-more _ _ _ _ _ _ _ _ c.loop-round.invariant.split long
          (at-pass _ _ _ _ c.loop-round.invariant.mine low c.index_mut.ensures.value)
          (record {
            gave = c.in-Ok.ensures.gave;
            came = c.in-Ok.ensures.came;
            made_one = c.in-Ok.ensures.made_one;
          }));
      room = pairs-set (λ b q. made_in (pass_view q).crew < passes_of b.queue) _ _ _ _ _ _
          c.loop-round.invariant.room (stands-at _ _ _ low c.index.ensures)
          (at-pass _ _ _ _ c.loop-round.invariant.mine low c.index_mut.ensures.value)
          (room-there _ _ c.in-Ok.ensures.crowd.1);
    }

pub returns-clause-belongs : goal.returns-clause-belongs
returns-clause-belongs c = c.loop-round.invariant.mine

pub returns-clause-room : goal.returns-clause-room
returns-clause-room c = λ r b q which there.
    let inside = get-below c.args.self.now.barriers.items r b which in
    let low : r < c.loop-round.round = omega arith in
    c.loop-round.invariant.room r b q low which there

pub returns-clause-split : goal.returns-clause-split
returns-clause-split c =
    let many = c.requires.belongs.many in
    let all : length c.args.pass.now.passes.items ≤ c.loop-round.round = omega arith in
    called-all _ _ _ _ c.loop-round.invariant.split all

pub returns-clause-new_belongs : goal.returns-clause-new_belongs
returns-clause-new_belongs c =
    let long = c.loop-round.invariant.long in
    record { many = omega arith; each = c.loop-round.invariant.made_for }
