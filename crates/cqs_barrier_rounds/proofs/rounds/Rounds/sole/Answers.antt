use Rattle.std.proofs.Common.{◌≡◌, ◌⊎◌, inl, inr, ◌<◌, ◌≤◌, true, false, length, refl, arith}
use Rattle.cqs_rule.specs.Passes.{pass_view}
use Rattle.cqs_barrier_rounds.proofs.Below.{below-none, below-all, below-each}
use Rattle.cqs_barrier_rounds.proofs.Mine.{at-pass, mine-set}
use Rattle.cqs_barrier_rounds.proofs.Placed.{stands-at, called-none, called-up, called-all}
use Rattle.cqs_barrier_rounds.proofs.Soles.{sole-more}
use Rattle.cqs_barrier_rounds.proofs.Splits.{asked-by}
use Rattle.cqs_barrier_rounds.proofs.rounds.Rounds.sole.Goals as goal
use Rattle.cqs_barrier_rounds.proofs.rounds.Rounds.sole.Goals.{then-not-sole, else-not-sole}

pub loop-round-init : goal.loop-round-init
loop-round-init c = record {
  mine = c.requires.belongs;
  asked = called-none _ _ _;
  alone = λ yes. below-none _ _;
  sole = λ below. refl;
}

pub sole-requires-clause-belongs : goal.sole-requires-clause-belongs
sole-requires-clause-belongs c = λ κs.
    let low : c.loop-round.round < length c.args.self.now.barriers.items = omega arith in
    c.loop-round.invariant.mine.each _ _ _ (stands-at _ _ _ low c.index.ensures)
    (at-pass _ _ _ _ c.loop-round.invariant.mine low c.index_mut.ensures.value)

pub loop-round-preserved : goal.loop-round-preserved
loop-round-preserved c =
    let low : c.loop-round.round < length c.args.self.now.barriers.items = omega arith in
    let which : ((c.sole.result ≡ false) × (c.if-not-sole.sole ≡ false))
    ⊎ ((c.sole.result ≡ true) × (c.if-not-sole.sole ≡ c.loop-round.sole))
    = elim c.if-not-sole.branch [
      | then-not-sole w ↦ inl (w.if-not-sole.true, w.sole-is)
      | else-not-sole w ↦ inr (w.if-not-sole.false, w.sole-is)
    ] in
    let told = sole-more (λ p. (pass_view p).alone) _ _ _ _ _ _ _ which c.sole.ensures.alone
    (at-pass _ _ _ _ c.loop-round.invariant.mine low c.index_mut.ensures.value)
    c.loop-round.invariant.alone c.loop-round.invariant.sole in
    record {
      mine = mine-set _ _ _ _ _ _ c.loop-round.invariant.mine (stands-at _ _ _ low c.index.ensures)
          (at-pass _ _ _ _ c.loop-round.invariant.mine low c.index_mut.ensures.value) c.sole.ensures.belongs;
      asked = called-up _ _ _ _ _ _ c.loop-round.invariant.asked
          (at-pass _ _ _ _ c.loop-round.invariant.mine low c.index_mut.ensures.value)
          (asked-by _ _ _ c.sole.ensures.looked c.sole.ensures.made_none c.sole.ensures.alone c.sole.ensures.sole
          c.sole.ensures.others c.sole.ensures.kept);
      alone = told.0;
      sole = told.1;
    }

pub returns-clause-belongs : goal.returns-clause-belongs
returns-clause-belongs c = c.loop-round.invariant.mine

pub returns-clause-sole : goal.returns-clause-sole
returns-clause-sole c =
    let many = c.loop-round.invariant.mine.many in
    let all : length c.loop-round.pass.passes.items ≤ c.loop-round.round = omega arith in (
      λ yes. below-all _ _ _ (c.loop-round.invariant.alone yes) all,
      λ each. c.loop-round.invariant.sole (below-each _ _ _ each),
    )

pub returns-clause-asked : goal.returns-clause-asked
returns-clause-asked c =
    let many = c.requires.belongs.many in
    let all : length c.args.pass.now.passes.items ≤ c.loop-round.round = omega arith in
    called-all _ _ _ _ c.loop-round.invariant.asked all
