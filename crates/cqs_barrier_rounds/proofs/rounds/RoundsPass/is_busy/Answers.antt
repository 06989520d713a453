use Rattle.std.proofs.Common.{◌≡◌, ◌≤◌, length, slice_get, Some, refl, subst}
use Rattle.cqs_barrier_rounds.proofs.Below.{below-none, below-more, below-all}
use Rattle.cqs_barrier_rounds.proofs.Placed.{stands-at}
use Rattle.cqs_barrier_rounds.proofs.rounds.RoundsPass.is_busy.Goals as goal

pub loop-pass-init : goal.loop-pass-init
loop-pass-init c = below-none _ _

pub returns-then-has_more : goal.returns-then-has_more
returns-then-has_more c = (
  λ yes. record {
    round = c.loop-pass.pass-index;
    pass = c.pass-item.result;
    there = subst (λ ps. slice_get ps c.loop-pass.pass-index ≡ Some c.pass-item.result) c.deref-pass-items.ensures.value
        (stands-at _ _ _ c.loop-pass-test.true c.pass-item.is);
    busy = c.has_more.ensures.0 c.if-has_more.true;
  },
  λ busy. refl,
)

pub loop-pass-preserved : goal.loop-pass-preserved
loop-pass-preserved c = below-more _ _ _ _ c.loop-pass.invariant
    (subst (λ ps. slice_get ps c.loop-pass.pass-index ≡ Some c.pass-item.result) c.deref-pass-items.ensures.value
    (stands-at _ _ _ c.loop-pass-test.true c.pass-item.is))
    (λ busy. let yes = c.has_more.ensures.1 busy in let no = c.if-has_more.false in cc)

pub returns : goal.returns
returns c =
    let high : length c.args.self.now.passes.items ≤ c.loop-pass.pass-index
    = subst (λ ps. length ps ≤ c.loop-pass.pass-index) c.deref-pass-items.ensures.value c.loop-pass-test.false in (
      λ no. absurd (cc),
      λ busy. absurd (below-all _ _ _ c.loop-pass.invariant high busy.round busy.pass busy.there busy.busy),
    )
