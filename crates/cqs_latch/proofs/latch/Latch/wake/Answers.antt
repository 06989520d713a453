use Rattle.std.proofs.Common.{◌∷◌, [], ◌++◌, None, refl, subst, length-append, ◌∙◌, arith}
use Rattle.cqs_rule.specs.Passes.{pass_view}
use Rattle.cqs_latch.specs.Waking.{HasGrown, Next}
use Rattle.cqs_latch.proofs.AloneByNumber.{ends-nobody, ends-then}
use Rattle.cqs_latch.proofs.AloneOrder.{serves-nobody, serves-then}
use Rattle.cqs_latch.proofs.Grown.{smart-where}
use Rattle.cqs_latch.proofs.WakeSteps.{next-ran, woke-on, woke-ran}
use Rattle.cqs_rule.proofs.Claiming.{wants-since}
use Rattle.cqs_latch.proofs.latch.Latch.wake.Goals as goal

pub loop-left-init : goal.loop-left-init
loop-left-init g c = record {
  belongs = c.requires.belongs;
  idle = c.requires.idle;
  owes = c.requires.owes;
  payload = c.requires.payload;
  reached = λ smart. omega arith;
  in_order = λ alone smart. serves-nobody _;
  by_number = λ alone simple. ends-nobody _;
  same = refl;
  ran = ([], omega arith, refl);
}

pub returns-clause-wakes : goal.returns-clause-wakes
returns-clause-wakes g c =
    let l = c.loop-left.invariant in
    let done = c.loop-left-test.false in
    let all = l.ran.1 in
    (l.ran.0, omega (arith, done, all), l.ran.2)

pub returns-in-Some-clause-wakes : goal.returns-in-Some-clause-wakes
returns-in-Some-clause-wakes g c =
    let l = c.loop-left.invariant in
    let some = c.loop-left-test.true in
    let all = l.ran.1 in
    let u = pass_view c.loop-left.pass in
    let w = pass_view c.wake_next.new.pass in (
      l.ran.0,
      u,
      omega (arith, some, all),
      l.ran.2,
      subst (λ z. Next u z w) c.in-Some.is c.wake_next.ensures.next,
    )

pub loop-left-preserved : goal.loop-left-preserved
loop-left-preserved g c =
    let l = c.loop-left.invariant in
    let some = c.loop-left-test.true in
    let all = l.ran.1 in
    let v = pass_view c.args.pass.now in
    let u = pass_view c.loop-left.pass in
    let w = pass_view c.wake_next.new.pass in
    let next : Next u None w = subst (λ z. Next u z w) c.in_default.is c.wake_next.ensures.next in
    let r = (next-ran next.0 u w next.1).1 in
    let owes = l.owes in
    let less = r.further in
    let longer = length-append l.ran.0 (next.0 ∷ []) in record {
      belongs = c.wake_next.ensures.belongs;
      idle = r.idle;
      owes = omega (arith, less, owes);
      payload = λ more. r.payload ∙ l.payload some;
      reached = λ smart.
          let before = l.reached smart in
          let after = subst (λ z. HasGrown u.facts.reached z w) c.in_default.is (c.wake_next.ensures.grown smart) in
          omega (arith, before, after);
      in_order = λ alone smart.
          serves-then [] v u w (l.in_order alone smart) (c.wake_next.ensures.in_order (l.same ∙ alone) smart);
      by_number = λ alone simple.
          ends-then [] v u w (l.by_number alone simple) (c.wake_next.ensures.by_number (l.same ∙ alone) simple);
      same = r.along.called.same.alone ∙ l.same;
      ran = (l.ran.0 ++ next.0 ∷ [], omega (arith, longer, all, some), woke-on l.ran.0 next.0 v u w l.ran.2 next.1);
    }

pub returns-in-Some-clause-grown : goal.returns-in-Some-clause-grown
returns-in-Some-clause-grown g c = λ none.
    let u = pass_view c.loop-left.pass in
    let w = pass_view c.wake_next.new.pass in
    let smart = smart-where _ _ u w c.in-Some.ensures.simple none in
    let before = c.loop-left.invariant.reached smart in
    let last = subst (λ z. HasGrown u.facts.reached z w) c.in-Some.is (c.wake_next.ensures.grown smart) none in
    omega (arith, before, last)

pub returns-in-Some-clause-simple : goal.returns-in-Some-clause-simple
returns-in-Some-clause-simple g c = λ simple.
    let l = c.loop-left.invariant in
    let v = pass_view c.args.pass.now in
    let u = pass_view c.loop-left.pass in
    let r = (woke-ran l.ran.0 v u c.requires.idle l.ran.2).1 in
    wants-since c.in-Some.under v u (pass_view c.wake_next.new.pass) r.along.called.same r.heads
    (c.in-Some.ensures.simple simple)

pub returns-in-Some-clause-in_order : goal.returns-in-Some-clause-in_order
returns-in-Some-clause-in_order g c = λ alone smart.
    let l = c.loop-left.invariant in
    serves-then [] _ _ _ (l.in_order alone smart) (c.wake_next.ensures.in_order (l.same ∙ alone) smart)

pub returns-in-Some-clause-by_number : goal.returns-in-Some-clause-by_number
returns-in-Some-clause-by_number g c = λ alone simple.
    let l = c.loop-left.invariant in
    ends-then [] _ _ _ (l.by_number alone simple) (c.wake_next.ensures.by_number (l.same ∙ alone) simple)
