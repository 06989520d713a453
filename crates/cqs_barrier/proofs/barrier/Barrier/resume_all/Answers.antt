use Rattle.std.proofs.Common.{◌-◌, Some, subst, arith}
use Rattle.cqs_rule.specs.Passes.{pass_view}
use Rattle.cqs_barrier.specs.Resuming.{HasGrown, RanNext, RanAll}
use Rattle.cqs_barrier.proofs.ResumeSteps.{ran-nothing, all-handed, all-on}
use Rattle.cqs_barrier.proofs.barrier.Barrier.resume_all.Goals as goal

pub loop-left-init : goal.loop-left-init
loop-left-init g c = record {
  belongs = c.requires.belongs;
  owes = c.requires.owes;
  reached = omega arith;
  ran = ran-nothing _;
}

pub returns-in-Some-clause-ran : goal.returns-in-Some-clause-ran
returns-in-Some-clause-ran g c =
    let v = pass_view c.args.pass.now in
    let u = pass_view c.loop-left.pass in
    let w = pass_view c.resume_next.new.pass in
    let known : RanAll v (Some (record { under = c.in-Some.under; left = c.loop-left.left - 1 })) w =
    all-handed (c.loop-left.left - 1) c.in-Some.under v u w c.loop-left.invariant.ran
    (subst (λ z. RanNext (c.loop-left.left - 1) u z w) c.in-Some.is c.resume_next.ensures.ran) in
    search

pub loop-left-preserved : goal.loop-left-preserved
loop-left-preserved g c =
    let v = pass_view c.args.pass.now in
    let u = pass_view c.loop-left.pass in
    let w = pass_view c.resume_next.new.pass in
    let on = all-on (c.loop-left.left - 1) v u w c.loop-left.invariant.ran
    (subst (λ z. RanNext (c.loop-left.left - 1) u z w) c.in_default.is c.resume_next.ensures.ran) in
    let before = c.loop-left.invariant.reached in
    let after = subst (λ z. HasGrown u.facts.reached z w) c.in_default.is c.resume_next.ensures.grown in
    record {
      belongs = c.resume_next.ensures.belongs;
      owes = on.1;
      reached = omega (arith, before, after);
      ran = on.0;
    }

pub returns-in-Some-clause-grown : goal.returns-in-Some-clause-grown
returns-in-Some-clause-grown g c =
    let u = pass_view c.loop-left.pass in
    let w = pass_view c.resume_next.new.pass in
    let before = c.loop-left.invariant.reached in
    let last = subst (λ z. HasGrown u.facts.reached z w) c.in-Some.is c.resume_next.ensures.grown in
    record {
      before = let after = last.before in omega (arith, before, after);
      further = λ none. let after = last.further none in omega (arith, before, after);
    }
