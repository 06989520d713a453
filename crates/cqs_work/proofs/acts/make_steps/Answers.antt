use Rattle.std.proofs.Common.{get_or, ap, length, arith, ◌≤◌}
use Rattle.cqs_plan.specs.declared.plans.step.Step.TheVariants.{Take}
use Rattle.cqs_work.proofs.Acting.{stepping-starts, step-at, steps-on, stops-with, finish-stands, finishes}
use Rattle.cqs_work.proofs.acts.make_steps.Goals as goal

pub loop-next-init : goal.loop-next-init
loop-next-init g c = record {
  on = stepping-starts c.args.actor.now _ c.args.first c.requires.can;
  held = c.requires.held;
}

pub make_step-requires-clause-step : goal.make_step-requires-clause-step
make_step-requires-clause-step g c =
    let same = ap (λ steps. get_or steps c.loop-next.next (Take 0)) c.as_slice-steps.ensures in
    let below = rw c.as_slice-steps.ensures at c.loop-next-test.true in
    step-at c.args.actor.now.job.now.steps c.loop-next.next _ (Take 0) below same

pub returns-in-Some-clause-did : goal.returns-in-Some-clause-did
returns-in-Some-clause-did g c =
    let same = ap (λ steps. get_or steps c.loop-next.next (Take 0)) c.as_slice-steps.ensures in
    let below = rw c.as_slice-steps.ensures at c.loop-next-test.true in
    stops-with c.args.actor.now _ _ _ c.args.first c.loop-next.next _ c.loop-next.invariant.on
    (step-at c.args.actor.now.job.now.steps c.loop-next.next _ (Take 0) below same)
    c.in-Some.progress (rw c.in-Some.is at c.in_ok-stops.ensures.did)

pub loop-next-preserved : goal.loop-next-preserved
loop-next-preserved g c =
    let same = ap (λ steps. get_or steps c.loop-next.next (Take 0)) c.as_slice-steps.ensures in
    let below = rw c.as_slice-steps.ensures at c.loop-next-test.true in
    record {
      on = steps-on c.args.actor.now _ _ _ c.args.first c.loop-next.next _ c.loop-next.invariant.on
          (step-at c.args.actor.now.job.now.steps c.loop-next.next _ (Take 0) below same)
          (rw c.in_default.is at c.in_ok-stops.ensures.did);
      held = c.in_ok-stops.ensures.held;
    }

pub finish-requires-clause-stands : goal.finish-requires-clause-stands
finish-requires-clause-stands g c =
    let past : length c.args.actor.now.job.now.steps ≤ c.loop-next.next
    = omega (arith, c.loop-next-test.false, ap length c.as_slice-steps.ensures) in
    finish-stands c.args.actor.now _ _ c.args.first c.loop-next.next c.loop-next.invariant.on past

pub returns-clause-did : goal.returns-clause-did
returns-clause-did g c =
    let past : length c.args.actor.now.job.now.steps ≤ c.loop-next.next
    = omega (arith, c.loop-next-test.false, ap length c.as_slice-steps.ensures) in
    finishes c.args.actor.now _ _ _ c.args.first c.loop-next.next _ c.loop-next.invariant.on past c.finish.ensures.did
    c.finish.ensures.is
