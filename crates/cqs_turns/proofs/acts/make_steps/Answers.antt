use Rattle.std.proofs.Common.{get_or, ap}
use Rattle.cqs_plan.specs.declared.plans.step.Step.TheVariants.{Take}
use Rattle.cqs_turns_report.proofs.Growth.{leaves-off}
use Rattle.cqs_turns_report.proofs.Stepping.{next-step, ready-first, room-first, stepping-prefix, steps-on}
use Rattle.cqs_turns.proofs.acts.make_steps.Goals as goal

pub returns-in_err-stops-clause-comes : goal.returns-in_err-stops-clause-comes
returns-in_err-stops-clause-comes g c =
    let same = ap (λ steps. get_or steps c.loop-next.next (Take 0)) c.as_slice-steps.ensures in
    let below = rw c.as_slice-steps.ensures at c.loop-next-test.true in
    leaves-off c.from_residual.result _ _ c.from_residual.ensures.0
    (stepping-prefix _ _ _ _ _ _ _ _ c.loop-next.invariant.on below same c.in_err-stops.ensures.comes.err)

pub loop-next-preserved : goal.loop-next-preserved
loop-next-preserved g c =
    let same = ap (λ steps. get_or steps c.loop-next.next (Take 0)) c.as_slice-steps.ensures in
    let below = rw c.as_slice-steps.ensures at c.loop-next-test.true in
    let made_it = rw c.in_default.is at c.in_ok-stops.ensures.comes.ok in
    record {
      on = steps-on _ _ _ _ _ _ _ _ c.loop-next.invariant.on below same made_it;
      held = c.in_ok-stops.ensures.held;
    }

pub make_step-requires-clause-ready : goal.make_step-requires-clause-ready
make_step-requires-clause-ready g c =
    let same = ap (λ steps. get_or steps c.loop-next.next (Take 0)) c.as_slice-steps.ensures in
    let below = rw c.as_slice-steps.ensures at c.loop-next-test.true in
    ready-first _ _ _ _ _ (next-step _ c.loop-next.next _ _ below same) c.loop-next.invariant.on.ready

pub make_step-requires-clause-room : goal.make_step-requires-clause-room
make_step-requires-clause-room g c =
    let same = ap (λ steps. get_or steps c.loop-next.next (Take 0)) c.as_slice-steps.ensures in
    let below = rw c.as_slice-steps.ensures at c.loop-next-test.true in
    room-first _ _ _ _ _ _ (next-step _ c.loop-next.next _ _ below same) c.loop-next.invariant.on.room
