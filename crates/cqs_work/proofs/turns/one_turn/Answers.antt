use Rattle.std.proofs.Common.{◌≡◌, ◌<◌, length, ap, arith}
use Rattle.cqs_work.proofs.Turning.{turning-starts, turns-on, turn-ends}
use Rattle.cqs_work.proofs.turns.one_turn.Goals as goal

pub loop-place-init : goal.loop-place-init
loop-place-init g c = record { on = turning-starts c.args.plan.now c.args.turn _ _; runs = c.requires.runs }

pub loop-place-preserved : goal.loop-place-preserved
loop-place-preserved g c =
    let below : c.loop-place.place < length c.args.plan.now.jobs
    = omega (arith, c.loop-place-test.true, ap length c.as_slice-place-end.ensures) in
    record {
      on = turns-on c.args.plan.now c.args.turn c.loop-place.place _ _ _ _ _ _ c.loop-place.invariant.on below
          c.in_ok-one_job.ensures.heard c.in_ok-one_job.ensures.went;
      runs = c.in_ok-one_job.ensures.runs;
    }

pub returns-clause-heard : goal.returns-clause-heard
returns-clause-heard g c =
    let all : length c.args.plan.now.jobs ≡ c.loop-place.place
    = omega (arith, c.loop-place-test.false, c.loop-place.auto.place-end, ap length c.as_slice-place-end.ensures) in
    turn-ends c.args.plan.now c.args.turn c.loop-place.place _ _ _ _ c.loop-place.invariant.on all

pub returns-clause-went : goal.returns-clause-went
returns-clause-went g c = c.loop-place.invariant.on.went
