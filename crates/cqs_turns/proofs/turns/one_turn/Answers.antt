use Rattle.std.proofs.Common.{◌<◌, length, ap, arith}
use Rattle.cqs_turns_report.specs.Running.{machine_of}
use Rattle.cqs_turns_report.specs.Turns.{Machine}
use Rattle.cqs_turns_report.proofs.Growth.{on-err}
use Rattle.cqs_turns.proofs.Turning.{turns_on, turning_prefix}
use Rattle.cqs_turns.proofs.turns.one_turn.Goals as goal

pub returns-in_err-one_job-clause-err : goal.returns-in_err-one_job-clause-err
returns-in_err-one_job-clause-err g c =
    let below : c.loop-place.place < length c.args.plan.now.jobs =
    omega (arith, ap length c.as_slice-place-end.ensures) in
    let start : Machine = machine_of (g.F.Floor.plain c.args.floor.now) c.args.report.now c.args.states.now in
    let now : Machine = machine_of (g.F.Floor.plain c.loop-place.floor) c.loop-place.report c.loop-place.states in
    on-err c.from_residual.result
    (turning_prefix c.args.plan.now c.args.turn c.loop-place.place start now _ c.loop-place.invariant.on below
    c.in_err-one_job.ensures.err)

pub loop-place-preserved : goal.loop-place-preserved
loop-place-preserved g c =
    let below : c.loop-place.place < length c.args.plan.now.jobs =
    omega (arith, ap length c.as_slice-place-end.ensures) in
    let start : Machine = machine_of (g.F.Floor.plain c.args.floor.now) c.args.report.now c.args.states.now in
    let now : Machine = machine_of (g.F.Floor.plain c.loop-place.floor) c.loop-place.report c.loop-place.states in
    let after : Machine = machine_of (g.F.Floor.plain c.one_job.new.floor) c.one_job.new.report c.one_job.new.states in
    record {
      on = turns_on c.args.plan.now c.args.turn c.loop-place.place start now after c.loop-place.invariant.on below
          c.in_ok-one_job.ensures.ok;
      running = c.in_ok-one_job.ensures.running;
      kept = c.in_ok-one_job.ensures.kept;
    }
