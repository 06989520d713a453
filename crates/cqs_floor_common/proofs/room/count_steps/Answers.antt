use Rattle.std.proofs.Common.{◌<◌, length, arith}
use Rattle.cqs_turns_report.proofs.StepCounts.{counted-else, counted-step}
use Rattle.cqs_floor_common.proofs.Counting.{within-at}
use Rattle.cqs_floor_common.proofs.room.count_steps.Goals as goal
use Rattle.cqs_floor_common.proofs.room.count_steps.Goals.{in-Give, in-Give-2, in-Give-3, in-Take2}

pub bounds-room-at : goal.bounds-room-at
bounds-room-at c =
    omega (arith, within-at _ _ _ _ c.requires.within c.loop-step-test.true c.in-Take.is, c.loop-step.auto.room)

pub bounds-room-at-in-Take : goal.bounds-room-at-in-Take
bounds-room-at-in-Take c =
    omega (arith, within-at _ _ _ _ c.requires.within c.loop-step-test.true c.in-Take.is, c.loop-step.auto.room)

pub loop-step-preserved : goal.loop-step-preserved
loop-step-preserved c = elim c.match-step.branch [
  | in-Take2 w ↦
      let place = within-at _ _ _ _ c.requires.within c.loop-step-test.true w.in-Take.is in
      let there : w.in-Take.at < length c.loop-step.room = omega (arith, place, c.loop-step.auto.room) in
      record {
        counts = rw w.room-is
            (counted-step _ _ _ _ _ c.loop-step-test.true there w.in-Take.is c.loop-step.invariant.counts);
      }
  | in-Give w ↦
      record {
        counts = rw w.room-is
            (counted-else _ _ _ _ c.loop-step-test.true w.in-Give.is c.loop-step.invariant.counts);
      }
  | in-Give-2 w ↦
      record {
        counts = rw w.room-is
            (counted-else _ _ _ _ c.loop-step-test.true w.in-Give.is c.loop-step.invariant.counts);
      }
  | in-Give-3 w ↦
      record {
        counts = rw w.room-is
            (counted-else _ _ _ _ c.loop-step-test.true w.in-Give.is c.loop-step.invariant.counts);
      }
]
