use Rattle.std.proofs.Common.{◌≡◌, ◌-◌, ◌^◌}
use Rattle.cqs_latch.specs.Calls.{IsMine}
use Rattle.cqs_latch.specs.Owed.{HasOwed, owed_reached}
use Rattle.cqs_rule.specs.Passes.{pass_view}
use Rattle.cqs_floor_alone_kinds.proofs.LatchEnding.{IsEnding}
use Rattle.cqs_floor_alone_kinds.proofs.latch_sole.finish.Given as goal

abbrev pub invariant-loop-again : goal.invariant-loop-again
invariant-loop-again l = record {
  mine : IsMine l.latch l.pass;
  owes : HasOwed (pass_view l.pass).facts l.owed;
  ending : IsEnding (pass_view l.fn.pass) (pass_view l.pass);
  reached : l.reached ≡ owed_reached l.owed;
}

abbrev pub decreases-loop-again : goal.decreases-loop-again
decreases-loop-again l = 2 ^ 64 - l.reached
