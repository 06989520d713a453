use Rattle.std.proofs.Common.{◌≡◌, ◌-◌, ◌^◌}
use Rattle.cqs_barrier.specs.Calls.{IsMine}
use Rattle.cqs_barrier.specs.Resuming.{HasOwing, owing_reached}
use Rattle.cqs_rule.specs.Passes.{pass_view}
use Rattle.cqs_floor_alone_kinds.proofs.RoundEnding.{IsEnding}
use Rattle.cqs_floor_alone_kinds.proofs.round_sole.finish.Given as goal

abbrev pub invariant-loop-again : goal.invariant-loop-again
invariant-loop-again l = record {
  mine : IsMine l.barrier l.pass;
  owes : HasOwing (pass_view l.pass).facts l.owing;
  ending : IsEnding (pass_view l.fn.pass) (pass_view l.pass);
  reached : l.reached ≡ owing_reached l.owing;
}

abbrev pub decreases-loop-again : goal.decreases-loop-again
decreases-loop-again l = 2 ^ 64 - l.reached
