use Rattle.std.proofs.Common.{◌≡◌}
use Rattle.cqs_core.specs.declared.doings.Doing.TheVariants.{Idle}
use Rattle.cqs_rule.specs.Passes.{pass_view, IsOf}
use Rattle.cqs_test_queue.proofs.links.leave_behind.Given as goal

-- between two of them the pass is one of the queue, and idle
abbrev pub invariant-loop : goal.invariant-loop
invariant-loop g l = record {
  belongs : IsOf l.queue l.pass;
  idle : (pass_view l.pass).facts.doing ≡ Idle;
}
