use Rattle.std.proofs.Common.{◌≡◌}
use Rattle.cqs_core.specs.declared.doings.Doing.TheVariants.{Idle}
use Rattle.cqs_rule.specs.Passes.{pass_view, IsOf}
use Rattle.cqs_bench_calls.proofs.rounds.leave_rounds.Given as goal

-- between two rounds the pass is one of the queue, and idle
abbrev pub invariant-loop : goal.invariant-loop
invariant-loop l = IsOf l.queue l.pass × ((pass_view l.pass).facts.doing ≡ Idle)
