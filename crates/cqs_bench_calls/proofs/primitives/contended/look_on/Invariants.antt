use Rattle.cqs_rule.specs.Passes.{pass_view}
use Rattle.cqs_rule.specs.Waits.{HasWait}
use Rattle.cqs_semaphore.specs.Callers.{IsIdle}
use Rattle.cqs_bench_calls.proofs.primitives.contended.look_on.Given as goal

-- between two looks the wait goes on
abbrev pub invariant-loop : goal.invariant-loop
invariant-loop l = IsIdle l.semaphore l.pass × HasWait (pass_view l.pass) l.wait
