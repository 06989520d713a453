use Rattle.std.proofs.Common.{All}
use Rattle.cqs_semaphore.specs.Callers.{IsIdle}
use Rattle.cqs_bench_calls.proofs.primitives.contended.hire.Given as goal

-- the passes that were made so far are idle
abbrev pub invariant-loop : goal.invariant-loop
invariant-loop l = IsIdle l.semaphore l.pass × All (IsIdle l.semaphore) l.passes.items
