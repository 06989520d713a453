use Rattle.cqs_semaphore.specs.Callers.{IsAtRest}
use Rattle.cqs_bench_sync.proofs.asynchronous.free_rounds.Given as goal

-- between two rounds the pass holds nothing
abbrev pub invariant-loop : goal.invariant-loop
invariant-loop l = record { rest : IsAtRest l.semaphore 0 l.pass }
