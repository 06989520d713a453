use Rattle.cqs_sync_semaphore.specs.Callers.{IsAtRest}
use Rattle.cqs_bench_sync.proofs.synchronous.served_rounds.Given as goal

-- between two rounds the pass holds the permit
abbrev pub invariant-loop : goal.invariant-loop
invariant-loop l = record { rest : IsAtRest l.semaphore 1 l.pass }
