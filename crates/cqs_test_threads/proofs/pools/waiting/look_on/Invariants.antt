use Rattle.cqs_test_threads.specs.Workers.{IsWaiting}
use Rattle.cqs_test_threads.proofs.pools.waiting.look_on.Given as goal

-- between two looks the wait goes on
abbrev pub invariant-loop : goal.invariant-loop
invariant-loop l = record { waits : IsWaiting l.pool l.wait l.pass }
