use Rattle.cqs_test_threads.specs.Rest.{IsWaiting}
use Rattle.cqs_test_threads.proofs.latches.worker.look_on.Given as goal

abbrev pub invariant-loop : goal.invariant-loop
invariant-loop g l = record {
  waits : IsWaiting l.latch l.wait l.pass;
}
