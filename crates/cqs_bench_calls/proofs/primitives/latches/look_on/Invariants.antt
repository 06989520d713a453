use Rattle.cqs_bench_calls.specs.Idle.{WaitsAtLatch}
use Rattle.cqs_bench_calls.proofs.primitives.latches.look_on.Given as goal

-- between two looks the wait goes on
abbrev pub invariant-loop : goal.invariant-loop
invariant-loop l = WaitsAtLatch l.latch l.wait l.pass
