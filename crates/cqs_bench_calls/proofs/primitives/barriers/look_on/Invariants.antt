use Rattle.cqs_bench_calls.specs.Idle.{WaitsAtBarrier}
use Rattle.cqs_bench_calls.proofs.primitives.barriers.look_on.Given as goal

-- between two looks the wait goes on
abbrev pub invariant-loop : goal.invariant-loop
invariant-loop l = WaitsAtBarrier l.barrier l.wait l.pass
