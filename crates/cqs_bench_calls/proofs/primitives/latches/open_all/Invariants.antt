use Rattle.std.proofs.Common.{All}
use Rattle.std.specs.Arc.{arc_value}
use Rattle.cqs_bench_calls.specs.Idle.{IsIdleAtLatch}
use Rattle.cqs_bench_calls.proofs.primitives.latches.open_all.Given as goal

-- the passes that were made so far are idle
abbrev pub invariant-loop : goal.invariant-loop
invariant-loop l = record {
  first : All (λ seat. IsIdleAtLatch (arc_value seat.0) seat.1) l.first.items;
  second : All (λ seat. IsIdleAtLatch (arc_value seat.0) seat.1) l.second.items;
  third : All (λ seat. IsIdleAtLatch (arc_value seat.0) seat.1) l.third.items;
  fourth : All (λ seat. IsIdleAtLatch (arc_value seat.0) seat.1) l.fourth.items;
}
