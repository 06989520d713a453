use Rattle.std.proofs.Common.{All}
use Rattle.std.specs.Arc.{arc_value}
use Rattle.std.specs.Vec.Iter.{into_iter_items}
use Rattle.cqs_bench_calls.specs.Idle.{IsIdleAtLatch}
use Rattle.cqs_bench_calls.proofs.primitives.latches.rounds.Given as goal

-- the passes of the rounds that are left are idle
abbrev pub invariant-loop-latch : goal.invariant-loop-latch
invariant-loop-latch g l =
    All (λ seat. IsIdleAtLatch (arc_value seat.0) seat.1) (into_iter_items l.latch-iterator)
