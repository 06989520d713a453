use Rattle.std.proofs.Common.{All}
use Rattle.std.specs.Arc.{arc_value}
use Rattle.std.specs.Vec.Iter.{into_iter_items}
use Rattle.cqs_bench_calls.specs.Idle.{IsIdleAtBarrier}
use Rattle.cqs_bench_calls.proofs.primitives.barriers.rounds.Given as goal

-- the passes of the rounds that are left are idle
abbrev pub invariant-loop-barrier : goal.invariant-loop-barrier
invariant-loop-barrier g l =
    All (λ seat. IsIdleAtBarrier (arc_value seat.0) seat.1) (into_iter_items l.barrier-iterator)
