use Rattle.std.proofs.Common.{◌≡◌, All, rules, arith, subst, sym}
use Rattle.std.proofs.lemmas.List.Elements.{All-tail}
use Rattle.std.specs.Arc.{arc_value}
use Rattle.std.specs.Vec.Iter.{into_iter_items}
use Rattle.cqs_bench_calls.specs.Idle.{IsIdleAtBarrier}
use Rattle.cqs_bench_calls.proofs.primitives.barriers.rounds.Goals as goal

pub loop-barrier-init : goal.loop-barrier-init
loop-barrier-init g c =
    let all : into_iter_items c.into_iter-barrier-iterator.result ≡ c.args.seats.items = search rules in
    subst (All (λ seat. IsIdleAtBarrier (arc_value seat.0) seat.1)) (sym all) c.requires.idle

-- the pass that comes next is one of them
pub round-requires : goal.round-requires
round-requires g c =
    rw c.deref.ensures (record {
      idle = subst (All (λ seat. IsIdleAtBarrier (arc_value seat.0) seat.1)) c.in-Some.ensures.steps.0
          c.loop-barrier.invariant 0 (c.in-Some.barrier, c.in-Some.pass) (omega arith);
    })

pub loop-barrier-preserved : goal.loop-barrier-preserved
loop-barrier-preserved g c =
    let left = subst (All (λ seat. IsIdleAtBarrier (arc_value seat.0) seat.1)) c.in-Some.ensures.steps.0
    c.loop-barrier.invariant in
    All-tail (λ seat. IsIdleAtBarrier (arc_value seat.0) seat.1) (c.in-Some.barrier, c.in-Some.pass) _ left
