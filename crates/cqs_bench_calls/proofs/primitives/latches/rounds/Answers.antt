use Rattle.std.proofs.Common.{◌≡◌, All, rules, arith, subst, sym}
use Rattle.std.proofs.lemmas.List.Elements.{All-tail}
use Rattle.std.specs.Arc.{arc_value}
use Rattle.std.specs.Vec.Iter.{into_iter_items}
use Rattle.cqs_bench_calls.specs.Idle.{IsIdleAtLatch}
use Rattle.cqs_bench_calls.proofs.primitives.latches.rounds.Goals as goal

pub loop-latch-init : goal.loop-latch-init
loop-latch-init g c =
    let all : into_iter_items c.into_iter-latch-iterator.result ≡ c.args.seats.items = search rules in
    subst (All (λ seat. IsIdleAtLatch (arc_value seat.0) seat.1)) (sym all) c.requires.idle

-- the pass that comes next is one of them
pub round-requires : goal.round-requires
round-requires g c =
    rw c.deref.ensures (record {
      idle = subst (All (λ seat. IsIdleAtLatch (arc_value seat.0) seat.1)) c.in-Some.ensures.steps.0
          c.loop-latch.invariant 0 (c.in-Some.latch, c.in-Some.pass) (omega arith);
    })

pub loop-latch-preserved : goal.loop-latch-preserved
loop-latch-preserved g c =
    let left = subst (All (λ seat. IsIdleAtLatch (arc_value seat.0) seat.1)) c.in-Some.ensures.steps.0
    c.loop-latch.invariant in
    All-tail (λ seat. IsIdleAtLatch (arc_value seat.0) seat.1) (c.in-Some.latch, c.in-Some.pass) _ left
