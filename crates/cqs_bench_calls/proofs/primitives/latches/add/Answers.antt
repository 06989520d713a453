use Rattle.std.proofs.Common.{All, subst, sym}
use Rattle.std.proofs.lemmas.List.Elements.{All-push}
use Rattle.std.specs.Arc.{arc_value}
use Rattle.cqs_bench_calls.specs.Idle.{IsIdleAtLatch}
use Rattle.cqs_bench_calls.proofs.primitives.latches.add.Goals as goal

pub returns : goal.returns
returns c =
    record {
      idle = subst (All (λ seat. IsIdleAtLatch (arc_value seat.0) seat.1)) (sym c.in_ok-push.ensures.items)
          (All-push (λ seat. IsIdleAtLatch (arc_value seat.0) seat.1) c.args.seats.now.items c.args.seat
          c.requires.idle c.requires.seat);
    }
