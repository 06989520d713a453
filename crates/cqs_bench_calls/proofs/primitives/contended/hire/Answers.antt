use Rattle.std.proofs.Common.{All, subst, sym}
use Rattle.std.proofs.lemmas.List.Elements.{All-push}
use Rattle.cqs_semaphore.specs.Callers.{IsIdle}
use Rattle.cqs_bench_calls.proofs.primitives.contended.hire.Goals as goal

-- one more, which is idle too
pub loop-preserved : goal.loop-preserved
loop-preserved c =
    let idle = IsIdle c.args.semaphore.now in (
      c.hire_one.ensures.idle,
      subst (All idle) (sym c.in_ok-push.ensures.items)
          (All-push idle c.loop.passes.items c.in_ok-hire_one.field-0 c.loop.invariant.1
          c.in_ok-hire_one.ensures.hired),
    )
