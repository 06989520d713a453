use Rattle.std.proofs.Common.{length, refl}
use Rattle.std.proofs.Math.Nat.{mod-lt}
use Rattle.cqs_work.proofs.Posting.{ends-next}
use Rattle.cqs_work.proofs.plans.ends_of.Goals as goal

pub loop-place-preserved : goal.loop-place-preserved
loop-place-preserved c =
    rw c.in_ok-push.ensures.items
    (ends-next (λ own. own.items) c.args.jobs c.loop-place.place (length c.args.states.now) _ c.args.states.now
    c.index-states-worker.result c.as_slice-own.result.now c.index-own-place.result _ c.loop-place.ends.items
    c.loop-place.invariant c.loop-place-test.true c.requires.long refl refl
    (mod-lt c.loop-place.place c.requires.some) c.index-states-worker.is c.as_slice-own.ensures.value
    c.job_end-end.ensures)
