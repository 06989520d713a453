use Rattle.std.proofs.Common.{arith}
use Rattle.std.proofs.lemmas.List.{length_push}
use Rattle.cqs_floor_shared_queue.proofs.FloorCounts.{opened-push}
use Rattle.cqs_floor_shared_queue.proofs.floors.opening.open_shares.Goals as goal

pub loop-at-preserved : goal.loop-at-preserved
loop-at-preserved g c =
    let long = c.loop-at.invariant.long in
    record {
      long = rw c.in_ok-push.ensures.items
          (omega (arith, length_push c.loop-at.shares.items c.in_ok-open.field-0, long));
      opened = rw c.in_ok-push.ensures.items
          (opened-push _ _ _ _ _ c.index-resources-at.result _ (omega (arith, long, c.loop-at-test.true))
          (rw long c.index-resources-at.is) (rw long c.in_ok-open.ensures) c.loop-at.invariant.opened);
    }
