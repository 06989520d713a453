use Rattle.std.proofs.Common.{arith}
use Rattle.std.proofs.lemmas.List.{length_push}
use Rattle.cqs_floor_alone.proofs.Opens.{opened-push}
use Rattle.cqs_floor_alone.proofs.opening.open_soles.Goals as goal

pub loop-at-preserved : goal.loop-at-preserved
loop-at-preserved g c =
    let long = c.loop-at.invariant.long in
    record {
      long = rw c.in_ok-push.ensures.items
          (omega (arith, length_push c.loop-at.soles.items c.in_ok-open.field-0, long));
      opened = rw c.in_ok-push.ensures.items
          (opened-push _ _ _ _ c.index-resources-at.result _ (omega (arith, long, c.loop-at-test.true))
          (rw long c.index-resources-at.is) (rw long c.in_ok-open.ensures) c.loop-at.invariant.opened);
    }
