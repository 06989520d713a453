use Rattle.std.proofs.Common.{All}
use Rattle.std.proofs.lemmas.List.Elements.{All-push}
use Rattle.cqs_sync_semaphore.specs.Callers.{IsAtRest}
use Rattle.cqs_test_sync.proofs.crew.hire.Goals as goal

-- one more, which holds nothing either
pub loop-preserved : goal.loop-preserved
loop-preserved c =
    let free = IsAtRest c.args.semaphore.now 0 in
    record {
      rest = c.hire_one.ensures.rest;
      hired = rw c.in_ok-push.ensures.items
          (All-push free c.loop.passes.items c.in_ok-hire_one.field-0 c.loop.invariant.hired
          c.in_ok-hire_one.ensures.hired);
    }
