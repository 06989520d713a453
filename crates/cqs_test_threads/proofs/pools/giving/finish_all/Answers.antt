use Rattle.std.proofs.Common.{◌∙◌}
use Rattle.cqs_test_threads.proofs.pools.giving.finish_all.Goals as goal

pub loop-preserved : goal.loop-preserved
loop-preserved g c =
    let owing = c.loop.invariant.owing in
    let ends = rw c.in-Under.is at c.finish.ensures.ends in
    record {
      owing = record {
        belongs = c.finish.ensures.belongs;
        owes = ends.owes;
        further = ends.further;
        elements_are = ends.elements_are ∙ owing.elements_are;
        waits_are = ends.waits_are ∙ owing.waits_are;
      };
    }
