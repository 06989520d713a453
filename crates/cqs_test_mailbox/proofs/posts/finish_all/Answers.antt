use Rattle.cqs_test_mailbox.proofs.posts.finish_all.Goals as goal

pub loop-preserved : goal.loop-preserved
loop-preserved g c =
    let ends = rw c.in-Under.is at c.post_finish.ensures.ends in
    record {
      owing = record {
        belongs = c.post_finish.ensures.belongs;
        owes = ends.owes;
        further = ends.further;
      };
    }
