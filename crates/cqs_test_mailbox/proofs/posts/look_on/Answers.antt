use Rattle.cqs_test_mailbox.proofs.posts.look_on.Goals as goal

pub loop-preserved : goal.loop-preserved
loop-preserved c =
    let polled = rw c.in-Pending.is at c.poll.ensures.polled in
    record {
      waits = record {
        rest = record { belongs = c.poll.ensures.belongs; ready = c.poll.ensures.ready };
        has = polled.1;
      };
    }
