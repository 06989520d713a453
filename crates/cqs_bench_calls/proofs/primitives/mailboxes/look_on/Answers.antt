use Rattle.cqs_bench_calls.proofs.primitives.mailboxes.look_on.Goals as goal

-- giving an envelope back closes no wait
pub poll-requires-clause-has : goal.poll-requires-clause-has
poll-requires-clause-has g c = c.give_one.ensures.waits c.loop.wait c.loop.invariant.waits.has

pub loop-preserved : goal.loop-preserved
loop-preserved g c =
    let polled = rw c.in-Pending.is at c.poll.ensures.polled in
    record {
      waits = record {
        rest = record { belongs = c.poll.ensures.belongs; ready = c.poll.ensures.ready };
        has = polled.1;
      };
    }
