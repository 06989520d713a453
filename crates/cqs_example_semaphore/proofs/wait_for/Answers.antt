use Rattle.std.proofs.Common.{refl, ap, ◌∙◌}
use Rattle.cqs_rule_laws.specs.Lists.{without}
use Rattle.cqs_rule.specs.Waits.{place_of}
use Rattle.cqs_semaphore_crew.proofs.Ends.{without-one}
use Rattle.cqs_example_semaphore.proofs.wait_for.Goals as goal

-- the one wait was served
pub leave-requires-clause-rest : goal.leave-requires-clause-rest
leave-requires-clause-rest c =
    let k = (place_of c.loop.wait).index in
    let polled = rw c.in-Granted.is at c.poll.ensures.polled in record {
      belongs = c.poll.ensures.belongs;
      ready = c.poll.ensures.ready;
      held_is = refl;
      waits_are = polled.2.waits_are ∙ (ap (without k) c.loop.invariant.0.waits_are ∙ without-one k);
    }
