use Rattle.std.proofs.Common.{[], ◌∷◌, ap, sym, ◌∙◌}
use Rattle.cqs_rule_laws.specs.declared.config.Place.{Place}
use Rattle.cqs_test_threads.proofs.pools.waiting.look_on.Goals as goal

pub loop-preserved : goal.loop-preserved
loop-preserved c =
    let waits = c.loop.invariant.waits.0 in
    let leaves = rw c.in-Pending.is at c.poll.ensures.leaves in
    record {
      waits = (
        record {
          belongs = c.poll.ensures.belongs;
          ready = c.poll.ensures.ready;
          elements_are = leaves.2.elements_are ∙ waits.elements_are;
          waits_are = leaves.2.waits_are ∙ (waits.waits_are ∙ ap (λ (p : Place). p.index ∷ []) (sym leaves.0));
        },
        leaves.1,
      );
    }
