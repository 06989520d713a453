use Rattle.std.proofs.Common.{◌≡◌, ◌∙◌, [], ◌∷◌, subst, sym}
use Rattle.cqs_rule.specs.Passes.{pass_view}
use Rattle.cqs_pool_values.specs.Items.{number_of}
use Rattle.cqs_test_threads.proofs.Ends.{crowded-slots, crowded-waits}
use Rattle.cqs_test_threads.proofs.pools.giving.give_back.Goals as goal

-- a put that was refused changed nothing of what the pass has, and the item came back
pub loop-preserved : goal.loop-preserved
loop-preserved g c =
    let has = c.loop.invariant.has in
    let crowded = c.in-Err.ensures.crowded in
    record {
      has = record {
        belongs = c.put.ensures.belongs;
        ready = c.in-Err.ensures.ready;
        elements_are = subst (λ item. (pass_view c.put.new.pass).facts.has.slots ≡ number_of item ∷ [])
            (sym c.in-Err.ensures.back) (crowded-slots _ _ _ crowded ∙ has.elements_are);
        waits_are = crowded-waits _ _ _ crowded ∙ has.waits_are;
      };
    }
