use Rattle.std.proofs.Common.{◌<◌, ap, subst, sym}
use Rattle.cqs_rule_laws.specs.declared.view.Facts.{Facts}
use Rattle.cqs_test_sleep.proofs.sleeper.give_back.Goals as goal

-- a release that was refused changed nothing of what the pass holds
pub loop-preserved : goal.loop-preserved
loop-preserved g c = record {
  idle = record { belongs = c.release.ensures.belongs; ready = c.in-Err.ensures.ready };
  holds = subst (λ n. 0 < n) (sym (ap (λ (f : Facts). f.has.held) c.in-Err.ensures.crowded.facts_are))
      c.loop.invariant.holds;
}
