use Rattle.std.proofs.Common.{sym, subst}
use Rattle.cqs_rule_laws.specs.declared.view.Facts.{Facts}
use Rattle.cqs_test_semaphore.specs.Callers.{OwesJust}
use Rattle.cqs_test_semaphore.proofs.Kept.{kept-looked}
use Rattle.cqs_test_semaphore.proofs.caller.Caller.sole.Goals as goal

pub returns : goal.returns
returns c = record {
  belongs = c.sole.ensures.belongs;
  owes = subst (λ (f : Facts). OwesJust f c.args.self.now.under) (sym c.sole.ensures.looked.facts_are) c.requires.owes;
  waits = kept-looked _ _ _ c.sole.ensures.looked c.requires.waits;
}
