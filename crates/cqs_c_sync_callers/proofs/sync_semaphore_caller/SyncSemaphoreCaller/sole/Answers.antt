use Rattle.std.proofs.Common.{◌∙◌, ap, subst, sym, inr}
use Rattle.cqs_c_callers.specs.declared.answers.Answer.TheVariants.{Sole}
use Rattle.cqs_rule_laws.specs.declared.view.Facts.{Facts}
use Rattle.cqs_c_sync_callers.specs.Callers.{OwesJust}
use Rattle.cqs_semaphore_client.specs.Semaphore.{semaphore_object}
use Rattle.cqs_rule_laws.proofs.Places.{goes-looked}
use Rattle.cqs_c_callers.proofs.SemaphoreKept.{kept-same}
use Rattle.cqs_c_callers.proofs.Every.{every_same}
use Rattle.cqs_c_sync_callers.proofs.sync_semaphore_caller.SyncSemaphoreCaller.sole.Goals as goal

pub returns-clause-stands : goal.returns-clause-stands
returns-clause-stands c = record {
  belongs = c.sole.ensures.belongs;
  owes = subst (λ (f : Facts). OwesJust f c.args.self.now.under) (sym c.sole.ensures.looked.facts_are)
      c.requires.stands.owes;
  waits = kept-same _ _ _ (goes-looked semaphore_object _ _ _ _ c.sole.ensures.looked.saw)
      (ap (λ (f : Facts). f.waits) c.sole.ensures.looked.facts_are) c.requires.stands.waits;
  apart = c.requires.stands.apart;
  every = every_same _ _ _ (ap (λ (f : Facts). f.waits) c.sole.ensures.looked.facts_are) c.requires.stands.every;
}

pub returns-clause-answered : goal.returns-clause-answered
returns-clause-answered c = inr (record {
  told = ap Sole c.sole.ensures.alone;
  looked = c.sole.ensures.looked;
  others = λ alone. c.sole.ensures.others (c.sole.ensures.alone ∙ alone);
})
