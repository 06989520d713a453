use Rattle.std.proofs.Common.{subst, sym, ◌∙◌, ap, inr}
use Rattle.cqs_rule_laws.specs.declared.view.Facts.{Facts}
use Rattle.cqs_c_latch_callers.specs.LatchCallers.{OwesJust}
use Rattle.cqs_c_callers.proofs.TokenSteps.{the_wait, tokens_stay}
use Rattle.cqs_c_callers.proofs.Every.{every_same}
use Rattle.cqs_c_callers.specs.declared.answers.Answer.TheVariants.{Sole}
use Rattle.cqs_c_latch_callers.proofs.latch_caller.LatchCaller.sole.Goals as goal

pub returns-clause-stands : goal.returns-clause-stands
returns-clause-stands c = record {
  belongs = c.sole.ensures.belongs;
  owes = subst (λ (f : Facts). OwesJust f c.args.self.now.owed) (sym c.sole.ensures.looked.facts_are)
      c.requires.stands.owes;
  waits = tokens_stay the_wait _ _ _ c.sole.ensures.keeps c.requires.stands.waits;
  every = every_same _ _ _ (ap (λ (f : Facts). f.waits) c.sole.ensures.looked.facts_are) c.requires.stands.every;
}

pub returns-clause-answered : goal.returns-clause-answered
returns-clause-answered c = inr (record {
  told = ap Sole c.sole.ensures.alone;
  looked = c.sole.ensures.looked;
  others = λ alone. c.sole.ensures.others (c.sole.ensures.alone ∙ alone);
})
