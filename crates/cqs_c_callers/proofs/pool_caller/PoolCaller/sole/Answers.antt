use Rattle.std.proofs.Common.{ap, subst, sym, ◌∙◌, inr}
use Rattle.cqs_rule_laws.specs.declared.view.Facts.{Facts}
use Rattle.cqs_pool.specs.Pool.{pool_object}
use Rattle.cqs_rule_laws.proofs.Places.{goes-looked}
use Rattle.cqs_c_callers.specs.PoolCallers.{OwesJust}
use Rattle.cqs_c_callers.proofs.PoolKept.{elements_same}
use Rattle.cqs_c_callers.proofs.TokenSteps.{the_wait, same_waits}
use Rattle.cqs_c_callers.proofs.Every.{every_same}
use Rattle.cqs_c_callers.specs.declared.answers.Answer.TheVariants.{Sole}
use Rattle.cqs_c_callers.proofs.pool_caller.PoolCaller.sole.Goals as goal

pub returns-clause-stands : goal.returns-clause-stands
returns-clause-stands c =
    let same = c.sole.ensures.looked.facts_are in
    record {
      belongs = c.sole.ensures.belongs;
      owes = subst (λ (f : Facts). OwesJust f c.args.self.now.under) (sym same) c.requires.stands.owes;
      waits = same_waits the_wait _ _ _
          (goes-looked pool_object _ _ _ _ c.sole.ensures.looked.saw, ap (λ (f : Facts). f.waits) same)
          c.requires.stands.waits;
      every = every_same _ _ _ (ap (λ (f : Facts). f.waits) same) c.requires.stands.every;
      elements = elements_same _ _ _ (ap (λ (f : Facts). f.has.slots) same) c.requires.stands.elements;
    }

pub returns-clause-answered : goal.returns-clause-answered
returns-clause-answered c = inr (record {
  told = ap Sole c.sole.ensures.alone;
  looked = c.sole.ensures.looked;
  others = λ alone. c.sole.ensures.others (c.sole.ensures.alone ∙ alone);
})
