use Rattle.std.proofs.Common.{ap, ◌∙◌, inr}
use Rattle.cqs_barrier.specs.Waits.{wait_in}
use Rattle.cqs_rule_laws.specs.declared.view.Facts.{Facts}
use Rattle.cqs_rule.specs.Passes.{pass_view}
use Rattle.cqs_barrier.specs.Barrier.{barrier_object}
use Rattle.cqs_rule_laws.proofs.Places.{goes-looked}
use Rattle.cqs_c_latch_callers.proofs.BarrierKept.{owes-same, every-stays}
use Rattle.cqs_c_callers.proofs.TokenSteps.{same_waits}
use Rattle.cqs_c_callers.specs.declared.answers.Answer.TheVariants.{Sole}
use Rattle.cqs_c_latch_callers.proofs.barrier_caller.BarrierCaller.sole.Goals as goal

pub returns-clause-stands : goal.returns-clause-stands
returns-clause-stands c =
    let v = pass_view c.args.self.now.pass in
    let w = pass_view c.sole.new.pass in
    let looked = c.sole.ensures.looked in
    record {
      belongs = c.sole.ensures.belongs;
      owes = owes-same v w _ (goes-looked barrier_object _ _ _ _ looked) looked.facts_are c.requires.stands.owes;
      waits = same_waits wait_in v w _
          (goes-looked barrier_object _ _ _ _ looked, ap (λ (f : Facts). f.waits) looked.facts_are)
          c.requires.stands.waits;
      apart = c.requires.stands.apart;
      every = every-stays _ _ _ _ (ap (λ (f : Facts). f.waits) looked.facts_are) c.requires.stands.every;
    }

pub returns-clause-answered : goal.returns-clause-answered
returns-clause-answered c = inr (record {
  told = ap Sole c.sole.ensures.alone;
  looked = c.sole.ensures.looked;
  others = λ alone. c.sole.ensures.others (c.sole.ensures.alone ∙ alone);
})
