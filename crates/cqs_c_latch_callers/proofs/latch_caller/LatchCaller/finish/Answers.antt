use Rattle.std.proofs.Common.{subst, sym, ◌∙◌, ap, inr}
use Rattle.cqs_rule.specs.Passes.{pass_view}
use Rattle.cqs_c_latch_callers.specs.LatchCallers.{OwesJust}
use Rattle.cqs_c_latch_callers.proofs.LatchKept.{finished-waits}
use Rattle.cqs_c_callers.proofs.TokenSteps.{the_wait, tokens_stay}
use Rattle.cqs_c_callers.proofs.Every.{every_same}
use Rattle.cqs_c_callers.specs.declared.answers.Answer.TheVariants as answer
use Rattle.cqs_c_latch_callers.specs.LatchTold.{told_finished}
use Rattle.cqs_c_latch_callers.proofs.latch_caller.LatchCaller.finish.Goals as goal

pub returns-in-Ok-clause-stands : goal.returns-in-Ok-clause-stands
returns-in-Ok-clause-stands c = record {
  belongs = c.finish.ensures.belongs;
  owes = subst (OwesJust (pass_view c.finish.new.pass).facts) (sym c.take.ensures.after) c.in-Ok.ensures.ready;
  waits = tokens_stay the_wait _ _ _ c.finish.ensures.keeps c.requires.stands.waits;
  every = every_same _ _ _ (finished-waits _ _ _ _ c.finish.ensures.finished) c.requires.stands.every;
}

pub returns-in-Err-clause-stands : goal.returns-in-Err-clause-stands
returns-in-Err-clause-stands c = record {
  belongs = c.finish.ensures.belongs;
  owes = c.in-Err.ensures.owes;
  waits = tokens_stay the_wait _ _ _ c.finish.ensures.keeps c.requires.stands.waits;
  every = every_same _ _ _ (finished-waits _ _ _ _ c.finish.ensures.finished) c.requires.stands.every;
}

pub returns-in-Ok-clause-answered : goal.returns-in-Ok-clause-answered
returns-in-Ok-clause-answered c =
    inr (record {
      owed = c.in-Some.owed;
      owes = subst (OwesJust (pass_view c.args.self.now.pass).facts) (sym c.take.ensures.value ∙ c.in-Some.is)
          c.requires.stands.owes;
      given = c.finish.result;
      told = ap told_finished (sym c.in-Ok.is);
      finished = c.finish.ensures.finished;
    })

pub returns-in-Err-clause-answered : goal.returns-in-Err-clause-answered
returns-in-Err-clause-answered c =
    inr (record {
      owed = c.in-Some.owed;
      owes = subst (OwesJust (pass_view c.args.self.now.pass).facts) (sym c.take.ensures.value ∙ c.in-Some.is)
          c.requires.stands.owes;
      given = c.finish.result;
      told = ap answer.Under c.reached-reached.ensures ∙ ap told_finished (sym c.in-Err.is);
      finished = c.finish.ensures.finished;
    })
