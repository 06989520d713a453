use Rattle.std.proofs.Common.{subst, ◌∙◌, ap, sym, inr, Ok}
use Rattle.cqs_latch.specs.CountAnswers.{IsReadyAfter}
use Rattle.cqs_rule.specs.Passes.{pass_view}
use Rattle.cqs_c_latch_callers.proofs.LatchKept.{owes-none, counted-waits}
use Rattle.cqs_c_callers.proofs.TokenSteps.{the_wait, tokens_stay}
use Rattle.cqs_c_callers.proofs.Every.{every_same}
use Rattle.cqs_c_callers.specs.declared.answers.Answer.TheVariants as answer
use Rattle.cqs_c_latch_callers.specs.LatchTold.{told_down}
use Rattle.cqs_c_latch_callers.proofs.latch_caller.LatchCaller.count_down.Goals as goal

pub returns-in-Ok-Left-clause-stands : goal.returns-in-Ok-Left-clause-stands
returns-in-Ok-Left-clause-stands c = record {
  belongs = c.count_down.ensures.belongs;
  owes = owes-none _ _ c.if-is_some.ensures
      (subst (λ down. IsReadyAfter down (pass_view c.count_down.new.pass).facts) c.in-Ok-Left.field-0-is
      c.in-Ok-Left.ensures.ready);
  waits = tokens_stay the_wait _ _ _ c.count_down.ensures.keeps c.requires.stands.waits;
  every = every_same _ _ _ (counted-waits _ _ _ c.in-Ok-Left.ensures.counted) c.requires.stands.every;
}

pub returns-in-Ok-Last-clause-stands : goal.returns-in-Ok-Last-clause-stands
returns-in-Ok-Last-clause-stands c = record {
  belongs = c.count_down.ensures.belongs;
  owes = owes-none _ _ c.if-is_some.ensures
      (subst (λ down. IsReadyAfter down (pass_view c.count_down.new.pass).facts) c.in-Ok-Last.field-0-is
      c.in-Ok-Last.ensures.ready);
  waits = tokens_stay the_wait _ _ _ c.count_down.ensures.keeps c.requires.stands.waits;
  every = every_same _ _ _ (counted-waits _ _ _ c.in-Ok-Last.ensures.counted) c.requires.stands.every;
}

pub returns-in-Ok-LastOwing-clause-stands : goal.returns-in-Ok-LastOwing-clause-stands
returns-in-Ok-LastOwing-clause-stands c = record {
  belongs = c.count_down.ensures.belongs;
  owes = subst (λ down. IsReadyAfter down (pass_view c.count_down.new.pass).facts) c.in-Ok-LastOwing.field-0-is
      c.in-Ok-LastOwing.ensures.ready;
  waits = tokens_stay the_wait _ _ _ c.count_down.ensures.keeps c.requires.stands.waits;
  every = every_same _ _ _ (counted-waits _ _ _ c.in-Ok-LastOwing.ensures.counted) c.requires.stands.every;
}

pub returns-in-Ok-Already-clause-stands : goal.returns-in-Ok-Already-clause-stands
returns-in-Ok-Already-clause-stands c = record {
  belongs = c.count_down.ensures.belongs;
  owes = owes-none _ _ c.if-is_some.ensures
      (subst (λ down. IsReadyAfter down (pass_view c.count_down.new.pass).facts) c.in-Ok-Already.field-0-is
      c.in-Ok-Already.ensures.ready);
  waits = tokens_stay the_wait _ _ _ c.count_down.ensures.keeps c.requires.stands.waits;
  every = every_same _ _ _ (counted-waits _ _ _ c.in-Ok-Already.ensures.counted) c.requires.stands.every;
}

pub returns-in-Err-clause-stands : goal.returns-in-Err-clause-stands
returns-in-Err-clause-stands c = record {
  belongs = c.count_down.ensures.belongs;
  owes = owes-none _ _ c.if-is_some.ensures c.in-Err.ensures.ready_again;
  waits = tokens_stay the_wait _ _ _ c.count_down.ensures.keeps c.requires.stands.waits;
  every = every_same _ _ _ c.in-Err.ensures.crowded.rests.waits_are c.requires.stands.every;
}

pub returns-in-Ok-Left-clause-answered : goal.returns-in-Ok-Left-clause-answered
returns-in-Ok-Left-clause-answered c =
    inr (record {
      given = c.count_down.result;
      told = ap told_down (sym (c.in-Ok-Left.is ∙ ap Ok c.in-Ok-Left.field-0-is));
      crowded = c.count_down.ensures.crowded;
      counted = c.count_down.ensures.counted;
    })

pub returns-in-Ok-Last-clause-answered : goal.returns-in-Ok-Last-clause-answered
returns-in-Ok-Last-clause-answered c =
    inr (record {
      given = c.count_down.result;
      told = ap told_down (sym (c.in-Ok-Last.is ∙ ap Ok c.in-Ok-Last.field-0-is));
      crowded = c.count_down.ensures.crowded;
      counted = c.count_down.ensures.counted;
    })

pub returns-in-Ok-LastOwing-clause-answered : goal.returns-in-Ok-LastOwing-clause-answered
returns-in-Ok-LastOwing-clause-answered c =
    inr (record {
      given = c.count_down.result;
      told = ap answer.LastOwing c.reached-reached.ensures
          ∙ ap told_down (sym (c.in-Ok-LastOwing.is ∙ ap Ok c.in-Ok-LastOwing.field-0-is));
      crowded = c.count_down.ensures.crowded;
      counted = c.count_down.ensures.counted;
    })

pub returns-in-Ok-Already-clause-answered : goal.returns-in-Ok-Already-clause-answered
returns-in-Ok-Already-clause-answered c =
    inr (record {
      given = c.count_down.result;
      told = ap told_down (sym (c.in-Ok-Already.is ∙ ap Ok c.in-Ok-Already.field-0-is));
      crowded = c.count_down.ensures.crowded;
      counted = c.count_down.ensures.counted;
    })

pub returns-in-Err-clause-answered : goal.returns-in-Err-clause-answered
returns-in-Err-clause-answered c =
    inr (record {
      given = c.count_down.result;
      told = ap told_down (sym c.in-Err.is);
      crowded = c.count_down.ensures.crowded;
      counted = c.count_down.ensures.counted;
    })
