use Rattle.std.proofs.Common.{◌∙◌, ap, subst, sym, Ok, inr, Err}
use Rattle.cqs_latch.specs.Answers.{HasWaited}
use Rattle.cqs_rule_laws.specs.declared.config.AcquireError.TheVariants.{Worn, Crowded}
use Rattle.cqs_rule.specs.Passes.{pass_view}
use Rattle.cqs_rule.specs.Waits.{place_of}
use Rattle.cqs_c_callers.specs.Tokens.{HasTokens}
use Rattle.cqs_c_latch_callers.proofs.LatchKept.{owes-none, passed-waits, refused-waits}
use Rattle.cqs_c_callers.proofs.TokenSteps.{the_wait, tokens_stay, tokens_more, new_number}
use Rattle.cqs_c_callers.proofs.Every.{every_same, every_more}
use Rattle.cqs_c_callers.specs.declared.answers.Answer.TheVariants as answer
use Rattle.cqs_c_latch_callers.specs.LatchTold.{told_waited}
use Rattle.cqs_c_latch_callers.proofs.latch_caller.LatchCaller.wait.Goals as goal

pub returns-in-Ok-Passed-clause-stands : goal.returns-in-Ok-Passed-clause-stands
returns-in-Ok-Passed-clause-stands c = record {
  belongs = c.wait.ensures.belongs;
  owes = owes-none _ _ c.if-is_some.ensures c.wait.ensures.ready;
  waits = tokens_stay the_wait _ _ _ c.wait.ensures.keeps c.requires.stands.waits;
  every = every_same _ _ _
      (passed-waits (pass_view c.args.self.now.pass) (pass_view c.wait.new.pass)
      (subst (λ answer. HasWaited (pass_view c.args.self.now.pass) answer (pass_view c.wait.new.pass))
      (c.in-Ok-Passed.is ∙ ap Ok c.in-Ok-Passed.field-0-is) c.wait.ensures.waited))
      c.requires.stands.every;
}

pub returns-in-Ok-Later-clause-stands : goal.returns-in-Ok-Later-clause-stands
returns-in-Ok-Later-clause-stands c =
    let v = pass_view c.args.self.now.pass in
    let w = pass_view c.wait.new.pass in
    let wait = c.in-Ok-Later.wait in
    let told = subst (λ answer. HasWaited v answer w) (c.in-Ok-Later.is ∙ ap Ok c.in-Ok-Later.field-0-is)
    c.wait.ensures.waited in
    let old = c.requires.stands.waits in
    let others = new_number the_wait v w (place_of wait).index _ c.wait.ensures.belongs.live.inside
    told.2.4.waits_are old in
    record {
      belongs = c.wait.ensures.belongs;
      owes = owes-none _ _ c.if-is_some.ensures c.wait.ensures.ready;
      waits = subst (HasTokens the_wait w) (sym c.push_reserved.ensures.items)
          (tokens_more the_wait w _ wait told.2.3 others (tokens_stay the_wait v w _ c.wait.ensures.keeps old));
      every = every_more _ _ _ _ wait _ c.push_reserved.ensures.items told.2.4.waits_are c.requires.stands.every;
    }

pub returns-in-Err-Worn-clause-stands : goal.returns-in-Err-Worn-clause-stands
returns-in-Err-Worn-clause-stands c = record {
  belongs = c.wait.ensures.belongs;
  owes = owes-none _ _ c.if-is_some.ensures c.wait.ensures.ready;
  waits = tokens_stay the_wait _ _ _ c.wait.ensures.keeps c.requires.stands.waits;
  every = every_same _ _ _
      (refused-waits (pass_view c.args.self.now.pass) (pass_view c.wait.new.pass) Worn
      (subst (λ answer. HasWaited (pass_view c.args.self.now.pass) answer (pass_view c.wait.new.pass))
      (c.in-Err-Worn.is ∙ ap Err c.in-Err-Worn.field-0-is)
      c.wait.ensures.waited))
      c.requires.stands.every;
}

pub returns-in-Err-Crowded-clause-stands : goal.returns-in-Err-Crowded-clause-stands
returns-in-Err-Crowded-clause-stands c = record {
  belongs = c.wait.ensures.belongs;
  owes = owes-none _ _ c.if-is_some.ensures c.wait.ensures.ready;
  waits = tokens_stay the_wait _ _ _ c.wait.ensures.keeps c.requires.stands.waits;
  every = every_same _ _ _
      (refused-waits (pass_view c.args.self.now.pass) (pass_view c.wait.new.pass) Crowded
      (subst (λ answer. HasWaited (pass_view c.args.self.now.pass) answer (pass_view c.wait.new.pass))
      (c.in-Err-Crowded.is ∙ ap Err c.in-Err-Crowded.field-0-is)
      c.wait.ensures.waited))
      c.requires.stands.every;
}

pub returns-in-Ok-Passed-clause-answered : goal.returns-in-Ok-Passed-clause-answered
returns-in-Ok-Passed-clause-answered c =
    inr (record {
      given = c.wait.result;
      told = ap told_waited (sym (c.in-Ok-Passed.is ∙ ap Ok c.in-Ok-Passed.field-0-is));
      waited = c.wait.ensures.waited;
      crowded = c.wait.ensures.crowded;
    })

pub returns-in-Ok-Later-clause-answered : goal.returns-in-Ok-Later-clause-answered
returns-in-Ok-Later-clause-answered c =
    inr (record {
      given = c.wait.result;
      told = ap answer.Later c.number-number.ensures
          ∙ ap told_waited (sym (c.in-Ok-Later.is ∙ ap Ok c.in-Ok-Later.field-0-is));
      waited = c.wait.ensures.waited;
      crowded = c.wait.ensures.crowded;
    })

pub returns-in-Err-Worn-clause-answered : goal.returns-in-Err-Worn-clause-answered
returns-in-Err-Worn-clause-answered c =
    inr (record {
      given = c.wait.result;
      told = ap told_waited (sym (c.in-Err-Worn.is ∙ ap Err c.in-Err-Worn.field-0-is));
      waited = c.wait.ensures.waited;
      crowded = c.wait.ensures.crowded;
    })

pub returns-in-Err-Crowded-clause-answered : goal.returns-in-Err-Crowded-clause-answered
returns-in-Err-Crowded-clause-answered c =
    inr (record {
      given = c.wait.result;
      told = ap told_waited (sym (c.in-Err-Crowded.is ∙ ap Err c.in-Err-Crowded.field-0-is));
      waited = c.wait.ensures.waited;
      crowded = c.wait.ensures.crowded;
    })
