use Rattle.std.proofs.Common.{◌∙◌, ap, subst, sym, inr}
use Rattle.cqs_latch.specs.LeftAnswers.{IsReadyLeft}
use Rattle.cqs_rule.specs.Passes.{pass_view}
use Rattle.cqs_c_callers.specs.Tokens.{wait_index}
use Rattle.cqs_c_latch_callers.proofs.LatchKept.{owes-none, left-waits}
use Rattle.cqs_c_callers.proofs.TokenSteps.{the_wait, tokens_others, taken_token, taken_none}
use Rattle.cqs_c_callers.proofs.Every.{every_over}
use Rattle.cqs_c_callers.specs.declared.answers.Answer.TheVariants as answer
use Rattle.cqs_c_latch_callers.specs.LatchTold.{told_left}
use Rattle.cqs_c_latch_callers.proofs.latch_caller.LatchCaller.cancel.Goals as goal

pub cancel-requires-clause-has : goal.cancel-requires-clause-has
cancel-requires-clause-has c = λ κs.
    taken_token the_wait _ _ _ _ _ c.in-Some.ensures.taken c.requires.stands.waits

pub returns-in-Gone-clause-stands : goal.returns-in-Gone-clause-stands
returns-in-Gone-clause-stands c =
    let taken = c.in-Some.ensures.taken in
    let old = c.requires.stands.waits in
    let w = pass_view c.cancel.new.pass in
    record {
      belongs = c.cancel.ensures.belongs;
      owes = owes-none _ _ c.if-is_some.ensures
          (subst (λ answer. IsReadyLeft answer w.facts) c.in-Gone.is c.cancel.ensures.ready);
      waits = tokens_others the_wait _ _ _ _ _ _ taken c.cancel.ensures.keeps old;
      every = every_over the_wait _ _ _ _ _ _ taken c.requires.stands.belongs.live.inside old
          (left-waits (pass_view c.args.self.now.pass) w _ _ _ c.cancel.ensures.left) c.requires.stands.every;
    }

pub returns-in-GoneOwing-clause-stands : goal.returns-in-GoneOwing-clause-stands
returns-in-GoneOwing-clause-stands c =
    let taken = c.in-Some.ensures.taken in
    let old = c.requires.stands.waits in
    let w = pass_view c.cancel.new.pass in
    record {
      belongs = c.cancel.ensures.belongs;
      owes = subst (λ answer. IsReadyLeft answer w.facts) c.in-GoneOwing.is c.cancel.ensures.ready;
      waits = tokens_others the_wait _ _ _ _ _ _ taken c.cancel.ensures.keeps old;
      every = every_over the_wait _ _ _ _ _ _ taken c.requires.stands.belongs.live.inside old
          (left-waits (pass_view c.args.self.now.pass) w _ _ _ c.cancel.ensures.left) c.requires.stands.every;
    }

pub returns-in-TooLate-clause-stands : goal.returns-in-TooLate-clause-stands
returns-in-TooLate-clause-stands c =
    let taken = c.in-Some.ensures.taken in
    let old = c.requires.stands.waits in
    let w = pass_view c.cancel.new.pass in
    record {
      belongs = c.cancel.ensures.belongs;
      owes = owes-none _ _ c.if-is_some.ensures
          (subst (λ answer. IsReadyLeft answer w.facts) c.in-TooLate.is c.cancel.ensures.ready);
      waits = tokens_others the_wait _ _ _ _ _ _ taken c.cancel.ensures.keeps old;
      every = every_over the_wait _ _ _ _ _ _ taken c.requires.stands.belongs.live.inside old
          (left-waits (pass_view c.args.self.now.pass) w _ _ _ c.cancel.ensures.left) c.requires.stands.every;
    }

pub returns-in-Gone-clause-no_wait : goal.returns-in-Gone-clause-no_wait
returns-in-Gone-clause-no_wait c free none =
    absurd (taken_none wait_index _ _ _ _ c.in-Some.ensures.taken none)

pub returns-in-GoneOwing-clause-no_wait : goal.returns-in-GoneOwing-clause-no_wait
returns-in-GoneOwing-clause-no_wait c free none =
    absurd (taken_none wait_index _ _ _ _ c.in-Some.ensures.taken none)

pub returns-in-TooLate-clause-no_wait : goal.returns-in-TooLate-clause-no_wait
returns-in-TooLate-clause-no_wait c free none =
    absurd (taken_none wait_index _ _ _ _ c.in-Some.ensures.taken none)

pub returns-in-Gone-clause-answered : goal.returns-in-Gone-clause-answered
returns-in-Gone-clause-answered c =
    inr (record {
      wait = c.in-Some.wait;
      has = taken_token the_wait _ _ _ _ _ c.in-Some.ensures.taken c.requires.stands.waits;
      number_is = c.in-Some.ensures.taken.number_is;
      given = c.cancel.result;
      told = ap told_left (sym c.in-Gone.is);
      left = c.cancel.ensures.left;
    })

pub returns-in-GoneOwing-clause-answered : goal.returns-in-GoneOwing-clause-answered
returns-in-GoneOwing-clause-answered c =
    inr (record {
      wait = c.in-Some.wait;
      has = taken_token the_wait _ _ _ _ _ c.in-Some.ensures.taken c.requires.stands.waits;
      number_is = c.in-Some.ensures.taken.number_is;
      given = c.cancel.result;
      told = ap answer.CancelledOwing c.reached-reached.ensures ∙ ap told_left (sym c.in-GoneOwing.is);
      left = c.cancel.ensures.left;
    })

pub returns-in-TooLate-clause-answered : goal.returns-in-TooLate-clause-answered
returns-in-TooLate-clause-answered c =
    inr (record {
      wait = c.in-Some.wait;
      has = taken_token the_wait _ _ _ _ _ c.in-Some.ensures.taken c.requires.stands.waits;
      number_is = c.in-Some.ensures.taken.number_is;
      given = c.cancel.result;
      told = ap told_left (sym c.in-TooLate.is);
      left = c.cancel.ensures.left;
    })
