use Rattle.std.proofs.Common.{◌∙◌, ap, subst, sym, inr}
use Rattle.cqs_pool.specs.declared.answers.PoolLeft.TheVariants.{Cancelled}
use Rattle.cqs_pool.specs.Alone.{CancelsNew}
use Rattle.cqs_pool.specs.Answers.{LeavesPass}
use Rattle.cqs_rule.specs.Passes.{pass_view}
use Rattle.cqs_rule_laws.proofs.Places.{goes-same}
use Rattle.cqs_c_callers.specs.PoolCallers.{HasElements}
use Rattle.cqs_c_callers.specs.Tokens.{wait_index}
use Rattle.cqs_c_callers.proofs.PoolKept.{owes-none, elements_same, elements_more}
use Rattle.cqs_c_callers.proofs.TokenSteps.{the_wait, taken_token, taken_none, one_less}
use Rattle.cqs_c_callers.proofs.Every.{every_over}
use Rattle.cqs_c_callers.specs.declared.answers.Answer.TheVariants as answer
use Rattle.cqs_c_callers.specs.PoolTold.{told_left}
use Rattle.cqs_c_callers.proofs.pool_caller.PoolCaller.cancel.Goals as goal

pub cancel-requires-clause-has : goal.cancel-requires-clause-has
cancel-requires-clause-has c = λ κs. taken_token the_wait _ _ _ _ _ c.in-Some.ensures.taken c.requires.stands.waits

pub returns-in-Cancelled-None-clause-stands : goal.returns-in-Cancelled-None-clause-stands
returns-in-Cancelled-None-clause-stands c =
    let v = pass_view c.args.self.now.pass in
    let w = pass_view c.cancel.new.pass in
    let wait = c.in-Some.wait in
    let answer = c.in-Cancelled-None.is ∙ ap Cancelled c.in-Cancelled-None.field-0-is in
    let left = subst (λ answer. LeavesPass (wait_index wait) v answer w) answer c.cancel.ensures.leaves in
    record {
      belongs = c.cancel.ensures.belongs;
      owes = owes-none _ _ c.if-is_some.ensures left.ready;
      waits = one_less the_wait v w _ _ _ wait c.in-Some.ensures.taken
          (goes-same _ _ c.cancel.ensures.cancelled.2.called.same, left.waits_are) c.requires.stands.waits;
      every = every_over the_wait v _ _ _ wait _ c.in-Some.ensures.taken c.requires.stands.belongs.live.inside
          c.requires.stands.waits left.waits_are c.requires.stands.every;
      elements = elements_same v.facts w.facts _ left.elements_are c.requires.stands.elements;
    }

pub returns-in-Cancelled-Some-clause-stands : goal.returns-in-Cancelled-Some-clause-stands
returns-in-Cancelled-Some-clause-stands c =
    let v = pass_view c.args.self.now.pass in
    let w = pass_view c.cancel.new.pass in
    let wait = c.in-Some.wait in
    let answer = c.in-Cancelled-Some.is ∙ ap Cancelled c.in-Cancelled-Some.field-0-is in
    let left = subst (λ answer. LeavesPass (wait_index wait) v answer w) answer c.cancel.ensures.leaves in
    record {
      belongs = c.cancel.ensures.belongs;
      owes = (left.0, left.1);
      waits = one_less the_wait v w _ _ _ wait c.in-Some.ensures.taken
          (goes-same _ _ c.cancel.ensures.cancelled.2.called.same, left.3) c.requires.stands.waits;
      every = every_over the_wait v _ _ _ wait _ c.in-Some.ensures.taken c.requires.stands.belongs.live.inside
          c.requires.stands.waits left.3 c.requires.stands.every;
      elements = elements_same v.facts w.facts _ left.2 c.requires.stands.elements;
    }

pub returns-in-TooLate-clause-stands : goal.returns-in-TooLate-clause-stands
returns-in-TooLate-clause-stands c =
    let v = pass_view c.args.self.now.pass in
    let w = pass_view c.cancel.new.pass in
    let wait = c.in-Some.wait in
    let left = subst (λ answer. LeavesPass (wait_index wait) v answer w) c.in-TooLate.is c.cancel.ensures.leaves in
    record {
      belongs = c.cancel.ensures.belongs;
      owes = owes-none _ _ c.if-is_some.ensures left.ready;
      waits = one_less the_wait v w _ _ _ wait c.in-Some.ensures.taken
          (goes-same _ _ c.cancel.ensures.cancelled.2.called.same, left.waits_are) c.requires.stands.waits;
      every = every_over the_wait v _ _ _ wait _ c.in-Some.ensures.taken c.requires.stands.belongs.live.inside
          c.requires.stands.waits left.waits_are c.requires.stands.every;
      elements = subst (HasElements w.facts) (sym c.push_reserved.ensures.items)
          (elements_more v.facts w.facts _ _ left.elements_are
          (subst (CancelsNew v) c.in-TooLate.is c.cancel.ensures.new) c.requires.stands.elements);
    }

pub returns-in-Cancelled-None-clause-no_wait : goal.returns-in-Cancelled-None-clause-no_wait
returns-in-Cancelled-None-clause-no_wait c free room none =
    absurd (taken_none wait_index _ _ _ _ c.in-Some.ensures.taken none)

pub returns-in-Cancelled-Some-clause-no_wait : goal.returns-in-Cancelled-Some-clause-no_wait
returns-in-Cancelled-Some-clause-no_wait c free room none =
    absurd (taken_none wait_index _ _ _ _ c.in-Some.ensures.taken none)

pub returns-in-TooLate-clause-no_wait : goal.returns-in-TooLate-clause-no_wait
returns-in-TooLate-clause-no_wait c free room none =
    absurd (taken_none wait_index _ _ _ _ c.in-Some.ensures.taken none)

pub returns-in-Cancelled-None-clause-answered : goal.returns-in-Cancelled-None-clause-answered
returns-in-Cancelled-None-clause-answered c =
    inr (record {
      wait = c.in-Some.wait;
      has = taken_token the_wait _ _ _ _ _ c.in-Some.ensures.taken c.requires.stands.waits;
      number_is = c.in-Some.ensures.taken.number_is;
      given = c.cancel.result;
      told = ap told_left (sym (c.in-Cancelled-None.is ∙ ap Cancelled c.in-Cancelled-None.field-0-is));
      cancelled = c.cancel.ensures.cancelled;
    })

pub returns-in-Cancelled-Some-clause-answered : goal.returns-in-Cancelled-Some-clause-answered
returns-in-Cancelled-Some-clause-answered c =
    inr (record {
      wait = c.in-Some.wait;
      has = taken_token the_wait _ _ _ _ _ c.in-Some.ensures.taken c.requires.stands.waits;
      number_is = c.in-Some.ensures.taken.number_is;
      given = c.cancel.result;
      told = ap answer.CancelledOwing c.reached-reached.ensures
          ∙ ap told_left (sym (c.in-Cancelled-Some.is ∙ ap Cancelled c.in-Cancelled-Some.field-0-is));
      cancelled = c.cancel.ensures.cancelled;
    })

pub returns-in-TooLate-clause-answered : goal.returns-in-TooLate-clause-answered
returns-in-TooLate-clause-answered c =
    inr (record {
      wait = c.in-Some.wait;
      has = taken_token the_wait _ _ _ _ _ c.in-Some.ensures.taken c.requires.stands.waits;
      number_is = c.in-Some.ensures.taken.number_is;
      given = c.cancel.result;
      told = ap answer.LateTook c.number-number.ensures ∙ ap told_left (sym c.in-TooLate.is);
      cancelled = c.cancel.ensures.cancelled;
    })
