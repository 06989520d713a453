use Rattle.std.proofs.Common.{ap, subst, sym, ◌∙◌, inr, Ok, Err}
use Rattle.cqs_rule_laws.specs.declared.view.Facts.{Facts}
use Rattle.cqs_rule.specs.Passes.{pass_view}
use Rattle.cqs_pool.specs.Alone.{TakesNew}
use Rattle.cqs_pool.specs.Answers.{Takes}
use Rattle.cqs_rule_laws.proofs.Places.{goes-same}
use Rattle.cqs_c_callers.specs.PoolCallers.{HasElements}
use Rattle.cqs_c_callers.specs.Tokens.{HasTokens}
use Rattle.cqs_c_callers.proofs.PoolKept.{owes-none, elements_same, elements_more}
use Rattle.cqs_c_callers.proofs.TokenSteps.{the_wait, same_waits, one_more}
use Rattle.cqs_c_callers.proofs.Every.{every_same, every_more}
use Rattle.cqs_c_callers.specs.declared.answers.Answer.TheVariants as answer
use Rattle.cqs_c_callers.specs.PoolTold.{told_taken}
use Rattle.cqs_c_callers.proofs.pool_caller.PoolCaller.take.Goals as goal

pub returns-in-Ok-Took-clause-stands : goal.returns-in-Ok-Took-clause-stands
returns-in-Ok-Took-clause-stands c =
    let v = pass_view c.args.self.now.pass in
    let w = pass_view c.take.new.pass in
    let is = c.in-Ok-Took.field-0-is in
    let told = subst (λ taking. Takes v taking w) is c.in-Ok-Took.ensures.took in
    let new = subst (TakesNew v) is c.in-Ok-Took.ensures.new in
    record {
      belongs = c.take.ensures.belongs;
      owes = owes-none _ _ c.if-is_some.ensures c.take.ensures.ready;
      waits = same_waits the_wait v w _ (goes-same _ _ c.take.ensures.called.called.same, told.1.waits_are)
          c.requires.stands.waits;
      every = every_same _ _ _ told.1.waits_are c.requires.stands.every;
      elements = subst (HasElements w.facts) (sym c.push_reserved.ensures.items)
          (elements_more v.facts w.facts _ _ told.1.elements_are new c.requires.stands.elements);
    }

pub returns-in-Ok-Later-clause-stands : goal.returns-in-Ok-Later-clause-stands
returns-in-Ok-Later-clause-stands c =
    let v = pass_view c.args.self.now.pass in
    let w = pass_view c.take.new.pass in
    let wait = c.in-Ok-Later.wait in
    let told = subst (λ taking. Takes v taking w) c.in-Ok-Later.field-0-is c.in-Ok-Later.ensures.took in
    record {
      belongs = c.take.ensures.belongs;
      owes = owes-none _ _ c.if-is_some.ensures c.take.ensures.ready;
      waits = subst (HasTokens the_wait w) (sym c.push_reserved-in-Ok-Later.ensures.items)
          (one_more the_wait v w _ wait (goes-same _ _ c.take.ensures.called.called.same, told.2.waits_are)
          c.take.ensures.belongs.live.inside told.1 c.requires.stands.waits);
      every = every_more _ _ _ _ wait _ c.push_reserved-in-Ok-Later.ensures.items told.2.waits_are
          c.requires.stands.every;
      elements = elements_same v.facts w.facts _ told.2.elements_are c.requires.stands.elements;
    }

pub returns-in-Err-Worn-clause-stands : goal.returns-in-Err-Worn-clause-stands
returns-in-Err-Worn-clause-stands c =
    let same = (c.in-Err-Worn.ensures.worn (ap Err c.in-Err-Worn.field-0-is)).facts_are in
    record {
      belongs = c.take.ensures.belongs;
      owes = owes-none _ _ c.if-is_some.ensures c.take.ensures.ready;
      waits = same_waits the_wait _ _ _
          (goes-same _ _ c.take.ensures.called.called.same, ap (λ (f : Facts). f.waits) same) c.requires.stands.waits;
      every = every_same _ _ _ (ap (λ (f : Facts). f.waits) same) c.requires.stands.every;
      elements = elements_same _ _ _ (ap (λ (f : Facts). f.has.slots) same) c.requires.stands.elements;
    }

pub returns-in-Err-Crowded-clause-stands : goal.returns-in-Err-Crowded-clause-stands
returns-in-Err-Crowded-clause-stands c =
    let same = (c.in-Err-Crowded.ensures.crowded (ap Err c.in-Err-Crowded.field-0-is)).crowded.facts_are in
    record {
      belongs = c.take.ensures.belongs;
      owes = owes-none _ _ c.if-is_some.ensures c.take.ensures.ready;
      waits = same_waits the_wait _ _ _
          (goes-same _ _ c.take.ensures.called.called.same, ap (λ (f : Facts). f.waits) same) c.requires.stands.waits;
      every = every_same _ _ _ (ap (λ (f : Facts). f.waits) same) c.requires.stands.every;
      elements = elements_same _ _ _ (ap (λ (f : Facts). f.has.slots) same) c.requires.stands.elements;
    }

pub returns-in-Ok-Took-clause-answered : goal.returns-in-Ok-Took-clause-answered
returns-in-Ok-Took-clause-answered c =
    inr (record {
      given = c.take.result;
      told = ap answer.Took c.number-number.ensures
          ∙ ap told_taken (sym (c.in-Ok-Took.is ∙ ap Ok c.in-Ok-Took.field-0-is));
      called = c.take.ensures.called;
      worn = c.take.ensures.worn;
      crowded = c.take.ensures.crowded;
      took = c.take.ensures.took;
    })

pub returns-in-Ok-Later-clause-answered : goal.returns-in-Ok-Later-clause-answered
returns-in-Ok-Later-clause-answered c =
    inr (record {
      given = c.take.result;
      told = ap answer.Later c.number-number-in-Ok-Later.ensures
          ∙ ap told_taken (sym (c.in-Ok-Later.is ∙ ap Ok c.in-Ok-Later.field-0-is));
      called = c.take.ensures.called;
      worn = c.take.ensures.worn;
      crowded = c.take.ensures.crowded;
      took = c.take.ensures.took;
    })

pub returns-in-Err-Worn-clause-answered : goal.returns-in-Err-Worn-clause-answered
returns-in-Err-Worn-clause-answered c =
    inr (record {
      given = c.take.result;
      told = ap told_taken (sym (c.in-Err-Worn.is ∙ ap Err c.in-Err-Worn.field-0-is));
      called = c.take.ensures.called;
      worn = c.take.ensures.worn;
      crowded = c.take.ensures.crowded;
      took = c.take.ensures.took;
    })

pub returns-in-Err-Crowded-clause-answered : goal.returns-in-Err-Crowded-clause-answered
returns-in-Err-Crowded-clause-answered c =
    inr (record {
      given = c.take.result;
      told = ap told_taken (sym (c.in-Err-Crowded.is ∙ ap Err c.in-Err-Crowded.field-0-is));
      called = c.take.ensures.called;
      worn = c.take.ensures.worn;
      crowded = c.take.ensures.crowded;
      took = c.take.ensures.took;
    })
