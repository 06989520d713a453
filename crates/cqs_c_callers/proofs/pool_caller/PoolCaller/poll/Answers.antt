use Rattle.std.proofs.Common.{subst, sym, ◌∙◌, ap, inr}
use Rattle.cqs_rule.specs.Passes.{pass_view}
use Rattle.cqs_pool.specs.Alone.{PollsNew}
use Rattle.cqs_pool.specs.Answers.{IsPolled}
use Rattle.cqs_rule_laws.proofs.Places.{goes-same}
use Rattle.cqs_c_callers.specs.PoolCallers.{HasElements}
use Rattle.cqs_c_callers.specs.Tokens.{HasTokens, wait_index}
use Rattle.cqs_c_callers.proofs.PoolKept.{owes-none, elements_same, elements_more}
use Rattle.cqs_c_callers.proofs.TokenSteps.{the_wait, taken_token, taken_none, one_less, one_back}
use Rattle.cqs_c_callers.proofs.Every.{every_back, every_over}
use Rattle.cqs_c_callers.specs.declared.answers.Answer.TheVariants as answer
use Rattle.cqs_c_callers.specs.PoolTold.{told_polled}
use Rattle.cqs_c_callers.proofs.pool_caller.PoolCaller.poll.Goals as goal

pub poll-requires-clause-has : goal.poll-requires-clause-has
poll-requires-clause-has c = λ κs. taken_token the_wait _ _ _ _ _ c.in-Some.ensures.taken c.requires.stands.waits

pub returns-in-Granted-clause-stands : goal.returns-in-Granted-clause-stands
returns-in-Granted-clause-stands c =
    let v = pass_view c.args.self.now.pass in
    let w = pass_view c.poll.new.pass in
    let wait = c.in-Some.wait in
    let told = subst (λ answer. IsPolled wait v answer w) c.in-Granted.is c.poll.ensures.polled in
    let new = subst (PollsNew v) c.in-Granted.is c.poll.ensures.new in
    record {
      belongs = c.poll.ensures.belongs;
      owes = owes-none _ _ c.if-is_some.ensures c.poll.ensures.ready;
      waits = one_less the_wait v w _ _ _ wait c.in-Some.ensures.taken
          (goes-same _ _ c.poll.ensures.called.called.same, told.2.waits_are) c.requires.stands.waits;
      every = every_over the_wait v _ _ _ wait _ c.in-Some.ensures.taken c.requires.stands.belongs.live.inside
          c.requires.stands.waits told.2.waits_are c.requires.stands.every;
      elements = subst (HasElements w.facts) (sym c.push_reserved.ensures.items)
          (elements_more v.facts w.facts _ _ told.2.elements_are new c.requires.stands.elements);
    }

pub returns-in-Pending-clause-stands : goal.returns-in-Pending-clause-stands
returns-in-Pending-clause-stands c =
    let v = pass_view c.args.self.now.pass in
    let w = pass_view c.poll.new.pass in
    let wait = c.in-Some.wait in
    let told = subst (λ answer. IsPolled wait v answer w) c.in-Pending.is c.poll.ensures.polled in
    record {
      belongs = c.poll.ensures.belongs;
      owes = owes-none _ _ c.if-is_some.ensures c.poll.ensures.ready;
      waits = subst (HasTokens the_wait w) (sym c.push_reserved-in-Pending.ensures.items)
          (one_back the_wait v w _ _ _ wait c.in-Some.ensures.taken c.in-Pending.wait
          (goes-same _ _ c.poll.ensures.called.called.same, told.3.waits_are) told.0 told.1 c.requires.stands.waits);
      every = every_back wait_index _ _ _ wait c.in-Some.ensures.taken c.in-Pending.wait _ _ _
          c.push_reserved-in-Pending.ensures.items told.3.waits_are c.requires.stands.every;
      elements = elements_same v.facts w.facts _ told.3.elements_are c.requires.stands.elements;
    }

pub returns-in-Granted-clause-no_wait : goal.returns-in-Granted-clause-no_wait
returns-in-Granted-clause-no_wait c free room none =
    absurd (taken_none wait_index _ _ _ _ c.in-Some.ensures.taken none)

pub returns-in-Pending-clause-no_wait : goal.returns-in-Pending-clause-no_wait
returns-in-Pending-clause-no_wait c free room none =
    absurd (taken_none wait_index _ _ _ _ c.in-Some.ensures.taken none)

pub returns-in-Granted-clause-answered : goal.returns-in-Granted-clause-answered
returns-in-Granted-clause-answered c =
    inr (record {
      wait = c.in-Some.wait;
      has = taken_token the_wait _ _ _ _ _ c.in-Some.ensures.taken c.requires.stands.waits;
      number_is = c.in-Some.ensures.taken.number_is;
      given = c.poll.result;
      told = ap answer.Took c.number-number.ensures ∙ ap told_polled (sym c.in-Granted.is);
      called = c.poll.ensures.called;
      polled = c.poll.ensures.polled;
    })

pub returns-in-Pending-clause-answered : goal.returns-in-Pending-clause-answered
returns-in-Pending-clause-answered c =
    inr (record {
      wait = c.in-Some.wait;
      has = taken_token the_wait _ _ _ _ _ c.in-Some.ensures.taken c.requires.stands.waits;
      number_is = c.in-Some.ensures.taken.number_is;
      given = c.poll.result;
      told = ap told_polled (sym c.in-Pending.is);
      called = c.poll.ensures.called;
      polled = c.poll.ensures.polled;
    })
