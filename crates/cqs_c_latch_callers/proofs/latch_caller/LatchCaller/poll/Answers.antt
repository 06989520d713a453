use Rattle.std.proofs.Common.{ap, subst, sym, inr}
use Rattle.cqs_latch.specs.Answers.{IsPolled}
use Rattle.cqs_rule.specs.Passes.{pass_view}
use Rattle.cqs_c_callers.specs.Tokens.{HasTokens, wait_index}
use Rattle.cqs_c_latch_callers.proofs.LatchKept.{owes-none}
use Rattle.cqs_c_callers.proofs.TokenSteps.{the_wait, tokens_others, tokens_back, taken_token, taken_none}
use Rattle.cqs_c_callers.proofs.Every.{every_over, every_back}
use Rattle.cqs_c_latch_callers.specs.LatchTold.{told_polled}
use Rattle.cqs_c_latch_callers.proofs.latch_caller.LatchCaller.poll.Goals as goal

pub poll-requires-clause-has : goal.poll-requires-clause-has
poll-requires-clause-has c = λ κs.
    taken_token the_wait _ _ _ _ _ c.in-Some.ensures.taken c.requires.stands.waits

pub returns-in-Through-clause-stands : goal.returns-in-Through-clause-stands
returns-in-Through-clause-stands c =
    let v = pass_view c.args.self.now.pass in
    let w = pass_view c.poll.new.pass in
    let taken = c.in-Some.ensures.taken in
    let old = c.requires.stands.waits in
    let told = subst (λ answer. IsPolled c.in-Some.wait v answer w) c.in-Through.is c.poll.ensures.polled in
    record {
      belongs = c.poll.ensures.belongs;
      owes = owes-none _ _ c.if-is_some.ensures c.poll.ensures.ready;
      waits = tokens_others the_wait _ _ _ _ _ _ taken c.poll.ensures.keeps old;
      every = every_over the_wait v _ _ _ c.in-Some.wait _ taken c.requires.stands.belongs.live.inside old
          told.1.waits_are c.requires.stands.every;
    }

pub returns-in-Pending-clause-stands : goal.returns-in-Pending-clause-stands
returns-in-Pending-clause-stands c =
    let v = pass_view c.args.self.now.pass in
    let w = pass_view c.poll.new.pass in
    let taken = c.in-Some.ensures.taken in
    let old = c.requires.stands.waits in
    let told = subst (λ answer. IsPolled c.in-Some.wait v answer w) c.in-Pending.is c.poll.ensures.polled in
    record {
      belongs = c.poll.ensures.belongs;
      owes = owes-none _ _ c.if-is_some.ensures c.poll.ensures.ready;
      waits = subst (HasTokens the_wait w) (sym c.push_reserved.ensures.items)
          (tokens_back the_wait v w _ _ _ _ taken c.in-Pending.wait told.0 told.1 c.poll.ensures.keeps old);
      every = every_back wait_index _ _ _ _ taken c.in-Pending.wait _ _ _ c.push_reserved.ensures.items
          told.3.waits_are c.requires.stands.every;
    }

pub returns-in-Through-clause-no_wait : goal.returns-in-Through-clause-no_wait
returns-in-Through-clause-no_wait c free none =
    absurd (taken_none wait_index _ _ _ _ c.in-Some.ensures.taken none)

pub returns-in-Pending-clause-no_wait : goal.returns-in-Pending-clause-no_wait
returns-in-Pending-clause-no_wait c free none =
    absurd (taken_none wait_index _ _ _ _ c.in-Some.ensures.taken none)

pub returns-in-Through-clause-answered : goal.returns-in-Through-clause-answered
returns-in-Through-clause-answered c =
    inr (record {
      wait = c.in-Some.wait;
      has = taken_token the_wait _ _ _ _ _ c.in-Some.ensures.taken c.requires.stands.waits;
      number_is = c.in-Some.ensures.taken.number_is;
      given = c.poll.result;
      told = ap told_polled (sym c.in-Through.is);
      called = c.poll.ensures.called;
      polled = c.poll.ensures.polled;
    })

pub returns-in-Pending-clause-answered : goal.returns-in-Pending-clause-answered
returns-in-Pending-clause-answered c =
    inr (record {
      wait = c.in-Some.wait;
      has = taken_token the_wait _ _ _ _ _ c.in-Some.ensures.taken c.requires.stands.waits;
      number_is = c.in-Some.ensures.taken.number_is;
      given = c.poll.result;
      told = ap told_polled (sym c.in-Pending.is);
      called = c.poll.ensures.called;
      polled = c.poll.ensures.polled;
    })
