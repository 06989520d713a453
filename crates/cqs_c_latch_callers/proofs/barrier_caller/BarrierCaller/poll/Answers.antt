use Rattle.std.proofs.Common.{subst, sym, ap, inr}
use Rattle.cqs_barrier.specs.Answers.{IsPolled}
use Rattle.cqs_barrier.specs.Waits.{wait_in}
use Rattle.cqs_rule.specs.Passes.{pass_view}
use Rattle.cqs_c_callers.specs.Tokens.{HasTokens, wait_index}
use Rattle.cqs_rule_laws.proofs.Places.{goes-same}
use Rattle.cqs_c_latch_callers.proofs.BarrierKept.{owes-none, apart-none, every-none, none-every}
use Rattle.cqs_c_callers.proofs.TokenSteps.{taken_token, taken_none, one_less, one_back}
use Rattle.cqs_c_callers.proofs.Every.{every_over, every_back}
use Rattle.cqs_c_latch_callers.specs.BarrierTold.{told_polled}
use Rattle.cqs_c_latch_callers.proofs.barrier_caller.BarrierCaller.poll.Goals as goal

pub poll-requires-clause-has : goal.poll-requires-clause-has
poll-requires-clause-has c = λ κs. taken_token wait_in _ _ _ _ _ c.in-Some.ensures.taken c.requires.stands.waits

pub returns-in-Through-clause-stands : goal.returns-in-Through-clause-stands
returns-in-Through-clause-stands c =
    let v = pass_view c.args.self.now.pass in
    let w = pass_view c.poll.new.pass in
    let wait = c.in-Some.wait in
    let told = subst (λ answer. IsPolled (wait_in wait) v answer w) c.in-Through.is c.poll.ensures.polled in
    record {
      belongs = c.poll.ensures.belongs;
      owes = owes-none w _ c.if-is_some.ensures c.poll.ensures.ready;
      waits = one_less wait_in v w _ _ _ wait c.in-Some.ensures.taken
          (goes-same _ _ c.poll.ensures.called.called.same, told.1.waits_are) c.requires.stands.waits;
      apart = apart-none _ _ c.if-is_some.ensures;
      every = every-none _ _ _ c.if-is_some.ensures
          (every_over wait_in v _ _ _ wait _ c.in-Some.ensures.taken c.requires.stands.belongs.live.inside
          c.requires.stands.waits told.1.waits_are (none-every _ _ _ c.if-is_some.ensures c.requires.stands.every));
    }

pub returns-in-Pending-clause-stands : goal.returns-in-Pending-clause-stands
returns-in-Pending-clause-stands c =
    let v = pass_view c.args.self.now.pass in
    let w = pass_view c.poll.new.pass in
    let wait = c.in-Some.wait in
    let told = subst (λ answer. IsPolled (wait_in wait) v answer w) c.in-Pending.is c.poll.ensures.polled in
    record {
      belongs = c.poll.ensures.belongs;
      owes = owes-none w _ c.if-is_some.ensures c.poll.ensures.ready;
      waits = subst (HasTokens wait_in w) (sym c.push_reserved.ensures.items)
          (one_back wait_in v w _ _ _ wait c.in-Some.ensures.taken c.in-Pending.wait
          (goes-same _ _ c.poll.ensures.called.called.same, told.3.waits_are) told.0 told.1 c.requires.stands.waits);
      apart = apart-none _ _ c.if-is_some.ensures;
      every = every-none _ _ _ c.if-is_some.ensures
          (every_back (λ x. wait_index (wait_in x)) _ _ _ wait c.in-Some.ensures.taken c.in-Pending.wait _ _ _
          c.push_reserved.ensures.items told.3.waits_are
          (none-every _ _ _ c.if-is_some.ensures c.requires.stands.every));
    }

pub returns-in-Through-clause-no_wait : goal.returns-in-Through-clause-no_wait
returns-in-Through-clause-no_wait c free none =
    absurd (taken_none (λ x. wait_index (wait_in x)) _ _ _ _ c.in-Some.ensures.taken none)

pub returns-in-Pending-clause-no_wait : goal.returns-in-Pending-clause-no_wait
returns-in-Pending-clause-no_wait c free none =
    absurd (taken_none (λ x. wait_index (wait_in x)) _ _ _ _ c.in-Some.ensures.taken none)

pub returns-in-Through-clause-answered : goal.returns-in-Through-clause-answered
returns-in-Through-clause-answered c =
    inr (record {
      wait = c.in-Some.wait;
      has = taken_token wait_in _ _ _ _ _ c.in-Some.ensures.taken c.requires.stands.waits;
      number_is = c.in-Some.ensures.taken.number_is;
      given = c.poll.result;
      told = ap told_polled (sym c.in-Through.is);
      called = c.poll.ensures.called;
      polled = c.poll.ensures.polled;
    })

pub returns-in-Pending-clause-answered : goal.returns-in-Pending-clause-answered
returns-in-Pending-clause-answered c =
    inr (record {
      wait = c.in-Some.wait;
      has = taken_token wait_in _ _ _ _ _ c.in-Some.ensures.taken c.requires.stands.waits;
      number_is = c.in-Some.ensures.taken.number_is;
      given = c.poll.result;
      told = ap told_polled (sym c.in-Pending.is);
      called = c.poll.ensures.called;
      polled = c.poll.ensures.polled;
    })
