use Rattle.std.proofs.Common.{◌≡◌, ◌≢◌, All, ap, subst, sym, false, inr}
use Rattle.std.specs.Option.{is_some}
use Rattle.cqs_rule_laws.specs.declared.config.Place.{Place}
use Rattle.cqs_rule.specs.Passes.{pass_view}
use Rattle.cqs_c_sync_callers.specs.declared.sync_semaphore_caller.SyncSemaphoreCaller.{SyncSemaphoreCaller}
use Rattle.cqs_c_callers.specs.Waits.{HasAt, Apart}
use Rattle.cqs_rule_laws.proofs.Places.{goes-same}
use Rattle.cqs_c_callers.proofs.Waits.{apart_remove, found_one}
use Rattle.cqs_c_callers.proofs.SemaphoreKept.{kept-same, kept-others}
use Rattle.cqs_c_sync_callers.proofs.SyncKept.{owes-none}
use Rattle.cqs_c_callers.specs.declared.answers.Answer.TheVariants.{Granted, Pending}
use Rattle.cqs_c_callers.specs.SemaphoreAnswers.{HasPolled}
use Rattle.cqs_c_callers.specs.SemaphoreTold.{told_polled}
use Rattle.cqs_c_callers.proofs.Every.{every_same, every_less}
use Rattle.cqs_c_sync_callers.proofs.sync_semaphore_caller.SyncSemaphoreCaller.poll.Goals as goal

pub returns-in-Granted-clause-stands : goal.returns-in-Granted-clause-stands
returns-in-Granted-clause-stands c =
    let polled = rw c.in-Granted.is at c.poll.ensures.polled in
    let token = c.in-Some.ensures.found in
    let same = c.token.ensures.same in
    let stands = c.token.ensures.stands in
    let free = subst (λ d. false ≡ is_some d.under) (sym same) c.if-is_some.ensures in
    let w = pass_view c.poll.new.pass in
    record {
      belongs = c.poll.ensures.belongs;
      owes = owes-none _ _ free c.poll.ensures.ready;
      waits = subst (All (HasAt w)) (sym c.remove.ensures.items)
          (kept-others _ w _ _ _ _ token.at token.number_is
          (goes-same _ _ c.poll.ensures.called.called.same) polled.2.waits_are stands.apart stands.waits);
      apart = subst Apart (sym c.remove.ensures.items) (apart_remove _ _ stands.apart);
      every = every_less _ _ _ _ _ _ token.at.below c.remove.ensures.items polled.2.waits_are
          (stands.belongs.live.inside.once _ token.has.open_yet) stands.every;
    }

pub returns-in-Pending-clause-stands : goal.returns-in-Pending-clause-stands
returns-in-Pending-clause-stands c =
    let polled = rw c.in-Pending.is at c.poll.ensures.polled in
    let token = c.in-Some.ensures.found in
    let same = c.token.ensures.same in
    let stands = c.token.ensures.stands in
    let free = subst (λ d. false ≡ is_some d.under) (sym same) c.if-is_some.ensures in
    record {
      belongs = c.poll.ensures.belongs;
      owes = owes-none _ _ free c.poll.ensures.ready;
      waits = kept-same _ _ _ (goes-same _ _ c.poll.ensures.called.called.same) polled.3.waits_are stands.waits;
      apart = stands.apart;
      every = every_same _ _ _ polled.3.waits_are stands.every;
    }

pub returns-in-Granted-clause-no_wait : goal.returns-in-Granted-clause-no_wait
returns-in-Granted-clause-no_wait c free none =
    let others = subst (λ (d : SyncSemaphoreCaller). All (λ (at : Place). at.index ≢ c.args.number) d.waits.items)
    (sym c.token.ensures.same) none in
    absurd (found_one c.args.number _ _ c.in-Some.ensures.found.at others)

pub returns-in-Pending-clause-no_wait : goal.returns-in-Pending-clause-no_wait
returns-in-Pending-clause-no_wait c free none =
    let others = subst (λ (d : SyncSemaphoreCaller). All (λ (at : Place). at.index ≢ c.args.number) d.waits.items)
    (sym c.token.ensures.same) none in
    absurd (found_one c.args.number _ _ c.in-Some.ensures.found.at others)

pub returns-in-Granted-clause-answered : goal.returns-in-Granted-clause-answered
returns-in-Granted-clause-answered c =
    let w = pass_view c.poll.new.pass in
    inr (subst (λ (d : SyncSemaphoreCaller). HasPolled c.args.number (pass_view d.pass) Granted w)
    c.token.ensures.same (record {
      wait = c.in-Some.wait;
      has = c.in-Some.ensures.found.has;
      number_is = c.in-Some.ensures.found.number_is;
      given = c.poll.result;
      told = ap told_polled (sym c.in-Granted.is);
      called = c.poll.ensures.called;
      polled = c.poll.ensures.polled;
    }))

pub returns-in-Pending-clause-answered : goal.returns-in-Pending-clause-answered
returns-in-Pending-clause-answered c =
    let w = pass_view c.poll.new.pass in
    inr (subst (λ (d : SyncSemaphoreCaller). HasPolled c.args.number (pass_view d.pass) Pending w)
    c.token.ensures.same (record {
      wait = c.in-Some.wait;
      has = c.in-Some.ensures.found.has;
      number_is = c.in-Some.ensures.found.number_is;
      given = c.poll.result;
      told = ap told_polled (sym c.in-Pending.is);
      called = c.poll.ensures.called;
      polled = c.poll.ensures.polled;
    }))
