use Rattle.std.proofs.Common.{rules, ◌≡◌, ◌≢◌, All, subst, sym, false, inr}
use Rattle.std.specs.Option.{is_some}
use Rattle.cqs_rule_laws.specs.declared.config.Place.{Place}
use Rattle.cqs_rule.specs.Passes.{pass_view}
use Rattle.cqs_rule.specs.Waits.{HasWait, place_of}
use Rattle.cqs_sync_semaphore.specs.Answers.{Cancels}
use Rattle.cqs_c_callers.specs.Waits.{HasAt, Apart}
use Rattle.cqs_c_callers.proofs.Every.{every_less}
use Rattle.cqs_c_callers.proofs.SemaphoreKept.{kept-others}
use Rattle.cqs_c_callers.proofs.Waits.{apart_remove, found_one}
use Rattle.cqs_c_sync_callers.specs.declared.sync_semaphore_caller.SyncSemaphoreCaller.{SyncSemaphoreCaller}
use Rattle.cqs_c_sync_callers.proofs.SyncKept.{cancel-keeping, owes-none}
use Rattle.cqs_c_sync_callers.proofs.sync_semaphore_caller.SyncSemaphoreCaller.cancel.Goals as goal

pub returns-in-Cancelled-clause-stands : goal.returns-in-Cancelled-clause-stands
returns-in-Cancelled-clause-stands c =
    let token = c.in-Some.ensures.found in
    let stands = c.token.ensures.stands in
    let free = subst (λ d. false ≡ is_some d.under) (sym c.token.ensures.same) c.if-is_some.ensures in
    let w = pass_view c.cancel.new.pass in
    let left = cancel-keeping _ _ w _ c.cancel.ensures.cancelled in
    record {
      belongs = c.cancel.ensures.belongs;
      owes = owes-none _ _ free c.cancel.ensures.ready;
      waits = subst (All (HasAt w)) (sym c.remove.ensures.items)
          (kept-others _ w _ _ _ _ token.at token.number_is left.goes left.waits_are stands.apart stands.waits);
      apart = subst Apart (sym c.remove.ensures.items) (apart_remove _ _ stands.apart);
      every = every_less _ _ _ _ _ _ token.at.below c.remove.ensures.items left.waits_are
          (stands.belongs.live.inside.once _ token.has.open_yet) stands.every;
    }

pub returns-in-TooLate-clause-stands : goal.returns-in-TooLate-clause-stands
returns-in-TooLate-clause-stands c =
    let token = c.in-Some.ensures.found in
    let stands = c.token.ensures.stands in
    let free = subst (λ d. false ≡ is_some d.under) (sym c.token.ensures.same) c.if-is_some.ensures in
    let w = pass_view c.cancel.new.pass in
    let left = cancel-keeping _ _ w _ c.cancel.ensures.cancelled in
    record {
      belongs = c.cancel.ensures.belongs;
      owes = owes-none _ _ free c.cancel.ensures.ready;
      waits = subst (All (HasAt w)) (sym c.remove-in-TooLate.ensures.items)
          (kept-others _ w _ _ _ _ token.at token.number_is left.goes left.waits_are stands.apart stands.waits);
      apart = subst Apart (sym c.remove-in-TooLate.ensures.items) (apart_remove _ _ stands.apart);
      every = every_less _ _ _ _ _ _ token.at.below c.remove-in-TooLate.ensures.items left.waits_are
          (stands.belongs.live.inside.once _ token.has.open_yet) stands.every;
    }

pub returns-in-Cancelled-clause-no_wait : goal.returns-in-Cancelled-clause-no_wait
returns-in-Cancelled-clause-no_wait c free none =
    let others = subst (λ (d : SyncSemaphoreCaller). All (λ (at : Place). at.index ≢ c.args.number) d.waits.items)
    (sym c.token.ensures.same) none in
    absurd (found_one c.args.number _ _ c.in-Some.ensures.found.at others)

pub returns-in-TooLate-clause-no_wait : goal.returns-in-TooLate-clause-no_wait
returns-in-TooLate-clause-no_wait c free none =
    let others = subst (λ (d : SyncSemaphoreCaller). All (λ (at : Place). at.index ≢ c.args.number) d.waits.items)
    (sym c.token.ensures.same) none in
    absurd (found_one c.args.number _ _ c.in-Some.ensures.found.at others)

pub returns-in-Cancelled-clause-answered : goal.returns-in-Cancelled-clause-answered
returns-in-Cancelled-clause-answered c =
    let w = pass_view c.cancel.new.pass in
    let wait = c.in-Some.wait in
    inr (record {
      wait = wait;
      has = subst (λ (d : SyncSemaphoreCaller). HasWait (pass_view d.pass) wait) c.token.ensures.same
          c.in-Some.ensures.found.has;
      number_is = c.in-Some.ensures.found.number_is;
      given = c.cancel.result;
      told = search rules;
      cancelled = subst (λ (d : SyncSemaphoreCaller).
          Cancels (place_of wait).index (pass_view d.pass) c.cancel.result w)
          c.token.ensures.same c.cancel.ensures.cancelled;
    })

pub returns-in-TooLate-clause-answered : goal.returns-in-TooLate-clause-answered
returns-in-TooLate-clause-answered c =
    let w = pass_view c.cancel.new.pass in
    let wait = c.in-Some.wait in
    inr (record {
      wait = wait;
      has = subst (λ (d : SyncSemaphoreCaller). HasWait (pass_view d.pass) wait) c.token.ensures.same
          c.in-Some.ensures.found.has;
      number_is = c.in-Some.ensures.found.number_is;
      given = c.cancel.result;
      told = search rules;
      cancelled = subst (λ (d : SyncSemaphoreCaller).
          Cancels (place_of wait).index (pass_view d.pass) c.cancel.result w)
          c.token.ensures.same c.cancel.ensures.cancelled;
    })
