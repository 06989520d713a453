use Rattle.std.proofs.Common.{◌≡◌, ◌≢◌, ◌∙◌, All, ap, subst, sym, false, None, Some, inr}
use Rattle.std.specs.Option.{is_some}
use Rattle.cqs_rule_laws.specs.declared.config.Place.{Place}
use Rattle.cqs_rule.specs.Passes.{pass_view}
use Rattle.cqs_rule.specs.Waits.{place_of}
use Rattle.cqs_c_callers.specs.declared.semaphore_caller.SemaphoreCaller.{SemaphoreCaller}
use Rattle.cqs_c_callers.specs.Waits.{HasAt, Apart}
use Rattle.cqs_rule_laws.proofs.Places.{goes-same}
use Rattle.cqs_c_callers.proofs.Waits.{apart_remove, found_one}
use Rattle.cqs_semaphore.specs.declared.answers.CancelAnswer.TheVariants.{Cancelled}
use Rattle.cqs_semaphore.specs.Steps.{HasCancelled}
use Rattle.cqs_c_callers.proofs.SemaphoreKept.{kept-others, cancel-owing, owes-none}
use Rattle.cqs_c_callers.specs.declared.answers.Answer.TheVariants as answer
use Rattle.cqs_c_callers.specs.SemaphoreAnswers.{HasGivenUp}
use Rattle.cqs_c_callers.specs.SemaphoreTold.{told_cancelled}
use Rattle.cqs_c_callers.proofs.Every.{every_less}
use Rattle.cqs_c_callers.proofs.semaphore_caller.SemaphoreCaller.cancel.Goals as goal

pub returns-in-Cancelled-None-clause-stands : goal.returns-in-Cancelled-None-clause-stands
returns-in-Cancelled-None-clause-stands c =
    let token = c.in-Some.ensures.found in
    let same = c.token.ensures.same in
    let stands = c.token.ensures.stands in
    let free = subst (λ d. false ≡ is_some d.under) (sym same) c.if-is_some.ensures in
    let k = (place_of c.in-Some.wait).index in
    let v = pass_view c.token.new.self.pass in
    let w = pass_view c.cancel.new.pass in
    let answer = c.in-Cancelled-None.is ∙ ap Cancelled c.in-Cancelled-None.field-0-is in
    let told : HasCancelled k v (Cancelled None) w =
    subst (λ answer. HasCancelled k v answer w) answer c.cancel.ensures.cancelled in
    let left = cancel-owing k v w None told.0 told.2.1 in
    record {
      belongs = c.cancel.ensures.belongs;
      owes = owes-none _ _ free left.0;
      waits = subst (All (HasAt w)) (sym c.remove.ensures.items)
          (kept-others v w _ k _ _ token.at token.number_is
          (goes-same v w told.1.called.same) left.1 stands.apart stands.waits);
      apart = subst Apart (sym c.remove.ensures.items) (apart_remove _ _ stands.apart);
      every = every_less _ _ _ _ _ _ token.at.below c.remove.ensures.items left.1
          (stands.belongs.live.inside.once _ token.has.open_yet) stands.every;
    }

pub returns-in-Cancelled-Some-clause-stands : goal.returns-in-Cancelled-Some-clause-stands
returns-in-Cancelled-Some-clause-stands c =
    let token = c.in-Some.ensures.found in
    let same = c.token.ensures.same in
    let stands = c.token.ensures.stands in
    let free = subst (λ d. false ≡ is_some d.under) (sym same) c.if-is_some.ensures in
    let k = (place_of c.in-Some.wait).index in
    let v = pass_view c.token.new.self.pass in
    let w = pass_view c.cancel.new.pass in
    let answer = c.in-Cancelled-Some.is ∙ ap Cancelled c.in-Cancelled-Some.field-0-is in
    let told : HasCancelled k v (Cancelled (Some c.in-Cancelled-Some.under)) w =
    subst (λ answer. HasCancelled k v answer w) answer c.cancel.ensures.cancelled in
    let left = cancel-owing k v w (Some c.in-Cancelled-Some.under) told.0 told.2.1 in
    record {
      belongs = c.cancel.ensures.belongs;
      owes = left.0;
      waits = subst (All (HasAt w)) (sym c.remove-in-Cancelled-Some.ensures.items)
          (kept-others v w _ k _ _ token.at token.number_is
          (goes-same v w told.1.called.same) left.1 stands.apart stands.waits);
      apart = subst Apart (sym c.remove-in-Cancelled-Some.ensures.items) (apart_remove _ _ stands.apart);
      every = every_less _ _ _ _ _ _ token.at.below c.remove-in-Cancelled-Some.ensures.items left.1
          (stands.belongs.live.inside.once _ token.has.open_yet) stands.every;
    }

pub returns-in-TooLate-clause-stands : goal.returns-in-TooLate-clause-stands
returns-in-TooLate-clause-stands c =
    let token = c.in-Some.ensures.found in
    let same = c.token.ensures.same in
    let stands = c.token.ensures.stands in
    let free = subst (λ d. false ≡ is_some d.under) (sym same) c.if-is_some.ensures in
    let told = rw c.in-TooLate.is at c.cancel.ensures.cancelled in
    let w = pass_view c.cancel.new.pass in
    record {
      belongs = c.cancel.ensures.belongs;
      owes = owes-none _ _ free told.2.3.ready;
      waits = subst (All (HasAt w)) (sym c.remove-in-TooLate.ensures.items)
          (kept-others _ w _ _ _ _ token.at token.number_is
          (goes-same _ _ told.1.called.same) told.2.3.waits_are stands.apart stands.waits);
      apart = subst Apart (sym c.remove-in-TooLate.ensures.items) (apart_remove _ _ stands.apart);
      every = every_less _ _ _ _ _ _ token.at.below c.remove-in-TooLate.ensures.items told.2.3.waits_are
          (stands.belongs.live.inside.once _ token.has.open_yet) stands.every;
    }

pub returns-in-Cancelled-None-clause-no_wait : goal.returns-in-Cancelled-None-clause-no_wait
returns-in-Cancelled-None-clause-no_wait c free none =
    let others = subst (λ (d : SemaphoreCaller). All (λ (at : Place). at.index ≢ c.args.number) d.waits.items)
    (sym c.token.ensures.same) none in
    absurd (found_one c.args.number _ _ c.in-Some.ensures.found.at others)

pub returns-in-Cancelled-Some-clause-no_wait : goal.returns-in-Cancelled-Some-clause-no_wait
returns-in-Cancelled-Some-clause-no_wait c free none =
    let others = subst (λ (d : SemaphoreCaller). All (λ (at : Place). at.index ≢ c.args.number) d.waits.items)
    (sym c.token.ensures.same) none in
    absurd (found_one c.args.number _ _ c.in-Some.ensures.found.at others)

pub returns-in-TooLate-clause-no_wait : goal.returns-in-TooLate-clause-no_wait
returns-in-TooLate-clause-no_wait c free none =
    let others = subst (λ (d : SemaphoreCaller). All (λ (at : Place). at.index ≢ c.args.number) d.waits.items)
    (sym c.token.ensures.same) none in
    absurd (found_one c.args.number _ _ c.in-Some.ensures.found.at others)

pub returns-in-Cancelled-None-clause-answered : goal.returns-in-Cancelled-None-clause-answered
returns-in-Cancelled-None-clause-answered c =
    let w = pass_view c.cancel.new.pass in
    inr (subst (λ (d : SemaphoreCaller). HasGivenUp c.args.number (pass_view d.pass) answer.Cancelled w)
    c.token.ensures.same (record {
      wait = c.in-Some.wait;
      has = c.in-Some.ensures.found.has;
      number_is = c.in-Some.ensures.found.number_is;
      given = c.cancel.result;
      told = ap told_cancelled (sym (c.in-Cancelled-None.is ∙ ap Cancelled c.in-Cancelled-None.field-0-is));
      cancelled = c.cancel.ensures.cancelled;
    }))

pub returns-in-Cancelled-Some-clause-answered : goal.returns-in-Cancelled-Some-clause-answered
returns-in-Cancelled-Some-clause-answered c =
    let w = pass_view c.cancel.new.pass in
    inr (subst (λ (d : SemaphoreCaller).
    HasGivenUp c.args.number (pass_view d.pass) (answer.CancelledOwing c.reached-reached.result) w)
    c.token.ensures.same (record {
      wait = c.in-Some.wait;
      has = c.in-Some.ensures.found.has;
      number_is = c.in-Some.ensures.found.number_is;
      given = c.cancel.result;
      told = ap answer.CancelledOwing c.reached-reached.ensures
          ∙ ap told_cancelled (sym (c.in-Cancelled-Some.is ∙ ap Cancelled c.in-Cancelled-Some.field-0-is));
      cancelled = c.cancel.ensures.cancelled;
    }))

pub returns-in-TooLate-clause-answered : goal.returns-in-TooLate-clause-answered
returns-in-TooLate-clause-answered c =
    let w = pass_view c.cancel.new.pass in
    inr (subst (λ (d : SemaphoreCaller). HasGivenUp c.args.number (pass_view d.pass) answer.TooLate w)
    c.token.ensures.same (record {
      wait = c.in-Some.wait;
      has = c.in-Some.ensures.found.has;
      number_is = c.in-Some.ensures.found.number_is;
      given = c.cancel.result;
      told = ap told_cancelled (sym c.in-TooLate.is);
      cancelled = c.cancel.ensures.cancelled;
    }))
