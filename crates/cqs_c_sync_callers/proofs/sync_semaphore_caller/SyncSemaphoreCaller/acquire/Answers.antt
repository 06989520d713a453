use Rattle.std.proofs.Common.{rules, ◌≡◌, ◌≢◌, ◌++◌, ◌∷◌, [], All, ap, subst, sym, ◌∙◌, inr, Ok, Err}
use Rattle.std.proofs.lemmas.List.Elements.{All-push}
use Rattle.cqs_rule_laws.specs.declared.view.Facts.{Facts}
use Rattle.cqs_rule_laws.specs.declared.config.Place.{Place}
use Rattle.cqs_rule.specs.Passes.{pass_view}
use Rattle.cqs_rule.specs.Waits.{place_of}
use Rattle.cqs_rule_laws.specs.CallRule.{IsReady}
use Rattle.cqs_sync_semaphore.specs.Calls.{IsMine}
use Rattle.cqs_c_callers.specs.Waits.{HasAt, Apart}
use Rattle.cqs_rule_laws.proofs.Places.{goes-same}
use Rattle.cqs_c_callers.proofs.SemaphoreKept.{kept-same, kept-more, new-apart, took-waits}
use Rattle.cqs_c_sync_callers.proofs.SyncKept.{owes-none}
use Rattle.cqs_c_callers.proofs.Waits.{apart_push}
use Rattle.cqs_c_callers.specs.declared.answers.Answer.TheVariants.{Now, Later}
use Rattle.cqs_c_sync_callers.specs.Answers.{HasAcquired}
use Rattle.cqs_c_sync_callers.specs.Told.{told_acquired}
use Rattle.cqs_c_callers.proofs.Every.{every_same, every_more}
use Rattle.cqs_c_sync_callers.proofs.sync_semaphore_caller.SyncSemaphoreCaller.acquire.Goals as goal

pub returns-in-Ok-Now-clause-stands : goal.returns-in-Ok-Now-clause-stands
returns-in-Ok-Now-clause-stands c =
    let took = rw c.in-Ok-Now.field-0-is at c.in-Ok-Now.ensures.acquired in
    record {
      belongs = c.acquire.ensures.belongs;
      owes = owes-none _ _ c.if-is_some.ensures c.acquire.ensures.ready;
      waits = kept-same _ _ _ (goes-same _ _ c.acquire.ensures.called.called.same) (took-waits _ _ _ took)
          c.requires.stands.waits;
      apart = c.requires.stands.apart;
      every = every_same _ _ _ (took-waits _ _ _ took) c.requires.stands.every;
    }

pub returns-in-Ok-Later-clause-stands : goal.returns-in-Ok-Later-clause-stands
returns-in-Ok-Later-clause-stands c =
    let later = rw c.in-Ok-Later.field-0-is at c.in-Ok-Later.ensures.acquired in
    let v = pass_view c.args.self.now.pass in
    let w = pass_view c.acquire.new.pass in
    let k = (place_of c.in-Ok-Later.wait).index in
    let more : w.facts.waits ≡ v.facts.waits ++ k ∷ [] = later.3.waits_are in
    let same = c.spend_wait-at.ensures.same in
    let at = c.spend_wait-at.ensures.place in
    let others = new-apart v w k _ c.acquire.ensures.belongs.live.inside more c.requires.stands.waits in
    let has : HasAt w (place_of c.in-Ok-Later.wait) = record { open_yet = later.2.open_yet; place = later.2.place } in
    let kept = kept-more v w k _ (goes-same v w c.acquire.ensures.called.called.same) more c.requires.stands.waits in
    let all : All (HasAt w) (c.args.self.now.waits.items ++ c.spend_wait-at.result ∷ []) =
    All-push (HasAt w) _ _ kept (subst (HasAt w) (sym at) has) in
    let apart = apart_push _ c.spend_wait-at.result c.requires.stands.apart
    (subst (λ (p : Place). All (λ y. y.index ≢ p.index) c.args.self.now.waits.items) (sym at) others) in
    record {
      belongs = subst (IsMine c.args.semaphore.now) (sym same) c.acquire.ensures.belongs;
      owes = owes-none _ _ c.if-is_some.ensures
          (subst (λ p. IsReady (pass_view p).facts) (sym same) c.acquire.ensures.ready);
      waits = subst (λ p. All (HasAt (pass_view p)) c.push_reserved.new.self.items) (sym same)
          (subst (All (HasAt w)) (sym c.push_reserved.ensures.items) all);
      apart = subst Apart (sym c.push_reserved.ensures.items) apart;
      every = every_more _ v.facts.waits (pass_view c.spend_wait-at.new.pass).facts.waits _ _ k
          c.push_reserved.ensures.items (ap (λ p. (pass_view p).facts.waits) same ∙ more) c.requires.stands.every;
    }

pub returns-in-Ok-Broke-clause-stands : goal.returns-in-Ok-Broke-clause-stands
returns-in-Ok-Broke-clause-stands c =
    let broke = rw c.in-Ok-Broke.field-0-is at c.in-Ok-Broke.ensures.acquired in
    record {
      belongs = c.acquire.ensures.belongs;
      owes = owes-none _ _ c.if-is_some.ensures c.acquire.ensures.ready;
      waits = kept-same _ _ _ (goes-same _ _ c.acquire.ensures.called.called.same) broke.2.waits_are
          c.requires.stands.waits;
      apart = c.requires.stands.apart;
      every = every_same _ _ _ broke.2.waits_are c.requires.stands.every;
    }

pub returns-in-Err-Worn-clause-stands : goal.returns-in-Err-Worn-clause-stands
returns-in-Err-Worn-clause-stands c = record {
  belongs = c.acquire.ensures.belongs;
  owes = owes-none _ _ c.if-is_some.ensures c.acquire.ensures.ready;
  waits = kept-same _ _ _ (goes-same _ _ c.acquire.ensures.called.called.same)
      (ap (λ (f : Facts). f.waits) (c.in-Err-Worn.ensures.worn (ap Err c.in-Err-Worn.field-0-is)).facts_are)
      c.requires.stands.waits;
  apart = c.requires.stands.apart;
  every = every_same _ _ _
      (ap (λ (f : Facts). f.waits) (c.in-Err-Worn.ensures.worn (ap Err c.in-Err-Worn.field-0-is)).facts_are)
      c.requires.stands.every;
}

pub returns-in-Err-Crowded-clause-stands : goal.returns-in-Err-Crowded-clause-stands
returns-in-Err-Crowded-clause-stands c =
    let crowded = (c.in-Err-Crowded.ensures.crowded (ap Err c.in-Err-Crowded.field-0-is)).crowded in
    let same = ap (λ (f : Facts). f.waits) crowded.facts_are in
    record {
      belongs = c.acquire.ensures.belongs;
      owes = owes-none _ _ c.if-is_some.ensures c.acquire.ensures.ready;
      waits = kept-same _ _ _ (goes-same _ _ c.acquire.ensures.called.called.same) same c.requires.stands.waits;
      apart = c.requires.stands.apart;
      every = every_same _ _ _ same c.requires.stands.every;
    }

pub returns-in-Ok-Now-clause-answered : goal.returns-in-Ok-Now-clause-answered
returns-in-Ok-Now-clause-answered c =
    inr (record {
      given = c.acquire.result;
      told = ap Now c.number.ensures ∙ ap told_acquired (sym (c.in-Ok-Now.is ∙ ap Ok c.in-Ok-Now.field-0-is));
      called = c.acquire.ensures.called;
      worn = c.acquire.ensures.worn;
      crowded = c.acquire.ensures.crowded;
      acquired = c.acquire.ensures.acquired;
    })

pub returns-in-Ok-Later-clause-answered : goal.returns-in-Ok-Later-clause-answered
returns-in-Ok-Later-clause-answered c =
    inr (subst (λ p. HasAcquired (pass_view c.args.self.now.pass) (Later c.spend_wait-at.result.index) (pass_view p))
    (sym c.spend_wait-at.ensures.same) (record {
      given = c.acquire.result;
      told = ap (λ (p : Place). Later p.index) c.spend_wait-at.ensures.place
          ∙ ap told_acquired (sym (c.in-Ok-Later.is ∙ ap Ok c.in-Ok-Later.field-0-is));
      called = c.acquire.ensures.called;
      worn = c.acquire.ensures.worn;
      crowded = c.acquire.ensures.crowded;
      acquired = c.acquire.ensures.acquired;
    }))

pub returns-in-Ok-Broke-clause-answered : goal.returns-in-Ok-Broke-clause-answered
returns-in-Ok-Broke-clause-answered c =
    inr (record {
      given = c.acquire.result;
      told = search rules;
      called = c.acquire.ensures.called;
      worn = c.acquire.ensures.worn;
      crowded = c.acquire.ensures.crowded;
      acquired = c.acquire.ensures.acquired;
    })

pub returns-in-Err-Worn-clause-answered : goal.returns-in-Err-Worn-clause-answered
returns-in-Err-Worn-clause-answered c =
    inr (record {
      given = c.acquire.result;
      told = ap told_acquired (sym (c.in-Err-Worn.is ∙ ap Err c.in-Err-Worn.field-0-is));
      called = c.acquire.ensures.called;
      worn = c.acquire.ensures.worn;
      crowded = c.acquire.ensures.crowded;
      acquired = c.acquire.ensures.acquired;
    })

pub returns-in-Err-Crowded-clause-answered : goal.returns-in-Err-Crowded-clause-answered
returns-in-Err-Crowded-clause-answered c =
    inr (record {
      given = c.acquire.result;
      told = ap told_acquired (sym (c.in-Err-Crowded.is ∙ ap Err c.in-Err-Crowded.field-0-is));
      called = c.acquire.ensures.called;
      worn = c.acquire.ensures.worn;
      crowded = c.acquire.ensures.crowded;
      acquired = c.acquire.ensures.acquired;
    })
