use Rattle.std.proofs.Common.{inr, subst, sym, ap, IfOk, ◌∙◌}
use Rattle.cqs_rule_laws.specs.declared.view.Facts.{Facts}
use Rattle.cqs_rule_laws.proofs.Places.{goes-same}
use Rattle.cqs_rule.specs.Passes.{pass_view}
use Rattle.cqs_sync_semaphore.specs.Answers.{Releases}
use Rattle.cqs_c_callers.proofs.Every.{every_same}
use Rattle.cqs_c_callers.proofs.SemaphoreKept.{kept-same}
use Rattle.cqs_c_sync_callers.specs.Answers.{HasReleased}
use Rattle.cqs_c_sync_callers.specs.Told.{told_given}
use Rattle.cqs_c_sync_callers.proofs.SyncKept.{owes-none, release-keeping}
use Rattle.cqs_c_sync_callers.proofs.sync_semaphore_caller.SyncSemaphoreCaller.release.Goals as goal

pub keep-requires-clause-owes : goal.keep-requires-clause-owes
keep-requires-clause-owes c =
    let v = pass_view c.args.self.now.pass in
    let w = pass_view c.release.new.pass in
    (release-keeping v w _ (subst (λ n. Releases n v c.in-Ok.released w) c.permit_of-permit.ensures
    c.in-Ok.ensures.released)).owes

pub keep-requires-clause-waits : goal.keep-requires-clause-waits
keep-requires-clause-waits c =
    let v = pass_view c.args.self.now.pass in
    let w = pass_view c.release.new.pass in
    let kept = release-keeping v w _ (subst (λ n. Releases n v c.in-Ok.released w) c.permit_of-permit.ensures
    c.in-Ok.ensures.released) in
    kept-same v w _ kept.goes kept.waits_are c.requires.stands.waits

pub keep-requires-clause-every : goal.keep-requires-clause-every
keep-requires-clause-every c =
    let v = pass_view c.args.self.now.pass in
    let w = pass_view c.release.new.pass in
    let kept = release-keeping v w _ (subst (λ n. Releases n v c.in-Ok.released w) c.permit_of-permit.ensures
    c.in-Ok.ensures.released) in
    every_same _ _ _ kept.waits_are c.requires.stands.every

pub returns-in-Err-clause-stands : goal.returns-in-Err-clause-stands
returns-in-Err-clause-stands c =
    let same = c.in-Err.ensures.crowded.facts_are in
    record {
      belongs = c.release.ensures.belongs;
      owes = owes-none _ _ c.if-is_some.ensures c.in-Err.ensures.ready;
      waits = kept-same _ _ _ (goes-same _ _ c.in-Err.ensures.refused.called.same) (ap (λ (f : Facts). f.waits) same)
          c.requires.stands.waits;
      apart = c.requires.stands.apart;
      every = every_same _ _ _ (ap (λ (f : Facts). f.waits) same) c.requires.stands.every;
    }

pub returns-in-Ok-clause-answered : goal.returns-in-Ok-clause-answered
returns-in-Ok-clause-answered c =
    let v = pass_view c.args.self.now.pass in
    let w = pass_view c.release.new.pass in
    inr (subst (λ p. HasReleased v c.keep.result (pass_view p)) (sym c.keep.ensures.pass) (record {
      given = c.release.result;
      told = c.keep.ensures.told ∙ ap told_given (sym c.in-Ok.is);
      refused = c.release.ensures.refused;
      crowded = c.release.ensures.crowded;
      released = subst (λ n. IfOk c.release.result (λ x. Releases n v x w)) c.permit_of-permit.ensures
          c.release.ensures.released;
    }))

pub returns-in-Err-clause-answered : goal.returns-in-Err-clause-answered
returns-in-Err-clause-answered c =
    let v = pass_view c.args.self.now.pass in
    let w = pass_view c.release.new.pass in
    inr (record {
      given = c.release.result;
      told = ap told_given (sym c.in-Err.is);
      refused = c.release.ensures.refused;
      crowded = c.release.ensures.crowded;
      released = subst (λ n. IfOk c.release.result (λ x. Releases n v x w)) c.permit_of-permit.ensures
          c.release.ensures.released;
    })
