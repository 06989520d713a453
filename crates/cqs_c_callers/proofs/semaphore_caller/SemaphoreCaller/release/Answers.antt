use Rattle.cqs_rule_laws.proofs.Places.{goes-same}
use Rattle.cqs_c_callers.proofs.SemaphoreKept.{kept-same, owes-none, release-owing}
use Rattle.cqs_c_callers.proofs.Every.{every_same}
use Rattle.std.proofs.Common.{inr, subst, sym, ap, ◌∙◌}
use Rattle.cqs_rule_laws.specs.declared.view.Facts.{Facts}
use Rattle.cqs_rule.specs.Passes.{pass_view}
use Rattle.cqs_c_callers.specs.SemaphoreAnswers.{HasReleased}
use Rattle.cqs_c_callers.specs.SemaphoreTold.{told_given}
use Rattle.cqs_c_callers.proofs.semaphore_caller.SemaphoreCaller.release.Goals as goal

pub keep-requires-clause-waits : goal.keep-requires-clause-waits
keep-requires-clause-waits c =
    kept-same _ _ _ (goes-same _ _ c.release.ensures.called.called.same)
    (release-owing _ _ _ c.in-Ok.ensures.released).1 c.requires.stands.waits

pub keep-requires-clause-every : goal.keep-requires-clause-every
keep-requires-clause-every c =
    every_same _ _ _ (release-owing _ _ _ c.in-Ok.ensures.released).1 c.requires.stands.every

pub returns-in-Err-clause-stands : goal.returns-in-Err-clause-stands
returns-in-Err-clause-stands c =
    let same = c.in-Err.ensures.crowded.facts_are in
    record {
      belongs = c.release.ensures.belongs;
      owes = owes-none _ _ c.if-is_some.ensures c.in-Err.ensures.ready;
      waits = kept-same _ _ _ (goes-same _ _ c.release.ensures.called.called.same) (ap (λ (f : Facts). f.waits) same)
          c.requires.stands.waits;
      apart = c.requires.stands.apart;
      every = every_same _ _ _ (ap (λ (f : Facts). f.waits) same) c.requires.stands.every;
    }

pub returns-in-Ok-clause-answered : goal.returns-in-Ok-clause-answered
returns-in-Ok-clause-answered c =
    inr (subst (λ p. HasReleased (pass_view c.args.self.now.pass) c.keep.result (pass_view p))
    (sym c.keep.ensures.pass) (record {
      given = c.release.result;
      told = c.keep.ensures.told ∙ ap told_given (sym c.in-Ok.is);
      called = c.release.ensures.called;
      crowded = c.release.ensures.crowded;
      released = c.release.ensures.released;
    }))

pub returns-in-Err-clause-answered : goal.returns-in-Err-clause-answered
returns-in-Err-clause-answered c =
    inr (record {
      given = c.release.result;
      told = ap told_given (sym c.in-Err.is);
      called = c.release.ensures.called;
      crowded = c.release.ensures.crowded;
      released = c.release.ensures.released;
    })
