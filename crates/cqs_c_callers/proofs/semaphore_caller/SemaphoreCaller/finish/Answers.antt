use Rattle.cqs_rule_laws.proofs.Places.{goes-same}
use Rattle.cqs_c_callers.proofs.SemaphoreKept.{kept-same, ends-owing}
use Rattle.cqs_c_callers.proofs.Every.{every_same}
use Rattle.std.proofs.Common.{inr, subst, sym}
use Rattle.cqs_rule.specs.Passes.{pass_view}
use Rattle.cqs_c_callers.specs.SemaphoreAnswers.{HasFinished}
use Rattle.cqs_c_callers.proofs.semaphore_caller.SemaphoreCaller.finish.Goals as goal

pub keep-requires-clause-waits : goal.keep-requires-clause-waits
keep-requires-clause-waits c =
    kept-same _ _ _ (goes-same _ _ c.finish-released.ensures.called.called.same)
    (ends-owing _ _ _ _ _ c.finish-released.ensures.ends).1 c.requires.stands.waits

pub keep-requires-clause-every : goal.keep-requires-clause-every
keep-requires-clause-every c =
    every_same _ _ _ (ends-owing _ _ _ _ _ c.finish-released.ensures.ends).1 c.requires.stands.every

pub returns-clause-answered : goal.returns-clause-answered
returns-clause-answered c =
    inr (subst (λ p. HasFinished (pass_view c.args.self.now.pass) c.keep.result (pass_view p))
    (sym c.keep.ensures.pass) (record {
      given = c.finish-released.result;
      told = c.keep.ensures.told;
      called = c.finish-released.ensures.called;
      ends = c.finish-released.ensures.ends;
    }))
