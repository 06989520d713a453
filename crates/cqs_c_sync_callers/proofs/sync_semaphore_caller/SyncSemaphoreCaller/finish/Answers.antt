use Rattle.std.proofs.Common.{◌∙◌, inr, subst, sym}
use Rattle.cqs_rule.specs.Passes.{pass_view}
use Rattle.cqs_c_callers.proofs.Every.{every_same}
use Rattle.cqs_c_callers.proofs.SemaphoreKept.{kept-same}
use Rattle.cqs_c_sync_callers.specs.Answers.{HasFinished}
use Rattle.cqs_c_sync_callers.proofs.SyncKept.{ends-keeping, finish-bare}
use Rattle.cqs_c_sync_callers.proofs.sync_semaphore_caller.SyncSemaphoreCaller.finish.Goals as goal

pub keep-requires-clause-owes : goal.keep-requires-clause-owes
keep-requires-clause-owes c =
    let ends = finish-bare _ _ _ _ _ _ _ (sym c.take.ensures.value ∙ c.in-Some.is) c.requires.stands.owes
    c.finish-released.ensures.ends in
    (ends-keeping _ _ _ _ _ _ ends).owes

pub keep-requires-clause-waits : goal.keep-requires-clause-waits
keep-requires-clause-waits c =
    let ends = finish-bare _ _ _ _ _ _ _ (sym c.take.ensures.value ∙ c.in-Some.is) c.requires.stands.owes
    c.finish-released.ensures.ends in
    let kept = ends-keeping _ _ _ _ _ _ ends in
    kept-same _ _ _ kept.goes kept.waits_are c.requires.stands.waits

pub keep-requires-clause-every : goal.keep-requires-clause-every
keep-requires-clause-every c =
    let ends = finish-bare _ _ _ _ _ _ _ (sym c.take.ensures.value ∙ c.in-Some.is) c.requires.stands.owes
    c.finish-released.ensures.ends in
    every_same _ _ _ (ends-keeping _ _ _ _ _ _ ends).waits_are c.requires.stands.every

pub returns-clause-answered : goal.returns-clause-answered
returns-clause-answered c =
    inr (subst (λ p. HasFinished (pass_view c.args.self.now.pass) c.keep.result (pass_view p))
    (sym c.keep.ensures.pass) (record {
      given = c.finish-released.result;
      told = c.keep.ensures.told;
      ends = finish-bare _ _ _ _ _ _ _ (sym c.take.ensures.value ∙ c.in-Some.is) c.requires.stands.owes
          c.finish-released.ensures.ends;
    }))
