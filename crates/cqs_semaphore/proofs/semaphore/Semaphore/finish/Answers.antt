use Rattle.std.proofs.Common.{◌∙◌, refl}
use Rattle.cqs_semaphore.proofs.AloneSteps.{quiet, plain-end, turned-back}
use Rattle.cqs_semaphore.proofs.Between.{ends-between}
use Rattle.cqs_semaphore.proofs.ReleaseSteps.{ends-rule, ends-by}
use Rattle.cqs_semaphore.proofs.ResumeSteps.{drawn-past, further-so}
use Rattle.cqs_semaphore.proofs.PlainPasses.{plain-opening}
use Rattle.cqs_semaphore.proofs.semaphore.Semaphore.finish.Goals as goal

pub returns-clause-called : goal.returns-clause-called
returns-clause-called g c =
    ends-rule _ _ _ _ _ (c.finish.result, c.release_after.ensures, c.finish.ensures.resumed)
    c.requires.belongs.live.own c.finish.ensures.belongs.live.legal

pub returns-clause-ends : goal.returns-clause-ends
returns-clause-ends g c =
    ends-by _ _ _ _ _ c.requires.further
    (c.finish.result, c.release_after.ensures, c.finish.ensures.resumed)

pub returns-clause-alone : goal.returns-clause-alone
returns-clause-alone g c = λ alone one.
    let rule = returns-clause-called g c in
    plain-end _ _ c.release_after.result _ _ rule (returns-clause-ends g c)
    (λ idle. quiet _ (plain-opening c.args.self.now c.finish.ensures.belongs (λ x. refl))
    c.finish.ensures.belongs.alone c.finish.new.pass.live.0 (rule.called.same.alone ∙ alone) idle)
    alone one

pub returns-clause-alone_turned : goal.returns-clause-alone_turned
returns-clause-alone_turned g c = λ alone none.
    turned-back _ _ c.release_after.result _ _ (returns-clause-called g c) (returns-clause-ends g c) alone none

pub returns-clause-further : goal.returns-clause-further
returns-clause-further g c = λ ample.
    further-so _ c.finish.result _ c.release_after.ensures (c.finish.ensures.further ample)

pub returns-clause-drawn_past : goal.returns-clause-drawn_past
returns-clause-drawn_past g c =
    drawn-past _ _ _ _ _ c.finish.result _ c.requires.owes.reached c.release_after.ensures c.finish.ensures.resumed

pub returns-clause-between : goal.returns-clause-between
returns-clause-between g c = ends-between _ _ _ _ c.release_after.result (returns-clause-ends g c)
