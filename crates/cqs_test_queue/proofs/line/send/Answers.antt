use Rattle.std.proofs.Common.{ap, refl}
use Rattle.cqs_rule_laws.specs.declared.view.Facts.{Facts}
use Rattle.cqs_semaphore_client.specs.Semaphore.{semaphore_object}
use Rattle.cqs_rule.proofs.Places.{has-wait-called}
use Rattle.cqs_test_queue.proofs.Waiting.{keeps-step, owes-it}
use Rattle.cqs_test_queue.proofs.line.send.Goals as goal

pub resume-requires-clause-owes : goal.resume-requires-clause-owes
resume-requires-clause-owes g c lifetimes =
    owes-it _ _ _ c.give_permit.ensures.saw (c.is_for_one.ensures c.if-not-is_for_one.false)

-- neither the release nor the resume closes the wait
pub returns-clause-waits : goal.returns-clause-waits
returns-clause-waits g c =
    let resumed = c.in-Served.ensures.ample c.requires.ample in
    has-wait-called semaphore_object _ _ _ _ c.args.wait resumed.called (ap (λ (f : Facts). f.waits) resumed.facts_are)
    (keeps-step semaphore_object _ _ _ _ c.args.wait c.give_permit.ensures.saw.saw refl c.requires.waits)
