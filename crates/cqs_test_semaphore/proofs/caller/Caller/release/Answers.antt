use Rattle.std.proofs.Common.{ap}
use Rattle.cqs_rule_laws.specs.declared.view.Facts.{Facts}
use Rattle.cqs_test_semaphore.proofs.Kept.{kept-same, release-owing, stands-ready}
use Rattle.cqs_test_semaphore.proofs.caller.Caller.release.Goals as goal

pub keep-requires-clause-waits : goal.keep-requires-clause-waits
keep-requires-clause-waits c =
    kept-same _ _ _ _ _ c.release.ensures.called (release-owing _ _ _ c.in-Ok.ensures.released).1
    c.requires.stands.waits

pub returns-in_ok-push-in-Err : goal.returns-in_ok-push-in-Err
returns-in_ok-push-in-Err c =
    stands-ready _ c.requires.free c.release.ensures.belongs c.in-Err.ensures.ready
    (kept-same _ _ _ _ _ c.release.ensures.called (ap (λ (f : Facts). f.waits) c.in-Err.ensures.crowded.facts_are)
    c.requires.stands.waits)
