use Rattle.cqs_test_semaphore.proofs.Kept.{kept-same, ends-owing}
use Rattle.cqs_test_semaphore.proofs.caller.Caller.finish.Goals as goal

pub keep-requires-clause-waits : goal.keep-requires-clause-waits
keep-requires-clause-waits c =
    kept-same _ _ _ _ _ c.finish-released.ensures.called (ends-owing _ _ _ _ _ c.finish-released.ensures.ends).1
    c.requires.stands.waits
