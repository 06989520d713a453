use Rattle.cqs_test_semaphore.proofs.Kept.{kept-same, stands-ready}
use Rattle.cqs_test_semaphore.proofs.caller.Caller.state.Goals as goal

pub returns : goal.returns
returns c =
    stands-ready _ c.requires.free c.state.ensures.belongs c.state.ensures.rests.ready
    (kept-same _ _ _ _ _ c.state.ensures.called c.state.ensures.rests.waits_are c.requires.stands.waits)
