use Rattle.cqs_test_semaphore.proofs.Kept.{kept-same, stands-ready}
use Rattle.cqs_test_semaphore.proofs.caller.Caller.try_acquire.Goals as goal

pub returns-in_ok-push-in-Got : goal.returns-in_ok-push-in-Got
returns-in_ok-push-in-Got c =
    let tries = rw c.in-Got.is at c.try_acquire.ensures.tries in
    stands-ready _ c.requires.free c.try_acquire.ensures.belongs c.try_acquire.ensures.ready
    (kept-same _ _ _ _ _ c.try_acquire.ensures.called tries.1.rests.waits_are c.requires.stands.waits)

pub returns-in-Busy : goal.returns-in-Busy
returns-in-Busy c =
    let tries = rw c.in-Busy.is at c.try_acquire.ensures.tries in
    stands-ready _ c.requires.free c.try_acquire.ensures.belongs c.try_acquire.ensures.ready
    (kept-same _ _ _ _ _ c.try_acquire.ensures.called tries.rests.waits_are c.requires.stands.waits)

pub returns-in-Contended : goal.returns-in-Contended
returns-in-Contended c =
    let tries = rw c.in-Contended.is at c.try_acquire.ensures.tries in
    stands-ready _ c.requires.free c.try_acquire.ensures.belongs c.try_acquire.ensures.ready
    (kept-same _ _ _ _ _ c.try_acquire.ensures.called tries.rests.waits_are c.requires.stands.waits)
