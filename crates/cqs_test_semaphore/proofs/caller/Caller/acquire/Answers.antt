use Rattle.std.proofs.Common.{All, subst, sym}
use Rattle.std.proofs.lemmas.List.Elements.{All-push}
use Rattle.cqs_rule.specs.Passes.{pass_view}
use Rattle.cqs_rule.specs.Waits.{HasWait}
use Rattle.cqs_test_semaphore.proofs.Kept.{kept-same, kept-more, refused-waits, took-waits, stands-ready}
use Rattle.cqs_test_semaphore.proofs.caller.Caller.acquire.Goals as goal

pub returns-in_ok-push-in-Ok-Now : goal.returns-in_ok-push-in-Ok-Now
returns-in_ok-push-in-Ok-Now c =
    let took = rw c.in-Ok-Now.field-0-is at c.in-Ok-Now.ensures.acquired in
    stands-ready _ c.requires.free c.acquire.ensures.belongs c.acquire.ensures.ready
    (kept-same _ _ _ _ _ c.acquire.ensures.called (took-waits _ _ _ took) c.requires.stands.waits)

pub returns-in_ok-push-in-Ok-Later : goal.returns-in_ok-push-in-Ok-Later
returns-in_ok-push-in-Ok-Later c =
    let later = rw c.in-Ok-Later.field-0-is at c.in-Ok-Later.ensures.acquired in
    let has = HasWait (pass_view c.acquire.new.pass) in
    stands-ready _ c.requires.free c.acquire.ensures.belongs c.acquire.ensures.ready
    (subst (All has) (sym c.in_ok-push-in-Ok-Later.ensures.items)
    (All-push has _ _ (kept-more _ _ _ _ _ _ c.acquire.ensures.called later.3.waits_are c.requires.stands.waits)
    later.2))

pub returns-in-Err : goal.returns-in-Err
returns-in-Err c =
    stands-ready _ c.requires.free c.acquire.ensures.belongs c.acquire.ensures.ready
    (kept-same _ _ _ _ _ c.acquire.ensures.called (refused-waits _ _ _ c.in-Err.ensures.worn c.in-Err.ensures.crowded)
    c.requires.stands.waits)
