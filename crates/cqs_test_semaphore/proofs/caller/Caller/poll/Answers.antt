use Rattle.std.proofs.Common.{All, subst, sym}
use Rattle.std.proofs.lemmas.List.Elements.{All-push}
use Rattle.cqs_rule.specs.Passes.{pass_view}
use Rattle.cqs_rule.specs.Waits.{HasWait}
use Rattle.cqs_test_semaphore.proofs.Kept.{kept-others, others-kept, stands-ready, stands-parted}
use Rattle.cqs_test_semaphore.proofs.caller.Caller.poll.Goals as goal

pub returns-in_default : goal.returns-in_default
returns-in_default c = stands-parted _ _ c.in_ok-wait.ensures.parted

pub returns-in_ok-push-in-Granted : goal.returns-in_ok-push-in-Granted
returns-in_ok-push-in-Granted c =
    let parted = c.in_ok-wait.ensures.parted in
    let taken = rw c.in-Some.is at c.in_ok-wait.ensures.taken in
    let polled = rw c.in-Granted.is at c.poll.ensures.polled in
    stands-ready _ parted.free c.poll.ensures.belongs c.poll.ensures.ready
    (kept-others _ _ _ _ _ _ _ taken.1 c.poll.ensures.called polled.2.waits_are parted.others)

pub returns-in_ok-push-in-Pending : goal.returns-in_ok-push-in-Pending
returns-in_ok-push-in-Pending c =
    let parted = c.in_ok-wait.ensures.parted in
    let polled = rw c.in-Pending.is at c.poll.ensures.polled in
    let has = HasWait (pass_view c.poll.new.pass) in
    stands-ready _ parted.free c.poll.ensures.belongs c.poll.ensures.ready
    (subst (All has) (sym c.in_ok-push-in-Pending.ensures.items)
    (All-push has _ _ (others-kept _ _ _ _ _ _ c.poll.ensures.called polled.3.waits_are parted.others) polled.1))
