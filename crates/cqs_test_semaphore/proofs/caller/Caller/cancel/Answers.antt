use Rattle.std.proofs.Common.{◌∙◌, ap, subst, None, Some}
use Rattle.cqs_rule.specs.Passes.{pass_view}
use Rattle.cqs_rule.specs.Waits.{place_of}
use Rattle.cqs_semaphore.specs.declared.answers.CancelAnswer.TheVariants.{Cancelled}
use Rattle.cqs_semaphore.specs.Steps.{HasCancelled}
use Rattle.cqs_test_semaphore.proofs.Kept.{kept-others, cancel-owing, stands-ready, stands-parted}
use Rattle.cqs_test_semaphore.proofs.caller.Caller.cancel.Goals as goal

pub returns-in_default : goal.returns-in_default
returns-in_default c = stands-parted _ _ c.in_ok-wait.ensures.parted

pub returns-in-Cancelled-None : goal.returns-in-Cancelled-None
returns-in-Cancelled-None c =
    let k = (place_of c.in-Some.wait).index in
    let v = pass_view c.take_wait.new.self.pass in
    let w = pass_view c.cancel.new.pass in
    let parted = c.in_ok-wait.ensures.parted in
    let taken = rw c.in-Some.is at c.in_ok-wait.ensures.taken in
    let answer = c.in-Cancelled-None.is ∙ ap Cancelled c.in-Cancelled-None.field-0-is in
    let told : HasCancelled k v (Cancelled None) w =
    subst (λ answer. HasCancelled k v answer w) answer c.cancel.ensures.cancelled in
    let left = cancel-owing k v w None told.0 told.2.1 in
    stands-ready _ parted.free c.cancel.ensures.belongs left.0
    (kept-others v w _ _ k _ _ taken.1 told.1 left.1 parted.others)

pub returns-in-Cancelled-Some : goal.returns-in-Cancelled-Some
returns-in-Cancelled-Some c =
    let k = (place_of c.in-Some.wait).index in
    let v = pass_view c.take_wait.new.self.pass in
    let w = pass_view c.cancel.new.pass in
    let parted = c.in_ok-wait.ensures.parted in
    let taken = rw c.in-Some.is at c.in_ok-wait.ensures.taken in
    let answer = c.in-Cancelled-Some.is ∙ ap Cancelled c.in-Cancelled-Some.field-0-is in
    let told : HasCancelled k v (Cancelled (Some c.in-Cancelled-Some.under)) w =
    subst (λ answer. HasCancelled k v answer w) answer c.cancel.ensures.cancelled in
    let left = cancel-owing k v w (Some c.in-Cancelled-Some.under) told.0 told.2.1 in
    record {
      belongs = c.cancel.ensures.belongs;
      owes = left.0;
      waits = kept-others v w _ _ k _ _ taken.1 told.1 left.1 parted.others;
    }

pub returns-in_ok-push-in-TooLate : goal.returns-in_ok-push-in-TooLate
returns-in_ok-push-in-TooLate c =
    let parted = c.in_ok-wait.ensures.parted in
    let taken = rw c.in-Some.is at c.in_ok-wait.ensures.taken in
    let told = rw c.in-TooLate.is at c.cancel.ensures.cancelled in
    stands-ready _ parted.free c.cancel.ensures.belongs told.2.3.ready
    (kept-others _ _ _ _ _ _ _ taken.1 told.1 told.2.3.waits_are parted.others)
