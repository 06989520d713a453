use Rattle.std.proofs.Common.{Ok, refl, sym, subst}
use Rattle.std.specs.Arc.{arc_value}
use Rattle.cqs_latch.specs.declared.answers.LatchWait.TheVariants.{Later}
use Rattle.cqs_latch.specs.Answers.{HasWaited}
use Rattle.cqs_latch.specs.Calls.{IsMine}
use Rattle.cqs_rule.specs.Passes.{pass_view}
use Rattle.cqs_floor_shared_any.proofs.LatchShares.{waits-later, waits-passed, waits-worn}
use Rattle.cqs_floor_shared_any.proofs.kinds.latch.SharedLatch.wait.Goals as goal

pub returns-in-Ok-Passed : goal.returns-in-Ok-Passed
returns-in-Ok-Passed g c =
    waits-passed _ _ refl (rw c.deref.ensures at c.wait.ensures.belongs) c.args.job
    (rw c.in-Ok-Passed.field-0-is at c.in-Ok-Passed.ensures.waited) refl

pub returns-in-Ok-Later : goal.returns-in-Ok-Later
returns-in-Ok-Later g c =
    let told = rw c.in-Ok-Later.field-0-is at c.in-Ok-Later.ensures.waited in
    let next = sym c.spend_wait.ensures.same in
    let v = pass_view c.args.self.now.pass in
    let wait = c.in-Ok-Later.wait in
    waits-later _ _ refl
    (subst (λ p. IsMine (arc_value c.args.self.now.latch) p) next
    (rw c.deref.ensures at c.wait.ensures.belongs))
    c.args.job wait _ c.spend_wait.ensures.place
    (subst (λ p. HasWaited v (Ok (Later wait)) (pass_view p)) next told) refl

pub returns-in-Err-Worn : goal.returns-in-Err-Worn
returns-in-Err-Worn g c =
    waits-worn _ _ refl (rw c.deref.ensures at c.wait.ensures.belongs) c.args.job
    (rw c.in-Err-Worn.field-0-is at c.in-Err-Worn.ensures.waited) refl
