use Rattle.std.proofs.Common.{Ok, refl, ap, sym, subst, ◌∙◌, length}
use Rattle.std.proofs.lemmas.List.{length_push}
use Rattle.cqs_rule.specs.Passes.{pass_view}
use Rattle.cqs_mutex.specs.declared.answers.Locked.TheVariants.{Later}
use Rattle.cqs_mutex.specs.Calls.{HasLocked}
use Rattle.cqs_mutex.specs.Mutexes.{Belongs}
use Rattle.cqs_floor_alone_kinds.proofs.MutexSole.{mutex-takes, mutex-waits}
use Rattle.cqs_floor_alone_kinds.proofs.mutex_sole.MutexSoleSoleSemaphore.acquire.Goals as goal

pub returns-in-Ok-Now : goal.returns-in-Ok-Now
returns-in-Ok-Now c =
    mutex-takes _ _ c.in-Ok-Now.ensures.belongs c.push_reserved.ensures.capacity c.in-Ok-Now.guard
    (rw c.in-Ok-Now.field-0-is at c.in-Ok-Now.ensures.locked)
    (ap (λ ps. length ps) c.push_reserved.ensures.items ∙ length_push _ _)

pub returns-in-Ok-Later : goal.returns-in-Ok-Later
returns-in-Ok-Later c =
    let locked = rw c.in-Ok-Later.field-0-is at c.in-Ok-Later.ensures.locked in
    let next = sym c.spend_wait.ensures.same in
    let v = pass_view c.args.self.now.pass in
    let wait = c.in-Ok-Later.wait in
    mutex-waits _ _ (subst (λ p. Belongs c.args.self.now.mutex p) next c.in-Ok-Later.ensures.belongs) refl wait _
    c.spend_wait.ensures.place (subst (λ p. HasLocked v (Ok (Later wait)) (pass_view p)) next locked) refl
