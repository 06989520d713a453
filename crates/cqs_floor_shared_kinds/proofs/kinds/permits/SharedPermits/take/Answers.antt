use Rattle.std.proofs.Common.{Ok, refl, sym, subst, ◌∙◌, ap, Err}
use Rattle.std.specs.Arc.{arc_value}
use Rattle.cqs_rule.specs.Passes.{pass_view}
use Rattle.cqs_semaphore.specs.declared.answers.Acquired.TheVariants.{Later}
use Rattle.cqs_semaphore.specs.Answers.{Acquires}
use Rattle.cqs_semaphore.specs.Calls.{CallRule, IsMine}
use Rattle.cqs_semaphore.specs.Entries.{acquired_entries, acquired_further}
use Rattle.cqs_floor_shared_kinds.proofs.PermitShares.{takes-none, takes-now, takes-under, takes-wait}
use Rattle.cqs_floor_shared_kinds.proofs.kinds.permits.SharedPermits.take.Goals as goal

pub returns-in-None : goal.returns-in-None
returns-in-None g c =
    takes-now _ _ refl (rw c.deref.ensures at c.in-Ok-Now.ensures.belongs) c.args.job c.in-Ok-Now.permit
    (sym c.number.ensures ∙ c.in-None.is)
    (rw c.in-Ok-Now.field-0-is at c.in-Ok-Now.ensures.called)
    (rw c.in-Ok-Now.field-0-is at c.in-Ok-Now.ensures.acquired)

pub returns-in-Some : goal.returns-in-Some
returns-in-Some g c =
    takes-under _ _ refl (rw c.deref.ensures at c.in-Ok-Now.ensures.belongs) c.args.job c.in-Some.number
    c.in-Ok-Now.permit (sym c.number.ensures ∙ c.in-Some.is)
    (rw c.in-Ok-Now.field-0-is at c.in-Ok-Now.ensures.called)
    (rw c.in-Ok-Now.field-0-is at c.in-Ok-Now.ensures.acquired)

pub returns-in-Ok-Later : goal.returns-in-Ok-Later
returns-in-Ok-Later g c =
    let rule = rw c.in-Ok-Later.field-0-is at c.in-Ok-Later.ensures.called in
    let got = rw c.in-Ok-Later.field-0-is at c.in-Ok-Later.ensures.acquired in
    let next = sym c.spend_wait.ensures.same in
    let v = pass_view c.args.self.now.pass in
    let wait = c.in-Ok-Later.wait in
    takes-wait _ _ refl
    (subst (λ p. IsMine (arc_value c.args.self.now.semaphore) p) next
    (rw c.deref.ensures at c.in-Ok-Later.ensures.belongs))
    c.args.job wait _ c.spend_wait.ensures.place
    (subst (λ p. CallRule v (acquired_entries v.number (Ok (Later wait))) (acquired_further (Ok (Later wait)))
    (pass_view p)) next rule)
    (subst (λ p. Acquires v (Later wait) (pass_view p)) next got)

pub returns-in-Err-Worn : goal.returns-in-Err-Worn
returns-in-Err-Worn g c =
    takes-none _ _ refl (rw c.deref.ensures at c.in-Err-Worn.ensures.belongs) c.args.job
    c.in-Err-Worn.ensures.called (c.in-Err-Worn.ensures.worn (ap Err c.in-Err-Worn.field-0-is))
    c.in-Err-Worn.ensures.ready
