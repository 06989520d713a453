use Rattle.std.proofs.Common.{◌≡◌, sym, ◌∙◌, Some, inr}
use Rattle.cqs_rule.specs.Passes.{pass_view}
use Rattle.cqs_waiter.specs.Locks.{lock_calls}
use Rattle.cqs_waiter.proofs.Arriving.{arrives-still, looked-pends, served-arrives}
use Rattle.cqs_waiter.proofs.lock_future.LockFuture.poll.Goals as goal

pub returns-in-Granted-clause-value : goal.returns-in-Granted-clause-value
returns-in-Granted-clause-value g c =
    let had : c.args.self.now.pass ≡ Some c.in-Some.pass = sym c.take.ensures.value ∙ c.in-Some.is in
    let wait : c.take-2.result ≡ c.args.self.now.wait = c.take-2.ensures.value in
    let begins = rw (c.in-Ok-Later.is, c.in-Ok-Later.field-0-is) at c.begin.ensures.begins in
    let polled = rw c.in-Granted.is at c.poll.ensures.polled in
    let holds = rw c.in-Granted.is at c.poll.ensures.holds in
    let arrives = served-arrives lock_calls _ _ _ _ _ c.in-Granted.guard begins (polled, holds) in
    rw (had, sym wait) ((c.poll.ensures.belongs, c.poll.ensures.ready), arrives)

pub returns-in-Pending-clause-same : goal.returns-in-Pending-clause-same
returns-in-Pending-clause-same g c =
    let had : c.args.self.now.pass ≡ Some c.in-Some.pass = sym c.take.ensures.value ∙ c.in-Some.is in
    let wait : c.take-2.result ≡ c.args.self.now.wait = c.take-2.ensures.value in
    let begins = rw (c.in-Ok-Later.is, c.in-Ok-Later.field-0-is) at c.begin.ensures.begins in
    let polled = rw c.in-Pending.is at c.poll.ensures.polled in
    let holds = rw c.in-Pending.is at c.poll.ensures.holds in
    let pends = looked-pends lock_calls _ _ _ _ _ c.in-Pending.wait begins (polled, holds) in
    rw (c.yield_now-in-Pending.ensures.pending, had, sym wait)
    (λ out gives.
    (gives.0, arrives-still lock_calls _ _ (pass_view out.pass) _ _ out.got pends gives.1))

pub returns-in-Pending-clause-pending : goal.returns-in-Pending-clause-pending
returns-in-Pending-clause-pending g c =
    let had : c.args.self.now.pass ≡ Some c.in-Some.pass = sym c.take.ensures.value ∙ c.in-Some.is in
    let wait : c.take-2.result ≡ c.args.self.now.wait = c.take-2.ensures.value in
    let begins = rw (c.in-Ok-Later.is, c.in-Ok-Later.field-0-is) at c.begin.ensures.begins in
    let polled = rw c.in-Pending.is at c.poll.ensures.polled in
    let holds = rw c.in-Pending.is at c.poll.ensures.holds in
    let pends = looked-pends lock_calls _ _ _ _ _ c.in-Pending.wait begins (polled, holds) in
    (λ is. inr (rw (had, sym wait) pends), λ looked. c.yield_now-in-Pending.ensures.pending)
