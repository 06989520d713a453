use Rattle.std.proofs.Common.{◌≡◌, sym, ◌∙◌, Some, inr}
use Rattle.cqs_rule.specs.Passes.{pass_view}
use Rattle.cqs_waiter.specs.Permits.{HasPolled, permit_calls}
use Rattle.cqs_waiter.proofs.Arriving.{arrives-still, begun-arrives, looked-pends, served-arrives}
use Rattle.cqs_waiter.proofs.acquire_future.AcquireFutureFuture.poll.Goals as goal

pub returns-in-Ok-Now-clause-value : goal.returns-in-Ok-Now-clause-value
returns-in-Ok-Now-clause-value c =
    let had : c.args.self.now.pass ≡ Some c.in-Some.pass = sym c.take.ensures.value ∙ c.in-Some.is in
    let wait : c.take-2.result ≡ c.args.self.now.wait = c.take-2.ensures.value in
    let begins = rw (c.in-Ok-Now.is, c.in-Ok-Now.field-0-is) at c.begin.ensures.begins in
    let v = pass_view c.in-Some.pass in
    let w = pass_view c.begin.new.pass in
    let arrives = begun-arrives permit_calls v w c.take-2.result c.in-Ok-Now.permit begins in
    rw (had, sym wait) ((c.begin.ensures.belongs, c.begin.ensures.ready), arrives)

pub returns-in-Granted-clause-value : goal.returns-in-Granted-clause-value
returns-in-Granted-clause-value c =
    let had : c.args.self.now.pass ≡ Some c.in-Some.pass = sym c.take.ensures.value ∙ c.in-Some.is in
    let wait : c.take-2.result ≡ c.args.self.now.wait = c.take-2.ensures.value in
    let begins = rw (c.in-Ok-Later.is, c.in-Ok-Later.field-0-is) at c.begin.ensures.begins in
    let e = c.poll.ensures in
    let v = pass_view c.in-Some.pass in
    let m = pass_view c.begin.new.pass in
    let w = pass_view c.poll.new.pass in
    let polled : HasPolled c.in-Ok-Later.wait m c.poll.result w = record {
      called = e.called;
      polled = e.polled;
      alone = e.alone;
    } in
    let arrives = served-arrives permit_calls v m w c.take-2.result _ c.in-Granted.permit begins
    (rw c.in-Granted.is at polled) in
    rw (had, sym wait) ((c.poll.ensures.belongs, c.poll.ensures.ready), arrives)

pub returns-in-Pending-clause-same : goal.returns-in-Pending-clause-same
returns-in-Pending-clause-same c =
    let had : c.args.self.now.pass ≡ Some c.in-Some.pass = sym c.take.ensures.value ∙ c.in-Some.is in
    let wait : c.take-2.result ≡ c.args.self.now.wait = c.take-2.ensures.value in
    let begins = rw (c.in-Ok-Later.is, c.in-Ok-Later.field-0-is) at c.begin.ensures.begins in
    let e = c.poll.ensures in
    let v = pass_view c.in-Some.pass in
    let m = pass_view c.begin.new.pass in
    let w = pass_view c.poll.new.pass in
    let polled : HasPolled c.in-Ok-Later.wait m c.poll.result w = record {
      called = e.called;
      polled = e.polled;
      alone = e.alone;
    } in
    let pends = looked-pends permit_calls v m w c.take-2.result _ c.in-Pending.wait begins
    (rw c.in-Pending.is at polled) in
    rw (c.yield_now-in-Pending.ensures.pending, had, sym wait)
    (λ out gives.
    (gives.0, arrives-still permit_calls _ _ (pass_view out.pass) _ _ out.got pends gives.1))

pub returns-in-Pending-clause-pending : goal.returns-in-Pending-clause-pending
returns-in-Pending-clause-pending c =
    let had : c.args.self.now.pass ≡ Some c.in-Some.pass = sym c.take.ensures.value ∙ c.in-Some.is in
    let wait : c.take-2.result ≡ c.args.self.now.wait = c.take-2.ensures.value in
    let begins = rw (c.in-Ok-Later.is, c.in-Ok-Later.field-0-is) at c.begin.ensures.begins in
    let e = c.poll.ensures in
    let v = pass_view c.in-Some.pass in
    let m = pass_view c.begin.new.pass in
    let w = pass_view c.poll.new.pass in
    let polled : HasPolled c.in-Ok-Later.wait m c.poll.result w = record {
      called = e.called;
      polled = e.polled;
      alone = e.alone;
    } in
    let pends = looked-pends permit_calls v m w c.take-2.result _ c.in-Pending.wait begins
    (rw c.in-Pending.is at polled) in
    (λ is. inr (rw (had, sym wait) pends), λ looked. c.yield_now-in-Pending.ensures.pending)
