use Rattle.std.proofs.Common.{None}
use Rattle.cqs_rule.specs.Passes.{pass_view}
use Rattle.cqs_waiter.specs.Permits.{HasPolled, permit_calls}
use Rattle.cqs_waiter.proofs.Arriving.{begun-arrives, refused-arrives, looks-first, looks-more, looks-end}
use Rattle.cqs_waiter.proofs.PermitWaits.{acquire_begins}
use Rattle.cqs_waiter.proofs.blocking.acquire_wait.Goals as goal

pub returns-in-Ok-Now-clause-arrives : goal.returns-in-Ok-Now-clause-arrives
returns-in-Ok-Now-clause-arrives g c =
    let e = c.acquire.ensures in
    let begins = acquire_begins _ _ c.acquire.result e.called e.worn e.crowded e.below e.acquired e.alone in
    begun-arrives permit_calls (pass_view c.args.pass.now) (pass_view c.acquire.new.pass) None c.in-Ok-Now.permit
    (rw (c.in-Ok-Now.is, c.in-Ok-Now.field-0-is) at begins)

pub returns-in-Err-clause-arrives : goal.returns-in-Err-clause-arrives
returns-in-Err-clause-arrives g c =
    let e = c.acquire.ensures in
    let begins = acquire_begins _ _ c.acquire.result e.called e.worn e.crowded e.below e.acquired e.alone in
    refused-arrives permit_calls (pass_view c.args.pass.now) (pass_view c.acquire.new.pass) None c.in-Err.refused
    (rw c.in-Err.is at begins)

pub loop-init : goal.loop-init
loop-init g c =
    let e = c.acquire.ensures in
    let begins = acquire_begins _ _ c.acquire.result e.called e.worn e.crowded e.below e.acquired e.alone in
    let begun = rw (c.in-Ok-Later.is, c.in-Ok-Later.field-0-is) at begins in record {
      belongs = e.belongs;
      ready = e.ready;
      has = begun.acquired.2;
      looks = looks-first permit_calls (pass_view c.args.pass.now) (pass_view c.acquire.new.pass) c.in-Ok-Later.wait
          begun;
    }

pub returns-in-Granted-clause-arrives : goal.returns-in-Granted-clause-arrives
returns-in-Granted-clause-arrives g c =
    let e = c.poll.ensures in
    let v = pass_view c.loop.pass in
    let w = pass_view c.poll.new.pass in
    let polled : HasPolled c.loop.wait v c.poll.result w = record {
      called = e.called;
      polled = e.polled;
      alone = e.alone;
    } in
    looks-end permit_calls (pass_view c.args.pass.now) v w c.loop.wait c.in-Granted.permit c.loop.invariant.looks
    (rw c.in-Granted.is at polled)

pub loop-preserved : goal.loop-preserved
loop-preserved g c =
    let e = c.poll.ensures in
    let v = pass_view c.loop.pass in
    let w = pass_view c.poll.new.pass in
    let polled : HasPolled c.loop.wait v c.poll.result w = record {
      called = e.called;
      polled = e.polled;
      alone = e.alone;
    } in
    let pends = rw c.in-Pending.is at polled in
    rw c.pause.ensures.same (record {
      belongs = e.belongs;
      ready = e.ready;
      has = pends.polled.1;
      looks = looks-more permit_calls (pass_view c.args.pass.now) v w c.loop.wait c.in-Pending.again
          c.loop.invariant.looks pends;
    })
