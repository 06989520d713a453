use Rattle.std.proofs.Common.{inl}
use Rattle.cqs_rule.specs.Passes.{pass_view}
use Rattle.cqs_waiter.specs.Passages.{Looks, Waits, latch_calls}
use Rattle.cqs_waiter.proofs.Arriving.{looks-first, looks-more, looks-end}
use Rattle.cqs_waiter.proofs.LatchWaits.{has_got, has_still}
use Rattle.cqs_waiter.proofs.latches.wait_open.Goals as goal

pub returns-in-Ok-Passed-clause-passes : goal.returns-in-Ok-Passed-clause-passes
returns-in-Ok-Passed-clause-passes g c =
    let e = c.wait.ensures in
    let waits : Waits (pass_view c.args.pass.now) c.wait.result (pass_view c.wait.new.pass) = record {
      waited = e.waited;
      keeps = e.keeps;
      alone = e.alone;
    } in
    inl (rw (c.in-Ok-Passed.is, c.in-Ok-Passed.field-0-is) at waits)

pub returns-in-Err-clause-passes : goal.returns-in-Err-clause-passes
returns-in-Err-clause-passes g c =
    let e = c.wait.ensures in
    let waits : Waits (pass_view c.args.pass.now) c.wait.result (pass_view c.wait.new.pass) = record {
      waited = e.waited;
      keeps = e.keeps;
      alone = e.alone;
    } in
    rw c.in-Err.is at waits

pub loop-init : goal.loop-init
loop-init g c =
    let e = c.wait.ensures in
    let v = pass_view c.args.pass.now in
    let w = pass_view c.wait.new.pass in
    let waits : Waits v c.wait.result w = record { waited = e.waited; keeps = e.keeps; alone = e.alone } in
    let begun = rw (c.in-Ok-Later.is, c.in-Ok-Later.field-0-is) at waits in record {
      belongs = e.belongs;
      ready = e.ready;
      has = has_got v w c.in-Ok-Later.wait begun;
      looks = looks-first latch_calls v w c.in-Ok-Later.wait begun;
    }

pub returns-in-Through-clause-passes : goal.returns-in-Through-clause-passes
returns-in-Through-clause-passes g c =
    let e = c.poll.ensures in
    let v = pass_view c.loop.pass in
    let w = pass_view c.poll.new.pass in
    let looked : Looks c.loop.wait v c.poll.result w = record {
      called = e.called;
      polled = e.polled;
      keeps = e.keeps;
      alone = e.alone;
    } in
    looks-end latch_calls (pass_view c.args.pass.now) v w c.loop.wait tt c.loop.invariant.looks
    (rw c.in-Through.is at looked)

pub loop-preserved : goal.loop-preserved
loop-preserved g c =
    let e = c.poll.ensures in
    let v = pass_view c.loop.pass in
    let w = pass_view c.poll.new.pass in
    let looked : Looks c.loop.wait v c.poll.result w = record {
      called = e.called;
      polled = e.polled;
      keeps = e.keeps;
      alone = e.alone;
    } in
    let pends = rw c.in-Pending.is at looked in
    rw c.pause.ensures.same (record {
      belongs = e.belongs;
      ready = e.ready;
      has = has_still v w c.loop.wait c.in-Pending.again pends;
      looks = looks-more latch_calls (pass_view c.args.pass.now) v w c.loop.wait c.in-Pending.again
          c.loop.invariant.looks pends;
    })
