use Rattle.std.proofs.Common.{inl}
use Rattle.cqs_rule.specs.Passes.{pass_view}
use Rattle.cqs_waiter.specs.declared.barriers.Passage.TheVariants.{Through}
use Rattle.cqs_waiter.specs.Meetings.{HasArrived, HasPolled, party_calls}
use Rattle.cqs_waiter.proofs.Arriving.{looks-first, looks-more, looks-end}
use Rattle.cqs_waiter.proofs.PartyWaits.{has_got, has_still, owes_last, ready_last, ready_later, ready_refused}
use Rattle.cqs_waiter.proofs.barriers.arrive_wait.Goals as goal

pub returns-in-Ok-Last-clause-passes : goal.returns-in-Ok-Last-clause-passes
returns-in-Ok-Last-clause-passes g c =
    let e = c.arrive.ensures in
    let v = pass_view c.args.pass.now in
    let w = pass_view c.arrive.new.pass in
    let arrived : HasArrived v c.arrive.result w = record {
      worn = e.worn;
      crowded = e.crowded;
      below = e.below;
      arrived = e.arrived;
      cell = e.cell;
      alone = e.alone;
    } in
    inl (rw (c.in-Ok-Last.is, c.in-Ok-Last.field-0-is) at arrived)

pub returns-in-Ok-Last-clause-ready : goal.returns-in-Ok-Last-clause-ready
returns-in-Ok-Last-clause-ready g c =
    let e = c.arrive.ensures in
    let v = pass_view c.args.pass.now in
    let w = pass_view c.arrive.new.pass in
    let arrived : HasArrived v c.arrive.result w = record {
      worn = e.worn;
      crowded = e.crowded;
      below = e.below;
      arrived = e.arrived;
      cell = e.cell;
      alone = e.alone;
    } in
    ready_last v w (rw (c.in-Ok-Last.is, c.in-Ok-Last.field-0-is) at arrived)

pub returns-in-Ok-LastOwing-clause-passes : goal.returns-in-Ok-LastOwing-clause-passes
returns-in-Ok-LastOwing-clause-passes g c =
    let e = c.arrive.ensures in
    let v = pass_view c.args.pass.now in
    let w = pass_view c.arrive.new.pass in
    let arrived : HasArrived v c.arrive.result w = record {
      worn = e.worn;
      crowded = e.crowded;
      below = e.below;
      arrived = e.arrived;
      cell = e.cell;
      alone = e.alone;
    } in
    inl (rw (c.in-Ok-LastOwing.is, c.in-Ok-LastOwing.field-0-is) at arrived)

pub returns-in-Ok-LastOwing-clause-ready : goal.returns-in-Ok-LastOwing-clause-ready
returns-in-Ok-LastOwing-clause-ready g c =
    let e = c.arrive.ensures in
    let v = pass_view c.args.pass.now in
    let w = pass_view c.arrive.new.pass in
    let arrived : HasArrived v c.arrive.result w = record {
      worn = e.worn;
      crowded = e.crowded;
      below = e.below;
      arrived = e.arrived;
      cell = e.cell;
      alone = e.alone;
    } in
    owes_last v w c.in-Ok-LastOwing.owing (rw (c.in-Ok-LastOwing.is, c.in-Ok-LastOwing.field-0-is) at arrived)

pub returns-in-Err-clause-passes : goal.returns-in-Err-clause-passes
returns-in-Err-clause-passes g c =
    let e = c.arrive.ensures in
    let v = pass_view c.args.pass.now in
    let w = pass_view c.arrive.new.pass in
    let arrived : HasArrived v c.arrive.result w = record {
      worn = e.worn;
      crowded = e.crowded;
      below = e.below;
      arrived = e.arrived;
      cell = e.cell;
      alone = e.alone;
    } in
    rw c.in-Err.is at arrived

pub returns-in-Err-clause-ready : goal.returns-in-Err-clause-ready
returns-in-Err-clause-ready g c =
    let e = c.arrive.ensures in
    let v = pass_view c.args.pass.now in
    let w = pass_view c.arrive.new.pass in
    let arrived : HasArrived v c.arrive.result w = record {
      worn = e.worn;
      crowded = e.crowded;
      below = e.below;
      arrived = e.arrived;
      cell = e.cell;
      alone = e.alone;
    } in
    ready_refused v w c.in-Err.refused (rw c.in-Err.is at arrived)

pub loop-init : goal.loop-init
loop-init g c =
    let e = c.arrive.ensures in
    let v = pass_view c.args.pass.now in
    let w = pass_view c.arrive.new.pass in
    let arrived : HasArrived v c.arrive.result w = record {
      worn = e.worn;
      crowded = e.crowded;
      below = e.below;
      arrived = e.arrived;
      cell = e.cell;
      alone = e.alone;
    } in
    let begun = rw (c.in-Ok-Later.is, c.in-Ok-Later.field-0-is) at arrived in record {
      belongs = e.belongs;
      ready = ready_later v w c.in-Ok-Later.wait begun;
      has = has_got v w c.in-Ok-Later.wait begun;
      looks = looks-first party_calls v w c.in-Ok-Later.wait begun;
    }

pub returns-in-Through-clause-passes : goal.returns-in-Through-clause-passes
returns-in-Through-clause-passes g c =
    let e = c.poll.ensures in
    let v = pass_view c.loop.pass in
    let w = pass_view c.poll.new.pass in
    let polled : HasPolled c.loop.wait v c.poll.result w = record {
      called = e.called;
      polled = e.polled;
      alone = e.alone;
    } in
    looks-end party_calls (pass_view c.args.pass.now) v w c.loop.wait Through c.loop.invariant.looks
    (tt, rw c.in-Through.is at polled)

pub loop-preserved : goal.loop-preserved
loop-preserved g c =
    let e = c.poll.ensures in
    let v = pass_view c.loop.pass in
    let w = pass_view c.poll.new.pass in
    let polled : HasPolled c.loop.wait v c.poll.result w = record {
      called = e.called;
      polled = e.polled;
      alone = e.alone;
    } in
    let pends = rw c.in-Pending.is at polled in
    rw c.pause.ensures.same (record {
      belongs = e.belongs;
      ready = e.ready;
      has = has_still v w c.loop.wait c.in-Pending.again pends;
      looks = looks-more party_calls (pass_view c.args.pass.now) v w c.loop.wait c.in-Pending.again
          c.loop.invariant.looks pends;
    })
