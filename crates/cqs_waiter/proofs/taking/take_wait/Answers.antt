use Rattle.std.proofs.Common.{None}
use Rattle.cqs_rule.specs.Passes.{pass_view}
use Rattle.cqs_waiter.specs.Takes.{take_calls}
use Rattle.cqs_waiter.proofs.Arriving.{begun-arrives, refused-arrives, looks-first, looks-more, looks-end}
use Rattle.cqs_waiter.proofs.ItemWaits.{take_begins}
use Rattle.cqs_waiter.proofs.taking.take_wait.Goals as goal

pub returns-in-Ok-Took-clause-arrives : goal.returns-in-Ok-Took-clause-arrives
returns-in-Ok-Took-clause-arrives g c =
    let e = c.take.ensures in
    let begins = take_begins _ _ c.take.result e.taken e.leaves in
    begun-arrives take_calls (pass_view c.args.pass.now) (pass_view c.take.new.pass) None c.in-Ok-Took.item
    (rw (c.in-Ok-Took.is, c.in-Ok-Took.field-0-is) at begins)

pub returns-in-Err-clause-arrives : goal.returns-in-Err-clause-arrives
returns-in-Err-clause-arrives g c =
    let e = c.take.ensures in
    let begins = take_begins _ _ c.take.result e.taken e.leaves in
    refused-arrives take_calls (pass_view c.args.pass.now) (pass_view c.take.new.pass) None c.in-Err.refused
    (rw c.in-Err.is at begins)

pub loop-init : goal.loop-init
loop-init g c =
    let e = c.take.ensures in
    let begins = take_begins _ _ c.take.result e.taken e.leaves in
    let begun = rw (c.in-Ok-Later.is, c.in-Ok-Later.field-0-is) at begins in record {
      belongs = e.belongs;
      ready = e.ready;
      has = begun.1.0;
      looks = looks-first take_calls (pass_view c.args.pass.now) (pass_view c.take.new.pass) c.in-Ok-Later.wait begun;
    }

pub returns-in-Granted-clause-arrives : goal.returns-in-Granted-clause-arrives
returns-in-Granted-clause-arrives g c =
    let polled = rw c.in-Granted.is at c.poll.ensures.polled in
    let leaves = rw c.in-Granted.is at c.poll.ensures.leaves in
    looks-end take_calls (pass_view c.args.pass.now) (pass_view c.loop.pass) (pass_view c.poll.new.pass) c.loop.wait
    c.in-Granted.item c.loop.invariant.looks (polled, leaves)

pub loop-preserved : goal.loop-preserved
loop-preserved g c =
    let polled = rw c.in-Pending.is at c.poll.ensures.polled in
    let leaves = rw c.in-Pending.is at c.poll.ensures.leaves in
    rw c.pause.ensures.same (record {
      belongs = c.poll.ensures.belongs;
      ready = c.poll.ensures.ready;
      has = leaves.1;
      looks = looks-more take_calls (pass_view c.args.pass.now) (pass_view c.loop.pass) (pass_view c.poll.new.pass)
          c.loop.wait c.in-Pending.again c.loop.invariant.looks (polled, leaves);
    })
