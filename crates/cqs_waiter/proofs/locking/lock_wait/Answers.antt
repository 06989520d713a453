use Rattle.std.proofs.Common.{None}
use Rattle.cqs_rule.specs.Passes.{pass_view}
use Rattle.cqs_waiter.specs.Locks.{lock_calls}
use Rattle.cqs_waiter.proofs.Arriving.{begun-arrives, refused-arrives, looks-first, looks-more, looks-end}
use Rattle.cqs_waiter.proofs.Locks.{lock_begins}
use Rattle.cqs_waiter.proofs.locking.lock_wait.Goals as goal

pub returns-in-Ok-Now-clause-arrives : goal.returns-in-Ok-Now-clause-arrives
returns-in-Ok-Now-clause-arrives g c =
    let e = c.lock.ensures in
    let begins = lock_begins _ _ c.lock.result e.locked e.holds in
    begun-arrives lock_calls (pass_view c.args.pass.now) (pass_view c.lock.new.pass) None c.in-Ok-Now.guard
    (rw (c.in-Ok-Now.is, c.in-Ok-Now.field-0-is) at begins)

pub returns-in-Err-clause-arrives : goal.returns-in-Err-clause-arrives
returns-in-Err-clause-arrives g c =
    let e = c.lock.ensures in
    let begins = lock_begins _ _ c.lock.result e.locked e.holds in
    refused-arrives lock_calls (pass_view c.args.pass.now) (pass_view c.lock.new.pass) None c.in-Err.refused
    (rw c.in-Err.is at begins)

pub loop-init : goal.loop-init
loop-init g c =
    let e = c.lock.ensures in
    let begins = lock_begins _ _ c.lock.result e.locked e.holds in
    let begun = rw (c.in-Ok-Later.is, c.in-Ok-Later.field-0-is) at begins in record {
      belongs = e.belongs;
      ready = e.ready;
      has = begun.1;
      looks = looks-first lock_calls (pass_view c.args.pass.now) (pass_view c.lock.new.pass) c.in-Ok-Later.wait begun;
    }

pub returns-in-Granted-clause-arrives : goal.returns-in-Granted-clause-arrives
returns-in-Granted-clause-arrives g c =
    let polled = rw c.in-Granted.is at c.poll.ensures.polled in
    let holds = rw c.in-Granted.is at c.poll.ensures.holds in
    looks-end lock_calls (pass_view c.args.pass.now) (pass_view c.loop.pass) (pass_view c.poll.new.pass) c.loop.wait
    c.in-Granted.guard c.loop.invariant.looks (polled, holds)

pub loop-preserved : goal.loop-preserved
loop-preserved g c =
    let polled = rw c.in-Pending.is at c.poll.ensures.polled in
    let holds = rw c.in-Pending.is at c.poll.ensures.holds in
    rw c.pause.ensures.same (record {
      belongs = c.poll.ensures.belongs;
      ready = c.poll.ensures.ready;
      has = holds;
      looks = looks-more lock_calls (pass_view c.args.pass.now) (pass_view c.loop.pass) (pass_view c.poll.new.pass)
          c.loop.wait c.in-Pending.again c.loop.invariant.looks (polled, holds);
    })
