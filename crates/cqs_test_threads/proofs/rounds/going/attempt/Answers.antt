use Rattle.std.proofs.Common.{◌<◌, ◌∙◌, subst, sym}
use Rattle.cqs_barrier_rounds.specs.Rounds.{rounds_in}
use Rattle.cqs_test_threads.specs.Goes.{Comes}
use Rattle.cqs_test_threads.proofs.Goes.{arrive-last, arrive-later, arrive-owing, arrive-crowded}
use Rattle.cqs_test_threads.proofs.rounds.going.attempt.Goals as goal

pub returns-in-Ok-Last-clause-comes : goal.returns-in-Ok-Last-clause-comes
returns-in-Ok-Last-clause-comes g c =
    let called = rw c.in-Ok-Last.field-0-is at (c.in-Ok-Last.ensures.arrived c.loop.invariant.member) in
    subst (λ r. Comes r c.in-Ok-Last.next c.arrive.new.pass.passes.items) c.loop.invariant.same
    (arrive-last _ _ _ _ c.loop.invariant.on called)

pub finish-requires-clause-owes : goal.finish-requires-clause-owes
finish-requires-clause-owes g c =
    let called = rw c.in-Ok-LastOwing.field-0-is at (c.in-Ok-LastOwing.ensures.arrived c.loop.invariant.member) in
    (arrive-owing _ _ _ _ c.loop.invariant.on called).0

pub look_on-requires-clause-waits : goal.look_on-requires-clause-waits
look_on-requires-clause-waits g c =
    let called = rw c.in-Ok-Later.field-0-is at (c.in-Ok-Later.ensures.arrived c.loop.invariant.member) in
    (arrive-later _ _ _ _ c.loop.invariant.on called).0

pub give_up-requires-clause-waits : goal.give_up-requires-clause-waits
give_up-requires-clause-waits g c =
    let called = rw c.in-Ok-Later.field-0-is at (c.in-Ok-Later.ensures.arrived c.loop.invariant.member) in
    (arrive-later _ _ _ _ c.loop.invariant.on called).0

pub loop-preserved : goal.loop-preserved
loop-preserved g c =
    let crowded = c.in-Err-default-Crowded in
    let called = rw crowded.field-0-1-is at (crowded.ensures.arrived c.loop.invariant.member) in
    let again = arrive-crowded _ _ _ _ c.loop.invariant.on called in
    record {
      belongs = c.arrive.ensures.belongs;
      member = subst (λ r. r < rounds_in c.args.rounds.now) (sym again.1) c.loop.invariant.member;
      on = again.0;
      same = again.1 ∙ c.loop.invariant.same;
    }
