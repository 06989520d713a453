use Rattle.std.proofs.Common.{arith}
use Rattle.cqs_test_threads.proofs.Goes.{arrive-last}
use Rattle.cqs_test_threads.proofs.rounds.row.arrive_last.Goals as goal

pub returns-in-Ok-Last-clause-member : goal.returns-in-Ok-Last-clause-member
returns-in-Ok-Last-clause-member c =
    let called = rw c.in-Ok-Last.field-0-is at (c.in-Ok-Last.ensures.arrived c.requires.member) in
    let low = c.requires.member in
    let next = (arrive-last _ _ _ _ c.requires.on called).next in
    omega (arith, low, next)

pub returns-in-Ok-Last-clause-on : goal.returns-in-Ok-Last-clause-on
returns-in-Ok-Last-clause-on c =
    let called = rw c.in-Ok-Last.field-0-is at (c.in-Ok-Last.ensures.arrived c.requires.member) in
    (arrive-last _ _ _ _ c.requires.on called).on
