use Rattle.std.proofs.Common.{arith}
use Rattle.cqs_test_threads.proofs.Goes.{arrive-later}
use Rattle.cqs_test_threads.proofs.rounds.row.arrive_first.Goals as goal

pub returns-else-number-ne0-clause-member : goal.returns-else-number-ne0-clause-member
returns-else-number-ne0-clause-member c =
    let called = rw c.in-Ok-Later.field-0-is at (c.in-Ok-Later.ensures.arrived c.requires.member) in
    let low = c.requires.member in
    let same = (arrive-later _ _ _ _ c.requires.on called).1 in
    omega (arith, low, same)

pub returns-else-number-ne0-clause-waits : goal.returns-else-number-ne0-clause-waits
returns-else-number-ne0-clause-waits c =
    let called = rw c.in-Ok-Later.field-0-is at (c.in-Ok-Later.ensures.arrived c.requires.member) in
    (arrive-later _ _ _ _ c.requires.on called).0
