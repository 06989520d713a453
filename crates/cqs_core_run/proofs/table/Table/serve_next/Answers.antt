use Rattle.std.proofs.Common.{arith}
use Rattle.cqs_core_run.proofs.Resumptions.{resumption-passed}
use Rattle.cqs_core_run.proofs.table.Table.serve_next.Goals as goal

pub returns-in-Some-Passed-clause-passed : goal.returns-in-Some-Passed-clause-passed
returns-in-Some-Passed-clause-passed c =
    (resumption-passed c.args.pass c.in-Some-Passed.field-0-0 c.in-Some-Reached.field-0 c.in-Some-Passed.field-0
    c.args.self.now c.reach.new.self c.meet.new.self c.in-Some-Reached.ensures.made c.in-Some-Passed.ensures.made
    c.in-Some-Passed.field-0-is c.requires.ends).0

pub returns-in-Some-Passed-clause-spare : goal.returns-in-Some-Passed-clause-spare
returns-in-Some-Passed-clause-spare c =
    let there = (resumption-passed c.args.pass c.in-Some-Passed.field-0-0
    c.in-Some-Reached.field-0 c.in-Some-Passed.field-0
    c.args.self.now c.reach.new.self c.meet.new.self c.in-Some-Reached.ensures.made c.in-Some-Passed.ensures.made
    c.in-Some-Passed.field-0-is c.requires.ends).1 in
    let reached = c.in-Some-Reached.ensures.spare there in
    let met = (rw c.in-Some-Passed.field-0-is at c.in-Some-Passed.ensures.spare) tt in
    omega (arith, reached, met)
