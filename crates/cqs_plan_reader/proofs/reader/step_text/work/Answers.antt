use Rattle.std.proofs.Common.{◌≡◌, true, arith}
use Rattle.std.proofs.lemmas.Bool.{le-leb, lt-leb}
use Rattle.cqs_plan_reader.specs.Meaning.{is_decimal, work_step}
use Rattle.cqs_plan_reader.proofs.WorkSteps.{turns_step, work_step-parsed}
use Rattle.cqs_plan_reader.proofs.reader.step_text.work.Goals as goal
use Rattle.cqs_plan_reader.proofs.reader.step_text.work.Goals.{After-parse}

-- what the step is, by what the digits gave
parsed : (c : After-parse) → work_step c.args.turns.now ≡ turns_step c.parse.result
parsed c =
    let decimal : is_decimal c.args.turns.now ≡ true = cc in
    work_step-parsed c.args.turns.now c.parse.result c.parse.ensures.value.0 decimal

pub returns-in-Ok : goal.returns-in-Ok
returns-in-Ok c =
    let some = le-leb 1 c.in-Ok.number c.if-number-ge1.true in
    let few = le-leb c.in-Ok.number 1000 c.if-number-le1000.true in
    rw (parsed (goal.at.returns-in-Ok c).After-parse, c.in-Ok.is, some, few)

pub returns-in_default : goal.returns-in_default
returns-in_default c =
    let some = le-leb 1 c.in-Ok.number c.if-number-ge1.true in
    let more = lt-leb c.in-Ok.number 1000 (omega arith) in
    rw (parsed (goal.at.returns-in_default c).After-parse, c.in-Ok.is, some, more)

pub returns-in_default-2 : goal.returns-in_default-2
returns-in_default-2 c =
    let none = lt-leb 1 c.in-Ok.number (omega arith) in
    rw (parsed (goal.at.returns-in_default-2 c).After-parse, c.in-Ok.is, none)

pub returns-in_default-3 : goal.returns-in_default-3
returns-in_default-3 c = rw (parsed (goal.at.returns-in_default-3 c).After-parse, c.in_default.is)
