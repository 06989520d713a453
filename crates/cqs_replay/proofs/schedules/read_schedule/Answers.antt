use Rattle.std.proofs.Common.{◌∙◌, ap}
use Rattle.cqs_replay.specs.Schedules.{head_text}
use Rattle.cqs_replay.specs.declared.schedules.Schedule.{Schedule}
use Rattle.cqs_replay.proofs.HeadLines.{events-many, behind-head-bad}
use Rattle.cqs_replay.proofs.Unique.{one_schedule, none_bad, none_headless}
use Rattle.cqs_replay.proofs.schedules.read_schedule.Goals as goal

pub returns-in-Ok-None-clause-again : goal.returns-in-Ok-None-clause-again
returns-in-Ok-None-clause-again c = λ s is same. none_headless s c.args.bytes.now is same
    (rw c.in-Ok-None.field-0-is at c.in-Ok-None.ensures)

pub returns-in-Ok-clause-few : goal.returns-in-Ok-clause-few
returns-in-Ok-clause-few c =
    let first = rw c.in-Ok-Some.field-0-is at c.in-Ok-Some.ensures in
    events-many c.in-Ok-Some.next.0 c.args.bytes.now c.in-Ok-Some.next.1.now c.in-Ok.events.items
    first.1 c.in-Ok.ensures.ok

pub returns-in-Ok-clause-again : goal.returns-in-Ok-clause-again
returns-in-Ok-clause-again c = λ s is same.
    let head = rw c.in-Ok-Some.field-0-is at c.in-Ok-Some.ensures in
    let read = c.in-Ok.ensures.ok in
    let r : Schedule = record {
      permits = c.in-Ok-Some.next.0.permits;
      passes = c.in-Ok-Some.next.0.passes;
      sync = c.in-Ok-Some.next.0.sync;
      events = c.in-Ok.events;
    } in
    one_schedule r s c.args.bytes.now (record { head = head.0; events = read.fit })
    (head.1 ∙ ap (head_text c.in-Ok-Some.next.0) read.text_is) is same

pub returns-in-Err-Bad-clause-bad : goal.returns-in-Err-Bad-clause-bad
returns-in-Err-Bad-clause-bad c = λ n same.
    let first = rw c.in-Ok-Some.field-0-is at c.in-Ok-Some.ensures in
    behind-head-bad c.in-Ok-Some.next.0 c.args.bytes.now c.in-Ok-Some.next.1.now n first.0
    first.1 (c.in-Err-Bad.ensures.bad n (cc (same, c.in-Err-Bad.field-0-is)))

pub returns-in-Err-Bad-clause-again : goal.returns-in-Err-Bad-clause-again
returns-in-Err-Bad-clause-again c = λ s is same.
    let first = rw c.in-Ok-Some.field-0-is at c.in-Ok-Some.ensures in
    none_bad s c.args.bytes.now c.in-Err-Bad.line is same
    (behind-head-bad c.in-Ok-Some.next.0 c.args.bytes.now c.in-Ok-Some.next.1.now c.in-Err-Bad.line
    first.0 first.1
    (c.in-Err-Bad.ensures.bad c.in-Err-Bad.line (cc c.in-Err-Bad.field-0-is)))
