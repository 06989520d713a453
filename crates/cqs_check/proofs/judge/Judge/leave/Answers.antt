use Rattle.std.proofs.Common.{rules, ◌≢◌, slice_get, Some}
use Rattle.cqs_check.specs.declared.waits.WaitState.TheVariants as wait
use Rattle.cqs_check.proofs.Collects.{leave-judged, leave-refused}
use Rattle.cqs_check.proofs.judge.Judge.leave.Goals as goal

pub returns-then-not-waits_for : goal.returns-then-not-waits_for
returns-then-not-waits_for c =
    let none : slice_get c.args.self.now.table.waits.items c.args.wait ≢ Some
    (wait.Waiting c.args.caller) = search rules in
    leave-refused c.args.self.now c.args.self.now c.args.wait c.args.caller none

pub returns : goal.returns
returns c =
    leave-judged c.args.self.now c.drop_out.new.self c.turn_back.new.self c.args.wait c.args.caller c.drop_out.ensures
    c.turn_back.ensures
