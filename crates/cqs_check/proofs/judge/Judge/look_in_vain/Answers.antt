use Rattle.std.proofs.Common.{rules, ◌≡◌, ◌≢◌, slice_get, Some}
use Rattle.cqs_check.specs.declared.waits.WaitState.TheVariants as wait
use Rattle.cqs_check.proofs.Collects.{vain-judged, vain-refused}
use Rattle.cqs_check.proofs.judge.Judge.look_in_vain.Goals as goal

pub returns-then-not-waits_for : goal.returns-then-not-waits_for
returns-then-not-waits_for c =
    let none : slice_get c.args.self.now.table.waits.items c.args.wait ≢ Some
    (wait.Waiting c.args.caller) = search rules in
    vain-refused c.args.self.now c.args.self.now c.args.wait c.args.caller none

pub returns : goal.returns
returns c =
    let there : slice_get c.args.self.now.table.waits.items c.args.wait
    ≡ Some (wait.Waiting c.args.caller) = search rules in
    vain-judged c.args.self.now c.args.self.now c.args.wait c.args.caller c.requires there
