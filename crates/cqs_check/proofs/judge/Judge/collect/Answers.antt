use Rattle.std.proofs.Common.{rules, ◌≡◌, ◌≢◌, slice_get, Some, refl}
use Rattle.cqs_check.specs.declared.waits.WaitState.TheVariants as wait
use Rattle.cqs_check.proofs.Collects.{granted-judged, granted-refused, late-judged, late-refused}
use Rattle.cqs_check.proofs.judge.Judge.collect.Goals as goal

pub returns-then-not-served_for-clause-granted : goal.returns-then-not-served_for-clause-granted
returns-then-not-served_for-clause-granted c =
    let none : slice_get c.args.self.now.table.waits.items c.args.wait ≢ Some
    (wait.Served c.args.caller) = search rules in
    granted-refused c.args.self.now c.args.self.now c.args.wait c.args.caller none

pub returns-then-not-served_for-clause-late : goal.returns-then-not-served_for-clause-late
returns-then-not-served_for-clause-late c =
    let none : slice_get c.args.self.now.table.waits.items c.args.wait ≢ Some
    (wait.Served c.args.caller) = search rules in
    late-refused c.args.self.now c.args.self.now c.args.wait c.args.caller none

pub returns-clause-granted : goal.returns-clause-granted
returns-clause-granted c =
    let there : slice_get c.args.self.now.table.waits.items c.args.wait
    ≡ Some (wait.Served c.args.caller) = search rules in
    granted-judged c.args.self.now _ c.args.wait c.args.caller c.requires there c.change.ensures refl refl refl refl
    refl refl

pub returns-clause-late : goal.returns-clause-late
returns-clause-late c =
    let there : slice_get c.args.self.now.table.waits.items c.args.wait
    ≡ Some (wait.Served c.args.caller) = search rules in
    late-judged c.args.self.now _ c.args.wait c.args.caller c.requires there c.change.ensures refl refl refl refl
    refl refl
