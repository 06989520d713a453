use Rattle.std.proofs.Common.{rules, ◌≡◌, ◌≢◌, Some, refl}
use Rattle.cqs_check.specs.Judging.{owner_in}
use Rattle.cqs_check.proofs.Breaks.{undone, undo-refused}
use Rattle.cqs_check.proofs.judge.Judge.undo.Goals as goal

pub returns-then-not-is_of : goal.returns-then-not-is_of
returns-then-not-is_of c =
    let other : owner_in c.args.self.now.broken c.args.wait ≢ Some (Some c.args.caller) = search rules in
    undo-refused c.args.self.now c.args.self.now c.args.caller c.args.wait other

pub returns : goal.returns
returns c =
    let mine : owner_in c.args.self.now.broken c.args.wait ≡ Some (Some c.args.caller) = search rules in
    undone c.args.self.now _ c.args.caller c.args.wait c.requires mine c.remove.ensures.set c.remove.ensures.early
    refl refl refl refl refl refl
