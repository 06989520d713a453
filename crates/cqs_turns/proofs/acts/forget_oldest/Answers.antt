use Rattle.std.proofs.Common.{sym, ◌∙◌}
use Rattle.cqs_turns_report.proofs.Held.{remove-oldest, without-none}
use Rattle.cqs_turns.proofs.acts.forget_oldest.Goals as goal

pub returns-in-Some : goal.returns-in-Some
returns-in-Some c =
    let found = rw c.as_slice.ensures.value at c.in-Some.ensures.place in
    c.remove.ensures.items ∙ remove-oldest c.args.at c.args.held.now.items c.in-Some.oldest found

pub returns-in_default : goal.returns-in_default
returns-in_default c =
    let none = rw c.as_slice.ensures.value at c.in_default.ensures.place in
    sym (without-none c.args.at c.args.held.now.items 0 (sym none))
