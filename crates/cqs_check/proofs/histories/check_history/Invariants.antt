use Rattle.std.proofs.Common.{◌≡◌}
use Rattle.cqs_check.proofs.Checking.{IsAt}
use Rattle.cqs_check.proofs.histories.check_history.Given as goal

abbrev pub invariant-loop-entry : goal.invariant-loop-entry
invariant-loop-entry l = IsAt l.permits l.fn.entries l.judge l.entry-index × (l.place ≡ l.entry-index)
