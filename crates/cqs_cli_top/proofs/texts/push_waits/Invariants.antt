use Rattle.std.proofs.Common.{◌≡◌, ◌++◌, take}
use Rattle.cqs_cli_top.specs.WorkText.{waits_text}
use Rattle.cqs_cli_top.proofs.texts.push_waits.Given as goal

abbrev pub invariant-loop-wait : goal.invariant-loop-wait
invariant-loop-wait l = l.text.items ≡ l.initial.text.items ++ waits_text l.plan (take l.wait-index l.waits)
