use Rattle.std.proofs.Common.{length}
use Rattle.cqs_lines.proofs.Texts.{Midway}
use Rattle.cqs_lines.proofs.said.hear_numbers.Given as goal

abbrev pub invariant-words : goal.invariant-words
invariant-words l = Midway l.text l.numbers.items l.rest

abbrev pub decreases-words : goal.decreases-words
decreases-words l = length l.rest
