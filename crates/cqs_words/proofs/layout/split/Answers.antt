-- The mask of the lowest bits leaves the remainder.
use Rattle.std.proofs.lemmas.Nat.{one_shl, and_mask}
use Rattle.cqs_words.proofs.layout.split.Goals as goal

pub returns-clause-low : goal.returns-clause-low
returns-clause-low c = rw (one_shl c.args.width 64 c.requires) (and_mask c.args.word c.args.width)
