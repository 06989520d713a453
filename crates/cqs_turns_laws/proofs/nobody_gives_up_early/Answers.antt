use Rattle.cqs_turns_laws.proofs.StoryEnds.{nobody-gives-up-early}
use Rattle.cqs_turns_laws.proofs.nobody_gives_up_early.Goals as goal

pub returns : goal.returns
returns c = nobody-gives-up-early
