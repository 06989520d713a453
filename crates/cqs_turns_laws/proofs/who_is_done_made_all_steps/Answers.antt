use Rattle.cqs_turns_laws.proofs.StoryEnds.{who-is-done-made-all-steps}
use Rattle.cqs_turns_laws.proofs.who_is_done_made_all_steps.Goals as goal

pub returns : goal.returns
returns c = who-is-done-made-all-steps
