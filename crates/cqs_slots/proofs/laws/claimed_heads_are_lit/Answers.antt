use Rattle.cqs_slots.proofs.Joined.{lights}
use Rattle.cqs_slots.proofs.laws.claimed_heads_are_lit.Goals as goal

pub returns : goal.returns
returns c = lights
