use Rattle.cqs_slots.proofs.Claims.{claimed}
use Rattle.cqs_slots.proofs.laws.free_slots_are_claimed.Goals as goal

pub returns : goal.returns
returns c = claimed
