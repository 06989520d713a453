use Rattle.cqs_slots.proofs.Claims.{given-back}
use Rattle.cqs_slots.proofs.laws.spares_are_given_back.Goals as goal

pub returns : goal.returns
returns c = given-back
