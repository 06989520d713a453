use Rattle.cqs_slots.proofs.Linked.{links-rise}
use Rattle.cqs_slots.proofs.laws.links_are_raised.Goals as goal

pub returns : goal.returns
returns c = links-rise
