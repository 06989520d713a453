use Rattle.cqs_slots.proofs.Extends.{extended}
use Rattle.cqs_slots.proofs.laws.reset_spares_become_the_tail.Goals as goal

pub returns : goal.returns
returns c = extended
