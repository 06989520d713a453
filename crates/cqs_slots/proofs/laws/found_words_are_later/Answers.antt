use Rattle.cqs_slots.proofs.Joined.{finds-later}
use Rattle.cqs_slots.proofs.laws.found_words_are_later.Goals as goal

pub returns : goal.returns
returns c = finds-later
