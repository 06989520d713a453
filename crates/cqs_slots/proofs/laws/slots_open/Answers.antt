use Rattle.cqs_slots.proofs.Opens.{opens-shows, opens}
use Rattle.cqs_slots.proofs.laws.slots_open.Goals as goal

pub returns-clause-shows : goal.returns-clause-shows
returns-clause-shows c = opens-shows

pub returns-clause-sound : goal.returns-clause-sound
returns-clause-sound c = opens
