use Rattle.cqs_slots.proofs.Unsettled.{few-unsettled}
use Rattle.cqs_slots.proofs.laws.unsettled_cells_are_few.Goals as goal

pub returns : goal.returns
returns c = few-unsettled
