use Rattle.cqs_slots.proofs.Marks.{retired}
use Rattle.cqs_slots.proofs.laws.full_segments_leave.Goals as goal

pub returns : goal.returns
returns c = retired
