use Rattle.cqs_slots.proofs.Stands.{left-settled, stands}
use Rattle.cqs_slots.proofs.laws.segments_leave_settled.Goals as goal

pub returns-clause-left : goal.returns-clause-left
returns-clause-left c = left-settled

pub returns-clause-stands : goal.returns-clause-stands
returns-clause-stands c = stands
