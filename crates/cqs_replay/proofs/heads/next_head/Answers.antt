use Rattle.cqs_replay.proofs.HeadLines.{endless-head, unheard-head}
use Rattle.cqs_replay.proofs.heads.next_head.Goals as goal

pub returns-in_default : goal.returns-in_default
returns-in_default c = endless-head _ c.in_default.ensures

pub returns-in-None : goal.returns-in-None
returns-in-None c = unheard-head _ _ _ c.in-Some.ensures (rw c.in-None.is at c.in_ok-head.ensures)
