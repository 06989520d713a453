use Rattle.cqs_slots.proofs.Joined.{tail-tells, counts-tell}
use Rattle.cqs_slots.proofs.Linked.{links-tell}
use Rattle.cqs_slots.proofs.Loads.{head-found}
use Rattle.cqs_slots.proofs.laws.loads_tell.Goals as goal

pub returns-clause-tail : goal.returns-clause-tail
returns-clause-tail c = tail-tells

pub returns-clause-head : goal.returns-clause-head
returns-clause-head c = head-found

pub returns-clause-link : goal.returns-clause-link
returns-clause-link c = links-tell

pub returns-clause-count : goal.returns-clause-count
returns-clause-count c = counts-tell
