use Rattle.cqs_floor_shared_kinds.proofs.PermitMeets.{permits-lawful}
use Rattle.cqs_floor_shared_kinds.proofs.kinds.permits.SharedPermits.law.Goals as goal

pub returns : goal.returns
returns c = permits-lawful
