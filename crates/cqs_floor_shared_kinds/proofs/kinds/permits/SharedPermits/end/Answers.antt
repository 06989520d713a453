use Rattle.cqs_floor_shared_kinds.proofs.PermitMeets.{permits-end}
use Rattle.cqs_floor_shared_kinds.proofs.kinds.permits.SharedPermits.end.Goals as goal

pub returns : goal.returns
returns c = permits-end c.args.self.now c.args.kind c.permits.result c.permits.ensures c.requires
