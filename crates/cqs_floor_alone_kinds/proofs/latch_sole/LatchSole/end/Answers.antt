use Rattle.cqs_floor_alone_kinds.proofs.LatchSole.{latch-tells}
use Rattle.cqs_floor_alone_kinds.proofs.latch_sole.LatchSole.end.Goals as goal

pub returns : goal.returns
returns c = latch-tells c.args.self.now c.args._kind
