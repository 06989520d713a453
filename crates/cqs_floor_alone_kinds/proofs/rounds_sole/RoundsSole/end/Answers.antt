use Rattle.cqs_floor_alone_kinds.proofs.BarrierSole.{rounds-tell}
use Rattle.cqs_floor_alone_kinds.proofs.rounds_sole.RoundsSole.end.Goals as goal

pub returns : goal.returns
returns c = rounds-tell c.args.self.now c.args._kind
