use Rattle.cqs_barrier_object.proofs.WordSteps.{barrier-opens}
use Rattle.cqs_barrier_object.proofs.law.barriers_open.Goals as goal

pub returns : goal.returns
returns c = barrier-opens
