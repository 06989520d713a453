use Rattle.cqs_floor_shared_any.proofs.LatchMeets.{latch-lawful}
use Rattle.cqs_floor_shared_any.proofs.kinds.latch.SharedLatch.law.Goals as goal

pub returns : goal.returns
returns c = latch-lawful
