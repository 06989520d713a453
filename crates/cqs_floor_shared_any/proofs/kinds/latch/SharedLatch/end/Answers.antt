use Rattle.cqs_floor_shared_any.proofs.LatchMeets.{latch-end, latch-few}
use Rattle.cqs_floor_shared_any.proofs.kinds.latch.SharedLatch.end.Goals as goal

pub overflow_sub-result : goal.overflow_sub-result
overflow_sub-result c = latch-few c.args.self.now c.args.kind c.counts.result c.counts.ensures c.requires

pub returns : goal.returns
returns c = latch-end c.args.self.now c.args.kind c.counts.result c.counts.ensures c.requires
