use Rattle.cqs_floor_shared_any.specs.declared.kinds.any.AnyShared.TheVariants.{Permits, Pool, Latch, Rounds}
use Rattle.cqs_floor_shared_any.specs.AnyShares.{share_any}
use Rattle.cqs_floor_shared_any.proofs.AmongShares.{can-tell}
use Rattle.cqs_floor_shared_any.proofs.kinds.any.AnySharedSharedResource.end.Goals as goal

pub end-requires : goal.end-requires
end-requires c = can-tell share_any Permits c.args.kind c.in-Permits.share (rw c.in-Permits.is at c.requires)

pub end-requires-in-Pool : goal.end-requires-in-Pool
end-requires-in-Pool c = can-tell share_any Pool c.args.kind c.in-Pool.share (rw c.in-Pool.is at c.requires)

pub end-requires-in-Latch : goal.end-requires-in-Latch
end-requires-in-Latch c = can-tell share_any Latch c.args.kind c.in-Latch.share (rw c.in-Latch.is at c.requires)

pub end-requires-in-Rounds : goal.end-requires-in-Rounds
end-requires-in-Rounds c = can-tell share_any Rounds c.args.kind c.in-Rounds.share (rw c.in-Rounds.is at c.requires)
