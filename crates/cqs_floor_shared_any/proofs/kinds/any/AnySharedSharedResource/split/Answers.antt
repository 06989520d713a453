use Rattle.cqs_floor_shared_any.specs.declared.kinds.any.AnyShared.TheVariants.{Permits, Pool, Latch, Rounds}
use Rattle.cqs_floor_shared_any.specs.AnyShares.{share_any}
use Rattle.cqs_floor_shared_any.proofs.AmongShares.{can-split, split-among}
use Rattle.cqs_floor_shared_any.proofs.kinds.any.AnySharedSharedResource.split.Goals as goal

pub split-requires-in-Rounds : goal.split-requires-in-Rounds
split-requires-in-Rounds c = can-split share_any Rounds c.args.gives c.in-Rounds.share (rw c.in-Rounds.is at c.requires)

pub returns-in_ok-made-in-Permits : goal.returns-in_ok-made-in-Permits
returns-in_ok-made-in-Permits c =
    rw c.in-Permits.is
    (split-among share_any Permits c.args.gives c.in-Permits.share c.in_ok-made-in-Permits.made
    c.split.new.self c.in_ok-made-in-Permits.ensures)

pub returns-in_ok-made-in-Pool : goal.returns-in_ok-made-in-Pool
returns-in_ok-made-in-Pool c =
    rw c.in-Pool.is
    (split-among share_any Pool c.args.gives c.in-Pool.share c.in_ok-made-in-Pool.made
    c.split-in-Pool.new.self c.in_ok-made-in-Pool.ensures)

pub returns-in_ok-made-in-Latch : goal.returns-in_ok-made-in-Latch
returns-in_ok-made-in-Latch c =
    rw c.in-Latch.is
    (split-among share_any Latch c.args.gives c.in-Latch.share c.in_ok-made-in-Latch.made
    c.split-in-Latch.new.self c.in_ok-made-in-Latch.ensures)

pub returns-in_ok-made-in-Rounds : goal.returns-in_ok-made-in-Rounds
returns-in_ok-made-in-Rounds c =
    rw c.in-Rounds.is
    (split-among share_any Rounds c.args.gives c.in-Rounds.share c.in_ok-made-in-Rounds.made
    c.split-in-Rounds.new.self c.in_ok-made-in-Rounds.ensures)
