use Rattle.cqs_floor_shared_any.specs.declared.kinds.any.AnyShared.TheVariants.{Permits, Pool, Latch, Rounds}
use Rattle.cqs_floor_shared_any.specs.AnyShares.{share_any}
use Rattle.cqs_floor_shared_any.proofs.AmongShares.{can-meet, meets-among}
use Rattle.cqs_floor_shared_any.proofs.kinds.any.AnySharedSharedResource.meet.Goals as goal

pub meet-requires : goal.meet-requires
meet-requires c =
    can-meet share_any Permits c.in-Permits-given.given c.in-Permits.share
    (rw (c.in-Permits.is, c.in-Permits-given.is) at c.requires)

pub returns-in-Permits-given : goal.returns-in-Permits-given
returns-in-Permits-given c =
    rw (c.in-Permits.is, c.in-Permits-given.is)
    (meets-among share_any Permits c.in-Permits-given.given c.in-Permits.share c.meet.new.self c.meet.ensures)

pub meet-requires-in-Pool-given : goal.meet-requires-in-Pool-given
meet-requires-in-Pool-given c =
    can-meet share_any Pool c.in-Pool-given.given c.in-Pool.share
    (rw (c.in-Pool.is, c.in-Pool-given.is) at c.requires)

pub returns-in-Pool-given : goal.returns-in-Pool-given
returns-in-Pool-given c =
    rw (c.in-Pool.is, c.in-Pool-given.is)
    (meets-among share_any Pool c.in-Pool-given.given c.in-Pool.share
    c.meet-in-Pool-given.new.self c.meet-in-Pool-given.ensures)

pub meet-requires-in-Latch-given : goal.meet-requires-in-Latch-given
meet-requires-in-Latch-given c =
    can-meet share_any Latch c.in-Latch-given.given c.in-Latch.share
    (rw (c.in-Latch.is, c.in-Latch-given.is) at c.requires)

pub returns-in-Latch-given : goal.returns-in-Latch-given
returns-in-Latch-given c =
    rw (c.in-Latch.is, c.in-Latch-given.is)
    (meets-among share_any Latch c.in-Latch-given.given c.in-Latch.share
    c.meet-in-Latch-given.new.self c.meet-in-Latch-given.ensures)

pub meet-requires-in-Rounds-given : goal.meet-requires-in-Rounds-given
meet-requires-in-Rounds-given c =
    can-meet share_any Rounds c.in-Rounds-given.given c.in-Rounds.share
    (rw (c.in-Rounds.is, c.in-Rounds-given.is) at c.requires)

pub returns-in-Rounds-given : goal.returns-in-Rounds-given
returns-in-Rounds-given c =
    rw (c.in-Rounds.is, c.in-Rounds-given.is)
    (meets-among share_any Rounds c.in-Rounds-given.given c.in-Rounds.share
    c.meet-in-Rounds-given.new.self c.meet-in-Rounds-given.ensures)
