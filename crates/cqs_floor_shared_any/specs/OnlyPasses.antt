-- The one live pass of each table that a resource stands on.
use Rattle.std.specs.Prelude.{Some, length}
use Rattle.std.specs.Arc.{arc_value}
use Rattle.cqs_barrier.specs.Calls.{IsMine as IsMineAtBarrier}
use Rattle.cqs_core.specs.Numbered.{EachAt}
use Rattle.cqs_latch.specs.Calls.{IsMine as IsMineAtLatch}
use Rattle.cqs_plan.specs.declared.plans.kind.Kind.{Kind}
use Rattle.cqs_plan.specs.Floor.{IsLatch}
use Rattle.cqs_rule.specs.Passes.{pass_view}
use Rattle.cqs_floor_shared_any.specs.declared.kinds.any.AnyShared.{AnyShared}
use Rattle.cqs_floor_shared_any.specs.declared.kinds.any.AnyShared.TheVariants.{Permits, Pool, Latch, Rounds}
use Rattle.cqs_floor_shared_any.specs.declared.kinds.round.SharedRound.{SharedRound}
use Rattle.cqs_floor_shared_any.specs.RoundsOne.{view_of}
use Rattle.cqs_floor_shared_any.specs.RoundsShares.{IsOfRounds}
use Rattle.cqs_floor_shared_kinds.specs.OnlyPasses.{HasAllNumbers, HasOnlyPermitPass, HasOnlyPoolPass}

-- It is what a resource of this kind is on the running queue, and its pass is its own, and the one
-- live pass there: a semaphore for a semaphore or a mutex, for a pool a pool, for a latch a latch,
-- and for a barrier one for each of its rounds.
abbrev pub IsOnlyPass : Kind → AnyShared → Type 0
IsOnlyPass k (Permits x) = HasOnlyPermitPass k x
IsOnlyPass k (Pool x) = HasOnlyPoolPass k x
IsOnlyPass k (Latch x) =
    IsLatch (Some k) × IsMineAtLatch (arc_value x.latch) x.pass × HasAllNumbers (pass_view x.pass)
IsOnlyPass k (Rounds x) =
    IsOfRounds k (length x.rounds.items)
    × EachAt (λ round (r : SharedRound). IsMineAtBarrier (arc_value r.barrier) r.pass
    × HasAllNumbers (view_of r)) x.rounds.items
