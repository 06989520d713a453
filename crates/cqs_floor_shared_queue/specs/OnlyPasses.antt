-- The passes of a floor in which all have met.
use Rattle.std.specs.Prelude.{◌≡◌, ℕ, Some, slice_get}
use Rattle.cqs_plan.specs.declared.plans.kind.Kind.{Kind}
use Rattle.cqs_floor_shared_any.specs.OnlyPasses.{IsOnlyPass}
use Rattle.cqs_floor_shared_any.specs.declared.kinds.any.AnyShared.{AnyShared}
use Rattle.cqs_floor_shared_queue.specs.Ledgers.{Ledger}

-- what the resource of this place is kept as has the one live pass of each of its tables
pub record HasOnlyPass (l : Ledger AnyShared) (at : ℕ) (k : Kind) : Type 0 where
  pub share : AnyShared
  pub there : slice_get l.shares at ≡ Some share
  pub only : IsOnlyPass k share

-- and so has each
pub record HasOnlyPasses (l : Ledger AnyShared) : Type 0 where
  pub at : (at : ℕ) (k : Kind) → slice_get l.kinds at ≡ Some k → HasOnlyPass l at k
