-- What holds of a floor's ledger between two calls.
use Rattle.std.specs.Prelude.{◌≡◌, ℕ, suc, ◌+◌, ◌*◌, ◌<◌, ◌≤◌, List, ◌∷◌, length, Some, is_some, sum, count_by, slice_get}
use Rattle.cqs_core.specs.Numbered.{EachAt}
use Rattle.cqs_core.specs.Parts.{Has}
use Rattle.cqs_plan.specs.declared.plans.kind.Kind.{Kind}
use Rattle.cqs_plan.specs.Validity.{IsKind}
use Rattle.cqs_rule_laws.specs.Lists.{IsDistinct}
use Rattle.cqs_floor_common.specs.Holdings.{held_at}
use Rattle.cqs_floor_shared_queue.specs.declared.floors.spots.FloorWait.{FloorWait}
use Rattle.cqs_floor_shared_queue.specs.declared.floors.spots.Spot.{Spot}
use Rattle.cqs_floor_shared_queue.specs.Ledgers.{Ledger, holds_in, own_rounds}
use Rattle.cqs_floor_shared_kinds.specs.Shares.{Funds, Share}
use Rattle.cqs_floor_shared_queue.specs.Spots.{came_at, job_wait, place_in, spot_in, stands_at}

-- how many jobs wait for a resource in a cell, and how many of its waits came with their numbers
abbrev pub standing_in : List Spot → ℕ → ℕ
standing_in spots at = count_by (stands_at at) spots

abbrev pub came_in : List Spot → ℕ → ℕ
came_in spots at = count_by (came_at at) spots

-- no two jobs have one wait in a cell
pub record AreApart (spots : List Spot) : Type 0 where
  pub same : (i j : ℕ) (v w : FloorWait) → slice_get spots i ≡ Some (spot_in v)
      → slice_get spots j ≡ Some (spot_in w) → job_wait v ≡ job_wait w → i ≡ j

module _ {X : Type 0} where
  -- what the jobs have of a resource
  abbrev pub funds_in : Ledger X → ℕ → Kind → Funds
  funds_in l at k = record {
    kind = k;
    waiting = standing_in l.spots at;
    came = came_in l.spots at;
    held = held_at (holds_in l) at;
  }

  -- how many holdings there can still be: one of each take and each wait, and those that are there
  abbrev pub holdings_to_come : Ledger X → ℕ
  holdings_to_come l =
      sum l.room + count_by (λ spot. is_some spot.wait) l.spots + length l.holdings

  module _ (s : Share X) where
    -- a wait in a cell is one that the pass of its resource has
    pub record StandsIn (shares : List X) (wait : FloorWait) : Type 0 where
      pub share : X
      pub there : slice_get shares wait.at ≡ Some share
      pub has : s.has share wait.round (place_in wait)

    -- what a resource is kept as has what the jobs have of it, and the numbers of the floor
    pub record IsFundedAt (l : Ledger X) (at : ℕ) (x : X) : Type 0 where
      pub funded : (k : Kind) → slice_get l.kinds at ≡ Some k → s.funded x (funds_in l at k)
      pub number : s.number x ≡ l.number
      pub met : s.met x ≡ l.met
      pub passes : s.passes x ≡ l.floors

    pub record IsKept (l : Ledger X) : Type 0 where
      pub shares : length l.shares ≡ length l.kinds
      pub rooms : length l.room ≡ length l.kinds
      pub jobs : length l.rounds ≡ length l.spots
      pub each_round : (job : ℕ) → job < length l.rounds
          → length (own_rounds l.rounds job) ≡ length l.kinds
      pub sized : EachAt (λ at kind. IsKind kind) l.kinds
      pub funded : EachAt (IsFundedAt l) l.shares
      pub waits : (job : ℕ) (wait : FloorWait) → slice_get l.spots job ≡ Some (spot_in wait)
          → StandsIn l.shares wait
      -- a wait is for one of the resources
      pub placed : (job : ℕ) (spot : Spot) (wait : FloorWait)
          → slice_get l.spots job ≡ Some spot → spot.wait ≡ Some wait → wait.at < length l.kinds
      pub apart : AreApart l.spots
      pub distinct : IsDistinct (l.number ∷ l.met)
      pub below : (n : ℕ) → Has n (l.number ∷ l.met) → n < l.floors
      pub few_floors : l.floors ≤ 16
      pub few : l.budget ≤ 33554432
      pub within : holdings_to_come l ≤ l.budget * suc (length l.met)
      pub space : l.budget * l.floors ≤ l.space
      pub seats : l.floors ≤ l.seats
