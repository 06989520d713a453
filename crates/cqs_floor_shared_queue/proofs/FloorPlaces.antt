-- What a call of a floor finds: its resource, with what the jobs have of it, and its job.
use Rattle.std.proofs.Common.{◌≡◌, ℕ, ◌<◌, List, Option, Some, None, length, slice_get, refl, sym, ◌∙◌, arith}
use Rattle.std.specs.Option.{option_map}
use Rattle.std.proofs.lemmas.List.{length-map}
use Rattle.cqs_core.proofs.Places.{get-below, get-there}
use Rattle.cqs_plan.specs.declared.plans.kind.Kind.{Kind}
use Rattle.cqs_plan.specs.Floor.{IsIdle, IsJob}
use Rattle.cqs_turns_report.proofs.KindsThere.{IsThere}
use Rattle.cqs_floor_common.specs.Holdings.{elements_of, held_at}
use Rattle.cqs_floor_shared.specs.Shared.{Shared}
use Rattle.cqs_floor_shared_queue.specs.declared.floors.spots.FloorWait.{FloorWait}
use Rattle.cqs_floor_shared_queue.specs.declared.floors.spots.Spot.{Spot}
use Rattle.cqs_floor_shared_queue.specs.FloorKept.{IsFundedAt, IsKept}
use Rattle.cqs_floor_shared_queue.specs.Ledgers.{Ledger, holds_in, shared_in}
use Rattle.cqs_floor_shared_kinds.specs.Shares.{Share}
use Rattle.cqs_floor_shared_queue.specs.Spots.{job_wait}
use Rattle.cqs_floor_shared_queue.proofs.FloorLists.{index-mapped}
use Rattle.cqs_floor_shared_queue.proofs.JobHoldings.{jobs-long}

-- what a call leaves: the floor keeps what it keeps, and is this to its caller
pub record Well {X : Type 0} (s : Share X) (Does : Shared → Type 0) (n : Ledger X) : Type 0 where
  pub kept : IsKept s n
  pub does : Does (shared_in s n)

-- a job without a wait
pub record Idles {X : Type 0} (l : Ledger X) (job : ℕ) : Type 0 where
  pub spot : Spot
  pub was : slice_get l.spots job ≡ Some spot
  pub idle : spot.wait ≡ None

module _ {X : Type 0} (s : Share X) where
  pub record Here (l : Ledger X) (at : ℕ) : Type 0 where
    pub kind : Kind
    pub is : slice_get l.kinds at ≡ Some kind
    pub share : X
    pub there : slice_get l.shares at ≡ Some share
    pub funded : IsFundedAt s l at share
    pub place : at < length l.room

  pub here : (l : Ledger X) (at : ℕ) → IsKept s l → IsThere (slice_get l.kinds at) → Here l at
  here l at kept is =
      let low = get-below l.kinds at is.0 is.1 in
      let below : at < length l.shares = omega (arith, low, kept.shares) in
      let there = get-there l.shares at below in
      record {
        kind = is.0;
        is = is.1;
        share = there.0;
        there = there.1;
        funded = kept.funded.at at there.0 there.1;
        place = omega (arith, low, kept.rooms);
      }

  -- what is kept at a place is one thing
  pub one-there : (l : Ledger X) (at : ℕ) (x y : X) → slice_get l.shares at ≡ Some x → slice_get l.shares at ≡ Some y
      → x ≡ y
  one-there l at x y one other = let same : Some x ≡ Some y = sym one ∙ other in cc

  -- and so is a kind
  pub one-kind : (kinds : List Kind) (at : ℕ) (k j : Kind) → slice_get kinds at ≡ Some k → slice_get kinds at ≡ Some j
      → k ≡ j
  one-kind kinds at k j one other = let same : Some k ≡ Some j = sym one ∙ other in cc

  pub job-there : (l : Ledger X) (job : ℕ) → IsJob (shared_in s l).board job → job < length l.spots
  job-there l job is =
      omega (arith, is.waits, length-map l.spots (λ (p : Spot). option_map job_wait p.wait))

  pub funds-long : (l : Ledger X) (at : ℕ) → length (held_at (holds_in l) at) ≡ length l.spots
  funds-long l at = length-map (holds_in l) (elements_of at) ∙ jobs-long (length l.spots) l.holdings

  none-back : (w : Option FloorWait) → option_map job_wait w ≡ None → w ≡ None
  none-back None none = refl
  none-back (Some w) none = absurd (cc)

  pub idle-there : (l : Ledger X) (job : ℕ) → job < length l.spots → IsIdle (shared_in s l).board job → Idles l job
  idle-there l job below idle =
      let there = get-there l.spots job below in
      record {
        spot = there.0;
        was = there.1;
        idle = none-back there.0.wait
            (sym (index-mapped (λ (p : Spot). option_map job_wait p.wait) l.spots job there.0 None there.1) ∙ idle);
      }
