-- A job that comes to a resource of a floor: what stands in cells, and what is held, after its call.
use Rattle.std.proofs.Common.{◌≡◌, ◌≢◌, ℕ, ◌+◌, ◌-◌, ◌<◌, ◌≤◌, List, [], ◌∷◌, ◌++◌, Option, Some, None, is_some, length, map, set, get_or, slice_get, refl, ap, sym, ◌∙◌, length-set, arith}
use Rattle.std.specs.Prelude.{slice_index}
use Rattle.std.specs.Option.{option_map}
use Rattle.std.proofs.lemmas.List.{length_push, map-set}
use Rattle.cqs_core.proofs.Counts.{bit}
use Rattle.cqs_plan.specs.declared.plans.kind.Kind.{Kind}
use Rattle.cqs_plan.specs.Floor.{JobWait}
use Rattle.cqs_turns_report.proofs.StepCounts.{bit-same}
use Rattle.cqs_floor_common.specs.Holdings.{held_at}
use Rattle.cqs_floor_shared.specs.Calls.{answer_of, parties_arrived}
use Rattle.cqs_floor_shared.specs.Shared.{parties_at, with_parties}
use Rattle.cqs_floor_shared_queue.specs.declared.floors.holdings.JobHolding.{JobHolding}
use Rattle.cqs_floor_shared_queue.specs.declared.floors.spots.Spot.{Spot}
use Rattle.cqs_floor_shared_kinds.specs.declared.resource.Came.{Came}
use Rattle.cqs_floor_shared_kinds.specs.declared.resource.Came.TheVariants as came
use Rattle.cqs_floor_shared_queue.specs.DeskCalls.{Waits}
use Rattle.cqs_floor_shared_queue.specs.FloorKept.{IsKept, came_in, funds_in, standing_in}
use Rattle.cqs_floor_shared_queue.specs.Holdings.{and_more, and_taken, held_by_jobs}
use Rattle.cqs_floor_shared_queue.specs.Ledgers.{Ledger, holds_in, shared_in}
use Rattle.cqs_floor_shared_kinds.specs.ShareCalls.{party_less}
use Rattle.cqs_floor_shared_kinds.specs.Shares.{Funds, Share, with_more}
use Rattle.cqs_floor_shared_queue.specs.Spots.{answer_for, came_at, job_wait, no_spot, spot_for, stands_at}
use Rattle.cqs_floor_shared_queue.proofs.FloorComes.{got, came-after, standing-after, parties_then}
use Rattle.cqs_floor_shared_queue.proofs.FloorLists.{index-mapped, map-kept}
use Rattle.cqs_floor_shared_queue.proofs.FloorNext.{next}
use Rattle.cqs_floor_shared_queue.proofs.JobHoldings.{else-more, held-more, jobs-more}

-- a job that is there without a wait, and a resource with room that it comes to
module _ {X : Type 0} (s : Share X) (l : Ledger X) (at job : ℕ) (x y : X) (there : slice_get l.shares at ≡ Some x)
    (kept : IsKept s l) (place : at < length l.room) (some : 0 < slice_index l.room at)
    (old : Spot) (was : slice_get l.spots job ≡ Some old) (idle : old.wait ≡ None) (own : job < length l.spots)
    (k : Kind) (is : slice_get l.kinds at ≡ Some k) (round : ℕ) where
  abbrev pub room : List ℕ
  room = set l.room at (slice_index l.room at - 1)

  abbrev pub spots : Came → List Spot
  spots c = set l.spots job (spot_for at round c)

  same-long : (c : Came) → length (spots c) ≡ length l.spots
  same-long c = length-set l.spots job (spot_for at round c)

  -- how many stand in cells then, and how many came with their numbers
  stand : (c : Came) (n : ℕ) → bit (stands_at at (spot_for at round c)) ≡ n
      → standing_in (spots c) at ≡ standing_in l.spots at + n
  stand c n many =
      let after = standing-after s l at job x y there kept place some old was idle (spot_for at round c) at in
      omega (arith, after, many)

  stand-none : (c : Came) → bit (stands_at at (spot_for at round c)) ≡ 0
      → standing_in (spots c) at ≡ standing_in l.spots at
  stand-none c none = let more = stand c 0 none in omega (arith, more)

  came-with : (c : Came) (n : ℕ) → bit (came_at at (spot_for at round c)) ≡ n
      → came_in (spots c) at ≡ came_in l.spots at + n
  came-with c n many =
      let after = came-after s l at job x y there kept place some old was idle (spot_for at round c) at in
      omega (arith, after, many)

  came-none : (c : Came) → bit (came_at at (spot_for at round c)) ≡ 0
      → came_in (spots c) at ≡ came_in l.spots at
  came-none c none = let more = came-with c 0 none in omega (arith, more)

  same-held : (c : Came) → held_at (held_by_jobs (length (spots c)) l.holdings) at ≡ held_at (holds_in l) at
  same-held c = ap (λ n. held_at (held_by_jobs n l.holdings) at) (same-long c)

  pub more-long : (c : Came) (element : ℕ)
      → held_by_jobs (length (spots c)) (and_more l.holdings at job element)
      ≡ set (holds_in l) job (get_or (holds_in l) job [] ++ record { at = at; element = element } ∷ [])
  more-long c element =
      ap (λ n. held_by_jobs n (and_more l.holdings at job element)) (same-long c)
      ∙ jobs-more (length l.spots) l.holdings at job element own

  module _ (rounds : List (List ℕ)) where
    abbrev then : Came → List JobHolding → Ledger X
    then c holdings = next s l at x y there room (spots c) holdings rounds

    abbrev gets : (ℕ → Funds → ℕ → Funds) → Came → Funds
    gets get c = got s l at job x y there kept place some old was idle get (funds_in l at k) c

    -- of what can't be held nothing is held then
    pub pass-funds : (c : Came) → funds_in (then c l.holdings) at k ≡ gets (λ j a e. a) c
    pass-funds (came.Now element) i = record {
      kind = k;
      waiting = stand-none (came.Now element) refl i;
      came = came-none (came.Now element) refl i;
      held = same-held (came.Now element) i;
    }
    pass-funds (came.Under n) i = record {
      kind = k;
      waiting = stand-none (came.Under n) refl i;
      came = came-with (came.Under n) 1 (bit-same at) i;
      held = same-held (came.Under n) i;
    }
    pass-funds (came.Waits p) i = record {
      kind = k;
      waiting = stand (came.Waits p) 1 (bit-same at) i;
      came = came-none (came.Waits p) refl i;
      held = same-held (came.Waits p) i;
    }
    pass-funds came.Worn i = record {
      kind = k;
      waiting = stand-none came.Worn refl i;
      came = came-none came.Worn refl i;
      held = same-held came.Worn i;
    }

    -- else what the job took at once is its newest
    pub take-funds : (c : Came) → funds_in (then c (and_taken l.holdings at job c)) at k
        ≡ gets (λ j a e. with_more a j e) c
    take-funds (came.Now element) i = record {
      kind = k;
      waiting = stand-none (came.Now element) refl i;
      came = came-none (came.Now element) refl i;
      held = (ap (λ holds. held_at holds at) (more-long (came.Now element) element)
          ∙ held-more (holds_in l) job at element) i;
    }
    take-funds (came.Under n) i = pass-funds (came.Under n) i
    take-funds (came.Waits p) i = pass-funds (came.Waits p) i
    take-funds came.Worn i = pass-funds came.Worn i

    pub take-held : (c : Came) (i : ℕ) → i ≢ at
        → held_at (held_by_jobs (length l.spots) (and_taken l.holdings at job c)) i ≡ held_at (holds_in l) i
    take-held (came.Now element) i other =
        ap (λ holds. held_at holds i) (jobs-more (length l.spots) l.holdings at job element own)
        ∙ else-more (holds_in l) job at element i (λ e. other (sym e))
    take-held (came.Under n) i other = refl
    take-held (came.Waits p) i other = refl
    take-held came.Worn i other = refl

    pub pass-few : (c : Came)
        → bit (is_some (spot_for at round c).wait) + length l.holdings ≤ 1 + length l.holdings
    pass-few (came.Now element) = omega arith
    pass-few (came.Under n) = omega arith
    pass-few (came.Waits p) = omega arith
    pass-few came.Worn = omega arith

    pub take-few : (c : Came)
        → bit (is_some (spot_for at round c).wait) + length (and_taken l.holdings at job c) ≤ 1 + length l.holdings
    take-few (came.Now element) =
        let more = length_push l.holdings (record { job = job; at = at; element = element }) in omega (arith, more)
    take-few (came.Under n) = omega arith
    take-few (came.Waits p) = omega arith
    take-few came.Worn = omega arith

  -- what stands where, as the floor is seen
  abbrev seen_wait : Spot → Option JobWait
  seen_wait p = option_map job_wait p.wait

  pub same-waits : map seen_wait (set l.spots job no_spot) ≡ map seen_wait l.spots
  same-waits = map-kept seen_wait l.spots job old no_spot was (sym (ap (option_map job_wait) idle))

  pub new-waits : (c : Came)
      → map seen_wait (spots c) ≡ set (map seen_wait l.spots) job (seen_wait (spot_for at round c))
  new-waits c = map-set seen_wait l.spots job (spot_for at round c)

  pub same-holds : (c : Came) → held_by_jobs (length (spots c)) l.holdings ≡ holds_in l
  same-holds c = ap (λ n. held_by_jobs n l.holdings) (same-long c)

  -- the pass holds as many parties as before
  pub same-parties : (c : Came)
      → s.parties y ≡ parties_then s l at job x y there kept place some old was idle (s.parties x) c
      → map s.parties (set l.shares at y) ≡ map s.parties l.shares
  same-parties (came.Now element) are = map-kept s.parties l.shares at x y there are
  same-parties (came.Under n) are = map-kept s.parties l.shares at x y there are
  same-parties (came.Waits p) are = map-kept s.parties l.shares at x y there are
  same-parties came.Worn are = map-kept s.parties l.shares at x y there are

  -- or one less
  fewer-parties : s.parties y ≡ party_less (s.parties x) round → map s.parties (set l.shares at y)
      ≡ with_parties (map s.parties l.shares) at round (parties_at (shared_in s l) at round - 1)
  fewer-parties are =
      map-set s.parties l.shares at y
      ∙ ap (set (map s.parties l.shares) at)
      (are ∙ ap (λ had. party_less had round) (sym (index-mapped s.parties l.shares at x [] there)))

  pub less-parties : (c : Came)
      → s.parties y ≡ parties_then s l at job x y there kept place some old was idle (party_less (s.parties x) round) c
      → map s.parties (set l.shares at y) ≡ parties_arrived (shared_in s l) at round (answer_of (answer_for c))
  less-parties (came.Now element) are = fewer-parties are
  less-parties (came.Under n) are = fewer-parties are
  less-parties (came.Waits p) are = fewer-parties are
  less-parties came.Worn are = map-kept s.parties l.shares at x y there are
