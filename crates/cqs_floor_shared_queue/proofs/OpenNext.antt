-- The loop in which the floors of a plan are made: how it begins, and what one round of it leaves.
use Rattle.std.proofs.Common.{◌≡◌, ℕ, suc, ◌+◌, ◌-◌, ◌≤◌, List, [], ◌∷◌, ◌++◌, length, map, refl, ap, sym, ◌∙◌, subst, arith}
use Rattle.std.specs.Prelude.{slice_index}
use Rattle.std.specs.List.{range_with_len}
use Rattle.std.proofs.lemmas.List.{length_push}
use Rattle.std.proofs.lemmas.List.FromFn.{get_or-map-range_with_len}
use Rattle.cqs_core.specs.Numbered.{EachAt}
use Rattle.cqs_core.proofs.Places.{get-there}
use Rattle.cqs_plan.specs.declared.plans.plan.Plan.{Plan}
use Rattle.cqs_plan.specs.Runnable.{IsRunnable}
use Rattle.cqs_work.specs.Opening.{IsOpening}
use Rattle.cqs_floor_common.specs.Room.{room_of}
use Rattle.cqs_floor_shared_queue.specs.Ledgers.{Ledger, shared_in}
use Rattle.cqs_floor_shared_queue.specs.Openings.{AreFresh, AreLimits, CanSplitEach, HaveOpened, HaveSplitEach, arriving_from, own_arriving, plan_name}
use Rattle.cqs_floor_shared_kinds.specs.Shares.{Share}
use Rattle.cqs_floor_shared_queue.proofs.FloorProvides.{fewer-from}
use Rattle.cqs_floor_shared_queue.proofs.FloorSplits.{Fresh, HaveMany, fresh-opened, last-fresh, made-fresh, made-kin, made-limits, made-many, many-opened, new-fresh, new-kin, new-limits, split-can}
use Rattle.cqs_floor_shared_queue.proofs.FloorLists.{index-mapped}
use Rattle.cqs_floor_shared_queue.proofs.FloorsOpen.{SoFar, each-push, none-so-far, one-more}

module _ {X : Type 0} (s : Share X) (plan : Plan) (workers : ℕ) where
  -- after the floors of the workers before this one
  pub record Ready (worker : ℕ) (shares : List X) (floors : List (Ledger X)) : Type 0 where
    pub many : suc (length floors) ≡ worker
    pub fresh : Fresh s plan.resources workers (worker - 1) shares
    pub parties : HaveMany s plan.resources (λ at. arriving_from workers (worker - 1) at 0 plan.jobs) shares
    pub so : SoFar s plan workers (plan_name plan workers ∷ map s.family shares) floors
    pub limits : AreLimits plan (map s.limit shares)
    pub wide : EachAt (λ i f. AreLimits plan (shared_in s f).limits) floors

  -- one more floor with the limits of these shares
  more-wide : (floors : List (Ledger X)) (f : Ledger X) (shares : List X) → AreLimits plan (map s.limit shares)
      → (shared_in s f).limits ≡ map s.limit shares → EachAt (λ i g. AreLimits plan (shared_in s g).limits) floors
      → EachAt (λ i g. AreLimits plan (shared_in s g).limits) (floors ++ f ∷ [])
  more-wide floors f shares limits is wide =
      each-push (λ i g. AreLimits plan (shared_in s g).limits) floors f wide (subst (AreLimits plan) (sym is) limits)

  first-limits : (room : List ℕ) (shares : List X)
      → room ≡ map (room_of plan.jobs) (range_with_len 0 (length plan.resources))
      → HaveOpened s plan.resources workers room shares → length shares ≡ length plan.resources
      → AreLimits plan (map s.limit shares)
  first-limits room shares counted opened long = record {
    at = λ at low.
        let r = get-there plan.resources at low in
        let x = get-there shares at (omega (arith, low, long)) in
        let limit = (opened.each at r.0 x.0 r.1 x.1).limit in
        let here = index-mapped s.limit shares at x.0 0 x.1 in
        let roomy = ap (λ l. slice_index l at) counted in
        let for_it = get_or-map-range_with_len (room_of plan.jobs) 0 (length plan.resources) at at 0 low
        (omega arith) in
        omega (arith, limit, here, roomy, for_it);
  }

  pub ready-first : (room : List ℕ) (shares : List X) → IsRunnable plan
      → room ≡ map (room_of plan.jobs) (range_with_len 0 (length plan.resources))
      → HaveOpened s plan.resources workers room shares → length shares ≡ length plan.resources → Ready 1 shares []
  ready-first room shares runnable counted opened long = record {
    many = refl;
    fresh = fresh-opened s plan.resources workers room shares opened long;
    parties = many-opened s plan workers room shares runnable opened;
    so = none-so-far s plan workers (plan_name plan workers ∷ map s.family shares);
    limits = first-limits room shares counted opened long;
    wide = record { at = λ i f got. absurd (cc) };
  }

  next-is : (worker : ℕ) → 1 ≤ worker → worker - 1 + 1 ≡ worker
  next-is worker low = omega (arith, low)

  fewer : (worker : ℕ) → 1 ≤ worker → (at : ℕ)
      → arriving_from workers worker at 0 plan.jobs ≤ arriving_from workers (worker - 1) at 0 plan.jobs
  fewer worker low at =
      subst (λ w. arriving_from workers w at 0 plan.jobs ≤ arriving_from workers (worker - 1) at 0 plan.jobs)
      (next-is worker low) (fewer-from workers (worker - 1) at 0 plan.jobs)

  module _ (worker : ℕ) (low : 1 ≤ worker) (shares : List X) (floors : List (Ledger X)) (r : Ready worker shares floors)
    where
      pub ready-can : CanSplitEach s (λ at. arriving_from workers worker at 0 plan.jobs) shares
      ready-can = split-can s plan.resources workers worker plan.jobs low shares r.fresh r.parties (fewer worker low)

      module _ (made new : List X)
          (split : HaveSplitEach s (λ at. arriving_from workers worker at 0 plan.jobs) worker shares made new) where
        pub ready-new : AreFresh s plan.resources workers (worker - 1)
            (λ at. own_arriving workers (worker - 1) at plan.jobs) new
        ready-new = new-fresh s plan.resources workers worker plan.jobs low shares r.fresh r.parties
            (fewer worker low) made new split

        pub ready-next : (f : Ledger X) → IsOpening plan workers (worker - 1) (shared_in s f)
            → f.number ≡ worker - 1
            → (shared_in s f).family ≡ plan_name plan workers ∷ map s.family new
            → (shared_in s f).limits ≡ map s.limit new
            → Ready (worker + 1) made (floors ++ f ∷ [])
        ready-next f opens number kin limits = record {
          many = let more = length_push floors f in omega (arith, more, r.many);
          fresh = subst (λ w. Fresh s plan.resources workers w made) (back worker)
              (made-fresh s plan.resources workers worker plan.jobs low shares r.fresh r.parties (fewer worker low)
              made new split);
          parties = subst
              (λ w. HaveMany s plan.resources (λ at. arriving_from workers w at 0 plan.jobs) made) (back worker)
              (made-many s plan.resources workers worker plan.jobs low shares r.fresh r.parties (fewer worker low)
              made new split);
          so = one-more s plan workers (plan_name plan workers ∷ map s.family made) floors f (worker - 1)
              (omega (arith, r.many))
              (subst (λ fs. SoFar s plan workers (plan_name plan workers ∷ fs) floors) (sym kin-made) r.so)
              opens number
              (kin ∙ ap (λ fs. plan_name plan workers ∷ fs) (kin-new ∙ sym kin-made));
          limits = subst (AreLimits plan) (sym limits-made) r.limits;
          wide = more-wide floors f shares r.limits (limits ∙ limits-new) r.wide;
        }
          where
            back : (w : ℕ) → w ≡ w + 1 - 1
            back w = omega arith

            kin-made : map s.family made ≡ map s.family shares
            kin-made = made-kin s plan.resources workers worker plan.jobs low shares r.fresh r.parties
                (fewer worker low) made new split

            kin-new : map s.family new ≡ map s.family shares
            kin-new = new-kin s plan.resources workers worker plan.jobs low shares r.fresh r.parties
                (fewer worker low) made new split

            limits-made : map s.limit made ≡ map s.limit shares
            limits-made = made-limits s plan.resources workers worker plan.jobs low shares r.fresh r.parties
                (fewer worker low) made new split

            limits-new : map s.limit new ≡ map s.limit shares
            limits-new = new-limits s plan.resources workers worker plan.jobs low shares r.fresh r.parties
                (fewer worker low) made new split

  -- the last floor
  pub ready-last : (worker : ℕ) (shares : List X) (floors : List (Ledger X)) → Ready worker shares floors
      → AreFresh s plan.resources workers (worker - 1) (λ at. own_arriving workers (worker - 1) at plan.jobs) shares
  ready-last worker shares floors r =
      last-fresh s plan.resources workers (worker - 1) plan.jobs shares r.fresh r.parties

  pub ready-all : (worker : ℕ) (shares : List X) (floors : List (Ledger X)) → Ready worker shares floors
      → 1 ≤ worker → (f : Ledger X) → IsOpening plan workers (worker - 1) (shared_in s f) → f.number ≡ worker - 1
      → (shared_in s f).family ≡ plan_name plan workers ∷ map s.family shares
      → SoFar s plan workers (plan_name plan workers ∷ map s.family shares) (floors ++ f ∷ [])
  ready-all worker shares floors r low f opens number kin =
      one-more s plan workers (plan_name plan workers ∷ map s.family shares) floors f (worker - 1)
      (omega (arith, r.many)) r.so opens number kin

  pub ready-wide : (worker : ℕ) (shares : List X) (floors : List (Ledger X)) → Ready worker shares floors
      → (f : Ledger X) → (shared_in s f).limits ≡ map s.limit shares
      → EachAt (λ i g. AreLimits plan (shared_in s g).limits) (floors ++ f ∷ [])
  ready-wide worker shares floors r f limits = more-wide floors f shares r.limits limits r.wide
