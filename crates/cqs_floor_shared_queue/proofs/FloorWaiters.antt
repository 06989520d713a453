-- Whether some job of a floor has a wait.
use Rattle.std.proofs.Common.{◌≡◌, ◌⊎◌, inl, inr, ℕ, zero, suc, ◌<◌, ◌≤◌, true, false, ◌||◌, is_some, List, [], ◌∷◌, Option, Some, None, IsSome, length, map, get_or, slice_get, refl, ap, sym, ◌∙◌, subst, arith}
use Rattle.std.specs.List.{list_any}
use Rattle.std.specs.Option.{option_map}
use Rattle.std.proofs.lemmas.Bool.{cases_lt}
use Rattle.std.proofs.lemmas.List.{length-map}
use Rattle.cqs_core.proofs.Places.{get-there}
use Rattle.cqs_plan.specs.Floor.{JobWait}
use Rattle.cqs_floor_shared.specs.Calls.{HasWait}
use Rattle.cqs_floor_shared_queue.specs.declared.floors.spots.FloorWait.{FloorWait}
use Rattle.cqs_floor_shared_queue.specs.declared.floors.spots.Spot.{Spot}
use Rattle.cqs_floor_shared_queue.specs.Ledgers.{Ledger, shared_in}
use Rattle.cqs_floor_shared_queue.specs.Meeting.{has_wait}
use Rattle.cqs_floor_shared_kinds.specs.Shares.{Share}
use Rattle.cqs_floor_shared_queue.specs.Spots.{job_wait}
use Rattle.cqs_floor_shared_queue.proofs.FloorCrews.{index-past}
use Rattle.cqs_floor_shared_queue.proofs.FloorLists.{index-mapped}

-- what is no wait of any job is none
pub no-waits : (spots : List Spot) → list_any has_wait spots ≡ false → (j : ℕ) (spot : Spot)
    → slice_get spots j ≡ Some spot → spot.wait ≡ None
no-waits [] none j spot got = absurd (cc)
no-waits (p ∷ spots) none j spot got = go p.wait refl j got (no-waits spots)
  where
    go : (w : Option FloorWait) → p.wait ≡ w → (j : ℕ) → slice_get (p ∷ spots) j ≡ Some spot
        → (list_any has_wait spots ≡ false → (i : ℕ) (q : Spot) → slice_get spots i ≡ Some q → q.wait ≡ None)
        → spot.wait ≡ None
    go None is zero got rest = let same : p ≡ spot = cc in ap (λ (q : Spot). q.wait) (sym same) ∙ is
    go None is (suc j) got rest =
        rest (sym (ap (λ o. is_some o || list_any has_wait spots) is) ∙ none) j spot got
    go (Some w) is j got rest =
        let some : true ≡ false = sym (ap (λ o. is_some o || list_any has_wait spots) is) ∙ none in absurd (cc)

-- whether some job has a wait
some-wait : (spots : List Spot) → list_any has_wait spots ≡ true
    → (job : ℕ) × IsSome (get_or (map (λ (p : Spot). option_map job_wait p.wait) spots) job None)
some-wait [] some = absurd (cc)
some-wait (p ∷ spots) some = go p.wait refl (some-wait spots)
  where
    go : (w : Option FloorWait) → p.wait ≡ w
        → (list_any has_wait spots ≡ true
        → (job : ℕ) × IsSome (get_or (map (λ (q : Spot). option_map job_wait q.wait) spots) job None))
        → (job : ℕ) × IsSome (get_or (map (λ (q : Spot). option_map job_wait q.wait) (p ∷ spots)) job None)
    go (Some w) is later = (0, subst (λ o. IsSome (option_map job_wait o)) (sym is) refl)
    go None is later =
        let rest = later (sym (ap (λ o. is_some o || list_any has_wait spots) is) ∙ some) in
        (suc rest.0, rest.1)

pub waits-there : {X : Type 0} (s : Share X) (l : Ledger X) → list_any has_wait l.spots ≡ true
    → HasWait (shared_in s l).board
waits-there s l some = some-wait l.spots some

nobody : (w : Option JobWait) → IsSome w → w ≡ None → ⊥
nobody None some none = absurd (cc)
nobody (Some w) some none = absurd (cc)

pub none-waits-there : {X : Type 0} (s : Share X) (l : Ledger X) → list_any has_wait l.spots ≡ false
    → HasWait (shared_in s l).board → ⊥
none-waits-there s l none (job, some) = go (cases_lt job (length l.spots))
  where
    go : (job < length l.spots) ⊎ (length l.spots ≤ job) → ⊥
    go (inl low) =
        let got = get-there l.spots job low in
        let is : got.0.wait ≡ None = no-waits l.spots none job got.0 got.1 in
        let seen = index-mapped (λ (p : Spot). option_map job_wait p.wait) l.spots job got.0 None got.1 in
        nobody (option_map job_wait got.0.wait) (subst IsSome seen some) (ap (option_map job_wait) is)
    go (inr past) =
        let gone = index-past (map (λ (p : Spot). option_map job_wait p.wait) l.spots) job None
        (omega (arith, past, length-map l.spots (λ (p : Spot). option_map job_wait p.wait))) in
        nobody (get_or (map (λ (p : Spot). option_map job_wait p.wait) l.spots) job None) some gone
