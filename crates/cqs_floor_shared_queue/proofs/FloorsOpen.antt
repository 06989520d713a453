-- All floors of a plan, as they are made one after the other.
use Rattle.std.proofs.Common.{◌≡◌, ℕ, ◌<◌, ◌≤◌, List, [], ◌∷◌, ◌++◌, length, map, get_or, ap, sym, ◌∙◌, subst, arith}
use Rattle.std.proofs.lemmas.List.{length-map}
use Rattle.std.proofs.lemmas.Option.{slice_get-get_or}
use Rattle.cqs_core.specs.Numbered.{EachAt}
use Rattle.cqs_core.proofs.EachAtLemmas.{EachAt-push}
use Rattle.cqs_plan.specs.declared.plans.plan.Plan.{Plan}
use Rattle.cqs_floor_shared.specs.Shared.{Shared}
use Rattle.cqs_work.specs.Opening.{AreSplit, IsOpening}
use Rattle.cqs_floor_shared_queue.specs.Ledgers.{Ledger, shared_in}
use Rattle.cqs_floor_shared_queue.specs.Openings.{AreLimits}
use Rattle.cqs_floor_shared_kinds.specs.Shares.{Share}
use Rattle.cqs_floor_shared_queue.proofs.FloorLists.{mapped-back}

-- a fact of each element, and of one more
pub each-push : {X : Type 0} (P : ℕ → X → Type 0) (xs : List X) (y : X) → EachAt P xs → P (length xs) y
    → EachAt P (xs ++ y ∷ [])
each-push P xs y each new = EachAt-push P P xs y new (λ k x got is. is) each

module _ {X : Type 0} (s : Share X) (plan : Plan) (workers : ℕ) where
  -- what holds of the floors so far, of a family of this name
  pub record SoFar (name : List (List (List ℕ))) (floors : List (Ledger X)) : Type 0 where
    pub each : EachAt (λ i f. IsOpening plan workers i (shared_in s f)) floors
    pub numbers : EachAt (λ i f. f.number ≡ i) floors
    pub kin : EachAt (λ i f. (shared_in s f).family ≡ name) floors

  pub none-so-far : (name : List (List (List ℕ))) → SoFar name []
  none-so-far name = record {
    each = record { at = λ i f got. absurd (cc) };
    numbers = record { at = λ i f got. absurd (cc) };
    kin = record { at = λ i f got. absurd (cc) };
  }

  pub one-more : (name : List (List (List ℕ))) (floors : List (Ledger X)) (f : Ledger X) (n : ℕ) → n ≡ length floors
      → SoFar name floors → IsOpening plan workers n (shared_in s f) → f.number ≡ n
      → (shared_in s f).family ≡ name → SoFar name (floors ++ f ∷ [])
  one-more name floors f n long so opens number kin = record {
    each = each-push (λ i g. IsOpening plan workers i (shared_in s g)) floors f so.each
        (subst (λ i. IsOpening plan workers i (shared_in s f)) long opens);
    numbers = each-push (λ i g. g.number ≡ i) floors f so.numbers (number ∙ long);
    kin = each-push (λ i g. (shared_in s g).family ≡ name) floors f so.kin kin;
  }

  pub all-split : (name : List (List (List ℕ))) (floors : List (Ledger X)) → length floors ≡ workers → 1 ≤ workers
      → workers ≤ 16 → SoFar name floors → AreSplit plan (map (shared_in s) floors)
  all-split name floors long some few so =
      let many : length (map (shared_in s) floors) ≡ workers = length-map floors (shared_in s) ∙ long in
      record {
        some = omega (arith, many, some);
        few = omega (arith, many, few);
        each = record {
          at = λ i f got.
              let g = mapped-back (shared_in s) floors i f got in
              subst (λ n. IsOpening plan n i f) (sym many)
              (subst (λ h. IsOpening plan workers i h) g.2 (so.each.at i g.0 g.1));
        };
        family = name;
        kin = record {
          at = λ i f got.
              let g = mapped-back (shared_in s) floors i f got in
              ap (λ (h : Shared). h.family) (sym g.2) ∙ so.kin.at i g.0 g.1;
        };
        apart = λ i j d before low same.
            let one = number-at i d (omega (arith, before, low)) in
            let two = number-at j d low in
            omega (arith, before, one, two, same);
      }
    where
      number-at : (i : ℕ) (d : Shared) → i < length (map (shared_in s) floors)
          → (get_or (map (shared_in s) floors) i d).number ≡ i
      number-at i d low =
          let got = slice_get-get_or (map (shared_in s) floors) i d low in
          let g = mapped-back (shared_in s) floors i (get_or (map (shared_in s) floors) i d) got in
          ap (λ (h : Shared). h.number) (sym g.2) ∙ so.numbers.at i g.0 g.1

  -- all have these limits
  pub all-wide : (floors : List (Ledger X)) → EachAt (λ i f. AreLimits plan (shared_in s f).limits) floors
      → EachAt (λ i f. AreLimits plan f.limits) (map (shared_in s) floors)
  all-wide floors wide = record {
    at = λ i f got.
        let g = mapped-back (shared_in s) floors i f got in
        subst (λ (h : Shared). AreLimits plan h.limits) g.2 (wide.at i g.0 g.1);
  }
