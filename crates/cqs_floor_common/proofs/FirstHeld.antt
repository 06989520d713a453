-- The oldest element that a job holds, by its place in the list of all.
use Rattle.std.proofs.Common.{◌≡◌, ◌≢◌, ℕ, suc, ◌+◌, ◌==◌, Bool, true, false, List, [], ◌∷◌, ◌++◌, drop, length, take, slice_get, Some, None, refl, ap, sym, eq-eqb, ne_eqb, eqb-true, arith}
use Rattle.std.specs.List.{position_from}
use Rattle.cqs_core.specs.Keyed as keyed
use Rattle.cqs_pool.specs.Elements.{number_of}
use Rattle.cqs_floor_common.specs.declared.held.HeldElement.{HeldElement}
use Rattle.cqs_floor_common.specs.HeldElements.{elements_held}

-- the first of a job stands at this place, and the list without it is this
pub record Stands (job : ℕ) (hs : List HeldElement) (n : ℕ) : Type 0 where
  pub held : HeldElement
  pub there : slice_get hs n ≡ Some held
  pub first : slice_get (elements_held job hs) 0 ≡ Some (number_of held.element)
  pub rest : keyed.without (λ h. h.job) job hs ≡ take n hs ++ drop (suc n) hs

-- where its search has found it, from the place i on
record Found (job : ℕ) (hs : List HeldElement) (i at : ℕ) : Type 0 where
  steps : ℕ
  is : at ≡ i + steps
  stands : Stands job hs steps

found-from : (job : ℕ) (hs : List HeldElement) (i at : ℕ)
    → position_from (λ h. h.job == job) i hs ≡ Some at → Found job hs i at
found-from job [] i at found = absurd (cc)
found-from job (h ∷ hs) i at found = go (h.job == job) refl (found-from job hs (i + 1) at)
  where
    go : (b : Bool) → h.job == job ≡ b
        → (position_from (λ h. h.job == job) (i + 1) hs ≡ Some at → Found job hs (i + 1) at)
        → Found job (h ∷ hs) i at
    go true same later =
        let here : Some i ≡ Some at = rw same at found in
        let is : i ≡ at = cc in
        record {
          steps = 0;
          is = omega (arith, is);
          stands = record {
            held = h;
            there = refl;
            first = rw same refl;
            rest = rw (eq-eqb job h.job (sym (eqb-true h.job job same))) refl;
          };
        }
    go false other later =
        let on : position_from (λ h. h.job == job) (i + 1) hs ≡ Some at = rw other at found in
        let rest : Found job hs (i + 1) at = later on in
        let differs : job ≢ h.job = λ e. absurd (cc (eq-eqb h.job job (sym e), other)) in
        record {
          steps = suc rest.steps;
          is = omega (arith, rest.is);
          stands = record {
            held = rest.stands.held;
            there = rest.stands.there;
            first = rw other rest.stands.first;
            rest = rw (ne_eqb job h.job differs) (ap (λ xs. h ∷ xs) rest.stands.rest);
          };
        }

pub stands-at : (job : ℕ) (hs : List HeldElement) (at : ℕ) → position_from (λ h. h.job == job) 0 hs ≡ Some at
    → Stands job hs at
stands-at job hs at found =
    let all : Found job hs 0 at = found-from job hs 0 at found in
    let is : at ≡ all.steps = omega (arith, all.is) in
    rw is all.stands

-- who isn't found holds nothing
pub none-held : (job : ℕ) (hs : List HeldElement) (i : ℕ) → position_from (λ h. h.job == job) i hs ≡ None
    → length (elements_held job hs) ≡ 0
none-held job [] i none = refl
none-held job (h ∷ hs) i none = go (h.job == job) refl (none-held job hs (i + 1))
  where
    go : (b : Bool) → h.job == job ≡ b
        → (position_from (λ h. h.job == job) (i + 1) hs ≡ None → length (elements_held job hs) ≡ 0)
        → length (elements_held job (h ∷ hs)) ≡ 0
    go true same later = let some : Some i ≡ None = rw same at none in absurd (cc)
    go false other later = let on = later (rw other at none) in rw other on
