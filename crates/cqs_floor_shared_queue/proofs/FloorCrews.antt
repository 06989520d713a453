-- The numbers of floors that were split from one: how many can have met, and that all have.
use Rattle.std.proofs.Common.{◌≡◌, ◌≢◌, ◌⊎◌, inl, inr, ℕ, zero, suc, ◌<◌, ◌≤◌, true, List, [], ◌∷◌, Some, length, slice_get, get_or, refl, sym, subst, arith}
use Rattle.std.proofs.lemmas.Bool.{cases_eq, cases_lt}
use Rattle.std.proofs.Math.Nat.{mul-le-mul_left}
use Rattle.cqs_core.specs.Parts.{Has}
use Rattle.cqs_plan.specs.declared.plans.kind.Kind.{Kind}
use Rattle.cqs_rule_laws.specs.Lists.{IsDistinct}
use Rattle.cqs_rule_laws.proofs.Lists.{few_below}
use Rattle.cqs_floor_shared.specs.Entries.{is_nothing, own_history}
use Rattle.cqs_floor_shared_queue.specs.FloorKept.{IsFundedAt, IsKept, funds_in, holdings_to_come}
use Rattle.cqs_floor_shared_queue.specs.Ledgers.{Ledger}
use Rattle.cqs_floor_shared_kinds.specs.Shares.{IsLawful, IsWhole, Share, own}

-- a number is in a list, or it isn't
has-or : (n : ℕ) (xs : List ℕ) → Has n xs ⊎ (Has n xs → ⊥)
has-or n [] = inr (λ has. has)
has-or n (x ∷ xs) = go (cases_eq n x) (has-or n xs)
  where
    go : (n ≡ x) ⊎ (n ≢ x) → Has n xs ⊎ (Has n xs → ⊥) → Has n (x ∷ xs) ⊎ (Has n (x ∷ xs) → ⊥)
    go (inl same) rest = inl (inl same)
    go (inr other) (inl later) = inl (inr later)
    go (inr other) (inr none) = inr (λ has. out has)
      where
        out : Has n (x ∷ xs) → ⊥
        out (inl same) = other same
        out (inr later) = none later

-- where as many are there as can be, each is
pub all-there : (m : ℕ) (xs : List ℕ) → IsDistinct xs → ((n : ℕ) → Has n xs → n < m) → length xs ≡ m
    → (n : ℕ) → n < m → Has n xs
all-there m xs distinct below many n low = go (has-or n xs)
  where
    go : Has n xs ⊎ (Has n xs → ⊥) → Has n xs
    go (inl has) = has
    go (inr none) =
        let most = few_below m (n ∷ xs) (none, distinct) (λ k has. all k has) in
        absurd (omega (arith, most, many))
      where
        all : (k : ℕ) → Has k (n ∷ xs) → k < m
        all k (inl same) = omega (arith, same, low)
        all k (inr later) = below k later

pub index-past : {A : Type 0} (xs : List A) (i : ℕ) (d : A) → length xs ≤ i → get_or xs i d ≡ d
index-past [] i d past = refl
index-past (x ∷ xs) zero d past = absurd (omega arith)
index-past (x ∷ xs) (suc i) d past = index-past xs i d (omega arith)

module _ {X : Type 0} (s : Share X) (l : Ledger X) (kept : IsKept s l) where
  -- no more floors met in one than were split
  pub few-met : suc (length l.met) ≤ l.floors
  few-met = let most = few_below l.floors (l.number ∷ l.met) kept.distinct kept.below in omega (arith, most)

  -- and so what can still be held has room
  pub space-within : holdings_to_come l ≤ l.space
  space-within =
      let most = mul-le-mul_left l.budget few-met in omega (arith, kept.within, most, kept.space)

  -- where all have met, the pass of a resource knows all that is named
  pub whole-at : IsLawful s → suc (length l.met) ≡ l.floors → (at : ℕ) (x : X) → slice_get l.shares at ≡ Some x
      → (k : Kind) → slice_get l.kinds at ≡ Some k → IsWhole s x
  whole-at lawful all at x there k is n = go (cases_lt n l.floors)
    where
      funded : IsFundedAt s l at x
      funded = kept.funded.at at x there

      go : (n < l.floors) ⊎ (l.floors ≤ n)
          → (is_nothing (own_history n (s.seen x)) ≡ true) ⊎ Has n (own s x)
      go (inl low) =
          let has = all-there l.floors (l.number ∷ l.met) kept.distinct kept.below all n low in
          inr (subst (λ m. Has n (s.number x ∷ m)) (sym funded.met)
          (subst (λ m. Has n (m ∷ l.met)) (sym funded.number) has))
      go (inr many) =
          inl (lawful.unnamed x (funds_in l at k) (funded.funded k is) n (subst (λ m. m ≤ n) (sym funded.passes) many))
