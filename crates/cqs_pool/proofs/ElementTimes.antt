-- How often an element is in a list, by whether it is there, and after one of it went.
use Rattle.std.proofs.Common.{◌≡◌, ◌≢◌, ◌⊎◌, inl, inr, ℕ, zero, suc, ◌<◌, ◌≤◌, ◌==◌, Bool, true, false, List, [], ◌∷◌, refl, ap, sym, ◌∙◌, ne_eqb, eqb-true, arith}
use Rattle.std.specs.Bool.{if◌then◌else◌}
use Rattle.std.proofs.lemmas.Bool.{cases_eq}
use Rattle.cqs_core.proofs.Counts.{bit}
use Rattle.cqs_pool_object.specs.PoolObject.{times}
use Rattle.cqs_pool_object.proofs.PoolCounts.{times-cons}
use Rattle.cqs_rule_laws.specs.Lists.{Has, without}

-- a number that is in a list, and one that isn't
pub times-has : (e : ℕ) (xs : List ℕ) → 0 < times e xs → Has e xs
times-has e [] some = absurd (omega (arith, some))
times-has e (x ∷ xs) some = go (cases_eq e x) (times-has e xs)
  where
    go : (e ≡ x) ⊎ (e ≢ x) → (0 < times e xs → Has e xs) → Has e (x ∷ xs)
    go (inl same) later = inl same
    go (inr other) later =
        let none : bit (x == e) ≡ 0 = ap bit (ne_eqb x e (λ same. other (sym same))) in
        inr (later (omega (arith, some, none, times-cons e x xs)))

pub times-none : (e : ℕ) (xs : List ℕ) → (Has e xs → ⊥) → times e xs ≡ 0
times-none e xs never = go (times e xs) refl
  where
    go : (n : ℕ) → times e xs ≡ n → times e xs ≡ 0
    go zero is = is
    go (suc n) is = absurd (never (times-has e xs (omega (arith, is))))

-- the list without an element has no more of it, and as many of the others
pub times-gone : (e x : ℕ) (xs : List ℕ) → times x (without e xs) ≤ times x xs
times-gone e x [] = omega arith
times-gone e x (y ∷ ys) = go (y == e) (times-gone e x ys)
  where
    go : (b : Bool) → times x (without e ys) ≤ times x ys
        → times x (if b then without e ys else y ∷ without e ys) ≤ times x (y ∷ ys)
    go true rest = omega (arith, rest, times-cons x y ys)
    go false rest = omega (arith, rest, times-cons x y ys, times-cons x y (without e ys))

pub times-other : (e x : ℕ) (xs : List ℕ) → e ≢ x → times x (without e xs) ≡ times x xs
times-other e x [] other = refl
times-other e x (y ∷ ys) other = go (y == e) refl (times-other e x ys other)
  where
    go : (b : Bool) → y == e ≡ b → times x (without e ys) ≡ times x ys
        → times x (without e (y ∷ ys)) ≡ times x (y ∷ ys)
    go true same rest =
        let none : bit (y == x) ≡ 0 = ap bit (ne_eqb y x (λ is. other (sym (eqb-true y e same) ∙ is))) in
        rw same (omega (arith, rest, none, times-cons x y ys))
    go false differs rest = rw differs (omega (arith, rest, times-cons x y ys, times-cons x y (without e ys)))
