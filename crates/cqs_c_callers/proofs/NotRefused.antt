-- What a split and a meet that weren't refused show of their causes.
use Rattle.std.proofs.Common.{◌≡◌, ℕ, ◌<◌, ◌≤◌, ◌==◌, true, false, inl, inr, sym, arith}
use Rattle.std.proofs.lemmas.Bool.{cases_lt, eqb-true}

-- what is refused exactly for a cause, and wasn't refused, has none
pub no-cause : (P : Type 0) → (P → false ≡ true) → P → ⊥
no-cause P refuses p = let refused = refuses p in absurd (cc)

pub room-there : (passes made : ℕ) → (passes ≤ made → false ≡ true) → made < passes
room-there passes made refuses = elim (cases_lt made passes) [
  | inl low ↦ low
  | inr high ↦ let refused = refuses high in absurd (cc)
]

-- where there are none, there isn't one
pub none-there : (n : ℕ) → true ≡ (n == 0) → 0 < n → ⊥
none-there n e some = let none : n ≡ 0 = eqb-true n 0 (sym e) in absurd (omega (arith, none, some))
