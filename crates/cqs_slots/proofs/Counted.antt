-- How many cells of a segment are settled.
use Rattle.std.proofs.Common.{◌≡◌, ◌≢◌, ◌⊎◌, ℕ, zero, suc, ◌+◌, ◌*◌, ◌<◌, ◌≤◌, Bool, true, false, refl, ap, ◌∙◌, sym, ⊎_elim, inl, inr, arith}
use Rattle.std.proofs.lemmas.Bool.{cases_lt}
use mathlib.Core.Logic.{dite}
use native.Mathlib.Decide.{ℕ_discrete}
use Rattle.cqs_slots.specs.Slots.{changed, one_if, settled_from, settled_in}
use Rattle.cqs_slots.proofs.Lists.{changed_at, changed_else}

few-one : (b : Bool) → one_if b ≤ 1
few-one true = omega arith
few-one false = omega arith

full-one : (b : Bool) → 1 ≤ one_if b → b ≡ true
full-one true h = refl
full-one false h = absurd (omega arith)

few-from : (settled : ℕ → Bool) (k n : ℕ) → settled_from settled k n ≤ n
few-from settled k zero = omega arith
few-from settled k (suc n) = let a = few-one (settled (k + n)) in let b = few-from settled k n in omega arith

all-from : (settled : ℕ → Bool) (k n j : ℕ) → n ≤ settled_from settled k n → j < n → settled (k + j) ≡ true
all-from settled k zero j full low = absurd (omega arith)
all-from settled k (suc n) j full low =
    let a = few-one (settled (k + n)) in
    let b = few-from settled k n in
    dite (ℕ_discrete j n)
    (λ (e : j ≡ n). ap (λ i. settled (k + i)) e ∙ full-one (settled (k + n)) (omega arith))
    (λ (e : j ≢ n). all-from settled k n j (omega arith) (omega arith))

-- one number more is settled: none of these, or one of these
none-from : (settled : ℕ → Bool) (k n m : ℕ) → (m < k) ⊎ (k + n ≤ m)
    → settled_from (changed settled m true) k n ≡ settled_from settled k n
none-from settled k zero m apart = refl
none-from settled k (suc n) m apart =
    let same : changed settled m true (k + n) ≡ settled (k + n) =
    changed_else settled m true (k + n) (λ e. ⊎_elim (λ l. omega arith) (λ h. omega arith) apart) in
    let a = ap one_if same in
    let b = none-from settled k n m (⊎_elim inl (λ h. inr (omega arith)) apart) in
    omega arith

one-from : (settled : ℕ → Bool) (k n j : ℕ) → j < n → settled (k + j) ≡ false
    → settled_from (changed settled (k + j) true) k n ≡ settled_from settled k n + 1
one-from settled k zero j low yet = absurd (omega arith)
one-from settled k (suc n) j low yet = dite (ℕ_discrete j n)
    (λ (e : j ≡ n).
    let now : one_if (changed settled (k + j) true (k + n)) ≡ 1 =
    ap one_if (changed_at settled (k + j) true (k + n) (omega arith)) in
    let was : one_if (settled (k + n)) ≡ 0 = ap one_if (ap (λ i. settled (k + i)) (sym e) ∙ yet) in
    let rest = none-from settled k n (k + j) (inr (omega arith)) in
    omega arith)
    (λ (e : j ≢ n).
    let same : one_if (changed settled (k + j) true (k + n)) ≡ one_if (settled (k + n)) =
    ap one_if (changed_else settled (k + j) true (k + n) (λ q. e (omega arith))) in
    let rest = one-from settled k n j (omega arith) yet in
    omega arith)

pub few-settled : (settled : ℕ → Bool) (s : ℕ) → settled_in settled s ≤ 32
few-settled settled s = few-from settled (32 * s) 32

pub all-settled : (settled : ℕ → Bool) (s j : ℕ) → 32 ≤ settled_in settled s → j < 32 → settled (32 * s + j) ≡ true
all-settled settled s j full few = all-from settled (32 * s) 32 j full few

pub settled-here : (settled : ℕ → Bool) (s j : ℕ) → j < 32 → settled (32 * s + j) ≡ false
    → settled_in (changed settled (32 * s + j) true) s ≡ settled_in settled s + 1
settled-here settled s j few yet = one-from settled (32 * s) 32 j few yet

pub settled-else : (settled : ℕ → Bool) (s j t : ℕ) → j < 32 → t ≢ s
    → settled_in (changed settled (32 * s + j) true) t ≡ settled_in settled t
settled-else settled s j t few apart = none-from settled (32 * t) 32 (32 * s + j)
    (⊎_elim (λ (l : 32 * s + j < 32 * t). inl l) (λ (h : 32 * t ≤ 32 * s + j). inr (omega arith))
    (cases_lt (32 * s + j) (32 * t)))

-- where none is, none of a segment is
none-all : (k n : ℕ) → settled_from (λ j. false) k n ≡ 0
none-all k zero = refl
none-all k (suc n) = let e = none-all k n in omega arith

pub none-in : (s : ℕ) → settled_in (λ j. false) s ≡ 0
none-in s = none-all (32 * s) 32
