-- Sums along one level of a tree of pairs.
use Rattle.std.proofs.Common.{◌≡◌, ◌⊎◌, inl, inr, ℕ, zero, suc, ◌+◌, ◌^◌, ◌<◌, ◌≤◌, List, [], ◌∷◌, take, slice_get, slice_index, refl, ap, ◌∙◌, arith}
use Rattle.std.proofs.lemmas.Bool.{cases_lt}
use Rattle.cqs_check.specs.Trees.{total, IsPair}
use Rattle.cqs_check.specs.declared.waits.WaitState.{WaitState}
use Rattle.cqs_check.specs.declared.waits.WaitState.TheVariants as wait
use Rattle.cqs_check.specs.Lines.{standing, flag}

pub total-step : (t : List ℕ) (from m k : ℕ) → m ≡ k + 1 → total t from m ≡ total t from k + slice_index t (from + k)
total-step t from m k e = let is : m ≡ suc k = omega (arith, e) in rw is refl

at-same : (t : List ℕ) (i j : ℕ) → i ≡ j → slice_index t i ≡ slice_index t j
at-same t i j e = ap (slice_index t) e

-- the sum over a level is the sum over the level below it
pub total-pairs : (t : List ℕ) (from n twice double : ℕ) → twice ≡ from + from → double ≡ n + n
    → ((i : ℕ) → from ≤ i → i < from + n → IsPair t i) → total t twice double ≡ total t from n
total-pairs t from zero twice double two many pairs = let none : double ≡ zero = omega (arith, many) in rw none refl
total-pairs t from (suc n) twice double two many pairs =
    let one_less : double ≡ (n + n + 1) + 1 = omega (arith, many) in
    let last = total-step t twice double (n + n + 1) one_less in
    let first = total-step t twice (n + n + 1) (n + n) refl in
    let rest = total-pairs t from n twice (n + n) two refl (λ i low high. pairs i low (omega (arith, high))) in
    let pair = pairs (from + n) (omega arith) (omega arith) in
    let left = at-same t (twice + (n + n)) (from + n + (from + n)) (omega (arith, two)) in
    let right = at-same t (twice + (n + n + 1)) (from + n + (from + n) + 1) (omega (arith, two)) in
    omega (arith, last, first, rest, pair, left, right)

pub total-more : (t : List ℕ) (from n m : ℕ) → n ≤ m → total t from n ≤ total t from m
total-more t from n zero low = let none : n ≡ zero = omega (arith, low) in rw none (omega arith)
total-more t from n (suc m) low = go (cases_lt n (suc m)) (λ less. total-more t from n m less)
  where
    go : (n < suc m) ⊎ (suc m ≤ n) → (n ≤ m → total t from n ≤ total t from m) → total t from n ≤ total t from (suc m)
    go (inl less) onward = omega (arith, onward (omega (arith, less)))
    go (inr past) onward = let same : n ≡ suc m = omega (arith, past, low) in rw same (omega arith)

pow-some : (h : ℕ) → 0 < 2 ^ h
pow-some zero = omega arith
pow-some (suc h) = omega (arith, pow-some h)

-- the sum over a whole level is the root
pub total-root : (t : List ℕ) (h base : ℕ) → base ≡ 2 ^ h → ((i : ℕ) → 0 < i → i < base → IsPair t i)
    → total t base base ≡ slice_index t 1
total-root t zero base is pairs = let one : base ≡ 1 = is in rw one (omega arith)
total-root t (suc h) base is pairs =
    let twice : base ≡ 2 ^ h + 2 ^ h = omega (arith, is) in
    let some : 0 < 2 ^ h = pow-some h in
    total-pairs t (2 ^ h) (2 ^ h) base base twice twice
    (λ i low high. pairs i (omega (arith, low, some)) (omega (arith, high, twice)))
    ∙ total-root t h (2 ^ h) refl (λ i low high. pairs i low (omega (arith, high, twice)))

count-standing : (i d : ℕ) (waits : List WaitState)
    → standing (take (suc i) (wait.Waiting d ∷ waits)) ≡ suc (standing (take i waits))
count-standing i d waits = refl

flag-behind : (n : ℕ) (x : WaitState) (ws : List WaitState) → flag (slice_get (x ∷ ws) (suc n)) ≡ flag (slice_get ws n)
flag-behind n x ws = refl

-- the sum of the leaves is the number of waits that stand
pub count-take : (n : ℕ) (ws : List WaitState)
    → standing (take (suc n) ws) ≡ standing (take n ws) + flag (slice_get ws n)
count-take zero [] = refl
count-take (suc n) [] = refl
count-take zero (wait.Waiting c ∷ ws) = refl
count-take zero (wait.Served c ∷ ws) = refl
count-take zero (wait.Closed c ∷ ws) = refl
count-take zero (wait.Gone ∷ ws) = refl
count-take (suc n) (wait.Waiting c ∷ ws) =
    omega (
      arith,
      count-take n ws,
      count-standing (suc n) c ws,
      count-standing n c ws,
      flag-behind n
          (wait.Waiting c) ws,
    )
count-take (suc n) (wait.Served c ∷ ws) = count-take n ws
count-take (suc n) (wait.Closed c ∷ ws) = count-take n ws
count-take (suc n) (wait.Gone ∷ ws) = count-take n ws

pub total-flags : (t : List ℕ) (from : ℕ) (ws : List WaitState) (n : ℕ)
    → ((k : ℕ) → k < n → slice_index t (from + k) ≡ flag (slice_get ws k))
    → total t from n ≡ standing (take n ws)
total-flags t from ws zero flags = refl
total-flags t from ws (suc n) flags =
    let rest = total-flags t from ws n (λ k low. flags k (omega (arith, low))) in
    let here = flags n (omega arith) in
    omega (arith, rest, here, count-take n ws)
