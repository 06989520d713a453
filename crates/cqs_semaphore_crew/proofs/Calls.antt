-- One call more is counted, and what was counted stays.
use Rattle.std.proofs.Common.{◌≡◌, ℕ, ◌+◌, ◌*◌, ◌^◌, ◌<◌, ◌≤◌, Option, Some, None, ap, ◌∙◌, arith}
use Rattle.std.proofs.lemmas.Nat.{mul-le}
use Rattle.std.proofs.Math.Nat.{add-mul}
use Rattle.cqs_semaphore_crew.specs.declared.counts.Acquires.{Acquires}
use Rattle.cqs_semaphore_crew.specs.declared.counts.Counts.{Counts}
use Rattle.cqs_semaphore_crew.specs.declared.counts.Tries.{Tries}
use Rattle.cqs_semaphore_crew.specs.Sums.{acquires_of, both_counts, tries_of, CountsCalls, CountsRounds, KeepsCalls}
use Rattle.cqs_semaphore_crew.specs.Tallies.{count_of, CountsNow}

-- one that is one of so many, which go into a count
counted-one : (all x y : ℕ) → y ≡ count_of (x + 1) → x < all + 1 → all + 1 < 2 ^ 64 → y ≡ x + 1
counted-one all x y more one_of fits = omega arith

-- an acquire
calls-acquire : (c : Counts) (a : Acquires)
    → (acquires_of c.acquires + 1 < 2 ^ 64 → acquires_of a ≡ acquires_of c.acquires + 1)
    → CountsCalls 1 0 c (record c { acquires = a })
calls-acquire c a more = record { acquires_are = more; tries_are = λ fits. omega arith }

pub calls-waited : (c : Counts) (x : ℕ) → x ≡ count_of (c.acquires.waited + 1)
    → CountsCalls 1 0 c (record c { acquires = record c.acquires { waited = x } })
calls-waited c x more = calls-acquire c (record c.acquires { waited = x })
    (λ fits.
    let one = counted-one (acquires_of c.acquires) c.acquires.waited x more (omega arith) fits in omega (arith, one))

pub calls-worn : (c : Counts) (x : ℕ) → x ≡ count_of (c.acquires.worn + 1)
    → CountsCalls 1 0 c (record c { acquires = record c.acquires { worn = x } })
calls-worn c x more = calls-acquire c (record c.acquires { worn = x })
    (λ fits.
    let one = counted-one (acquires_of c.acquires) c.acquires.worn x more (omega arith) fits in omega (arith, one))

pub calls-crowded : (c : Counts) (x : ℕ) → x ≡ count_of (c.acquires.crowded + 1)
    → CountsCalls 1 0 c (record c { acquires = record c.acquires { crowded = x } })
calls-crowded c x more = calls-acquire c (record c.acquires { crowded = x })
    (λ fits.
    let one = counted-one (acquires_of c.acquires) c.acquires.crowded x more (omega arith) fits in omega (arith, one))

-- one whose permit came at once
pub calls-now : (number : Option ℕ) (c : Counts) (a : Acquires) → CountsNow number c.acquires a
    → CountsCalls 1 0 c (record c { acquires = a })
calls-now None c a is = calls-acquire c a
    (λ fits.
    let one = counted-one (acquires_of c.acquires) c.acquires.free a.free (ap (λ (x : Acquires). x.free) is)
    (omega arith) fits in
    let took = ap (λ (x : Acquires). x.took) is in
    let waited = ap (λ (x : Acquires). x.waited) is in
    let worn = ap (λ (x : Acquires). x.worn) is in
    let crowded = ap (λ (x : Acquires). x.crowded) is in
    omega (arith, one, took, waited, worn, crowded))
calls-now (Some k) c a is = calls-acquire c a
    (λ fits.
    let one = counted-one (acquires_of c.acquires) c.acquires.took a.took (ap (λ (x : Acquires). x.took) is)
    (omega arith) fits in
    let free = ap (λ (x : Acquires). x.free) is in
    let waited = ap (λ (x : Acquires). x.waited) is in
    let worn = ap (λ (x : Acquires). x.worn) is in
    let crowded = ap (λ (x : Acquires). x.crowded) is in
    omega (arith, one, free, waited, worn, crowded))

-- a try
calls-try : (c : Counts) (t : Tries) → (tries_of c.tries + 1 < 2 ^ 64 → tries_of t ≡ tries_of c.tries + 1)
    → CountsCalls 0 1 c (record c { tries = t })
calls-try c t more = record { acquires_are = λ fits. omega arith; tries_are = more }

pub calls-got : (c : Counts) (x : ℕ) → x ≡ count_of (c.tries.got + 1)
    → CountsCalls 0 1 c (record c { tries = record c.tries { got = x } })
calls-got c x more = calls-try c (record c.tries { got = x })
    (λ fits. let one = counted-one (tries_of c.tries) c.tries.got x more (omega arith) fits in omega (arith, one))

pub calls-busy : (c : Counts) (x : ℕ) → x ≡ count_of (c.tries.busy + 1)
    → CountsCalls 0 1 c (record c { tries = record c.tries { busy = x } })
calls-busy c x more = calls-try c (record c.tries { busy = x })
    (λ fits. let one = counted-one (tries_of c.tries) c.tries.busy x more (omega arith) fits in omega (arith, one))

pub calls-contended : (c : Counts) (x : ℕ) → x ≡ count_of (c.tries.contended + 1)
    → CountsCalls 0 1 c (record c { tries = record c.tries { contended = x } })
calls-contended c x more = calls-try c (record c.tries { contended = x })
    (λ fits.
    let one = counted-one (tries_of c.tries) c.tries.contended x more (omega arith) fits in omega (arith, one))

-- and then none
pub calls-kept : (a t : ℕ) (b c d : Counts) → CountsCalls a t b c → KeepsCalls c d → CountsCalls a t b d
calls-kept a t b c d m k = record {
  acquires_are = λ fits. ap (λ x. acquires_of x) k.acquires ∙ m.acquires_are fits;
  tries_are = λ fits. ap (λ x. tries_of x) k.tries ∙ m.tries_are fits;
}

-- and then more
pub calls-then : (a t x y : ℕ) (b c d : Counts) → CountsCalls a t b c → CountsCalls x y c d
    → CountsCalls (a + x) (t + y) b d
calls-then a t x y b c d m n = record {
  acquires_are = λ fits.
      let first = m.acquires_are (omega (arith, fits)) in
      let then = n.acquires_are (omega (arith, fits, first)) in
      omega (arith, first, then);
  tries_are = λ fits.
      let first = m.tries_are (omega (arith, fits)) in
      let then = n.tries_are (omega (arith, fits, first)) in
      omega (arith, first, then);
}

-- none, and then none
pub keeps-then : (b c d : Counts) → KeepsCalls b c → KeepsCalls c d → KeepsCalls b d
keeps-then b c d k l = record { acquires = l.acquires ∙ k.acquires; tries = l.tries ∙ k.tries }

-- the rounds of so many workers, and those of one more
pub rounds-with : (n r : ℕ) (a b : Counts) → CountsRounds (n * r) a → CountsRounds r b → n + 1 ≤ 4294967295
    → r ≤ 4294967295 → CountsRounds ((n + 1) * r) (both_counts a b)
rounds-with n r a b some more few low =
    let next = add-mul n 1 r in
    let fits = mul-le (n + 1) r 4294967295 4294967295 few low in
    record {
      acquires = let first = some.acquires in let then = more.acquires in omega (arith, next, fits, first, then);
      tries = let first = some.tries in let then = more.tries in omega (arith, next, fits, first, then);
    }
