-- Each element is always as often on its way or held as it was at first: once.
use Rattle.std.proofs.Common.{◌≡◌, ◌≢◌, ◌⊎◌, inl, inr, ℕ, zero, suc, ◌+◌, ◌<◌, ◌≤◌, ◌==◌, List, ◌∷◌, length, refl, ap, arith, eq-eqb, ne_eqb}
use Rattle.std.proofs.lemmas.Bool.{cases_eq}
use Rattle.std.proofs.lemmas.List.{length_push}
use Rattle.cqs_core.proofs.Counts.{bit}
use Rattle.cqs_core.proofs.Histories.{walk-end}
use Rattle.cqs_core.proofs.Rising.{length-without}
use Rattle.cqs_pool_object.specs.declared.entries.PoolEntry.{PoolEntry}
use Rattle.cqs_pool_object.specs.declared.entries.PoolEntry.TheVariants as entry
use Rattle.cqs_pool_object.specs.PoolObject.{Pool, numbers_from, opening, times}
use Rattle.cqs_pool_object.specs.PoolEntries.{IsAllowed, after_entry, object_after, IsLegal}
use Rattle.cqs_pool_object.specs.PoolLaws.{IsConserved}
use Rattle.cqs_pool_object.proofs.PoolCounts.{itself, times-cons, times-push, times-without}

pub long-numbers : (n k : ℕ) → length (numbers_from k n) ≡ n
long-numbers zero k = refl
long-numbers (suc n) k = let rest = long-numbers n (suc k) in omega arith

-- a number that isn't among them is in no place, and one that is, in one
numbers-below : (e n k : ℕ) → e < k → times e (numbers_from k n) ≡ 0
numbers-below e zero k low = refl
numbers-below e (suc n) k low =
    let rest = numbers-below e n (suc k) (omega arith) in
    let first = times-cons e k (numbers_from (suc k) n) in
    let other : bit (k == e) ≡ 0 = ap bit (ne_eqb k e (λ is. omega (arith, is))) in
    omega arith

numbers-above : (e n k : ℕ) → k + n ≤ e → times e (numbers_from k n) ≡ 0
numbers-above e zero k high = refl
numbers-above e (suc n) k high =
    let rest = numbers-above e n (suc k) (omega arith) in
    let first = times-cons e k (numbers_from (suc k) n) in
    let other : bit (k == e) ≡ 0 = ap bit (ne_eqb k e (λ is. omega (arith, is))) in
    omega arith

numbers-once : (e n k : ℕ) → k ≤ e → e < k + n → times e (numbers_from k n) ≡ 1
numbers-once e zero k low high = absurd (omega arith)
numbers-once e (suc n) k low high = go (cases_eq k e) (λ later. numbers-once e n (suc k) later (omega arith))
  where
    first : times e (k ∷ numbers_from (suc k) n) ≡ bit (k == e) + times e (numbers_from (suc k) n)
    first = times-cons e k (numbers_from (suc k) n)

    go : (k ≡ e) ⊎ (k ≢ e) → (suc k ≤ e → times e (numbers_from (suc k) n) ≡ 1)
        → times e (numbers_from k (suc n)) ≡ 1
    go (inl same) later =
        let one : bit (k == e) ≡ 1 = ap bit (eq-eqb k e same) in
        let rest = numbers-below e n (suc k) (omega (arith, same)) in
        omega (arith, first)
    go (inr other) later =
        let none : bit (k == e) ≡ 0 = ap bit (ne_eqb k e other) in
        let rest = later (omega (arith, other)) in
        omega (arith, first)

module _ (size : ℕ) where
  -- as often as at first
  record IsKept (o : Pool) : Type 0 where
    each : (e : ℕ) → times e o.way + times e o.held ≡ times e (numbers_from 0 size)
    all : length o.way + length o.held ≡ size

  kept-entry : (o : Pool) (e : PoolEntry) → IsAllowed o e → IsKept o → IsKept (after_entry o e)
  kept-entry o (entry.Put c e) has is =
      let fewer = length-without itself e e o.held refl has in
      record {
        each = λ f. omega (arith, is.each f, times-push f e o.way, times-without f e o.held has);
        all = omega (arith, is.all, length_push o.way e);
      }
  kept-entry o (entry.Enter c k) next is = record { each = is.each; all = is.all }
  kept-entry o (entry.Deliver k e) (waits, has) is =
      let fewer = length-without itself e e o.way refl has in
      record {
        each = λ f. omega (arith, is.each f, times-cons f e o.held, times-without f e o.way has);
        all = omega (arith, is.all);
      }
  kept-entry o (entry.Leave c k) waits is = record { each = is.each; all = is.all }
  kept-entry o (entry.Late c k e) given is = record { each = is.each; all = is.all }
  kept-entry o (entry.LookGranted c k e) given is = record { each = is.each; all = is.all }
  kept-entry o (entry.LookPending c k) waits is = is

  kept-after : (history : List PoolEntry) → IsLegal size history → IsKept (object_after size history)
  kept-after history legal =
      walk-end IsAllowed after_entry (opening size) history IsKept legal kept-entry
      (record { each = λ e. omega arith; all = omega (arith, long-numbers size 0) })

  pub conserved-after : (history : List PoolEntry) → IsLegal size history
      → IsConserved size (object_after size history)
  conserved-after history legal =
      let is = kept-after history legal in
      record {
        each = λ e low. omega (arith, is.each e, numbers-once e size 0 (omega arith) (omega arith));
        others = λ e high. omega (arith, is.each e, numbers-above e size 0 (omega arith));
        all = is.all;
      }
