-- What one deed does to the funds of a pool: its free elements, those held, and who may claim them.
use Rattle.std.proofs.Common.{◌≡◌, ◌≢◌, ◌⊎◌, inl, inr, ℕ, suc, ◌+◌, ◌<◌, ◌≤◌, ◌==◌, List, [], ◌∷◌, ◌++◌, length, slice_index, refl, ap, ◌∙◌, eq-eqb, arith}
use Rattle.std.proofs.lemmas.List.{length_push}
use Rattle.cqs_core.specs.Keyed.{without}
use Rattle.cqs_core.specs.Numbered.{IsIn}
use Rattle.cqs_core.specs.QueueLine.{Waiting}
use Rattle.cqs_core.proofs.Counts.{bit}
use Rattle.cqs_core.proofs.Rising.{length-without}
use Rattle.cqs_pool_object.specs.PoolObject.{Pool, times}
use Rattle.cqs_pool_object.specs.PoolEntries.{less}
use Rattle.cqs_pool_object.proofs.PoolCounts.{itself, times-cons, times-in, times-without}
use Rattle.cqs_plan.specs.FloorHistory.{takes, joins, frees, sends, gets, leaves, is_late}
use Rattle.cqs_turns_laws.proofs.Deeds.{pool_then}

-- Somebody waits only where no element is free; the elements are all there; and of each so many are held as the jobs
-- hold and as came to their waits.
pub record AreElementFunds (size : ℕ) (o : Pool) (holds claims : ℕ → ℕ) : Type 0 where
  pub eager : (length o.way ≡ 0) ⊎ (o.line ≡ [])
  pub total : length o.held + length o.way ≡ size
  pub backed : (e : ℕ) → holds e + claims e ≤ times e o.held

-- the list begins with this element
record Begins (e : ℕ) (xs : List ℕ) : Type 0 where
  rest : List ℕ
  is : xs ≡ e ∷ rest

first-of : (xs : List ℕ) → 0 < length xs → Begins (slice_index xs 0) xs
first-of [] some = absurd (omega arith)
first-of (x ∷ xs) some = record { rest = xs; is = refl }

none-of : (xs : List ℕ) → length xs ≡ 0 → xs ≡ []
none-of [] none = refl
none-of (x ∷ xs) none = absurd (omega (arith, none))

less-first : (e : ℕ) (xs : List ℕ) → less e (e ∷ xs) ≡ xs
less-first e xs = rw (eq-eqb e e refl) refl

line-joined-none : (n : ℕ) (line : List Waiting) → line ≡ []
    → without (λ w. w.wait) n (line ++ record { wait = n; pass = 0 } ∷ []) ≡ []
line-joined-none n line empty = rw (empty, eq-eqb n n refl) refl

module _ (size : ℕ) (o : Pool) (holds claims holds' claims' : ℕ → ℕ) (funds : AreElementFunds size o holds claims)
  where
    pub element-taken : 0 < length o.way
        → ((x : ℕ) → holds' x ≡ holds x + bit (slice_index o.way 0 == x)) → ((x : ℕ) → claims' x ≤ claims x)
        → AreElementFunds size (pool_then o (takes (slice_index o.way 0))) holds' claims'
    element-taken some more fewer =
        let e : ℕ = slice_index o.way 0 in
        let begins : Begins e o.way = first-of o.way some in
        let left : less e o.way ≡ begins.rest = ap (less e) begins.is ∙ less-first e begins.rest in
        let long : length o.way ≡ suc (length begins.rest) = ap length begins.is in
        record {
          eager = go funds.eager;
          total = omega (arith, funds.total, ap length left, long);
          backed = λ x. omega (arith, funds.backed x, more x, fewer x, times-cons x e o.held);
        }
      where
        go : (length o.way ≡ 0) ⊎ (o.line ≡ [])
            → (length (pool_then o (takes (slice_index o.way 0))).way ≡ 0)
            ⊎ ((pool_then o (takes (slice_index o.way 0))).line ≡ [])
        go (inl none) = absurd (omega (arith, none, some))
        go (inr empty) = inr (line-joined-none o.next o.line empty)

    pub element-joined : (k : ℕ) → length o.way ≡ 0 → ((x : ℕ) → holds' x ≡ holds x)
        → ((x : ℕ) → claims' x ≤ claims x)
        → AreElementFunds size (pool_then o (joins k)) holds' claims'
    element-joined k none same fewer = record {
      eager = inl none;
      total = funds.total;
      backed = λ x. omega (arith, funds.backed x, same x, fewer x);
    }

    module _ (e : ℕ) (gone : (x : ℕ) → holds' x + bit (e == x) ≡ holds x) where
      is-held : IsIn e o.held
      is-held =
          let one : bit (e == e) ≡ 1 = ap bit (eq-eqb e e refl) in
          times-in e o.held (omega (arith, one, gone e, funds.backed e))

      shorter : length (less e o.held) + 1 ≡ length o.held
      shorter = length-without itself e e o.held refl is-held

      pub element-freed : o.line ≡ [] → ((x : ℕ) → claims' x ≤ claims x)
          → AreElementFunds size (pool_then o (frees e)) holds' claims'
      element-freed empty fewer = record {
        eager = inr empty;
        total = omega (arith, funds.total, shorter, length_push o.way e);
        backed = λ x. omega (arith, funds.backed x, gone x, fewer x, times-without x e o.held is-held);
      }

      pub element-sent : (k : ℕ) → o.line ≢ [] → ((x : ℕ) → claims' x ≤ claims x + bit (e == x))
          → AreElementFunds size (pool_then o (sends e k)) holds' claims'
      element-sent k some more =
          let none : length o.way ≡ 0 = go funds.eager in
          let left : less e (o.way ++ e ∷ []) ≡ []
          = ap (λ way. less e (way ++ e ∷ [])) (none-of o.way none) ∙ less-first e [] in
          let short : length (less e (o.way ++ e ∷ [])) ≡ 0 = ap length left in
          record {
            eager = inl short;
            total = omega (arith, funds.total, shorter, short, none);
            backed = λ x.
                omega (
                  arith,
                  funds.backed x,
                  gone x,
                  more x,
                  times-cons x e (less e o.held),
                  times-without x e o.held is-held,
                );
          }
        where
          go : (length o.way ≡ 0) ⊎ (o.line ≡ []) → length o.way ≡ 0
          go (inl none) = none
          go (inr empty) = absurd (some empty)

    -- what came for a wait is the job's
    module _ (more : (x : ℕ) → holds' x + claims' x ≤ holds x + claims x) where
      pub element-got : (k e : ℕ) → AreElementFunds size (pool_then o (gets k e)) holds' claims'
      element-got k e = record {
        eager = funds.eager;
        total = funds.total;
        backed = λ x. omega (arith, funds.backed x, more x);
      }

      pub element-late : (k e : ℕ) → AreElementFunds size (pool_then o (is_late k e)) holds' claims'
      element-late k e = record {
        eager = funds.eager;
        total = funds.total;
        backed = λ x. omega (arith, funds.backed x, more x);
      }

      pub element-same : AreElementFunds size o holds' claims'
      element-same = record {
        eager = funds.eager;
        total = funds.total;
        backed = λ x. omega (arith, funds.backed x, more x);
      }

      pub element-left : (k : ℕ) → AreElementFunds size (pool_then o (leaves k)) holds' claims'
      element-left k = record {
        eager = go funds.eager;
        total = funds.total;
        backed = λ x. omega (arith, funds.backed x, more x);
      }
        where
          go : (length o.way ≡ 0) ⊎ (o.line ≡ [])
              → (length o.way ≡ 0) ⊎ (without (λ w. w.wait) k o.line ≡ [])
          go (inl none) = inl none
          go (inr empty) = inr (rw empty refl)
