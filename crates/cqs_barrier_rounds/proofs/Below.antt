-- A fact of each element below a number, and of all.
use Rattle.std.proofs.Common.{◌≡◌, ◌≢◌, ℕ, ◌+◌, ◌<◌, ◌≤◌, List, [], ◌∷◌, ◌++◌, Some, length, set, slice_get, sym, ap, ◌∙◌, arith}
use Rattle.std.proofs.lemmas.List.{length_push}
use Rattle.std.proofs.lemmas.Option.{same_Some}
use mathlib.Core.Logic.{dite}
use native.Mathlib.Decide.{ℕ_discrete}
use Rattle.cqs_core.proofs.Places.{get-append_below, get-below, get-push_at, get-set_else}
use Rattle.cqs_barrier_rounds.specs.Passes.{EachIs}

module _ {P : Type 0} where
  abbrev pub BelowIs : (P → Type 0) → ℕ → List P → Type 0
  BelowIs fact n ps = (r : ℕ) (p : P) → r < n → slice_get ps r ≡ Some p → fact p

  pub below-none : (fact : P → Type 0) (ps : List P) → BelowIs fact 0 ps
  below-none fact ps r p low got = absurd (omega arith)

  -- one element more
  pub below-more : (fact : P → Type 0) (n : ℕ) (ps : List P) (p : P) → BelowIs fact n ps → slice_get ps n ≡ Some p
      → fact p → BelowIs fact (n + 1) ps
  below-more fact n ps p below there here r x low got = dite (ℕ_discrete r n)
      (λ (e : r ≡ n).
      let one : x ≡ p = same_Some x p (sym got ∙ (ap (slice_get ps) e ∙ there)) in
      rw one here)
      (λ (other : r ≢ n). below r x (omega arith) got)

  -- the next element was changed
  pub below-set : (fact : P → Type 0) (n : ℕ) (ps : List P) (q : P) → BelowIs fact n ps → BelowIs fact n (set ps n q)
  below-set fact n ps q below r x low got =
      let other : n ≢ r = omega arith in
      below r x low (sym (get-set_else ps n r q other) ∙ got)

  pub below-unset : (fact : P → Type 0) (n : ℕ) (ps : List P) (q : P) → BelowIs fact (n + 1) (set ps n q)
      → BelowIs fact n ps
  below-unset fact n ps q below r x low got =
      let other : n ≢ r = omega arith in
      below r x (omega arith) (get-set_else ps n r q other ∙ got)

  -- of all
  pub below-all : (fact : P → Type 0) (n : ℕ) (ps : List P) → BelowIs fact n ps → length ps ≤ n → EachIs fact ps
  below-all fact n ps below all r x got =
      let low = get-below ps r x got in
      below r x (omega arith) got

  pub below-each : (fact : P → Type 0) (n : ℕ) (ps : List P) → EachIs fact ps → BelowIs fact n ps
  below-each fact n ps each r x low got = each r x got

  -- of each of none, and of one more
  pub each-none : (fact : P → Type 0) (ps : List P) → ps ≡ [] → EachIs fact ps
  each-none fact ps none r x got = let low = get-below ps r x got in absurd (omega (arith, ap length none))

  pub each-push : (fact : P → Type 0) (ps : List P) (p : P) → EachIs fact ps → fact p → EachIs fact (ps ++ p ∷ [])
  each-push fact ps p each here r x got = dite (ℕ_discrete r (length ps))
      (λ (e : r ≡ length ps).
      let one : x ≡ p = same_Some x p (sym got ∙ get-push_at ps p r e) in
      rw one here)
      (λ (other : r ≢ length ps).
      let high = get-below (ps ++ p ∷ []) r x got in
      let low : r < length ps = omega (arith, length_push ps p) in
      each r x (sym (get-append_below ps (p ∷ []) r low) ∙ got))
