-- The passes of the rounds ask one after the other whether they are alone.
use Rattle.std.proofs.Common.{◌≡◌, ◌⊎◌, inl, inr, ℕ, ◌+◌, Bool, true, false, List, Some, set, slice_get, sym, ◌∙◌, arith}
use Rattle.cqs_core.proofs.Places.{get-set_here}
use Rattle.cqs_barrier_rounds.proofs.Below.{BelowIs, below-more, below-set, below-unset}

module _ {P : Type 0} where
  -- one more has asked, and is alone or not
  pub sole-more : (alone : P → Bool) (before after result : Bool) (n : ℕ) (ps : List P) (p q : P)
      → ((result ≡ false) × (after ≡ false)) ⊎ ((result ≡ true) × (after ≡ before)) → result ≡ alone q
      → slice_get ps n ≡ Some p → (before ≡ true → BelowIs (λ x. alone x ≡ true) n ps)
      → (BelowIs (λ x. alone x ≡ true) n ps → before ≡ true)
      → (after ≡ true → BelowIs (λ x. alone x ≡ true) (n + 1) (set ps n q))
      × (BelowIs (λ x. alone x ≡ true) (n + 1) (set ps n q) → after ≡ true)
  sole-more alone before after result n ps p q (inl not) same there all back = (
    λ yes. let no = not.1 in absurd (cc),
    λ below.
        let yes : alone q ≡ true = below n q (omega arith) (get-set_here ps n p q there) in
        let no = not.0 in absurd (cc),
  )
  sole-more alone before after result n ps p q (inr is) same there all back = (
    λ yes.
        below-more (λ x. alone x ≡ true) n (set ps n q) q
        (below-set (λ x. alone x ≡ true) n ps q (all (sym is.1 ∙ yes))) (get-set_here ps n p q there)
        (sym same ∙ is.0),
    λ below. is.1 ∙ back (below-unset (λ x. alone x ≡ true) n ps q below),
  )
