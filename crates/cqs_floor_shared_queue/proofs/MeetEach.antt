-- Lists of what resources are kept as, of which one after the other takes in its like; and lists of rounds, of which
-- one after the other is raised.
use Rattle.std.proofs.Common.{◌≡◌, ◌≢◌, ◌⊎◌, inl, inr, ℕ, zero, suc, ◌+◌, ◌<◌, ◌≤◌, List, [], ◌∷◌, ◌++◌, Some, length, max, set, get_or, slice_get, refl, ap, sym, ◌∙◌, subst, arith}
use Rattle.std.proofs.lemmas.Bool.{cases_eq}
use Rattle.std.proofs.lemmas.List.{get_or-set_other, get_or-set_same}
use Rattle.cqs_core.proofs.Places.{get-set_else, get-set_here}
use Rattle.cqs_floor_shared_queue.specs.Meeting.{HasMetAt}
use Rattle.cqs_floor_shared_kinds.specs.ShareCalls.{Meets}
use Rattle.cqs_floor_shared_kinds.specs.Shares.{Share}

module _ {X : Type 0} where
  -- what comes next stands behind what came
  pub stands-next : (came rest all : List X) (x : X) (at : ℕ) → came ++ (x ∷ rest) ≡ all → at ≡ length came
      → slice_get all at ≡ Some x
  stands-next came rest all x at whole is = ap (λ xs. slice_get xs at) (sym whole) ∙ go came at is
    where
      go : (ys : List X) (k : ℕ) → k ≡ length ys → slice_get (ys ++ (x ∷ rest)) k ≡ Some x
      go [] zero same = refl
      go [] (suc k) same = absurd (omega arith)
      go (y ∷ ys) zero same = absurd (omega arith)
      go (y ∷ ys) (suc k) same = go ys k (omega arith)

  pub rest-next : (old now : List X) (at : ℕ) (y : X)
      → ((k : ℕ) → at ≤ k → slice_get now k ≡ slice_get old k)
      → (k : ℕ) → at + 1 ≤ k → slice_get (set now at y) k ≡ slice_get old k
  rest-next old now at y rest k high =
      get-set_else now at k y (omega (arith, high)) ∙ rest k (omega (arith, high))

  pub met-next : (s : Share X) (old given now : List X) (at : ℕ) (x one y : X) → slice_get now at ≡ Some x
      → slice_get old at ≡ Some x → slice_get given at ≡ Some one → Meets s one x y
      → ((k : ℕ) (z : X) → k < at → slice_get now k ≡ Some z → HasMetAt s old given k z)
      → (k : ℕ) (z : X) → k < at + 1 → slice_get (set now at y) k ≡ Some z → HasMetAt s old given k z
  met-next s old given now at x one y here was its meets before k z low got = go (cases_eq k at)
    where
      go : (k ≡ at) ⊎ (k ≢ at) → HasMetAt s old given k z
      go (inl same) =
          let found : Some y ≡ Some z =
          sym (get-set_here now at x y here) ∙ ap (slice_get (set now at y)) (sym same) ∙ got in
          let is : y ≡ z = cc in
          record {
            share = x;
            there = ap (slice_get old) same ∙ was;
            one = one;
            its = ap (slice_get given) same ∙ its;
            meets = subst (λ v. Meets s one x v) is meets;
          }
      go (inr other) =
          before k z (omega (arith, low, other))
          (sym (get-set_else now at k y (λ e. other (sym e))) ∙ got)

-- the rounds of the jobs so far are raised, and from there on are what they were
pub record Raised (old given now : List (List ℕ)) (job : ℕ) : Type 0 where
  pub each : (k : ℕ) → length (get_or now k []) ≡ length (get_or old k [])
  pub raised : (k at : ℕ) → k < job
      → get_or (get_or now k []) at 0 ≡ max (get_or (get_or old k []) at 0) (get_or (get_or given k []) at 0)
  pub rest : (k : ℕ) → job ≤ k → get_or now k [] ≡ get_or old k []

pub raised-next : (old given now : List (List ℕ)) (job : ℕ) (own : List ℕ) → job < length now
    → length own ≡ length (get_or now job [])
    → ((at : ℕ) → get_or own at 0 ≡ max (get_or (get_or now job []) at 0) (get_or (get_or given job []) at 0))
    → Raised old given now job → Raised old given (set now job own) (job + 1)
raised-next old given now job own low long higher r = record {
  each = λ k. each k (cases_eq k job);
  raised = λ k at below. raised k at below (cases_eq k job);
  rest = λ k high.
      get_or-set_other now job k own [] (omega (arith, high)) ∙ r.rest k (omega (arith, high));
}
  where
    each : (k : ℕ) → (k ≡ job) ⊎ (k ≢ job) → length (get_or (set now job own) k []) ≡ length (get_or old k [])
    each k (inl same) =
        ap (λ i. length (get_or (set now job own) i [])) same
        ∙ ap (λ (xs : List ℕ). length xs) (get_or-set_same now job own [] low) ∙ long ∙ r.each job
        ∙ ap (λ i. length (get_or old i [])) (sym same)
    each k (inr other) =
        ap (λ (xs : List ℕ). length xs) (get_or-set_other now job k own [] other) ∙ r.each k

    raised : (k at : ℕ) → k < job + 1 → (k ≡ job) ⊎ (k ≢ job)
        → get_or (get_or (set now job own) k []) at 0
        ≡ max (get_or (get_or old k []) at 0) (get_or (get_or given k []) at 0)
    raised k at below (inl same) =
        ap (λ i. get_or (get_or (set now job own) i []) at 0) same
        ∙ ap (λ (xs : List ℕ). get_or xs at 0) (get_or-set_same now job own [] low) ∙ higher at
        ∙ ap (λ (xs : List ℕ). max (get_or xs at 0) (get_or (get_or given job []) at 0)) (r.rest job (omega arith))
        ∙ ap (λ i. max (get_or (get_or old i []) at 0) (get_or (get_or given i []) at 0)) (sym same)
    raised k at below (inr other) =
        ap (λ (xs : List ℕ). get_or xs at 0) (get_or-set_other now job k own [] other)
        ∙ r.raised k at (omega (arith, below, other))
