-- Each job is counted once.
use Rattle.std.proofs.Common.{◌≡◌, ℕ, ◌+◌, cond, List, [], ◌∷◌, length, count_by, refl, arith}
use Rattle.std.proofs.lemmas.List.Sums.{sum_by-cons}
use Rattle.cqs_work.specs.declared.ends.JobEnd.{JobEnd}
use Rattle.cqs_work.specs.declared.ends.JobEnd.TheVariants.{Done, GaveUp, Late, Crowded, Unfinished}
use Rattle.cqs_work.specs.Ends.{is_done, has_given_up, is_late, is_crowded, is_unfinished}

one-way : (e : JobEnd)
    → cond {A = ℕ} (is_done e) 1 0 + cond {A = ℕ} (has_given_up e) 1 0 + cond {A = ℕ} (is_late e) 1 0
    + cond {A = ℕ} (is_crowded e) 1 0 + cond {A = ℕ} (is_unfinished e) 1 0 ≡ 1
one-way Done = refl
one-way GaveUp = refl
one-way Late = refl
one-way Crowded = refl
one-way Unfinished = refl

pub all-counted : (ends : List JobEnd)
    → count_by is_done ends + count_by has_given_up ends + count_by is_late ends + count_by is_crowded ends
    + count_by is_unfinished ends ≡ length ends
all-counted [] = refl
all-counted (e ∷ ends) =
    omega (
      arith,
      one-way e,
      all-counted ends,
      sum_by-cons (λ x. cond {A = ℕ} (is_done x) 1 0) e ends,
      sum_by-cons (λ x. cond {A = ℕ} (has_given_up x) 1 0) e ends,
      sum_by-cons (λ x. cond {A = ℕ} (is_late x) 1 0) e ends,
      sum_by-cons (λ x. cond {A = ℕ} (is_crowded x) 1 0) e ends,
      sum_by-cons (λ x. cond {A = ℕ} (is_unfinished x) 1 0) e ends,
    )
