-- How the jobs of a plan that a number makes come one after the other.
use Rattle.std.proofs.Common.{◌≡◌, ℕ, suc, ◌+◌, ◌*◌, ◌∷◌, [], ◌++◌, map, ap, refl, arith}
use Rattle.std.specs.List.{range_with_len}
use Rattle.std.proofs.lemmas.List.FromFn.{map-range_with_len_more}
use Rattle.cqs_plan_generator.specs.Draws.{draw, next_state, number_of, state_after}
use Rattle.cqs_plan_generator.specs.Generated.{job_of, nth_job}

-- three draws later
pub after-three : (number i : ℕ)
    → state_after number (3 * (i + 1)) ≡ next_state (next_state (next_state (state_after number (3 * i))))
after-three number i =
    let three : 3 * (i + 1) ≡ suc (suc (suc (3 * i))) = omega arith in ap (state_after number) three

first-draw : (number i : ℕ) → draw number (3 * i) ≡ number_of (next_state (state_after number (3 * i)))
first-draw number i =
    let one : 3 * i + 1 ≡ suc (3 * i) = omega arith in ap (λ n. number_of (state_after number n)) one

second-draw : (number i : ℕ)
    → draw number (3 * i + 1) ≡ number_of (next_state (next_state (state_after number (3 * i))))
second-draw number i =
    let two : 3 * i + 1 + 1 ≡ suc (suc (3 * i)) = omega arith in ap (λ n. number_of (state_after number n)) two

third-draw : (number i : ℕ) → draw number (3 * i + 2)
    ≡ number_of (next_state (next_state (next_state (state_after number (3 * i)))))
third-draw number i =
    let three : 3 * i + 2 + 1 ≡ suc (suc (suc (3 * i))) = omega arith in
    ap (λ n. number_of (state_after number n)) three

-- the job that the next three numbers make is the one of its place
pub next-job : (number i : ℕ)
    → job_of i (number_of (next_state (state_after number (3 * i))))
    (number_of (next_state (next_state (state_after number (3 * i)))))
    (number_of (next_state (next_state (next_state (state_after number (3 * i))))))
    ≡ nth_job number i
next-job number i = rw (first-draw number i, second-draw number i, third-draw number i) refl

-- and it comes behind those of the places before
pub jobs-more : (number i : ℕ) → map (nth_job number) (range_with_len 0 (i + 1))
    ≡ map (nth_job number) (range_with_len 0 i) ++ nth_job number i ∷ []
jobs-more number i = map-range_with_len_more (nth_job number) 0 i i (omega arith)
