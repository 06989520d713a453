-- How many numbers to resume at the steps of a pass drew, after one more.
use Rattle.std.proofs.Common.{◌≡◌, ◌≢◌, ℕ, ◌+◌, ◌-◌, ◌<◌, ◌==◌, List, ◌∷◌, [], ◌++◌, ap, subst, arith, eq-eqb, ne_eqb, if◌then◌else◌}
use mathlib.Core.Logic.{dite}
use native.Mathlib.Decide.{ℕ_discrete}
use prog.Atomic.{either}
use Rattle.cqs_rule_laws.specs.declared.view.Sighting.{Sighting}
use Rattle.cqs_rule_laws.specs.declared.view.Sighting.TheVariants.{Cell, Word, Jump}
use Rattle.cqs_rule_laws.specs.declared.view.Drawn.{Drawn}
use Rattle.cqs_rule_laws.specs.declared.view.View.{View}
use Rattle.cqs_rule_laws.specs.Drawn.{draws_of, draws_in, KnowsDrawn}
use Rattle.cqs_rule_laws.specs.Layout.{resumes_place}

-- what was drawn is known where no number was drawn since
pub knows-still : {E S : Type 0} (v w : View E S) (n : ℕ) → w.drawn ≡ v.drawn
    → draws_in w.facts.found ≡ draws_in v.facts.found → KnowsDrawn w n → KnowsDrawn v n
knows-still v w n drawn draws knows =
    subst (λ (z : Drawn × ℕ). n + z.0.own ≡ z.0.all + z.1) (λ i. (drawn i, draws i)) knows

pub draws-push : (found : List Sighting) (x : Sighting) → draws_in (found ++ x ∷ []) ≡ draws_in found + draws_of x
draws-push [] x = omega arith
draws-push (y ∷ ys) x = let later = draws-push ys x in omega arith

-- at a cell
pub draws-cell : (found : List Sighting) (k n : ℕ) → draws_in (found ++ Cell k n ∷ []) ≡ draws_in found
draws-cell found k n = omega (arith, draws-push found (Cell k n))

-- by a draw
pub draws-one : (found : List Sighting) (n : ℕ)
    → draws_in (found ++ Word resumes_place n ∷ []) ≡ draws_in found + 1
draws-one found n = draws-push found (Word resumes_place n)

-- at another word than the resume counter
pub draws-word : (found : List Sighting) (place n : ℕ) → place ≢ resumes_place
    → draws_in (found ++ Word place n ∷ []) ≡ draws_in found
draws-word found place n other =
    let none : draws_of (Word place n) ≡ 0 = ap (λ b. if b then 1 else 0) (ne_eqb place resumes_place other) in
    omega (arith, draws-push found (Word place n))

-- by a jump, as far as it came
pub draws-jump : (found : List Sighting) (from to n : ℕ) → from < to
    → either (n == from) to n + draws_in found ≡ n + draws_in (found ++ Jump from to n ∷ [])
draws-jump found from to n order = dite (ℕ_discrete n from)
    (λ (e : n ≡ from).
    let on = eq-eqb n from e in
    let came : either (n == from) to n ≡ to = ap (λ b. either b to n) on in
    let all : draws_of (Jump from to n) ≡ to - from = ap (λ b. if b then to - from else 0) on in
    omega (arith, draws-push found (Jump from to n)))
    (λ a.
    let off = ne_eqb n from a in
    let stays : either (n == from) to n ≡ n = ap (λ b. either b to n) off in
    let none : draws_of (Jump from to n) ≡ 0 = ap (λ b. if b then to - from else 0) off in
    omega (arith, draws-push found (Jump from to n)))
