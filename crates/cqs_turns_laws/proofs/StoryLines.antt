-- How one more line changes the lines of each job, and that it leaves them in order.
use Rattle.std.proofs.Common.{◌≡◌, ◌≢◌, ◌⊎◌, inl, inr, ℕ, suc, ◌+◌, ◌<◌, ◌≤◌, ◌==◌, List, [], ◌∷◌, ◌++◌, true, false, Some, length, slice_get, refl, sym, ap, subst, ◌∙◌, eq-eqb, ne_eqb, arith}
use Rattle.std.proofs.lemmas.Bool.{cases_lt}
use Rattle.std.proofs.lemmas.List.{append-nil, length_push}
use Rattle.std.proofs.lemmas.List.Elements.{filter-append}
use Rattle.cqs_core.proofs.Places.{get-append_below, get-below, get-push_at}
use Rattle.cqs_turns_report.specs.declared.lines.Told.{Told}
use Rattle.cqs_turns_report.specs.Turns.{Role}
use Rattle.cqs_turns_laws.specs.Events.{Line}
use Rattle.cqs_turns_laws.specs.Stories.{IsBefore, AreInOrder, own_lines}
use Rattle.cqs_turns_laws.proofs.Lifting.{line_of}

-- a line of the job is one more of its own
pub own-push : (place : ℕ) (lines : List Line) (line : Line) → line.job ≡ place
    → own_lines place (lines ++ line ∷ []) ≡ own_lines place lines ++ line ∷ []
own-push place lines line same =
    let own : line.job == place ≡ true = eq-eqb line.job place same in
    let one : own_lines place (line ∷ []) ≡ line ∷ [] = rw own refl in
    filter-append (λ (x : Line). x.job == place) lines (line ∷ []) ∙ ap (λ xs. own_lines place lines ++ xs) one

-- and none of another's
pub other-push : (place : ℕ) (lines : List Line) (line : Line) → line.job ≢ place
    → own_lines place (lines ++ line ∷ []) ≡ own_lines place lines
other-push place lines line other =
    let away : line.job == place ≡ false = ne_eqb line.job place other in
    let none : own_lines place (line ∷ []) ≡ [] = rw away refl in
    filter-append (λ (x : Line). x.job == place) lines (line ∷ []) ∙ ap (λ xs. own_lines place lines ++ xs) none
    ∙ append-nil (own_lines place lines)

-- one more line is in order where it may stand after all before it
pub order-push : (lines : List Line) (line : Line) → AreInOrder lines
    → ((n : ℕ) (x : Line) → slice_get lines n ≡ Some x → IsBefore x line) → AreInOrder (lines ++ line ∷ [])
order-push lines line order last i j x y below got then_got = by (cases_lt j (length lines))
  where
    by : (j < length lines) ⊎ (length lines ≤ j) → IsBefore x y
    by (inl within) =
        order i j x y below (sym (get-append_below lines (line ∷ []) i (omega (arith, below, within))) ∙ got)
        (sym (get-append_below lines (line ∷ []) j within) ∙ then_got)
    by (inr past) =
        let inside : j < length (lines ++ line ∷ []) = get-below (lines ++ line ∷ []) j y then_got in
        let end_at : j ≡ length lines = omega (arith, past, inside, length_push lines line) in
        let pushed : slice_get (lines ++ line ∷ []) j ≡ Some line = get-push_at lines line j end_at in
        let own : line ≡ y = cc in
        let before : i < length lines = omega (arith, below, end_at) in
        rw (← own) (last i x (sym (get-append_below lines (line ∷ []) i before) ∙ got))

-- each of the lines has a property where the last has it, and each of those before
pub each-push : (P : Line → Type 0) (lines : List Line) (line : Line)
    → ((n : ℕ) (x : Line) → slice_get lines n ≡ Some x → P x) → P line
    → (n : ℕ) (x : Line) → slice_get (lines ++ line ∷ []) n ≡ Some x → P x
each-push P lines line all last n x got = by (cases_lt n (length lines))
  where
    by : (n < length lines) ⊎ (length lines ≤ n) → P x
    by (inl within) = all n x (sym (get-append_below lines (line ∷ []) n within) ∙ got)
    by (inr past) =
        let inside : n < length (lines ++ line ∷ []) = get-below (lines ++ line ∷ []) n x got in
        let end_at : n ≡ length lines = omega (arith, past, inside, length_push lines line) in
        let pushed : slice_get (lines ++ line ∷ []) n ≡ Some line = get-push_at lines line n end_at in
        let own : line ≡ x = cc in
        subst P own last

-- the line is of an earlier turn, or in this one of a job before this place
abbrev pub IsPast : ℕ → ℕ → Line → Type 0
IsPast turn next line = (line.turn < turn) ⊎ ((line.turn ≡ turn) × (line.job < next))

-- one of the line before, or of the job at this place, in this turn
pub past-in : (turn place : ℕ) (line : Line) → IsPast turn place line → IsPast turn (place + 1) line
past-in turn place line (inl before) = inl before
past-in turn place line (inr now) = inr (now.0, omega (arith, now.1))

pub past-out : (turn next : ℕ) (line : Line) → IsPast turn next line → IsPast (suc turn) 0 line
past-out turn next line (inl before) = inl (omega (arith, before))
past-out turn next line (inr now) = inl (omega (arith, now.0))

pub past-over : (turn : ℕ) (line : Line) → IsPast turn 0 line → line.turn < turn
past-over turn line (inl before) = before
past-over turn line (inr now) = absurd (omega (arith, now.1))

pub past-before : (r : Role) (words : Told) (line : Line) → IsPast r.turn (r.place + 1) line
    → IsBefore line (line_of r words)
past-before r words line (inl before) = inl before
past-before r words line (inr now) = inr (now.0, omega (arith, now.1))
