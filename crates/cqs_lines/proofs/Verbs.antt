-- Verbs that are known: a test of their bytes, and the lines that they make.
use Rattle.std.proofs.Common.{◌≡◌, ◌≢◌, ◌⊎◌, inl, inr, ℕ, ◌==◌, ◌<◌, ◌≤◌, ◌^◌, Bool, true, false, true≢false, List, [], ◌∷◌, length, refl, sym, ap, ◌∙◌, arith, eq-eqb, ne_eqb, if◌then◌else◌}
use Rattle.std.proofs.lemmas.Bool.{cases_eq}
use Rattle.cqs_lines.specs.Said.{Lacks, IsLine, said}

-- no byte is this one, as a test
abbrev pub lacks : ℕ → List ℕ → Bool
lacks at [] = true
lacks at (b ∷ bs) = if b == at then false else lacks at bs

pub lacks-true : (at : ℕ) (bs : List ℕ) → lacks at bs ≡ true → Lacks at bs
lacks-true at [] passes = tt
lacks-true at (b ∷ bs) passes = go (cases_eq b at) (λ more. lacks-true at bs more)
  where
    go : (b ≡ at) ⊎ (b ≢ at) → (lacks at bs ≡ true → Lacks at bs) → (b ≢ at) × Lacks at bs
    go (inl same) onward =
        let no : lacks at (b ∷ bs) ≡ false = rw (eq-eqb b at same) refl in
        absurd (true≢false (sym passes ∙ no))
    go (inr other) onward =
        let rest : lacks at (b ∷ bs) ≡ lacks at bs = rw (ne_eqb b at other) refl in
        (other, onward (sym rest ∙ passes))

-- a line of a verb with one number of 32 bits, and with one more of 40 bits
pub line-one : (verb : List ℕ) (p : ℕ) → lacks 32 verb ≡ true → lacks 10 verb ≡ true → p < 2 ^ 32
    → IsLine (said verb (p ∷ []))
line-one verb p spaces feeds low = record {
  spaceless = lacks-true 32 verb spaces;
  whole = lacks-true 10 verb feeds;
  fit = (omega (arith, low), tt);
  some = omega arith;
}

pub line-two : (verb : List ℕ) (p k : ℕ) → lacks 32 verb ≡ true → lacks 10 verb ≡ true → p < 2 ^ 32 → k < 2 ^ 40
    → IsLine (said verb (p ∷ k ∷ []))
line-two verb p k spaces feeds low small = record {
  spaceless = lacks-true 32 verb spaces;
  whole = lacks-true 10 verb feeds;
  fit = (omega (arith, low), (omega (arith, small), tt));
  some = omega arith;
}

-- a line of a verb with one number of 40 bits
pub line-wait : (verb : List ℕ) (k : ℕ) → lacks 32 verb ≡ true → lacks 10 verb ≡ true → k < 2 ^ 40
    → IsLine (said verb (k ∷ []))
line-wait verb k spaces feeds small = record {
  spaceless = lacks-true 32 verb spaces;
  whole = lacks-true 10 verb feeds;
  fit = (omega (arith, small), tt);
  some = omega arith;
}

-- a line of a verb with the number of permits, and with that of passes
pub line-permits : (verb : List ℕ) (p : ℕ) → lacks 32 verb ≡ true → lacks 10 verb ≡ true → p ≤ 1048576
    → IsLine (said verb (p ∷ []))
line-permits verb p spaces feeds low = record {
  spaceless = lacks-true 32 verb spaces;
  whole = lacks-true 10 verb feeds;
  fit = (omega (arith, low), tt);
  some = omega arith;
}

pub line-passes : (verb : List ℕ) (p n : ℕ) → lacks 32 verb ≡ true → lacks 10 verb ≡ true → p ≤ 1048576 → n ≤ 32
    → IsLine (said verb (p ∷ n ∷ []))
line-passes verb p n spaces feeds low few = record {
  spaceless = lacks-true 32 verb spaces;
  whole = lacks-true 10 verb feeds;
  fit = (omega (arith, low), (omega (arith, few), tt));
  some = omega arith;
}
