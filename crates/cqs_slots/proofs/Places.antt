-- Where the words of slots stand.
use Rattle.std.proofs.Common.{◌≡◌, ◌≢◌, ℕ, ◌+◌, ◌*◌, ◌<◌, ◌≤◌, List, ⊎_elim, inl, inr, arith}
use Rattle.std.specs.Prelude.{slice_index, slice_set}
use Rattle.std.proofs.lemmas.Bool.{cases_lt}
use Rattle.cqs_slots.specs.Layout.{head_place, slot_cell, IsElse}
use Rattle.cqs_slots.proofs.Lists.{other-word}

-- the words of a slot are as they were
abbrev pub WordsStay : List ℕ → List ℕ → ℕ → Type 0
WordsStay words words' y =
    (i : ℕ) → 48 * y + 128 ≤ i → i < 48 * y + 176 → slice_index words' i ≡ slice_index words i

-- a word of another slot is none of this one's
pub else-of : (i x y : ℕ) → y ≢ x → 48 * y + 128 ≤ i → i < 48 * y + 176 → IsElse i x
else-of i x y apart from below = ⊎_elim inl (λ h. inr (omega arith)) (cases_lt i (48 * x + 128))

-- a word of the slot is written, and those of all others stay
pub stay-in : (words : List ℕ) (i x z : ℕ) → 48 * x + 128 ≤ i → i < 48 * x + 176
    → (j : ℕ) → IsElse j x → slice_index (slice_set words i z) j ≡ slice_index words j
stay-in words i x z from below j apart =
    other-word words i j z (λ e. ⊎_elim (λ l. omega arith) (λ h. omega arith) apart)

pub cells-stay : (words : List ℕ) (x z j : ℕ)
    → slice_index (slice_set words (head_place x) z) (slot_cell x j) ≡ slice_index words (slot_cell x j)
cells-stay words x z j = other-word words (head_place x) (slot_cell x j) z (λ e. omega arith)
