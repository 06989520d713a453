-- The laws of a signed count's word.
use Rattle.std.proofs.Common.{◌≡◌, ℕ, ◌^◌, ◌<◌, ℤ, pos, negsuc, ◌+ℤ◌, Some, refl, arith, rules}
use Rattle.std.specs.Prelude.{unsigned_abs}
use Rattle.std.proofs.lemmas.Int.{ints}
use Rattle.cqs_words.specs.declared.state.StateWord.{StateWord}
use Rattle.cqs_words.specs.Packing.{IsPacking}
use Rattle.cqs_words.specs.State.{state_word, StateFits, packed_state, unpacked_state, count_in}
use Rattle.cqs_words.proofs.PackingLaws.{number_of-injective}

-- the number is the count, raised by 2 ^ 32
pub pos-state_word : (value : ℤ) → unsigned_abs value < 2 ^ 32
    → pos (state_word value) ≡ value +ℤ pos (2 ^ 32)
pos-state_word (pos n) fits = omega (arith, ints)
pos-state_word (negsuc n) fits = omega (arith, ints)

-- what is added to the number is added to the count
pub state_word-add : (value by : ℤ) → unsigned_abs value < 2 ^ 32 → unsigned_abs (value +ℤ by) < 2 ^ 32
    → pos (state_word (value +ℤ by)) ≡ pos (state_word value) +ℤ by
state_word-add value by fits sum_fits =
    let before = pos-state_word value fits in
    let after = pos-state_word (value +ℤ by) sum_fits in
    omega (arith, ints)

pub state_word-below : (value : ℤ) → unsigned_abs value < 2 ^ 32 → state_word value < 2 ^ 33
state_word-below (pos n) fits = omega arith
state_word-below (negsuc n) fits = omega arith

pub packed_state-below : (w : StateWord) → StateFits w → packed_state w < 2 ^ 33
packed_state-below w fits = state_word-below w.value fits.value

pub unpacked_state-packed_state : (w : StateWord) → StateFits w → unpacked_state (packed_state w) ≡ Some w
unpacked_state-packed_state w fits = search rules

pub IsPacking-unpacked_state : (n : ℕ) (w : StateWord)
    → unpacked_state n ≡ Some w → IsPacking StateFits packed_state n w
IsPacking-unpacked_state n w is = search rules

-- a number whose count fits is the packing of it
pub packed_state-count_in : (n : ℕ) → StateFits (record { value = count_in n })
    → packed_state (record { value = count_in n }) ≡ n
packed_state-count_in n fits = by (count_in n) refl fits.value
  where
    by : (z : ℤ) → count_in n ≡ z → unsigned_abs z < 2 ^ 32 → state_word z ≡ n
    by (pos k) is few = omega (arith, ints)
    by (negsuc k) is few = omega (arith, ints)

pub packed_state-injective : (v w : StateWord) → StateFits v → StateFits w
    → packed_state v ≡ packed_state w → v ≡ w
packed_state-injective = number_of-injective StateFits packed_state unpacked_state unpacked_state-packed_state
