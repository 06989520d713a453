-- The laws of the waiters' word.
use Rattle.std.proofs.Common.{◌≡◌, ◌⊎◌, inl, inr, ℕ, ◌+◌, ◌-◌, ◌*◌, ◌/◌, ◌%◌, ◌^◌, ◌<◌, ◌≤◌, le-leb, leb-true, Bool, true, false, bit_or, sym, ap, ◌∙◌, arith}
use Rattle.std.proofs.lemmas.Bool.{cases_Bool, lt-leb, leb-false}
use Rattle.std.proofs.lemmas.Nat.{or_disjoint}
use Rattle.std.proofs.lemmas.Nat.Bits.{and_pow}
use Rattle.cqs_words.specs.declared.waiters.WaitersWord.{WaitersWord}
use Rattle.cqs_words.specs.Packing.{IsPacking}
use Rattle.cqs_words.specs.Waiters.{waiters_word, WaitersFit, packed_waiters, waiters_in, is_done, unpacked_waiters}

-- where the waiters don't reach the bit, both are found in their places
pub waiters_in-word : (waiters : ℕ) (done : Bool) → waiters < 2 ^ 63 → waiters_in (waiters_word waiters done) ≡ waiters
waiters_in-word waiters true fits = omega arith
waiters_in-word waiters false fits = omega arith

pub is_done-word : (waiters : ℕ) (done : Bool) → waiters < 2 ^ 63 → is_done (waiters_word waiters done) ≡ done
is_done-word waiters true fits = le-leb (2 ^ 63) (waiters + 2 ^ 63) (omega arith)
is_done-word waiters false fits = lt-leb (2 ^ 63) waiters fits

pub packed_waiters-below : (w : WaitersWord) → WaitersFit w → packed_waiters w < 2 ^ 64
packed_waiters-below w fits = go w.done
  where
    go : (b : Bool) → waiters_word w.waiters b < 2 ^ 64
    go true = let low = fits.waiters in omega arith
    go false = let low = fits.waiters in omega arith

pub unpacked_waiters-packed_waiters : (w : WaitersWord) → WaitersFit w → unpacked_waiters (packed_waiters w) ≡ w
unpacked_waiters-packed_waiters w fits = λ i. record {
  waiters = waiters_in-word w.waiters w.done fits.waiters i;
  done = is_done-word w.waiters w.done fits.waiters i;
}

-- each number of 64 bits is the packing of its waiters and its bit
pub word-waiters_in : (n : ℕ) → n < 2 ^ 64 → waiters_word (waiters_in n) (is_done n) ≡ n
word-waiters_in n below = go (cases_Bool (is_done n))
  where
    go : (is_done n ≡ true) ⊎ (is_done n ≡ false) → waiters_word (waiters_in n) (is_done n) ≡ n
    go (inl done) =
        let high : 2 ^ 63 ≤ n = leb-true (2 ^ 63) n done in
        ap (waiters_word (waiters_in n)) done ∙ omega arith
    go (inr shut) =
        let low : n < 2 ^ 63 = leb-false (2 ^ 63) n shut in
        ap (waiters_word (waiters_in n)) shut ∙ omega arith

pub IsPacking-unpacked_waiters : (n : ℕ) → n < 2 ^ 64 → IsPacking WaitersFit packed_waiters n (unpacked_waiters n)
IsPacking-unpacked_waiters n below = record {
  fits = record { waiters = omega arith };
  number = word-waiters_in n below;
}

-- words with one number are one
pub packed_waiters-injective : (v w : WaitersWord) → WaitersFit v → WaitersFit w
    → packed_waiters v ≡ packed_waiters w → v ≡ w
packed_waiters-injective v w v_fits w_fits same =
    sym (unpacked_waiters-packed_waiters v v_fits) ∙ ap unpacked_waiters same
    ∙ unpacked_waiters-packed_waiters w w_fits

-- what is added to the number is added to the waiters, and taken from it from them, where they have room
pub waiters_word-add : (waiters by : ℕ) (done : Bool)
    → waiters_word waiters done + by ≡ waiters_word (waiters + by) done
waiters_word-add waiters by true = omega arith
waiters_word-add waiters by false = omega arith

pub waiters_word-less : (waiters by : ℕ) (done : Bool) → by ≤ waiters
    → waiters_word waiters done - by ≡ waiters_word (waiters - by) done
waiters_word-less waiters by true some = omega arith
waiters_word-less waiters by false some = omega arith

-- where the bit isn't set, to set it opens the latch, and leaves the waiters
pub waiters_word-done : (waiters : ℕ) → waiters < 2 ^ 63
    → bit_or (waiters_word waiters false) (2 ^ 63) ≡ waiters_word waiters true
waiters_word-done waiters fits =
    or_disjoint waiters (2 ^ 63) (and_pow waiters 63 ∙ ap (λ b. b * 2 ^ 63) none)
  where
    none : waiters / 2 ^ 63 % 2 ≡ 0
    none = omega arith
