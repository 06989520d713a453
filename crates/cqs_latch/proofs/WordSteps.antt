-- What the steps on a latch's words do to the numbers that stand there.
use Rattle.std.proofs.Common.{◌≡◌, ℕ, ◌+◌, ◌-◌, ◌^◌, ◌<◌, pos, negsuc, ◌≤ℤ◌, ◌<ℤ◌, ◌-ℤ◌, true, false, bit_or, sym, ap, ◌∙◌, arith}
use Rattle.std.proofs.lemmas.Int.{ints}
use Rattle.cqs_rule_laws.specs.Events.{word_plus}
use Rattle.cqs_words.specs.State.{count_in, is_above_zero}
use Rattle.cqs_words.specs.Waiters.{waiters_word, waiters_in, is_done}
use Rattle.cqs_words.proofs.WaitersLaws.{waiters_in-word, is_done-word, word-waiters_in, waiters_word-add, waiters_word-less, waiters_word-done}

-- a number above that of the count 0 stands for one above 0
pub above-zero : (n : ℕ) → is_above_zero n ≡ true → pos 0 <ℤ count_in n
above-zero n above = grind (arith, ints)

-- one is taken from a count that is not far below 0
some-count : (n : ℕ) → negsuc 31 ≤ℤ count_in n → 0 < n
some-count n high = omega (arith, ints)

less-count : (n m : ℕ) → n ≡ m + 1 → count_in m ≡ count_in n -ℤ pos 1
less-count n m is = omega (arith, ints)

pub count-down : (n : ℕ) → n < 2 ^ 64 → negsuc 31 ≤ℤ count_in n
    → count_in (word_plus (negsuc 0) n) ≡ count_in n -ℤ pos 1
count-down n small high =
    let some : 0 < n = some-count n high in
    less-count n (word_plus (negsuc 0) n) (omega arith)

-- one is added to waiters that are few
more-word : (n : ℕ) → n < 2 ^ 64 → waiters_in n < 2 ^ 62
    → word_plus (pos 1) n ≡ waiters_word (waiters_in n + 1) (is_done n)
more-word n small few =
    let plain : word_plus (pos 1) n ≡ n + 1 = omega arith in
    plain ∙ ap (λ m. m + 1) (sym (word-waiters_in n small)) ∙ waiters_word-add (waiters_in n) 1 (is_done n)

pub more-waiters : (n : ℕ) → n < 2 ^ 64 → waiters_in n < 2 ^ 62 → waiters_in (word_plus (pos 1) n) ≡ waiters_in n + 1
more-waiters n small few =
    ap waiters_in (more-word n small few) ∙ waiters_in-word (waiters_in n + 1) (is_done n) (omega arith)

pub more-done : (n : ℕ) → n < 2 ^ 64 → waiters_in n < 2 ^ 62 → is_done (word_plus (pos 1) n) ≡ is_done n
more-done n small few =
    ap is_done (more-word n small few) ∙ is_done-word (waiters_in n + 1) (is_done n) (omega arith)

-- one is taken from waiters of whom there is one
less-word : (n : ℕ) → n < 2 ^ 64 → 0 < waiters_in n
    → word_plus (negsuc 0) n ≡ waiters_word (waiters_in n - 1) (is_done n)
less-word n small some =
    let plain : word_plus (negsuc 0) n ≡ n - 1 = omega arith in
    plain ∙ ap (λ m. m - 1) (sym (word-waiters_in n small))
    ∙ waiters_word-less (waiters_in n) 1 (is_done n) (omega arith)

pub less-waiters : (n : ℕ) → n < 2 ^ 64 → 0 < waiters_in n → waiters_in (word_plus (negsuc 0) n) ≡ waiters_in n - 1
less-waiters n small some =
    ap waiters_in (less-word n small some) ∙ waiters_in-word (waiters_in n - 1) (is_done n) (omega arith)

pub less-done : (n : ℕ) → n < 2 ^ 64 → 0 < waiters_in n → is_done (word_plus (negsuc 0) n) ≡ is_done n
less-done n small some =
    ap is_done (less-word n small some) ∙ is_done-word (waiters_in n - 1) (is_done n) (omega arith)

-- the done bit is set
done-word : (n : ℕ) → n < 2 ^ 64 → is_done n ≡ false → bit_or n (2 ^ 63) ≡ waiters_word (waiters_in n) true
done-word n small shut =
    ap (λ m. bit_or m (2 ^ 63)) (sym (word-waiters_in n small) ∙ ap (waiters_word (waiters_in n)) shut)
    ∙ waiters_word-done (waiters_in n) (omega arith)

pub done-waiters : (n : ℕ) → n < 2 ^ 64 → is_done n ≡ false → waiters_in (bit_or n (2 ^ 63)) ≡ waiters_in n
done-waiters n small shut = ap waiters_in (done-word n small shut) ∙ waiters_in-word (waiters_in n) true (omega arith)

pub done-done : (n : ℕ) → n < 2 ^ 64 → is_done n ≡ false → is_done (bit_or n (2 ^ 63)) ≡ true
done-done n small shut = ap is_done (done-word n small shut) ∙ is_done-word (waiters_in n) true (omega arith)
