-- How the waiters of a latch and its done bit are written in one number.
use Rattle.std.specs.Prelude.{ℕ, Bool, ◌+◌, ◌%◌, ◌^◌, ◌<◌, nat_le, if◌then◌else◌}
use Rattle.cqs_words.specs.declared.waiters.WaitersWord.{WaitersWord}

-- the number of so many waiters: the done bit is the highest of 64
abbrev pub waiters_word : ℕ → Bool → ℕ
waiters_word waiters done = if done then waiters + 2 ^ 63 else waiters

-- the waiters don't reach the done bit
pub record WaitersFit (w : WaitersWord) : Type 0 where
  pub waiters : w.waiters < 2 ^ 63

-- the number that stands for them
abbrev pub packed_waiters : WaitersWord → ℕ
packed_waiters w = waiters_word w.waiters w.done

-- how many wait, and whether the bit is set, by the number that stands for them
abbrev pub waiters_in : ℕ → ℕ
waiters_in n = n % 2 ^ 63

abbrev pub is_done : ℕ → Bool
is_done n = nat_le (2 ^ 63) n

-- the waiters and the bit that a number is the packing of
abbrev pub unpacked_waiters : ℕ → WaitersWord
unpacked_waiters n = record { waiters = waiters_in n; done = is_done n }
