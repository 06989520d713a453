-- The one word of a barrier: its remaining number, and in the upper half how many parties it has,
-- so that a step on the word finds both.
use Rattle.std.specs.Prelude.{ℕ, ◌+◌, ◌*◌, ◌/◌, ◌%◌, ◌==◌, Bool}

abbrev pub word_of : ℕ → ℕ → ℕ
word_of parties remaining = parties * 4294967296 + remaining

abbrev pub parties_in : ℕ → ℕ
parties_in n = n / 4294967296

abbrev pub remaining_in : ℕ → ℕ
remaining_in n = n % 4294967296

-- all have arrived
abbrev pub is_over : ℕ → Bool
is_over n = remaining_in n == 0

-- one is still to arrive
abbrev pub is_last : ℕ → Bool
is_last n = remaining_in n == 1
