-- How a signed count is written in one number.
use Rattle.std.specs.Prelude.{ℕ, Bool, suc, ◌+◌, ◌-◌, ◌^◌, ◌<◌, ℤ, pos, negsuc, ◌-ℤ◌, Option, Some, None, unsigned_abs, nat_lt, ◌&&◌, if◌then◌else◌}
use Rattle.cqs_words.specs.declared.state.StateWord.{StateWord}

-- the number of a signed count: it is raised by 2 ^ 32
abbrev pub state_word : ℤ → ℕ
state_word (pos count) = 2 ^ 32 + count
state_word (negsuc count) = 2 ^ 32 - suc count

-- the count that a number stands for, if it stands for one
abbrev pub count_in : ℕ → ℤ
count_in n = pos n -ℤ pos (2 ^ 32)

-- the count is from -(2 ^ 32 - 1) to 2 ^ 32 - 1
pub record StateFits (w : StateWord) : Type 0 where
  pub value : unsigned_abs w.value < 2 ^ 32

-- the number that stands for a count
abbrev pub packed_state : StateWord → ℕ
packed_state w = state_word w.value

-- the count that a number is the packing of, if there is one
abbrev pub unpacked_state : ℕ → Option StateWord
unpacked_state n =
    if nat_lt 0 n && nat_lt n (2 ^ 33) then Some (record { value = count_in n }) else None

-- whether the count is above 0, and below
abbrev pub is_above_zero : ℕ → Bool
is_above_zero n = nat_lt (2 ^ 32) n

abbrev pub is_below_zero : ℕ → Bool
is_below_zero n = nat_lt n (2 ^ 32)
