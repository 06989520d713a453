-- The numbers that the generator draws.
use Rattle.std.specs.Prelude.{ℕ, zero, suc, ◌+◌, ◌*◌, ◌/◌, ◌%◌, ◌^◌}

-- the state after this one
abbrev pub next_state : ℕ → ℕ
next_state x = (x * 1103515245 + 12345) % 2 ^ 31

-- the number that a state gives
abbrev pub number_of : ℕ → ℕ
number_of x = x / 65536

-- the state after so many draws, where the generator begins with this number
abbrev pub state_after : ℕ → ℕ → ℕ
state_after number zero = number
state_after number (suc n) = next_state (state_after number n)

-- the n-th number that is drawn, counted from 0
abbrev pub draw : ℕ → ℕ → ℕ
draw number n = number_of (state_after number (n + 1))
