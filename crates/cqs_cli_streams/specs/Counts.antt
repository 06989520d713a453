-- Counts of 64 bits, which stand still at their end.
use Rattle.std.specs.Prelude.{◌≡◌, ℕ, ◌+◌, ◌-◌, ◌^◌, ◌<◌, ◌⊎◌, min, max}

-- where a count ends
abbrev pub last_count : ℕ
last_count = 2 ^ 64 - 1

-- so many more, as far as a count goes
abbrev pub raise : ℕ → ℕ → ℕ
raise count more = max count (min (count + more) last_count)

-- the count rose, or it stands at its end
abbrev pub Rises : ℕ → ℕ → Type 0
Rises before after = (before < after) ⊎ ((before ≡ last_count) × (after ≡ last_count))
