-- What a stream tells of its bytes, which is Some of them or None.
pub use Rattle.cqs_cli_streams.specs.Counts.{last_count, Rises}
use Rattle.std.specs.Prelude.{◌≡◌, ℕ, ◌≤◌, List, ◌++◌, length, take, Option, Some, None}

-- these bytes are all that is left, if the source tells
abbrev pub IsAll : List ℕ → Option (List ℕ) → Type 0
IsAll bytes None = Unit {0}
IsAll bytes (Some left) = left ≡ bytes

-- a source gave these bytes, the first of what was left; one that doesn't tell never tells
abbrev pub Gives : List ℕ → Option (List ℕ) → Option (List ℕ) → Type 0
Gives bytes None after = after ≡ None
Gives bytes (Some left) after = (rest : List ℕ) × (left ≡ bytes ++ rest) × (after ≡ Some rest)

-- a source gave so many bytes
abbrev pub GivesCount : ℕ → Option (List ℕ) → Option (List ℕ) → Type 0
GivesCount count left after = (bytes : List ℕ) × (length bytes ≡ count) × Gives bytes left after

-- a source gave at most so many bytes
abbrev pub GivesAtMost : ℕ → Option (List ℕ) → Option (List ℕ) → Type 0
GivesAtMost most left after = (bytes : List ℕ) × (length bytes ≤ most) × Gives bytes left after

-- a sink took these bytes behind what it held; one that stopped telling never tells again
abbrev pub Gains : List ℕ → Option (List ℕ) → Option (List ℕ) → Type 0
Gains bytes held None = Unit {0}
Gains bytes None (Some after) = ⊥
Gains bytes (Some held) (Some after) = after ≡ held ++ bytes

-- a sink took a prefix of these bytes
abbrev pub GainsPrefix : List ℕ → Option (List ℕ) → Option (List ℕ) → Type 0
GainsPrefix bytes held after =
    (count : ℕ) × (count ≤ length bytes) × Gains (take count bytes) held after
