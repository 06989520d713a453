-- Which words are a command of the program.
use Rattle.std.specs.Prelude.{◌≡◌, ℕ, ◌≤◌, ◌⊎◌, Bool, true, false, List, [], ◌∷◌, Option, Some, None, codes}
use Rattle.std.specs.Fmt.{decimal}
use Rattle.cqs_cli.specs.Words.{IsRun}
use Rattle.cqs_cli.specs.Words as alone

-- the words of the command that has so many workers run a plan: its name by itself for four, or its
-- name and then their number in decimal
abbrev pub SpellWork : ℕ → List (List ℕ) → Type 0
SpellWork workers words =
    ((words ≡ codes "work" ∷ []) × (workers ≡ 4))
    ⊎ (words ≡ codes "work" ∷ codes "--workers" ∷ decimal workers ∷ [])

-- the words ask for so many workers, and that many there may be
pub record IsWork (workers : ℕ) (words : List (List ℕ)) : Type 0 where
  pub some : 1 ≤ workers
  pub few : workers ≤ 16
  pub spelled : SpellWork workers words

-- the words ask for workers
abbrev pub IsSomeWork : List (List ℕ) → Type 0
IsSomeWork words = (workers : ℕ) × IsWork workers words

-- the words of the command that replies to requests
abbrev pub IsLimit : List (List ℕ) → Type 0
IsLimit words = words ≡ codes "limit" ∷ []

-- the words are they, or not
abbrev pub IsLimitOf : List (List ℕ) → Bool → Type 0
IsLimitOf words true = IsLimit words
IsLimitOf words false = ¬ IsLimit words

-- the words are a command, apart from `limit`: one of those that `top_alone` does, or that of the
-- workers of plans
abbrev pub IsCommand : List (List ℕ) → Type 0
IsCommand words = alone.IsCommand words ⊎ IsSomeWork words

-- the words are those of a command that reads a plan
abbrev pub ReadsPlan : List (List ℕ) → Type 0
ReadsPlan words = IsRun words ⊎ IsSomeWork words

-- the words ask for so many workers, or for none
abbrev pub IsWorkOf : List (List ℕ) → Option ℕ → Type 0
IsWorkOf words (Some workers) = IsWork workers words
IsWorkOf words None = ¬ IsSomeWork words
