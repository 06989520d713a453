-- What the statuses of the program mean.
use Rattle.std.specs.Prelude.{ℕ, ◌⊎◌, List, length, Option}
use Rattle.cqs_cli_streams.specs.Stream.{Gains, GainsPrefix}
use Rattle.cqs_cli_streams.specs.Tally.{StopsWithin}
use Rattle.cqs_cli_streams.specs.declared.streams.tally.Tally.{Tally}
use Rattle.cqs_cli_streams.specs.Input.{IsInput}
use Rattle.cqs_cli.specs.Meanings as alone
use Rattle.cqs_cli.specs.Plans.{IsFaultLine}
use Rattle.cqs_cli_top.specs.Words.{IsSomeWork, IsWork}
use Rattle.cqs_cli_top.specs.Working.{IsWorkText}

-- the input was a plan, and the sink took the whole text of what so many workers left of it
pub record WorkTold (workers : ℕ) (left after held now : Option (List ℕ)) : Type 0 where
  pub bytes : List ℕ
  pub input : IsInput bytes left after
  pub text : List ℕ
  pub worked : IsWorkText bytes workers text
  pub written : Gains text held now

-- the sink took what the command's words ask for: a report, a summary, or the text of what workers
-- left
abbrev pub HasTold : List (List ℕ) → Option (List ℕ) → Option (List ℕ) → Option (List ℕ)
    → Option (List ℕ) → Type 0
HasTold words left after held now =
    alone.HasTold words left after held now
    ⊎ ((workers : ℕ) × (IsWork workers words × WorkTold workers left after held now))

-- the text that an input calls for, where so many workers are asked for
abbrev pub IsWorkDue : ℕ → Option (List ℕ) → Option (List ℕ) → List ℕ → Type 0
IsWorkDue workers left after text =
    (bytes : List ℕ)
    × IsInput bytes left after × (IsWorkText bytes workers text ⊎ IsFaultLine bytes text)

-- the sink took a prefix of it, and then it failed
pub record WorkBroke (workers : ℕ) (left after held now : Option (List ℕ)) (old new : Tally)
    : Type 0 where
  pub text : List ℕ
  pub due : IsWorkDue workers left after text
  pub prefix : GainsPrefix text held now
  pub counted : StopsWithin (length text) old new

-- the sink took a prefix of the text that the words and the input call for
abbrev pub BrokeOff : List (List ℕ) → Option (List ℕ) → Option (List ℕ) → Option (List ℕ)
    → Option (List ℕ) → Tally → Tally → Type 0
BrokeOff words left after held now old new =
    ((¬ IsSomeWork words) × alone.BrokeOff words left after held now old new)
    ⊎ ((workers : ℕ) × (IsWork workers words × WorkBroke workers left after held now old new))
