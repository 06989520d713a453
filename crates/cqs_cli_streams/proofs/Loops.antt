-- What the loops that read and write keep from turn to turn.
use Rattle.std.proofs.Common.{◌≡◌, ℕ, ◌≤◌, List, length, take, Option}
use Rattle.cqs_cli_streams.specs.Stream.{Gives, Gains}

-- the bytes so far are what the source gave, and no fault came
pub record HasRead (bytes : List ℕ) (left now : Option (List ℕ)) (before after : ℕ) : Type 0 where
  pub few : length bytes ≤ 1048576
  pub given : Gives bytes left now
  pub fine : after ≡ before

-- the sink took just this prefix of the text, and no fault came
pub record HasWritten (text : List ℕ) (done : ℕ) (held now : Option (List ℕ)) (before after : ℕ) : Type 0 where
  pub within : done ≤ length text
  pub taken : Gains (take done text) held now
  pub fine : after ≡ before
