-- The input of a command that reads.
use Rattle.std.specs.Prelude.{ℕ, ◌≤◌, List, [], length, Option}
use Rattle.cqs_cli_streams.specs.Stream.{IsAll}
use Rattle.cqs_cli_streams.specs.declared.streams.reading.TheConstants.{LONGEST_INPUT}

-- these bytes are the input: all that the source had, read to its end, and not too many
pub record IsInput (bytes : List ℕ) (left after : Option (List ℕ)) : Type 0 where
  pub whole : IsAll bytes left
  pub ended : IsAll [] after
  pub few : length bytes ≤ LONGEST_INPUT
