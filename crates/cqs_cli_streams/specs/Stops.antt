-- How many reads stopped in the reading of an input, where none did before.
use Rattle.std.specs.Prelude.{ℕ, Result, Ok, Err}
use Rattle.cqs_cli_streams.specs.declared.streams.reading.ReadError.{ReadError}
use Rattle.cqs_cli_streams.specs.declared.streams.reading.ReadError.TheVariants as stop

-- the last one, at the end or a fault; and none where memory ran out or the input was too long
abbrev pub stops_of : {T : Type 0} → Result T ReadError → ℕ
stops_of (Ok bytes) = 1
stops_of (Err stop.Failed) = 1
stops_of (Err stop.Memory) = 0
stops_of (Err stop.TooLong) = 0
