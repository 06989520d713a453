-- The faults that a stream in memory is told to make, for tests: which calls fail.
use Rattle.std.specs.Prelude.{ℕ, List, Contains}
use Rattle.cqs_cli_streams.specs.Counts.{raise}

-- the numbers of the calls that fail, from 1; how many calls were made; how many of them failed
pub record Script : Type 0 where
  pub failing : List ℕ
  pub calls : ℕ
  pub faults : ℕ

-- the next call is one that fails
abbrev pub IsFailing : Script → Type 0
IsFailing script = Contains script.failing (raise script.calls 1)

-- after a call that went well
abbrev pub with_call : Script → Script
with_call script = record script { calls = raise script.calls 1 }

-- after a call that failed
abbrev pub after_fault : Script → Script
after_fault script =
    record script { calls = raise script.calls 1; faults = raise script.faults 1 }
