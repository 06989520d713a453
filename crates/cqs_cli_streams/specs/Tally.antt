-- What a stream counts of its calls.
use Rattle.std.specs.Prelude.{◌≡◌, ℕ, ◌+◌, ◌≤◌, ◌||◌, ◌==◌, nat_lt, Result, Ok, Err, if◌then◌else◌}
use Rattle.cqs_cli_streams.specs.declared.streams.failed.Failed.{Failed}
use Rattle.cqs_cli_streams.specs.declared.streams.tally.Tally.{Tally}
use Rattle.cqs_cli_streams.specs.Counts.{raise}

-- before the first call
abbrev pub no_calls : Tally
no_calls = record { given = 0; stops = 0 }

-- how many bytes a call moved
abbrev pub bytes_of : Result ℕ Failed → ℕ
bytes_of (Ok count) = count
bytes_of (Err failed) = 0

-- after a call that moved so many bytes: it stops where it moved none, and where an earlier one
-- stopped
abbrev pub after_call : Tally → ℕ → Tally
after_call tally bytes = record {
  given = raise tally.given bytes;
  stops = if nat_lt 0 tally.stops || bytes == 0 then raise tally.stops 1 else tally.stops;
}

-- so many bytes were moved, and no call stopped
pub record GoesOn (count : ℕ) (old new : Tally) : Type 0 where
  pub given : new.given ≡ raise old.given count
  pub goes_on : old.stops ≡ 0 → new.stops ≡ 0

-- so many bytes were moved, and the last call alone stopped, if none did before
pub record StopsAfter (count : ℕ) (old new : Tally) : Type 0 where
  pub given : new.given ≡ raise old.given count
  pub stops : old.stops ≡ 0 → new.stops ≡ 1

-- at most so many bytes were moved, and the last call alone stopped, if none did before
pub record StopsWithin (most : ℕ) (old new : Tally) : Type 0 where
  pub few : new.given ≤ old.given + most
  pub stops : old.stops ≡ 0 → new.stops ≡ 1
