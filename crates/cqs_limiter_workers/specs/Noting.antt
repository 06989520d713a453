-- What a token of a shared list of outcomes shows, and what a gate was told.
use Rattle.std.specs.Prelude.{ℕ, ◌&&◌, Bool, List, [], ◌∷◌}
use Rattle.boxcar.specs.Table.{Shows}
use Rattle.cqs_limiter_requests.specs.declared.asks.LimitOutcome.{LimitOutcome}
use Rattle.cqs_limiter_workers.specs.declared.notes.Notes.{Notes}
use Rattle.cqs_limiter_workers.specs.declared.notes.Noted.{Noted}

-- the token is of this list
abbrev pub IsOf : Notes → Noted → Type 0
IsOf notes noted = Shows notes.list noted.pushed

-- all of these are
abbrev pub AreOf : Notes → List Noted → Type 0
AreOf notes [] = Unit {0}
AreOf notes (token ∷ tokens) = IsOf notes token × AreOf notes tokens

-- what was recorded under the token
abbrev pub noted_value : Noted → LimitOutcome
noted_value noted = noted.pushed.value

-- of which requests of a worker a gate was told, before and after
abbrev pub told_by : {G : Type 0} → (G → ℕ → ℕ → Bool) → (G → ℕ → ℕ → Bool) → G → ℕ → ℕ → Bool
told_by begun ended gate worker request = begun gate worker request && ended gate worker request
