-- What a worker told its gate.
use Rattle.std.specs.Prelude.{◌≡◌, ℕ, zero, suc, ◌+◌, ◌-◌, ◌^◌, ◌<◌, ◌≤◌, ◌&&◌, Bool, true, false, min}

-- the number of the worker's last call, 0 where it made none; and the calls, by their numbers, of
-- which its gate was told before they were made and after
pub record Gated : Type 0 where
  pub call : ℕ
  pub told : ℕ → Bool

-- the number of the call after this one; the last number that there is stands still
abbrev pub next_call : ℕ → ℕ
next_call call = min (call + 1) (2 ^ 32 - 1)

-- and of the last of so many more calls
abbrev pub calls_on : ℕ → ℕ → ℕ
calls_on zero call = call
calls_on (suc more) call = calls_on more (next_call call)

-- so many calls later, of each of which the same gate was told
pub record HasTold (f g : Gated) (more : ℕ) : Type 0 where
  pub same : g.told ≡ f.told
  pub call : g.call ≡ calls_on more f.call
  pub each : (call : ℕ) → f.call < call → call ≤ g.call → f.told call ≡ true

-- of which calls of a worker a gate was told, before and after
abbrev pub told_by : {G : Type 0} → (G → ℕ → ℕ → Bool) → (G → ℕ → ℕ → Bool) → G → ℕ → ℕ → Bool
told_by begun ended gate worker call = begun gate worker call && ended gate worker call

-- a worker that is at this call, with this gate
abbrev pub gated : {G : Type 0} → (G → ℕ → ℕ → Bool) → (G → ℕ → ℕ → Bool) → G → ℕ → ℕ → Gated
gated begun ended gate worker call =
    record { call = call; told = told_by begun ended gate worker }

-- nothing was told
abbrev pub untold : Gated
untold = record { call = 0; told = λ call. false }
