-- What a worker has at hand.
use Rattle.std.specs.Prelude.{ℕ, Bool, List, [], ◌∷◌, ◌++◌, Option, Some, None}
use Rattle.cqs_plan.specs.declared.floors.answers.FloorTake.{FloorTake}
use Rattle.cqs_plan.specs.declared.floors.answers.FloorTake.TheVariants.{Now, Waits}
use Rattle.cqs_floor_shared.specs.Shared.{Shared}
use Rattle.cqs_work.specs.declared.waits.Waited.{Waited}
use Rattle.cqs_work.specs.Gated.{Gated}

-- its floor, the waits of its jobs so far, in the order in which they were told, and what it told
-- its gate
pub record Desk : Type 0 where
  pub floor : Shared
  pub waits : List Waited
  pub gate : Gated

abbrev pub desk : Shared → List Waited → Gated → Desk
desk floor waits gate = record { floor = floor; waits = waits; gate = gate }

-- before its first call, with a gate that is told of its calls so
abbrev pub fresh_desk : Shared → (ℕ → Bool) → Desk
fresh_desk floor told = desk floor [] (record { call = 0; told = told })

-- a job that came there, in this round, was answered so
abbrev pub with_answer : List Waited → ℕ → ℕ → ℕ → Option FloorTake → List Waited
with_answer waits at round job None = waits
with_answer waits at round job (Some (Now element)) = waits
with_answer waits at round job (Some (Waits number)) =
    waits ++ record { at = at; round = round; number = number; job = job } ∷ []
