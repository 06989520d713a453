-- What the calls of a job add to what its worker has at hand.
use Rattle.std.specs.Prelude.{◌≡◌, ◌≢◌, ◌≤◌, ℕ, List, [], ◌++◌, All}
use Rattle.cqs_plan.specs.declared.plans.job.Job.{Job}
use Rattle.cqs_turns_report.specs.declared.states.Progress.{Progress}
use Rattle.cqs_turns_report.specs.declared.states.Progress.TheVariants.{Stepping, Working, Waiting, Ended}
use Rattle.cqs_plan.specs.Floor.{room_at}
use Rattle.cqs_floor_shared.specs.Shared.{kind_at, came_of}
use Rattle.cqs_work.specs.declared.waits.Waited.{Waited}
use Rattle.cqs_work.specs.Desk.{Desk}
use Rattle.cqs_work.specs.Noted.{HasPermits, IsNoted}
use Rattle.cqs_work.specs.Takes.{Tallies, took, TalliesInTurn}
use Rattle.cqs_work.specs.Causes.{IsCaused}
use Rattle.cqs_work.specs.Stages.{Stage}

-- the job has ended
abbrev pub IsOver : Progress → Type 0
IsOver (Stepping next) = ⊥
IsOver (Working next until) = ⊥
IsOver (Waiting next at round number) = ⊥
IsOver (Ended end) = Unit {0}

-- The job at `place` came from p to q, and was told more waits. One that had ended is as it was.
-- Of each semaphore and mutex it took so many.
pub record AddsSo (job : Job) (place : ℕ) (f : Desk) (p : Progress) (g : Desk) (q : Progress)
    (tallies : ℕ → Type 0) : Type 0 where
  pub more : List Waited
  pub waits : g.waits ≡ f.waits ++ more
  pub whose : All (λ wait. wait.job ≡ place) more
  pub over : IsOver p → (q ≡ p) × (more ≡ [])
  pub came : (j : ℕ) → j ≢ place → came_of g.floor j ≡ came_of f.floor j
  pub noted : IsNoted f → IsNoted g
  pub tally : IsNoted f → (at : ℕ) → HasPermits (kind_at f.floor at) → tallies at
  pub caused : IsNoted f → IsCaused job place f p → IsCaused job place g q

-- by steps
abbrev pub Adds : Job → ℕ → Desk → Progress → Desk → Progress → Type 0
Adds job place f p g q = AddsSo job place f p g q
    (λ at. Tallies at job.steps (took f.floor at) p (took g.floor at) q)

-- by a whole turn
abbrev pub AddsInTurn : Job → ℕ → Desk → Stage → Desk → Stage → Type 0
AddsInTurn job place f s g q = AddsSo job place f s.progress g q.progress
    (λ at. TalliesInTurn at job (took f.floor at) s (took g.floor at) q)

-- a job made no step, was told no wait, and used up no room
pub record Keeps (f g : Desk) : Type 0 where
  pub waits : g.waits ≡ f.waits
  pub came : (j : ℕ) → came_of g.floor j ≡ came_of f.floor j
  pub noted : IsNoted f → IsNoted g
  pub tally : IsNoted f → (at : ℕ) → HasPermits (kind_at f.floor at)
      → took g.floor at ≡ took f.floor at
  pub room : (at : ℕ) → room_at f.floor.board at ≤ room_at g.floor.board at
