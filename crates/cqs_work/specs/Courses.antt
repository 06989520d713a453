-- How a worker's jobs go on from turn to turn, together.
use Rattle.std.specs.Prelude.{◌≡◌, ℕ, ◌+◌, ◌≤◌, Bool, List, ◌++◌, All, Some, length, slice_get, if◌then◌else◌}
use Rattle.cqs_plan.specs.declared.plans.job.Job.{Job}
use Rattle.cqs_plan.specs.declared.plans.plan.Plan.{Plan}
use Rattle.cqs_plan.specs.Floor.{room_at}
use Rattle.cqs_floor_shared.specs.Shared.{kind_at}
use Rattle.cqs_work.specs.declared.waits.Waited.{Waited}
use Rattle.cqs_work.specs.Desk.{Desk}
use Rattle.cqs_work.specs.Needs.{room_needed, sum_of_needs}
use Rattle.cqs_work.specs.Noted.{HasPermits, IsNoted}
use Rattle.cqs_work.specs.Takes.{takes_made, takes_left, took}
use Rattle.cqs_work.specs.Causes.{IsCaused}
use Rattle.cqs_work.specs.Adds.{IsOver}
use Rattle.cqs_work.specs.Stages.{Stage, retries_for}
use Rattle.cqs_plan.specs.PlanSteps.{is_take}

-- what stands behind how far each job is
pub record AreCaused (plan : Plan) (d : Desk) (stages : List Stage) : Type 0 where
  pub at : (place : ℕ) (job : Job) (s : Stage) → slice_get plan.jobs place ≡ Some job
      → slice_get stages place ≡ Some s → IsCaused job place d s.progress

-- there is a job at a place, which hasn't ended
pub record GoesOn (stages : List Stage) (place : ℕ) : Type 0 where
  pub s : Stage
  pub there : slice_get stages place ≡ Some s
  pub going : IsOver s.progress → ⊥

-- how many takes a job has made, where it is one of these; and how many it may still make, with all
-- retries
abbrev pub made_by : (ℕ → Bool) → ℕ → ℕ → Job → Stage → ℕ
made_by mine at place job s = if mine place then takes_made at job.steps s.progress else 0

abbrev pub left_by : ℕ → ℕ → Job → Stage → ℕ
left_by at place job s = takes_left at job.steps s.progress + retries_for (is_take at) job s

-- The jobs came from as far as `before` to as far as `now`. More waits were told to jobs that
-- hadn't ended; the takes of the pass are at least those that any of the jobs made, and at most
-- those that all could make. The room fell by no more than what all have need of no more.
pub record Went (plan : Plan) (f : Desk) (before : List Stage) (g : Desk) (now : List Stage)
    : Type 0 where
  pub long : length now ≡ length before
  pub more : List Waited
  pub waits : g.waits ≡ f.waits ++ more
  pub whose : All (λ wait. GoesOn before wait.job) more
  pub over : (place : ℕ) (s : Stage) → slice_get before place ≡ Some s → IsOver s.progress
      → (q : Stage) × (slice_get now place ≡ Some q) × (q.progress ≡ s.progress)
  pub noted : IsNoted f → IsNoted g
  pub least : IsNoted f → (mine : ℕ → Bool) (at : ℕ) → HasPermits (kind_at f.floor at)
      → took f.floor at + sum_of_needs (made_by mine at) 0 plan.jobs now
      ≤ took g.floor at + sum_of_needs (made_by mine at) 0 plan.jobs before
  pub most : IsNoted f → (at : ℕ) → HasPermits (kind_at f.floor at)
      → took g.floor at + sum_of_needs (left_by at) 0 plan.jobs now
      ≤ took f.floor at + sum_of_needs (left_by at) 0 plan.jobs before
  pub caused : IsNoted f → AreCaused plan f before → AreCaused plan g now
  pub room : (at : ℕ)
      → room_at f.floor.board at + sum_of_needs (room_needed at) 0 plan.jobs now
      ≤ room_at g.floor.board at + sum_of_needs (room_needed at) 0 plan.jobs before
