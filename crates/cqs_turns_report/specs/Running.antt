-- What holds of the machine between two turns of jobs.
use Rattle.std.specs.Prelude.{◌≡◌, ℕ, ◌+◌, ◌-◌, ◌≤◌, nat_lt, List, [], ◌∷◌, Some, length, map, take, count_by, slice_get, slice_index_or}
use Rattle.std.specs.Option.{option_map_or}
use Rattle.cqs_plan.specs.declared.plans.job.Job.{Job}
use Rattle.cqs_plan.specs.declared.plans.plan.Plan.{Plan}
use Rattle.cqs_plan.specs.declared.plans.kind.Kind.TheVariants.{Rounds}
use Rattle.cqs_plan.specs.declared.plans.step.Step.{Step}
use Rattle.cqs_plan.specs.PlanSteps.{is_arrival, may_wait}
use Rattle.cqs_plan.specs.Runnable.{kinds_of}
use Rattle.cqs_barrier_object.specs.declared.entries.BarrierEntry.{BarrierEntry}
use Rattle.cqs_plan.specs.FloorHistory.{History, of_rounds}
use Rattle.cqs_plan.specs.Floor.{PlainFloor, history_at, room_at, round_of, times_at, to_come_at}
use Rattle.cqs_turns_report.specs.declared.states.JobState.{JobState}
use Rattle.cqs_turns_report.specs.declared.states.Progress.{Progress}
use Rattle.cqs_turns_report.specs.declared.states.Progress.TheVariants.{Stepping, Working, Waiting, Ended}
use Rattle.cqs_turns_report.specs.declared.states.Patience.{Patience}
use Rattle.cqs_turns_report.specs.Ready.{IsReady, IsBackIn, wait_in, steps_left}
use Rattle.cqs_turns_report.specs.Turns.{Machine, fresh, one_job, places_held}

-- how many takes of a resource, waits or arrivals there the jobs have still to make
abbrev pub waits_left : ℕ → List Job → List Progress → ℕ
waits_left at [] progress = 0
waits_left at (job ∷ jobs) [] = 0
waits_left at (job ∷ jobs) (p ∷ progress) =
    count_by (may_wait at) (steps_left job.steps p) + waits_left at jobs progress

-- how many retries the jobs have left that have a step at a resource
abbrev pub retries_left : ℕ → List Job → List Patience → ℕ
retries_left at [] patience = 0
retries_left at (job ∷ jobs) [] = 0
retries_left at (job ∷ jobs) (p ∷ patience) =
    times_at at job (job.retry - p.used) + retries_left at jobs patience

-- how many jobs have arrived in a round of a barrier
abbrev pub count_arrived : PlainFloor → ℕ → ℕ → ℕ
count_arrived f at round = count_by (λ rounds. nat_lt round (slice_index_or rounds at 0)) f.rounds

-- so many rounds have a history
pub record HasRounds (rounds : ℕ) (history : History) : Type 0 where
  pub all : List (List BarrierEntry)
  pub is : history ≡ of_rounds all
  pub many : rounds ≤ length all

-- each round of a barrier has its history, and those still to come and those that have arrived are
-- all its parties, or more
pub record HasParties (f : PlainFloor) : Type 0 where
  pub there : (at parties rounds : ℕ) → slice_get f.kinds at ≡ Some (Rounds parties rounds)
      → HasRounds rounds (history_at f at)
  pub all : (at round parties rounds : ℕ)
      → slice_get f.kinds at ≡ Some (Rounds parties rounds)
      → parties ≤ to_come_at f at round + count_arrived f at round

-- the job is in the rounds that its arrivals so far say; one that has ended is at most in the last
abbrev pub IsInRounds : PlainFloor → ℕ → List Step → Progress → Type 0
IsInRounds f place steps (Stepping next) =
    (at : ℕ) → round_of f place at ≡ count_by (is_arrival at) (take next steps)
IsInRounds f place steps (Working next until) =
    (at : ℕ) → round_of f place at ≡ count_by (is_arrival at) (take next steps)
IsInRounds f place steps (Waiting next at round number) =
    (at : ℕ) → round_of f place at ≡ count_by (is_arrival at) (take next steps)
IsInRounds f place steps (Ended end) =
    (at : ℕ) → round_of f place at ≤ count_by (is_arrival at) steps

-- every job is ready and in its rounds, and the floor has room for all that is left, and for the
-- retries
pub record IsRunning (plan : Plan) (m : Machine) : Type 0 where
  pub jobs : length m.progress ≡ length plan.jobs
  pub kinds : m.scene.floor.kinds ≡ kinds_of plan.resources
  pub ready : (place : ℕ) (job : Job) (p : Progress) → slice_get plan.jobs place ≡ Some job
      → slice_get m.progress place ≡ Some p
      → IsReady m.scene.floor place (wait_in p) (steps_left job.steps p)
  pub back : (place : ℕ) (job : Job) (p : Progress) → slice_get plan.jobs place ≡ Some job
      → slice_get m.progress place ≡ Some p → IsBackIn m.scene.floor place job.steps p
  pub patience : length m.patience ≡ length plan.jobs
  pub room : (at : ℕ) → waits_left at plan.jobs m.progress + retries_left at plan.jobs m.patience
      ≤ room_at m.scene.floor at
  pub rows : length m.scene.floor.rounds ≡ length plan.jobs
  pub rounds : (place : ℕ) (job : Job) (p : Progress) → slice_get plan.jobs place ≡ Some job
      → slice_get m.progress place ≡ Some p → IsInRounds m.scene.floor place job.steps p
  pub parties : HasParties m.scene.floor

-- the machine, as the code keeps it
abbrev pub machine_of : PlainFloor → List ℕ → List JobState → Machine
machine_of floor text states =
    record {
      scene = record { floor = floor; text = text };
      progress = map (λ state. state.progress) states;
      patience = map (λ state. state.patience) states;
    }

-- each state has the places of what the floor holds for the job
pub record IsKept (f : PlainFloor) (states : List JobState) : Type 0 where
  pub held : (place : ℕ) (state : JobState) → slice_get states place ≡ Some state
      → state.held.items ≡ places_held f place

-- the job at a place has its turn
abbrev pub turn_at : Plan → ℕ → ℕ → Machine → Machine
turn_at plan turn place m =
    option_map_or (λ job. one_job plan.resources turn place job m) (slice_get plan.jobs place) m

-- a job that has just begun
pub record IsOpening (state : JobState) : Type 0 where
  pub progress : state.progress ≡ Stepping 0
  pub patience : state.patience ≡ fresh
  pub held : state.held.items ≡ []

-- jobs that have just begun
pub record AreOpening (states : List JobState) : Type 0 where
  pub at : (place : ℕ) (state : JobState) → slice_get states place ≡ Some state → IsOpening state
