-- What workers leave of a plan.
use Rattle.std.specs.Prelude.{◌≡◌, ◌≢◌, ℕ, ◌%◌, ◌<◌, ◌≤◌, ◌==◌, ◌&&◌, Bool, List, ◌++◌, true, [], length, map, AllPairs, Some, Result, Ok, slice_get, slice_index_or}
use Rattle.cqs_core.specs.Numbered.{EachAt}
use Rattle.cqs_core.specs.SemaphoreEntries.{object_after}
use Rattle.cqs_core.specs.declared.Memory.{Memory}
use Rattle.cqs_pool_object.specs.PoolEntries.{object_after as pool_after}
use Rattle.cqs_plan.specs.declared.plans.kind.Kind.{Kind}
use Rattle.cqs_plan.specs.declared.plans.kind.Kind.TheVariants as kind
use Rattle.cqs_plan.specs.declared.plans.job.Job.{Job}
use Rattle.cqs_plan.specs.declared.plans.plan.Plan.{Plan}
use Rattle.cqs_plan.specs.FloorHistory.{History, of_permits, of_elements, of_latch, of_rounds}
use Rattle.cqs_plan.specs.Runnable.{kinds_of}
use Rattle.cqs_turns_report.specs.declared.states.JobState.{JobState}
use Rattle.cqs_floor_shared.specs.Calls.{HaveAllMet, IsAtRest}
use Rattle.cqs_floor_shared.specs.Entries.{own_history}
use Rattle.cqs_floor_shared.specs.Shared.{Shared, IsLegalAt, kind_at, seen_at}
use Rattle.cqs_work.specs.declared.ends.JobEnd.{JobEnd}
use Rattle.cqs_work.specs.declared.ends.JobEnd.TheVariants.{Crowded, Unfinished}
use Rattle.cqs_work.specs.declared.waits.WaitLine.{WaitLine}
use Rattle.cqs_work.specs.declared.waits.Waited.{Waited}
use Rattle.cqs_work.specs.declared.works.Worker.{Worker}
use Rattle.cqs_work.specs.Accounts.{sum_in}
use Rattle.cqs_work.specs.Causes.{HasCause}
use Rattle.cqs_work.specs.Desk.{Desk, desk}
use Rattle.cqs_work.specs.Ends.{job_end, is_done}
use Rattle.cqs_work.specs.Gated.{calls_on, untold}
use Rattle.cqs_work.specs.Noted.{Draw, draws_in, HasPermits}
use Rattle.cqs_work.specs.Rows.{WasTold, lines_at}
use Rattle.cqs_work.specs.Takes.{takes, take_steps, take_tries}
use Rattle.cqs_work.specs.Even.{IsQuiet, IsQuietPool}
use Rattle.cqs_work.specs.Heard.{Heard, Answer, heard}
use Rattle.cqs_work.specs.Later.{IsUnnamed}
use Rattle.cqs_work.specs.Opening.{dealt}
use Rattle.cqs_work.specs.Works.{turns_of, machine_so, close_all}
use Rattle.cqs_work.specs.Stages.{Stage, stages_of, progress_at}

-- one of several workers had memory; its floor, its states and its waits stand at its place
pub record IsParted {F : Type 0} (i : ℕ) (r : Result (Worker F) Memory) (floors : List F)
    (states : List (List JobState)) (waits : List (List Waited)) : Type 0 where
  pub worker : Worker F
  pub is : r ≡ Ok worker
  pub floor : slice_get floors i ≡ Some worker.floor
  pub own : slice_get states i ≡ Some worker.states.items
  pub told : slice_get waits i ≡ Some worker.waits.items

-- and so had each
pub record AreParted {F : Type 0} (workers : List (Result (Worker F) Memory)) (floors : List F)
    (states : List (List JobState)) (waits : List (List Waited)) : Type 0 where
  pub floors_long : length floors ≡ length workers
  pub states_long : length states ≡ length workers
  pub waits_long : length waits ≡ length workers
  pub each : EachAt (λ i r. IsParted i r floors states waits) workers

-- each job ended as the worker says that had it
pub record AreEnds (jobs : ℕ) (states : List (List JobState)) (ends : List JobEnd) : Type 0 where
  pub long : length ends ≡ jobs
  pub at : (place : ℕ) → place < jobs → (own : List JobState)
      → slice_get states (place % length states) ≡ Some own
      → slice_get ends place ≡ Some (job_end (progress_at (stages_of own) place))

-- the pass of the worker that has a job
abbrev pub pass_of : List Shared → ℕ → ℕ
pass_of floors job = slice_index_or (map (λ f. f.number) floors) (job % length floors) 0

-- a wait, as a number that this pass drew
abbrev pub draw_of_line : List Shared → WaitLine → Draw
draw_of_line floors line = record { pass = pass_of floors line.job; number = line.number }

-- The waits at a plan's semaphores, those of each together. At each they are the numbers that were
-- drawn there, in order, each with a job of the worker whose pass drew it.
pub record AreWaits (floors : List Shared) (final : Shared) (lines : List WaitLine) : Type 0 where
  pub in_order : AllPairs (λ one other. one.at ≤ other.at) lines
  pub entered : (at permits : ℕ) → kind_at final at ≡ Some (kind.Semaphore permits)
      → map (draw_of_line floors) (lines_at at lines) ≡ draws_in (seen_at final at)
  pub only : (k : ℕ) (line : WaitLine) → slice_get lines k ≡ Some line
      → (permits : ℕ) × (kind_at final line.at ≡ Some (kind.Semaphore permits))

-- how the job at a place ended
abbrev pub end_at : List JobEnd → ℕ → JobEnd
end_at ends place = slice_index_or ends place Unfinished

-- the jobs of a worker, and those of them that are done
abbrev pub is_own : ℕ → ℕ → ℕ → Bool
is_own workers worker place = place % workers == worker

abbrev pub is_own_done : ℕ → ℕ → List JobEnd → ℕ → Bool
is_own_done workers worker ends place =
    is_own workers worker place && is_done (end_at ends place)

-- Of each worker and each semaphore and mutex: the takes that its pass made are at least the take
-- steps of its jobs that are done, and at most those of all its jobs with the retries of those that
-- take there.
pub record AreBounded (plan : Plan) (floors : List Shared) (final : Shared) (ends : List JobEnd)
    : Type 0 where
  pub at : (worker : ℕ) (f : Shared) (at : ℕ) → slice_get floors worker ≡ Some f
      → HasPermits (kind_at final at)
      → (take_steps (is_own_done (length floors) worker ends) at 0 plan.jobs
      ≤ sum_in takes f.number (seen_at final at))
      × (sum_in takes f.number (seen_at final at)
      ≤ take_tries (is_own (length floors) worker) at 0 plan.jobs)

-- no job is crowded
abbrev pub AreUncrowded : Plan → List JobEnd → Type 0
AreUncrowded plan ends =
    (place : ℕ) → place < length plan.jobs → end_at ends place ≢ Crowded

-- what a worker's pass would have seen, had it seen all
abbrev pub seeing_all : Shared → Shared → Heard → Desk
seeing_all f final h =
    desk (record final { number = f.number; limits = f.limits; came = h.came }) h.waits untold

-- Of one worker: there are the answers to the calls of its turns and of those after the last turn,
-- one for each call, from which the machine leaves the jobs so far, and its own have these ends.
-- For each resource the entries of these answers are, in order, those of the history that name its
-- pass. Each wait of one of its jobs is one that the job was told by an answer; and what stands
-- behind the end of each is in the histories.
pub record IsTold (plan : Plan) (workers worker : ℕ) (f final : Shared) (ends : List JobEnd)
    (lines : List WaitLine) : Type 0 where
  pub answers : List Answer
  pub after_last : List Answer
  pub stages : List Stage
  pub mid : Heard
  pub end : Heard
  pub turns : turns_of plan plan.turns (dealt plan workers worker)
      (heard (desk f [] untold) (answers ++ after_last)) ≡ machine_so stages mid
  pub closing : close_all plan stages mid ≡ end
  pub all_used : end.answers ≡ []
  pub of_its_kind : end.fits ≡ true
  pub entries : (at : ℕ)
      → slice_index_or end.entries at (of_permits []) ≡ own_history f.number (seen_at final at)
  pub own_ends : (place : ℕ) → place < length plan.jobs → place % workers ≡ worker
      → slice_get ends place ≡ Some (job_end (progress_at stages place))
  pub waits : (k : ℕ) (line : WaitLine) → slice_get lines k ≡ Some line
      → line.job % workers ≡ worker → WasTold end.waits line.at line.number line.job
  pub causes : (place : ℕ) (job : Job) → slice_get plan.jobs place ≡ Some job
      → place % workers ≡ worker → HasCause job place (seeing_all f final end) (end_at ends place)

-- of each worker
abbrev pub AreTold : Plan → List Shared → Shared → List JobEnd → List WaitLine → Type 0
AreTold plan floors final ends lines =
    EachAt (λ worker f. IsTold plan (length floors) worker f final ends lines) floors

-- Of one worker, whose gate was told of its calls as `told` says: it was told of each of them,
-- before the call was made and after, by the numbers from 1 on.
pub record IsGated (plan : Plan) (workers worker : ℕ) (f final : Shared) (ends : List JobEnd)
    (lines : List WaitLine) (told : ℕ → Bool) : Type 0 where
  pub by_answers : IsTold plan workers worker f final ends lines
  pub each : (call : ℕ) → 0 < call
      → call ≤ calls_on (length (by_answers.answers ++ by_answers.after_last)) 0
      → told call ≡ true

-- of each worker
abbrev pub AreGated : Plan → List Shared → Shared → List JobEnd → List WaitLine → (ℕ → ℕ → Bool)
    → Type 0
AreGated plan floors final ends lines told =
    EachAt (λ worker f. IsGated plan (length floors) worker f final ends lines (told worker)) floors

-- A resource is quiet: of a semaphore or a mutex nothing is held, on its way, at the door or in the
-- line, and of a pool nothing is held or in the line.
abbrev pub IsQuietAt : Kind → History → Type 0
IsQuietAt (kind.Semaphore permits) (of_permits h) = IsQuiet (object_after permits h)
IsQuietAt kind.Mutex (of_permits h) = IsQuiet (object_after 1 h)
IsQuietAt (kind.Pool elements) (of_elements h) = IsQuietPool (pool_after elements h)
IsQuietAt (kind.Latch count) h = Unit {0}
IsQuietAt (kind.Rounds parties rounds) h = Unit {0}
IsQuietAt (kind.Semaphore permits) (of_elements h) = ⊥
IsQuietAt (kind.Semaphore permits) (of_latch h) = ⊥
IsQuietAt (kind.Semaphore permits) (of_rounds all) = ⊥
IsQuietAt kind.Mutex (of_elements h) = ⊥
IsQuietAt kind.Mutex (of_latch h) = ⊥
IsQuietAt kind.Mutex (of_rounds all) = ⊥
IsQuietAt (kind.Pool elements) (of_permits h) = ⊥
IsQuietAt (kind.Pool elements) (of_latch h) = ⊥
IsQuietAt (kind.Pool elements) (of_rounds all) = ⊥

pub record AreQuiet (f : Shared) : Type 0 where
  pub at : (at : ℕ) (k : Kind) → kind_at f at ≡ Some k → IsQuietAt k (seen_at f at)

-- All floors have met in this one, over the plan's resources; no job waits or holds anything, and
-- no entry names a pass that is none of the workers'.
pub record HaveAllIn (plan : Plan) (workers : ℕ) (g : Shared) : Type 0 where
  pub kinds : g.board.kinds ≡ kinds_of plan.resources
  pub met : HaveAllMet g
  pub floors : g.floors ≡ workers
  pub rest : IsAtRest g.board
  pub legal : (at : ℕ) → IsLegalAt g.board at (seen_at g at)
  pub only : (at n : ℕ) → workers ≤ n → IsUnnamed n (seen_at g at)
