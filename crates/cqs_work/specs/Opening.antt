-- How a plan's jobs are dealt to workers, and how the floor of each begins.
use Rattle.std.specs.Prelude.{◌≡◌, ◌≢◌, ◌⊎◌, ℕ, ◌%◌, ◌==◌, ◌<◌, ◌≤◌, List, [], length, map, AllPairs, Some, true, slice_get, if◌then◌else◌}
use Rattle.std.specs.List.{range_with_len}
use Rattle.cqs_core.specs.Numbered.{EachAt}
use Rattle.cqs_plan.specs.declared.plans.plan.Plan.{Plan}
use Rattle.cqs_plan.specs.Floor.{opening_floor}
use Rattle.cqs_plan.specs.Runnable.{kinds_of}
use Rattle.cqs_turns_report.specs.declared.states.End.TheVariants as end
use Rattle.cqs_turns_report.specs.declared.states.JobState.{JobState}
use Rattle.cqs_turns_report.specs.declared.states.Progress.{Progress}
use Rattle.cqs_turns_report.specs.declared.states.Progress.TheVariants.{Stepping, Ended}
use Rattle.cqs_floor_shared.specs.Entries.{own_history, is_nothing}
use Rattle.cqs_floor_shared.specs.Shared.{Shared, IsLegalAt, seen_at}
use Rattle.cqs_work.specs.Needs.{AreProvided}
use Rattle.cqs_work.specs.declared.works.Post.{Post}
use Rattle.cqs_work.specs.Stages.{Stage, stage}
use Rattle.cqs_turns_report.specs.Machine.{fresh}

-- how far the job at a place is to a worker that hasn't begun: for it the others' jobs have ended
abbrev pub starting : ℕ → ℕ → ℕ → Progress
starting workers worker place = if place % workers == worker then Stepping 0 else Ended end.Done

-- with nothing of its patience used up; and each job
abbrev pub starting_stage : ℕ → ℕ → ℕ → Stage
starting_stage workers worker place = stage (starting workers worker place) fresh

abbrev pub dealt : Plan → ℕ → ℕ → List Stage
dealt plan workers worker =
    map (starting_stage workers worker) (range_with_len 0 (length plan.jobs))

-- the same, as the code keeps it
pub record IsStarting (workers worker place : ℕ) (state : JobState) : Type 0 where
  pub progress : state.progress ≡ starting workers worker place
  pub patience : state.patience ≡ fresh
  pub held : state.held.items ≡ []

pub record AreStarting (jobs workers worker : ℕ) (states : List JobState) : Type 0 where
  pub long : length states ≡ jobs
  pub each : EachAt (λ place state. IsStarting workers worker place state) states

-- The floor of one of so many workers, before any call: its pass has the worker's number, no job
-- waits or holds anything, and each is in the first round of each barrier. What its pass has seen
-- is legal, and names neither this pass nor one that no floor has. It has room for the steps and
-- the retries of the worker's own jobs, and a party for each of their arrivals.
pub record IsOpening (plan : Plan) (workers worker : ℕ) (f : Shared) : Type 0 where
  pub kinds : f.board.kinds ≡ kinds_of plan.resources
  pub waits : f.board.waits ≡ (opening_floor plan).waits
  pub holds : f.board.holds ≡ (opening_floor plan).holds
  pub rounds : f.board.rounds ≡ (opening_floor plan).rounds
  pub provided : AreProvided f plan.jobs (dealt plan workers worker)
  pub long : length f.seen ≡ length plan.resources
  pub legal : (at : ℕ) → IsLegalAt f.board at (seen_at f at)
  pub unnamed : (at n : ℕ) → (n ≡ f.number) ⊎ (workers ≤ n)
      → is_nothing (own_history n (seen_at f at)) ≡ true
  pub number : f.number ≡ worker
  pub met : f.met ≡ []
  pub floors : f.floors ≡ workers

-- 1 to 16 floors, one for each worker, which have one name in common, as those have that were
-- split from one: no two have the same number
pub record AreSplit (plan : Plan) (floors : List Shared) : Type 0 where
  pub some : 0 < length floors
  pub few : length floors ≤ 16
  pub each : EachAt (λ worker f. IsOpening plan (length floors) worker f) floors
  pub family : List (List (List ℕ))
  pub kin : EachAt (λ worker f. f.family ≡ family) floors
  pub apart : AllPairs (λ f g. f.number ≢ g.number) floors

-- a post for each floor, in order
pub record ArePosts {F : Type 0} (jobs workers : ℕ) (floors : List F) (posts : List (Post F))
    : Type 0 where
  pub long : length posts ≡ length floors
  pub its_floor : (i : ℕ) (post : Post F) → slice_get posts i ≡ Some post
      → slice_get floors i ≡ Some post.floor
  pub states : EachAt (λ worker post. AreStarting jobs workers worker post.states.items) posts
  pub numbers : EachAt (λ worker post. post.worker ≡ worker) posts
