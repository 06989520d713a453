-- What it means that workers have worked on a plan, and what their text is.
use Rattle.std.specs.Prelude.{◌≡◌, ℕ, List, length}
use Rattle.cqs_core.specs.Numbered.{EachAt}
use Rattle.cqs_plan.specs.declared.plans.plan.Plan.{Plan}
use Rattle.cqs_plan_reader.specs.PlanText.{IsPlanText}
use Rattle.cqs_floor_shared.specs.Shared.{Shared}
use Rattle.cqs_floor_shared_queue.specs.Openings.{AreLimits}
use Rattle.cqs_work.specs.declared.ends.JobEnd.{JobEnd}
use Rattle.cqs_work.specs.Opening.{AreSplit}
use Rattle.cqs_work.specs.Drawn.{AreFew}
use Rattle.cqs_work.specs.Worked.{AreBounded, AreQuiet, AreTold, AreUncrowded, AreWaits, HaveAllIn}
use Rattle.cqs_work.specs.declared.waits.WaitLine.{WaitLine}
use Rattle.cqs_cli_top.specs.WorkText.{work_text}

-- So many workers have worked on this plan. They began on floors that were split from one; what
-- their passes did is what the last floor has seen of them.
pub record HaveWorked (plan : Plan) (workers : ℕ) (ends : List JobEnd) (waits : List WaitLine)
    (last : Shared) : Type 0 where
  pub floors : List Shared
  pub split : AreSplit plan floors
  pub many : length floors ≡ workers
  -- at each resource the limit of each is above the takes, waits and arrivals that the plan has
  pub wide : EachAt (λ worker f. AreLimits plan f.limits) floors
  -- each job has one end
  pub one_each : length ends ≡ length plan.jobs
  -- for each worker there are answers to its calls, from which its jobs ended so, and whose entries
  -- are those of the histories that name its pass; and what stands behind an end as given up, late
  -- or crowded is in the histories
  pub told : AreTold plan floors last ends waits
  -- the waits at each semaphore are the numbers that were drawn there, in order, each with its job
  pub drawn : AreWaits floors last waits
  -- each worker's takes of a semaphore are at least those of its jobs that are done, and at most
  -- all take steps of its jobs
  pub bounds : AreBounded plan floors last ends
  -- at each resource no more numbers were drawn, at a barrier in one round, than the plan's jobs
  -- may begin to wait there; so no job is crowded
  pub few : AreFew plan last
  pub uncrowded : AreUncrowded plan ends
  -- at each semaphore and mutex nothing is held, on its way, at the door or in line, and at each
  -- pool no element is held and nobody is in line
  pub quiet : AreQuiet last
  -- so many floors have met in the last one, what happened is legal and names no pass but those of
  -- the workers, and no job waits or holds anything
  pub met : HaveAllIn plan workers last

-- the bytes are a plan, and the text is that of so many workers who have worked on it
pub record IsWorkText (bytes : List ℕ) (workers : ℕ) (text : List ℕ) : Type 0 where
  pub plan : Plan
  pub says : IsPlanText bytes plan
  pub ends : List JobEnd
  pub waits : List WaitLine
  pub last : Shared
  pub worked : HaveWorked plan workers ends waits last
  pub made : text ≡ work_text plan ends waits last
