-- What stands behind the end of a job that isn't done.
use Rattle.std.specs.Prelude.{◌≡◌, ◌⊎◌, ℕ, ◌==◌, ◌≤◌, true, List, Option, Some, None, IsSome, slice_index, if◌then◌else◌}
use Rattle.std.specs.List.{fold}
use Rattle.cqs_core.specs.Numbered.{IsIn}
use Rattle.cqs_core.specs.declared.entries.Entry.TheVariants as permit
use Rattle.cqs_pool_object.specs.declared.entries.PoolEntry.TheVariants as element
use Rattle.cqs_latch_object.specs.declared.entries.LatchEntry.TheVariants as latch
use Rattle.cqs_barrier_object.specs.declared.entries.BarrierEntry.TheVariants as party
use Rattle.cqs_plan.specs.declared.plans.job.Job.{Job}
use Rattle.cqs_plan.specs.declared.plans.step.Step.{Step}
use Rattle.cqs_plan.specs.FloorHistory.{History, of_permits, of_elements, of_latch, of_rounds, entries_in}
use Rattle.cqs_plan.specs.PlanSteps.{may_wait}
use Rattle.cqs_turns_report.specs.declared.states.End.{End}
use Rattle.cqs_turns_report.specs.declared.states.End.TheVariants as end
use Rattle.cqs_turns_report.specs.declared.states.Progress.{Progress}
use Rattle.cqs_turns_report.specs.declared.states.Progress.TheVariants.{Stepping, Working, Waiting, Ended}
use Rattle.cqs_floor_shared.specs.Entries.{drawn_in, IsDelivered}
use Rattle.cqs_floor_shared.specs.Shared.{kind_at, seen_at, came_of}
use Rattle.cqs_work.specs.declared.waits.Waited.{Waited}
use Rattle.cqs_work.specs.declared.ends.JobEnd.{JobEnd}
use Rattle.cqs_work.specs.declared.ends.JobEnd.TheVariants.{Done, GaveUp, Late, Crowded, Unfinished}
use Rattle.cqs_work.specs.Desk.{Desk}

-- the last wait that a job was told
abbrev pub last_wait : ℕ → List Waited → Option Waited
last_wait job waits =
    fold (λ last wait. if wait.job == job then Some wait else last) None waits

-- the pass c left the line with its wait of the number k; from a round of a barrier it withdrew
abbrev pub HasLeftLine : History → ℕ → ℕ → ℕ → Type 0
HasLeftLine (of_permits h) round c k = IsIn (permit.Leave c k) h
HasLeftLine (of_elements h) round c k = IsIn (element.Leave c k) h
HasLeftLine (of_latch h) round c k = IsIn (latch.Leave c k) h
HasLeftLine (of_rounds all) round c k = IsIn (party.Withdraw c k) (entries_in all round)

-- it was too late for that; in a round of a barrier it may have had to stay
abbrev pub WasTooLate : History → ℕ → ℕ → ℕ → Type 0
WasTooLate (of_permits h) round c k = IsIn (permit.Late c k) h
WasTooLate (of_elements h) round c k = (e : ℕ) × IsIn (element.Late c k e) h
WasTooLate (of_latch h) round c k = IsIn (latch.Late c k) h
WasTooLate (of_rounds all) round c k =
    IsIn (party.Late c k) (entries_in all round) ⊎ IsIn (party.Stay c k) (entries_in all round)

-- what the number k waits for was delivered
abbrev pub WasServed : History → ℕ → ℕ → Type 0
WasServed h round k = (e : ℕ) × IsDelivered h round k e

-- why a job ended so that wanted to leave the line with this wait
abbrev pub IsCauseOf : ℕ → ℕ → ℕ → ℕ → Desk → End → Type 0
IsCauseOf place at round number d end.GaveUp =
    HasLeftLine (seen_at d.floor at) round d.floor.number number
IsCauseOf place at round number d end.Late =
    WasTooLate (seen_at d.floor at) round d.floor.number number
    ⊎ ((came_of d.floor place ≡ true) × WasServed (seen_at d.floor at) round number)
IsCauseOf place at round number d end.Done = ⊥
IsCauseOf place at round number d end.Crowded = ⊥

-- a wait of the job may last too long
abbrev pub MayBeOverTime : Job → Type 0
MayBeOverTime job = IsSome job.deadline ⊎ IsSome job.within

-- a job gave up: it left the line with its last wait
pub record HasGivenUp (job : Job) (place : ℕ) (d : Desk) : Type 0 where
  pub time : MayBeOverTime job
  pub wait : Waited
  pub last : last_wait place d.waits ≡ Some wait
  pub left : IsCauseOf place wait.at wait.round wait.number d end.GaveUp

-- a job wanted to give up its last wait, but was too late; where what it waited for had come with
-- its number, that was delivered
pub record WasLate (job : Job) (place : ℕ) (d : Desk) : Type 0 where
  pub time : MayBeOverTime job
  pub wait : Waited
  pub last : last_wait place d.waits ≡ Some wait
  pub late : IsCauseOf place wait.at wait.round wait.number d end.Late

-- at a resource at which a step of the job may wait as many numbers were drawn, at a barrier in one
-- round, as the limit of the worker's floor says
pub record WasCrowded (job : Job) (d : Desk) : Type 0 where
  pub at : ℕ
  pub round : ℕ
  pub step : Step
  pub its_step : IsIn step job.steps
  pub waits : may_wait at step ≡ true
  pub worn : slice_index d.floor.limits at ≤ drawn_in (seen_at d.floor at) round

-- a job that waits was told so last; what came with its number was delivered
pub record IsInLine (place : ℕ) (d : Desk) (at round number : ℕ) : Type 0 where
  pub last : last_wait place d.waits
      ≡ Some (record { at = at; round = round; number = number; job = place })
  pub kind : IsSome (kind_at d.floor at)
  pub served : came_of d.floor place ≡ true → WasServed (seen_at d.floor at) round number

-- what stands behind how far a job is
abbrev pub IsCaused : Job → ℕ → Desk → Progress → Type 0
IsCaused job place d (Stepping next) = Unit {0}
IsCaused job place d (Working next until) = Unit {0}
IsCaused job place d (Waiting next at round number) = IsInLine place d at round number
IsCaused job place d (Ended end.Done) = Unit {0}
IsCaused job place d (Ended end.GaveUp) = HasGivenUp job place d
IsCaused job place d (Ended end.Late) = WasLate job place d
IsCaused job place d (Ended end.Crowded) = WasCrowded job d

-- what stands behind an end
abbrev pub HasCause : Job → ℕ → Desk → JobEnd → Type 0
HasCause job place d Done = Unit {0}
HasCause job place d GaveUp = HasGivenUp job place d
HasCause job place d Late = WasLate job place d
HasCause job place d Crowded = WasCrowded job d
HasCause job place d Unfinished = Unit {0}
