-- What the jobs still need of a floor: room for their takes, waits and arrivals, with all retries,
-- and a party for each arrival.
use Rattle.std.specs.Prelude.{◌≡◌, ℕ, ◌+◌, ◌≤◌, nat_lt, cond, List, [], ◌∷◌, count_by, take, length, slice_index_or, true, ◌<◌}
use Rattle.cqs_plan.specs.declared.plans.job.Job.{Job}
use Rattle.cqs_plan.specs.declared.plans.step.Step.{Step}
use Rattle.cqs_plan.specs.PlanSteps.{is_arrival, may_wait}
use Rattle.cqs_plan.specs.Floor.{PlainFloor, room_at, round_of, JobWait, is_barrier_in}
use Rattle.cqs_turns_report.specs.declared.states.Progress.{Progress}
use Rattle.cqs_turns_report.specs.declared.states.Progress.TheVariants.{Stepping, Working, Waiting, Ended}
use Rattle.cqs_turns_report.specs.Ready.{steps_left, IsBack}
use Rattle.cqs_floor_shared.specs.Shared.{Shared, parties_at}
use Rattle.cqs_work.specs.Stages.{Stage, retries_for}

-- how many takes of a resource, waits or arrivals there these steps have
abbrev pub waits_in : ℕ → List Step → ℕ
waits_in at steps = count_by (may_wait at) steps

-- one, where a job that arrives next in the round `first` still comes to this round with so many
-- arrivals
abbrev pub comes_to : ℕ → ℕ → ℕ → ℕ
comes_to round first arrivals =
    cond {A = ℕ} (nat_lt round first) 0 (cond {A = ℕ} (nat_lt round (first + arrivals)) 1 0)

abbrev pub parties_for : ℕ → ℕ → ℕ → List Step → ℕ
parties_for at round first steps = comes_to round first (count_by (is_arrival at) steps)

-- the floor has what a job needs for these steps
pub record IsProvided (f : Shared) (place : ℕ) (steps : List Step) : Type 0 where
  pub room : (at : ℕ) → waits_in at steps ≤ room_at f.board at
  pub parties : (at round : ℕ)
      → parties_for at round (round_of f.board place at) steps ≤ parties_at f at round

-- a job that is so far arrives next in the rounds that its arrivals so far say
abbrev pub IsInRounds : PlainFloor → ℕ → List Step → Progress → Type 0
IsInRounds b place steps (Stepping next) =
    (at : ℕ) → round_of b place at ≡ count_by (is_arrival at) (take next steps)
IsInRounds b place steps (Working next until) =
    (at : ℕ) → round_of b place at ≡ count_by (is_arrival at) (take next steps)
IsInRounds b place steps (Waiting next at round number) =
    (at : ℕ) → round_of b place at ≡ count_by (is_arrival at) (take next steps)
IsInRounds b place steps (Ended end) = Unit {0}

-- there is a place for the parties of a round
pub record IsPartyPlace (parties : List (List ℕ)) (at round : ℕ) : Type 0 where
  pub there : at < length parties
  pub inside : round < length (slice_index_or parties at [])

-- the job has this wait, and could make the step again at which it waits, if the wait were gone; a
-- party would then be given back
pub record CanGoBack (f : Shared) (place : ℕ) (steps : List Step) (next : ℕ) (wait : JobWait)
    : Type 0 where
  pub back : IsBack f.board place steps next wait
  pub party : is_barrier_in f.board.kinds wait.at ≡ true
      → IsPartyPlace f.parties wait.at wait.round

-- of a job that is so far; one that doesn't wait has none
abbrev pub CanGoBackIn : Shared → ℕ → List Step → Progress → Type 0
CanGoBackIn f place steps (Waiting next at round number) =
    CanGoBack f place steps next (record { at = at; round = round; number = number })
CanGoBackIn f place steps (Stepping next) = Unit {0}
CanGoBackIn f place steps (Working next until) = Unit {0}
CanGoBackIn f place steps (Ended end) = Unit {0}

-- the sum of what each job needs that is so far; the first one's place is `place`
abbrev pub sum_of_needs : (ℕ → Job → Stage → ℕ) → ℕ → List Job → List Stage → ℕ
sum_of_needs need place [] stages = 0
sum_of_needs need place (job ∷ jobs) [] = 0
sum_of_needs need place (job ∷ jobs) (s ∷ stages) =
    need place job s + sum_of_needs need (place + 1) jobs stages

-- a job needs room for each step that may have to wait there, and for each retry that it has left
abbrev pub room_needed : ℕ → ℕ → Job → Stage → ℕ
room_needed at place job s =
    waits_in at (steps_left job.steps s.progress) + retries_for (may_wait at) job s

abbrev pub parties_needed : PlainFloor → ℕ → ℕ → ℕ → Job → Stage → ℕ
parties_needed b at round place job s =
    parties_for at round (round_of b place at) (steps_left job.steps s.progress)

-- the floor has what all jobs need together
pub record AreProvided (f : Shared) (jobs : List Job) (stages : List Stage) : Type 0 where
  pub room : (at : ℕ) → sum_of_needs (room_needed at) 0 jobs stages ≤ room_at f.board at
  pub parties : (at round : ℕ)
      → sum_of_needs (parties_needed f.board at round) 0 jobs stages ≤ parties_at f at round
