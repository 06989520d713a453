-- What a job's turn rests on: the floor knows the job as its progress does, and its
-- steps can be made from there.
use Rattle.std.specs.Prelude.{◌≡◌, ℕ, ◌+◌, ◌-◌, ◌≤◌, ◌<◌, List, [], ◌∷◌, ◌++◌, Option, Some, None, Bool, true, false, ◌==◌, length, take, drop, count_by, slice_get, slice_index_or, slice_set, if◌then◌else◌}
use Rattle.std.specs.Option.{option_map_or}
use Rattle.std.specs.List.{list_any}
use Rattle.cqs_core.specs.Keyed.{without}
use Rattle.cqs_plan.specs.declared.plans.kind.Kind.{Kind}
use Rattle.cqs_plan.specs.declared.plans.step.Step.{Step}
use Rattle.cqs_plan.specs.declared.plans.step.Step.TheVariants.{Take, Give, Down, Await, Arrive, Work}
use Rattle.cqs_plan.specs.declared.plans.kind.Kind.TheVariants.{Rounds}
use Rattle.cqs_plan.specs.Language.{can_hold}
use Rattle.cqs_plan.specs.PlanSteps.{is_arrival, may_wait}
use Rattle.cqs_plan.specs.declared.floors.answers.FloorLeave.TheVariants.{Gone}
use Rattle.cqs_plan.specs.Floor.{PlainFloor, JobWait, IsJob, IsHoldable, HasRound, is_barrier_in, wait_of, room_at, own_rounds, round_of, to_come_at}
use Rattle.cqs_plan.specs.FloorCalls.{after_leave}
use Rattle.cqs_plan.specs.Runnable.{IsMakeable}
use Rattle.cqs_turns_report.specs.declared.states.Progress.{Progress}
use Rattle.cqs_turns_report.specs.declared.states.Progress.TheVariants.{Stepping, Working, Waiting, Ended}
use Rattle.cqs_turns_report.specs.declared.states.Patience.{Patience}
use Rattle.cqs_turns_report.specs.Turns.{Role, may_retry, places_held}

-- the steps that a job has still to make
abbrev pub steps_left : List Step → Progress → List Step
steps_left steps (Stepping next) = drop next steps
steps_left steps (Working next until) = drop next steps
steps_left steps (Waiting next at round number) = drop next steps
steps_left steps (Ended end) = []

-- the wait of a job
abbrev pub wait_in : Progress → Option JobWait
wait_in (Stepping next) = None
wait_in (Working next until) = None
wait_in (Waiting next at round number) = Some (record { at = at; round = round; number = number })
wait_in (Ended end) = None

-- what is held with one more, where that can be held
abbrev pub with_place : Bool → List ℕ → ℕ → List ℕ
with_place true held at = held ++ at ∷ []
with_place false held at = held

-- something of these kinds can be taken and given at a place
abbrev pub is_holdable_in : List Kind → ℕ → Bool
is_holdable_in kinds at = option_map_or can_hold (slice_get kinds at) false

-- what the job holds once its wait is served
abbrev pub coming : List Kind → List ℕ → Option JobWait → List ℕ
coming kinds held None = held
coming kinds held (Some wait) = with_place (is_holdable_in kinds wait.at) held wait.at

-- something is held of this resource
abbrev pub is_held : ℕ → List ℕ → Bool
is_held at held = list_any (λ place. place == at) held

-- what is held after a step
abbrev pub held_next : List ℕ → Step → List ℕ
held_next held (Take at) = held ++ at ∷ []
held_next held (Give at) = without (λ place. place) at held
held_next held (Down at) = held
held_next held (Await at) = held
held_next held (Arrive at) = held
held_next held (Work turns) = held

-- the rounds in which a job arrives next, after a step
abbrev pub rounds_next : List ℕ → Step → List ℕ
rounds_next rounds (Arrive at) = slice_set rounds at (slice_index_or rounds at 0 + 1)
rounds_next rounds (Take at) = rounds
rounds_next rounds (Give at) = rounds
rounds_next rounds (Down at) = rounds
rounds_next rounds (Await at) = rounds
rounds_next rounds (Work turns) = rounds

-- a job that holds something at these places, and arrives next in these rounds, can make these
-- steps, one after the other
abbrev pub CanMake : List Kind → List ℕ → List ℕ → List Step → Type 0
CanMake kinds held rounds [] = Unit {0}
CanMake kinds held rounds (step ∷ steps) =
    IsMakeable kinds (λ at. is_held at held ≡ true) (λ at. slice_index_or rounds at 0) step
    × CanMake kinds (held_next held step) (rounds_next rounds step) steps

-- each of these places has what can be held
abbrev pub AreHoldable : List Kind → List ℕ → Type 0
AreHoldable kinds [] = Unit {0}
AreHoldable kinds (at ∷ places) = IsHoldable (slice_get kinds at) × AreHoldable kinds places

-- the job at a place has this wait, and once that is served it can go on with these steps
pub record IsReady (f : PlainFloor) (place : ℕ) (wait : Option JobWait)
    (steps : List Step) : Type 0 where
  pub job : IsJob f place
  pub waits : wait_of f place ≡ wait
  pub holdable : AreHoldable f.kinds (coming f.kinds (places_held f place) wait)
  pub makeable : CanMake f.kinds (coming f.kinds (places_held f place) wait)
      (own_rounds f place) steps

-- in which rounds a job arrives next, of these, once its wait is gone
abbrev pub row_back : List Kind → List ℕ → JobWait → List ℕ
row_back kinds rounds wait =
    if is_barrier_in kinds wait.at then slice_set rounds wait.at wait.round else rounds

-- the wait is for a round of a barrier, in which the job has arrived
pub record HasArrived (f : PlainFloor) (place : ℕ) (wait : JobWait) : Type 0 where
  pub round : HasRound (slice_get f.kinds wait.at) wait.round
  pub last : round_of f place wait.at ≤ wait.round + 1

-- the job at a place has this wait by the step before its next one, and could make that again, with
-- what it holds, if the wait were gone
pub record IsBack (f : PlainFloor) (place : ℕ) (steps : List Step) (next : ℕ) (wait : JobWait)
    : Type 0 where
  pub some : 0 < next
  pub below : next ≤ length steps
  pub makeable : CanMake f.kinds (places_held f place) (row_back f.kinds (own_rounds f place) wait)
      (drop (next - 1) steps)
  pub rounds : (at : ℕ) → slice_index_or (row_back f.kinds (own_rounds f place) wait) at 0
      ≡ count_by (is_arrival at) (take (next - 1) steps)
  pub arrived : is_barrier_in f.kinds wait.at ≡ true → HasArrived f place wait

-- of a job that is so far; one that doesn't wait has none
abbrev pub IsBackIn : PlainFloor → ℕ → List Step → Progress → Type 0
IsBackIn f place steps (Waiting next at round number) =
    IsBack f place steps next (record { at = at; round = round; number = number })
IsBackIn f place steps (Stepping next) = Unit {0}
IsBackIn f place steps (Working next until) = Unit {0}
IsBackIn f place steps (Ended end) = Unit {0}

-- The floor has room for these steps of a job that has made those: for its takes, waits and
-- arrivals; it is in the rounds that its arrivals say; and in each round to which it still comes
-- somebody is to arrive.
pub record HasRoom (f : PlainFloor) (place : ℕ) (made steps : List Step) : Type 0 where
  pub for : (at : ℕ) → count_by (may_wait at) steps ≤ room_at f at
  pub round : (at : ℕ) → round_of f place at ≡ count_by (is_arrival at) made
  pub to_come : (at round parties rounds : ℕ)
      → slice_get f.kinds at ≡ Some (Rounds parties rounds) → round_of f place at ≤ round
      → round < round_of f place at + count_by (is_arrival at) steps
      → 0 < to_come_at f at round

-- the same of a job that is so far; one that has ended needs none
abbrev pub HasRoomFor : PlainFloor → ℕ → List Step → Progress → Type 0
HasRoomFor f place steps (Stepping next) = HasRoom f place (take next steps) (drop next steps)
HasRoomFor f place steps (Working next until) = HasRoom f place (take next steps) (drop next steps)
HasRoomFor f place steps (Waiting next at round number) =
    HasRoom f place (take next steps) (drop next steps)
HasRoomFor f place steps (Ended end) = Unit {0}

-- once the wait of the job at a place is gone, the job can make the step again before its next one
pub record CanRetry (f : PlainFloor) (place : ℕ) (steps : List Step) (next : ℕ) : Type 0 where
  pub some : 0 < next
  pub ready : IsReady (after_leave f place Gone) place None (drop (next - 1) steps)
  pub room : HasRoom (after_leave f place Gone) place (take (next - 1) steps)
      (drop (next - 1) steps)

-- where it may, by its patience
abbrev pub CanRetryIn : PlainFloor → Role → Patience → Progress → Type 0
CanRetryIn f r patience (Waiting next at round number) =
    may_retry r patience ≡ true → CanRetry f r.place r.job.steps next
CanRetryIn f r patience (Stepping next) = Unit {0}
CanRetryIn f r patience (Working next until) = Unit {0}
CanRetryIn f r patience (Ended end) = Unit {0}
