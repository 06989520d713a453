-- What a job does on a shared floor: what it heard, how it stands then, and what it left to the
-- other jobs.
use Rattle.std.specs.Prelude.{◌≡◌, ◌≢◌, ℕ, ◌+◌, ◌≤◌, List, [], Option, Some, None, length, slice_index_or}
use Rattle.cqs_plan.specs.declared.plans.step.Step.{Step}
use Rattle.cqs_plan.specs.Floor.{PlainFloor, JobWait, round_of, room_at}
use Rattle.cqs_plan.specs.Runnable.{kinds_of}
use Rattle.cqs_turns_report.specs.declared.actors.Actor.{Actor}
use Rattle.cqs_turns_report.specs.declared.states.Progress.{Progress}
use Rattle.cqs_turns_report.specs.declared.states.Progress.TheVariants.{Stepping}
use Rattle.cqs_turns_report.specs.Ready.{IsReady, wait_in, steps_left}
use Rattle.cqs_floor_shared.specs.Shared.{Shared, parties_in}
use Rattle.cqs_work.specs.Adds.{Adds, Keeps, AddsInTurn}
use Rattle.cqs_work.specs.Desk.{Desk}
use Rattle.cqs_work.specs.Heard.{Heard, Hears}
use Rattle.cqs_work.specs.Needs.{waits_in, parties_for, IsProvided, IsInRounds, IsPartyPlace, CanGoBackIn, room_needed, parties_needed}
use Rattle.cqs_work.specs.Stages.{Stage}
use Rattle.cqs_work.specs.Roles.{turn, staged}
use Rattle.cqs_plan.specs.declared.plans.job.Job.{Job}

-- the two lists are equally long, and the same but for what stands at a place
pub record AreSameBut {X : Type 0} (place : ℕ) (d : X) (xs ys : List X) : Type 0 where
  pub long : length ys ≡ length xs
  pub at : (j : ℕ) → j ≢ place → slice_index_or ys j d ≡ slice_index_or xs j d

-- The job at `place`, which had `steps` to make on the board b with these parties, has `left` to
-- make on c with those. The other jobs wait, hold and arrive as before, and what they need is
-- there.
pub record Moves (place : ℕ) (b : PlainFloor) (parties : List (List ℕ)) (steps : List Step)
    (c : PlainFloor) (then_parties : List (List ℕ)) (left : List Step) : Type 0 where
  pub kinds : c.kinds ≡ b.kinds
  pub waits : AreSameBut place None b.waits c.waits
  pub holds : AreSameBut place [] b.holds c.holds
  pub rounds : AreSameBut place [] b.rounds c.rounds
  pub room : (at : ℕ) → room_at b at + waits_in at left ≤ room_at c at + waits_in at steps
  pub comes : (at round : ℕ)
      → parties_in parties at round + parties_for at round (round_of c place at) left
      ≤ parties_in then_parties at round + parties_for at round (round_of b place at) steps
  pub rows : (at round : ℕ) → IsPartyPlace parties at round → IsPartyPlace then_parties at round

-- the same of a whole turn, by which the job came from one stage to another: with its retries
pub record MovesInTurn (place : ℕ) (job : Job) (b : PlainFloor) (parties : List (List ℕ))
    (s : Stage) (c : PlainFloor) (then_parties : List (List ℕ)) (q : Stage) : Type 0 where
  pub kinds : c.kinds ≡ b.kinds
  pub waits : AreSameBut place None b.waits c.waits
  pub holds : AreSameBut place [] b.holds c.holds
  pub rounds : AreSameBut place [] b.rounds c.rounds
  pub room : (at : ℕ)
      → room_at b at + room_needed at place job q ≤ room_at c at + room_needed at place job s
  pub comes : (at round : ℕ)
      → parties_in parties at round + parties_needed c at round place job q
      ≤ parties_in then_parties at round + parties_needed b at round place job s
  pub rows : (at round : ℕ) → IsPartyPlace parties at round → IsPartyPlace then_parties at round

-- the job has this wait, and once that is served it can go on with these steps
pub record Stands (a : Actor) (f : Shared) (wait : Option JobWait) (left : List Step)
    : Type 0 where
  pub kinds : f.board.kinds ≡ kinds_of a.resources.now
  pub ready : IsReady f.board a.place wait left

-- the job is so far, and can go on
pub record CanAct (a : Actor) (f : Shared) (p : Progress) : Type 0 where
  pub stands : Stands a f (wait_in p) (steps_left a.job.now.steps p)
  pub rounds : IsInRounds f.board a.place a.job.now.steps p
  pub provided : IsProvided f a.place (steps_left a.job.now.steps p)
  pub back : CanGoBackIn f a.place a.job.now.steps p
  pub few_steps : length a.job.now.steps ≤ 64
  pub turn : a.turn ≤ 40000

-- the job is at this stage, and can have its turn
pub record HasTurn (a : Actor) (f : Shared) (s : Stage) : Type 0 where
  pub can : CanAct a f s.progress
  pub room : (at : ℕ) → room_needed at a.place a.job.now s ≤ room_at f.board at
  pub few_retries : a.job.now.retry ≤ 64

-- the job that was so far did this, and is then so far
pub record Did {X : Type 0} (a : Actor) (f : Desk) (p : Progress) (go after : Heard → X)
    (g : Desk) (q : Progress) : Type 0 where
  pub hears : Hears f g go after
  pub stands : Stands a g.floor (wait_in q) (steps_left a.job.now.steps q)
  pub rounds : IsInRounds g.floor.board a.place a.job.now.steps q
  pub moves : Moves a.place f.floor.board f.floor.parties (steps_left a.job.now.steps p)
      g.floor.board g.floor.parties (steps_left a.job.now.steps q)
  pub back : CanGoBackIn g.floor a.place a.job.now.steps q
  pub adds : Adds a.job.now a.place f p g q

-- the job at this stage had its turn, and is then at that one
pub record HadTurn (a : Actor) (f : Desk) (s : Stage) (g : Desk) (q : Stage) : Type 0 where
  pub hears : Hears f g (turn a s) (staged q)
  pub stands : Stands a g.floor (wait_in q.progress) (steps_left a.job.now.steps q.progress)
  pub rounds : IsInRounds g.floor.board a.place a.job.now.steps q.progress
  pub moves : MovesInTurn a.place a.job.now f.floor.board f.floor.parties s
      g.floor.board g.floor.parties q
  pub back : CanGoBackIn g.floor a.place a.job.now.steps q.progress
  pub adds : AddsInTurn a.job.now a.place f s g q

-- the job did this, by which it gave up what it had, and made no step
pub record GaveUp {X : Type 0} (a : Actor) (f : Desk) (go after : Heard → X) (g : Desk)
    : Type 0 where
  pub hears : Hears f g go after
  pub stands : Stands a g.floor None []
  pub moves : Moves a.place f.floor.board f.floor.parties [] g.floor.board g.floor.parties []
  pub keeps : Keeps f g

-- how far a job is then that makes a step, and where its turn ends with it
abbrev pub after_stop : ℕ → Option Progress → Progress
after_stop next None = Stepping (next + 1)
after_stop next (Some p) = p
