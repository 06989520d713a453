-- The events of a run, as the lines of its report tell them.
use Rattle.std.specs.Prelude.{◌≡◌, ℕ, ◌==◌, ◌&&◌, Bool, true, false, List, [], ◌∷◌, ◌++◌, Some, take, slice_get, count_by}
use Rattle.std.specs.Option.{option_map_or}
use Rattle.cqs_core.specs.Numbered.{IsIn}
use Rattle.cqs_plan.specs.declared.plans.plan.Plan.{Plan}
use Rattle.cqs_plan.specs.declared.plans.resource.Resource.{Resource}
use Rattle.cqs_plan.specs.Runnable.{IsRunnable}
use Rattle.cqs_turns_report.specs.declared.lines.Told.{Told}
use Rattle.cqs_turns_report.specs.declared.lines.Told.TheVariants as told
use Rattle.cqs_turns_report.specs.Lines.{is_pool_at, line_text}
use Rattle.cqs_turns_report.specs.Turns.{machine_after}

-- what a job did in a turn
pub record Line : Type 0 where
  pub turn : ℕ
  pub job : ℕ
  pub told : Told

-- the name of a job
abbrev pub name_of : Plan → ℕ → List ℕ
name_of plan job = option_map_or (λ j. j.name) (slice_get plan.jobs job) []

-- the lines, one after the other
abbrev pub lines_text : Plan → List Line → List ℕ
lines_text plan [] = []
lines_text plan (line ∷ lines) =
    line_text plan.resources line.turn (name_of plan line.job) line.told ++ lines_text plan lines

-- The line draws a number at the resource, at a barrier in this round: that of a wait does, and in
-- a pool also that of a take that doesn't wait, which doesn't tell it.
abbrev pub draws_at : List Resource → ℕ → ℕ → Told → Bool
draws_at resources at round (told.Waits place r number) = (place == at) && (r == round)
draws_at resources at round (told.Takes place element) =
    ((place == at) && is_pool_at resources at) && (0 == round)
draws_at resources at round (told.Served place r number element) = false
draws_at resources at round (told.GivesFree place element) = false
draws_at resources at round (told.GivesSent place element number) = false
draws_at resources at round (told.GaveUp place r number) = false
draws_at resources at round (told.Retries place r number) = false
draws_at resources at round (told.Late place r number) = false
draws_at resources at round (told.Passes place) = false
draws_at resources at round (told.DownsLeft place left) = false
draws_at resources at round (told.DownsOpen place) = false
draws_at resources at round (told.DownsAlready place) = false
draws_at resources at round (told.ArrivesLast place r) = false
draws_at resources at round told.Done = false

-- how many numbers these lines draw there
abbrev pub drawn_at : List Resource → ℕ → ℕ → List Line → ℕ
drawn_at resources at round lines = count_by (λ line. draws_at resources at round line.told) lines

-- The line sends something to the wait of this number at a resource, in this round: a give of a
-- permit, or in a pool of this element; the last count down of a latch; the last arrival in the
-- round.
abbrev pub Sends : List Resource → ℕ → ℕ → ℕ → ℕ → Told → Type 0
Sends resources at round number element (told.GivesSent place sent k) =
    (place ≡ at) × (k ≡ number) × (is_pool_at resources at ≡ true → sent ≡ element)
Sends resources at round number element (told.DownsOpen place) = place ≡ at
Sends resources at round number element (told.ArrivesLast place r) = (place ≡ at) × (r ≡ round)
Sends resources at round number element (told.Takes place e) = ⊥
Sends resources at round number element (told.Waits place r k) = ⊥
Sends resources at round number element (told.Served place r k e) = ⊥
Sends resources at round number element (told.GivesFree place e) = ⊥
Sends resources at round number element (told.GaveUp place r k) = ⊥
Sends resources at round number element (told.Retries place r k) = ⊥
Sends resources at round number element (told.Late place r k) = ⊥
Sends resources at round number element (told.Passes place) = ⊥
Sends resources at round number element (told.DownsLeft place left) = ⊥
Sends resources at round number element (told.DownsAlready place) = ⊥
Sends resources at round number element told.Done = ⊥

-- one of these lines sent something to this wait
pub record WasSent (resources : List Resource) (at round number element : ℕ) (lines : List Line)
    : Type 0 where
  pub line : Line
  pub sends : Sends resources at round number element line.told
  pub there : IsIn line lines

-- After these lines the next may tell this: a wait has as its number how many were drawn at its
-- resource, in its round, before, so that they are 0, 1, 2 and so on; and a wait is served, or is
-- late, only after something was sent to it, which is what it is told to have.
abbrev pub MayTell : List Resource → List Line → Told → Type 0
MayTell resources earlier (told.Waits at round number) =
    number ≡ drawn_at resources at round earlier
MayTell resources earlier (told.Served at round number element) =
    WasSent resources at round number element earlier
MayTell resources earlier (told.Late at round number) =
    (element : ℕ) × WasSent resources at round number element earlier
MayTell resources earlier (told.Takes at element) = Unit {0}
MayTell resources earlier (told.GivesFree at element) = Unit {0}
MayTell resources earlier (told.GivesSent at element number) = Unit {0}
MayTell resources earlier (told.GaveUp at round number) = Unit {0}
MayTell resources earlier (told.Retries at round number) = Unit {0}
MayTell resources earlier (told.Passes at) = Unit {0}
MayTell resources earlier (told.DownsLeft at left) = Unit {0}
MayTell resources earlier (told.DownsOpen at) = Unit {0}
MayTell resources earlier (told.DownsAlready at) = Unit {0}
MayTell resources earlier (told.ArrivesLast at round) = Unit {0}
MayTell resources earlier told.Done = Unit {0}

-- the report so far is the text of these lines, and each may tell what it does after those before
pub record AreLines (plan : Plan) (report : List ℕ) (lines : List Line) : Type 0 where
  pub text : report ≡ lines_text plan lines
  pub tell : (n : ℕ) (line : Line) → slice_get lines n ≡ Some line
      → MayTell plan.resources (take n lines) line.told

-- the lines of jobs of each report are such lines
abbrev pub EveryReportHasItsLines : Type 0
EveryReportHasItsLines =
    (plan : Plan) (turns : ℕ) → IsRunnable plan
    → (lines : List Line) × AreLines plan (machine_after plan turns).scene.text lines
