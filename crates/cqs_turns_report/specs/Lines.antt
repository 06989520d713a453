-- The lines of the report.
use Rattle.std.specs.Prelude.{ℕ, ◌+◌, List, [], ◌∷◌, ◌++◌, Bool, true, false, count_by, codes, slice_get, if◌then◌else◌}
use Rattle.std.specs.Option.{option_map_or}
use Rattle.std.specs.Fmt.{decimal}
use Rattle.cqs_plan.specs.declared.plans.kind.Kind.{Kind}
use Rattle.cqs_plan.specs.declared.plans.kind.Kind.TheVariants as kind
use Rattle.cqs_plan.specs.declared.plans.resource.Resource.{Resource}
use Rattle.cqs_plan.specs.declared.floors.answers.FloorEnd.{FloorEnd}
use Rattle.cqs_plan.specs.declared.floors.answers.FloorEnd.TheVariants.{Permits, Latch, Rounds}
use Rattle.cqs_plan.specs.Floor.{PlainFloor}
use Rattle.cqs_plan.specs.FloorCalls.{end_answer}
use Rattle.cqs_plan.specs.Language.{is_barrier}
use Rattle.cqs_turns_report.specs.declared.lines.Told.{Told}
use Rattle.cqs_turns_report.specs.declared.lines.Told.TheVariants as told
use Rattle.cqs_turns_report.specs.declared.states.End.TheVariants.{Done, GaveUp, Late, Crowded}
use Rattle.cqs_turns_report.specs.declared.states.Progress.{Progress}
use Rattle.cqs_turns_report.specs.declared.states.Progress.TheVariants.{Stepping, Working, Waiting, Ended}

-- the name of the resource at a place
abbrev pub name_at : List Resource → ℕ → List ℕ
name_at resources at = option_map_or (λ resource. resource.name) (slice_get resources at) []

abbrev pub is_pool : Kind → Bool
is_pool (kind.Pool elements) = true
is_pool (kind.Semaphore permits) = false
is_pool kind.Mutex = false
is_pool (kind.Latch count) = false
is_pool (kind.Rounds parties rounds) = false

-- the resource at a place is a pool
abbrev pub is_pool_at : List Resource → ℕ → Bool
is_pool_at resources at =
    option_map_or (λ resource. is_pool resource.kind) (slice_get resources at) false

-- the words for an element, which only a pool has
abbrev pub element_text : List Resource → ℕ → ℕ → List ℕ
element_text resources at element =
    if is_pool_at resources at then codes " element " ++ decimal element else []

abbrev pub is_barrier_at : List Resource → ℕ → Bool
is_barrier_at resources at =
    option_map_or (λ resource. is_barrier resource.kind) (slice_get resources at) false

-- the name of a resource, of a barrier with the round: what is waited for there
abbrev pub place_text : List Resource → ℕ → ℕ → List ℕ
place_text resources at round =
    if is_barrier_at resources at then name_at resources at ++ codes "." ++ decimal round
    else name_at resources at

-- a resource, and the number of a wait there
abbrev pub wait_text : List Resource → ℕ → ℕ → ℕ → List ℕ
wait_text resources at round number =
    place_text resources at round ++ codes " " ++ decimal number

-- the words of a line: a verb and a resource, and then what else there is to tell
abbrev pub told_text : List Resource → Told → List ℕ
told_text resources (told.Takes at element) =
    codes "takes " ++ name_at resources at ++ element_text resources at element
told_text resources (told.Waits at round number) =
    codes "waits " ++ wait_text resources at round number
told_text resources (told.Served at round number element) =
    codes "served " ++ wait_text resources at round number ++ element_text resources at element
told_text resources (told.GivesFree at element) =
    codes "gives " ++ name_at resources at ++ element_text resources at element ++ codes " free"
told_text resources (told.GivesSent at element number) =
    codes "gives " ++ name_at resources at ++ element_text resources at element ++ codes " sent "
    ++ decimal number
told_text resources (told.GaveUp at round number) =
    codes "gaveup " ++ wait_text resources at round number
told_text resources (told.Retries at round number) =
    codes "retries " ++ wait_text resources at round number
told_text resources (told.Late at round number) =
    codes "late " ++ wait_text resources at round number
told_text resources (told.Passes at) = codes "passes " ++ name_at resources at
told_text resources (told.DownsLeft at left) =
    codes "downs " ++ name_at resources at ++ codes " left " ++ decimal left
told_text resources (told.DownsOpen at) = codes "downs " ++ name_at resources at ++ codes " open"
told_text resources (told.DownsAlready at) =
    codes "downs " ++ name_at resources at ++ codes " already"
told_text resources (told.ArrivesLast at round) =
    codes "arrives " ++ place_text resources at round ++ codes " last"
told_text resources told.Done = codes "done"

-- a line: the turn, the job's name and the words
abbrev pub line_text : List Resource → ℕ → List ℕ → Told → List ℕ
line_text resources turn name told =
    decimal turn ++ codes " " ++ name ++ codes " " ++ told_text resources told ++ codes "\n"

-- the words that tell how a resource stands at the end
abbrev pub end_words : FloorEnd → List ℕ
end_words (Permits free held line) =
    codes " free " ++ decimal free ++ codes " held " ++ decimal held ++ codes " line "
    ++ decimal line
end_words (Latch count line) = codes " count " ++ decimal count ++ codes " line " ++ decimal line
end_words (Rounds over) = codes " rounds " ++ decimal over

-- the line of a resource at the end
abbrev pub end_text : List ℕ → FloorEnd → List ℕ
end_text name end = codes "end " ++ name ++ end_words end ++ codes "\n"

-- the end lines of these resources, in order; the first one's place is `at`
abbrev pub ends_text : List Resource → ℕ → PlainFloor → List ℕ
ends_text [] at f = []
ends_text (resource ∷ resources) at f =
    end_text resource.name (end_answer f at) ++ ends_text resources (at + 1) f

-- how a job ended, if it has
abbrev pub is_done : Progress → Bool
is_done (Ended Done) = true
is_done (Ended GaveUp) = false
is_done (Ended Late) = false
is_done (Ended Crowded) = false
is_done (Stepping next) = false
is_done (Working next until) = false
is_done (Waiting next at round number) = false

abbrev pub has_given_up : Progress → Bool
has_given_up (Ended GaveUp) = true
has_given_up (Ended Done) = false
has_given_up (Ended Late) = false
has_given_up (Ended Crowded) = false
has_given_up (Stepping next) = false
has_given_up (Working next until) = false
has_given_up (Waiting next at round number) = false

abbrev pub is_late : Progress → Bool
is_late (Ended Late) = true
is_late (Ended Done) = false
is_late (Ended GaveUp) = false
is_late (Ended Crowded) = false
is_late (Stepping next) = false
is_late (Working next until) = false
is_late (Waiting next at round number) = false

-- a call of the job was turned away, which the plain floor never does
abbrev pub is_crowded : Progress → Bool
is_crowded (Ended Crowded) = true
is_crowded (Ended Done) = false
is_crowded (Ended GaveUp) = false
is_crowded (Ended Late) = false
is_crowded (Stepping next) = false
is_crowded (Working next until) = false
is_crowded (Waiting next at round number) = false

abbrev pub is_unfinished : Progress → Bool
is_unfinished (Stepping next) = true
is_unfinished (Working next until) = true
is_unfinished (Waiting next at round number) = true
is_unfinished (Ended end) = false

-- how many jobs came to each end, and how many to none
abbrev pub total_text : List Progress → List ℕ
total_text progress =
    codes "total done " ++ decimal (count_by is_done progress)
    ++ codes " gaveup " ++ decimal (count_by has_given_up progress)
    ++ codes " late " ++ decimal (count_by is_late progress)
    ++ codes " unfinished " ++ decimal (count_by is_unfinished progress) ++ codes "\n"
