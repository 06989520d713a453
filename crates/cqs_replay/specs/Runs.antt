-- What a run of a schedule's events tells, and what history it has.
use Rattle.std.specs.Prelude.{◌≡◌, ℕ, ◌+◌, List, [], ◌∷◌, ◌++◌, Option, Some, None, codes, decimal}
use Rattle.std.specs.Option.{option_map_or}
use Rattle.std.specs.Fmt.{signed_decimal}
use Rattle.cqs_core.specs.declared.events.Event.{Event}
use Rattle.cqs_core.specs.declared.outcomes.Outcome.{Outcome}
use Rattle.cqs_core.specs.SemaphoreTable.{Shape, Stepped, step}
use Rattle.cqs_core.specs.SemaphoreCores.{opening_of}
use Rattle.cqs_lines.specs.Said.{Said, said, said_text, line_text}
use Rattle.cqs_lines.specs.Forms.{lines_text}
use Rattle.cqs_replay.specs.declared.schedules.Schedule.{Schedule}
use Rattle.cqs_replay.specs.EventLines.{event_says}
use Rattle.cqs_replay.specs.EntryLines.{entry_says}
use Rattle.cqs_replay.specs.OutcomeLines.{outcome_text}

-- an event was made as the table says, or isn't enabled
abbrev pub IsMade : Option Stepped → Shape → Option Outcome → Shape → Type 0
IsMade row old None new = (row ≡ None) × (new ≡ old)
IsMade row old (Some o) new = row ≡ Some (record { shape = new; outcome = o })

-- the core after the events, up to the first that isn't enabled
abbrev pub after_events : Shape → List Event → Shape
after_events s [] = s
after_events s (e ∷ events) =
    option_map_or (λ made. after_events made.shape events) (step s e) s

abbrev pub told_line : Event → Outcome → List ℕ
told_line e o = said_text (event_says e) ++ codes ": " ++ outcome_text o ++ codes "\n"

abbrev pub stopped_line : ℕ → List ℕ
stopped_line n = codes "stopped at line " ++ decimal n ++ codes "\n"

-- a line for each event with its outcome, up to the first that isn't enabled, whose line is told;
-- the first event stands in this line
abbrev pub told_lines : Shape → List Event → ℕ → List ℕ
told_lines s [] n = []
told_lines s (e ∷ events) n =
    option_map_or (λ made. told_line e made.outcome ++ told_lines made.shape events (n + 1))
    (step s e)
    (stopped_line n)

abbrev pub state_line : Shape → List ℕ
state_line s =
    codes "state " ++ signed_decimal s.state ++ codes " suspends " ++ decimal s.queue.suspends
    ++ codes " resumes " ++ decimal s.queue.resumes ++ codes "\n"

abbrev pub opened : Schedule → Shape
opened s = opening_of s.sync s.permits s.passes

-- the core after the schedule's run
abbrev pub after_run : Schedule → Shape
after_run s = after_events (opened s) s.events.items

-- what `replay` writes of a schedule
abbrev pub replayed : Schedule → List ℕ
replayed s = told_lines (opened s) s.events.items 2 ++ state_line (after_run s)

abbrev pub permits_say : ℕ → Said
permits_say permits = said (codes "semaphore") (permits ∷ [])

-- the history of the schedule's run, as a text
abbrev pub history_written : Schedule → List ℕ
history_written s =
    line_text (permits_say s.permits) (lines_text entry_says (after_run s).history [])
