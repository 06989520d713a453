-- Lists of events: what comes of them where they are made one after the other.
use Rattle.std.specs.Prelude.{◌≡◌, ℕ, List, [], ◌∷◌, ◌++◌, take, slice_get, Option, Some, None, Result, Ok, Err, ⊤}
use Rattle.std.specs.List.{fold}
use Rattle.std.specs.Option.{option_map}
use Rattle.cqs_core.specs.declared.errors.CoreError.{CoreError}
use Rattle.cqs_core.specs.declared.events.Event.{Event}
use Rattle.cqs_core.specs.declared.outcomes.Outcome.{Outcome}
use Rattle.cqs_core.specs.SemaphoreAnswers.{Makes}
use Rattle.cqs_core.specs.SemaphoreTable.{Shape, step}

-- the outcomes that were told, and for how many more there is room
pub record Told : Type 0 where
  pub items : List Outcome
  pub spare : ℕ

-- a run of events: the core that it has come to, and what they answered
pub record Run : Type 0 where
  pub shape : Shape
  pub outcomes : List Outcome

abbrev pub run_at : Shape → List Outcome → Run
run_at s told = record { shape = s; outcomes = told }

-- the run with one event more, where the table allows it
abbrev pub run_event : Option Run → Event → Option Run
run_event None e = None
run_event (Some r) e =
    option_map (λ row. run_at row.shape (r.outcomes ++ row.outcome ∷ [])) (step r.shape e)

-- the run with a list of events more, where each is allowed after those before it
abbrev pub run_all : Run → List Event → Option Run
run_all r events = fold run_event (Some r) events

-- The list stopped at an event: just those before it were made, and it was refused. The refusal is
-- one that a single event may have from there (`Makes`), and leaves the core unchanged.
pub record StopsAt (events : List Event) (n : ℕ) (why : CoreError) (old new : Run) : Type 0 where
  pub before : run_all old (take n events) ≡ Some new
  pub refusal : (e : Event) × (slice_get events n ≡ Some e)
      × Makes (step new.shape e) (Err why) new.shape new.shape

-- how a list of events is answered: all of them were made, or it stopped at one
abbrev pub MakesAll : List Event → Result ⊤ (ℕ × CoreError) → Run → Run → Type 0
MakesAll events (Ok all) old new = run_all old events ≡ Some new
MakesAll events (Err stop) old new = StopsAt events stop.0 stop.1 old new
