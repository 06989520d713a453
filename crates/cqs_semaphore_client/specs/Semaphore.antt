-- The semaphore as a client: its one word is the state of a core, whose history is the client's.
use Rattle.std.specs.Prelude.{◌≡◌, ℕ, ◌+◌, ◌-◌, ◌<◌, Bool, true, false, List, [], ◌∷◌, slice_index, pos, Option, Some, None, if◌then◌else◌}
use Rattle.cqs_core.specs.declared.doings.Doing.{Doing}
use Rattle.cqs_core.specs.declared.doings.Doing.TheVariants as doing
use Rattle.cqs_core.specs.declared.entries.Entry.{Entry}
use Rattle.cqs_core.specs.declared.entries.Entry.TheVariants as entry
use Rattle.cqs_core.specs.SemaphoreTable.{Shape}
use Rattle.cqs_core.specs.SemaphoreNames.{entry_names}
use Rattle.cqs_core.specs.QueueEither.{IsSoundEither}
use Rattle.cqs_core.specs.SemaphoreCores.{IsEitherCore}
use Rattle.cqs_core.specs.SemaphoreSteps.{step_entries}
use Rattle.cqs_rule_laws.specs.declared.view.Has.{Has}
use Rattle.cqs_rule_laws.specs.declared.config.CancelMode.TheVariants.{Smart}
use Rattle.cqs_rule_laws.specs.Configured.{largest_limit}
use Rattle.cqs_rule_laws.specs.Events.{Moment, Event}
use Rattle.cqs_rule_laws.specs.Held.{held_of}
use Rattle.cqs_rule_laws.specs.Hidden.{Hidden, Gains}
use Rattle.cqs_rule_laws.specs.Manner.{Manner, asks, owed}
use Rattle.cqs_words.specs.State.{state_word, count_in, is_above_zero, is_below_zero}
use Rattle.cqs_rule_laws.specs.Object.{Object, Primitive}
use Rattle.cqs_rule_laws.specs.Ruled.{number_at}
use Rattle.cqs_semaphore_client.specs.PlainHistories.{IsUnbroken}
use Rattle.cqs_semaphore_client.specs.SemaphoreHistories.{IsLawful}

-- the core that the table of a semaphore shows, which is synchronous or isn't
abbrev pub core_shown : Bool → ℕ → Hidden → List ℕ → List Entry → Shape
core_shown sync permits c words log = record {
  sync = sync;
  permits = permits;
  state = count_in (slice_index words 0);
  held = held_of c.has;
  history = log;
  queue = c.queue;
}

-- That is a core, whose resumes watch the values that they leave where it is synchronous; and no
-- number was broken where it isn't.
pub record ShowsCore (sync : Bool) (permits : ℕ) (c : Hidden) (words : List ℕ) (log : List Entry)
    : Type 0 where
  pub core : IsEitherCore (core_shown sync permits c words log)
  pub queue : IsSoundEither sync c.queue
  pub unbroken : sync ≡ false → IsUnbroken log

abbrev pub shows_core : {T : Type 0} → Bool → ℕ → Hidden → List ℕ → List Entry → List T → Type 0
shows_core sync permits c words log handed = ShowsCore sync permits c words log

-- a pass that has what it waited for holds one permit more
abbrev pub one_more : Gains
one_more = record { held = λ held. held + 1; slots = λ payload. [] }

-- a release gives the one value slot away
abbrev pub slot_given : Entry → Option ℕ
slot_given (entry.TakeNow c) = None
slot_given (entry.TakeDoor c) = None
slot_given (entry.Enter c k) = None
slot_given (entry.TryGot c) = None
slot_given (entry.TryBusy c) = None
slot_given (entry.GiveFreed c) = Some 0
slot_given (entry.GiveSent c) = Some 0
slot_given (entry.Deliver k) = None
slot_given (entry.Leave c k) = None
slot_given (entry.Spoil c k) = None
slot_given (entry.Undo c k) = None
slot_given (entry.Late c k) = None
slot_given (entry.LookGranted c k) = None
slot_given (entry.LookPending c k) = None

abbrev pub semaphore_object : Object Entry
semaphore_object = record {
  names = entry_names;
  legal = λ opening. IsLawful opening.sync opening.size;
  entries = λ step p k payload. step_entries step p k;
  gains = one_more;
  gives = slot_given;
  most = λ opening. opening.size;
  knows = λ opening has. Unit {0};
}

-- a semaphore asks where a wait leaves, its passes come to a door, it owes one resumption at a
-- time, and its resumes watch where it is synchronous
abbrev pub semaphore_manner : Bool → Manner
semaphore_manner sync = record { leaving = asks; has_door = true; source = owed; watches = sync }

-- Where there is one permit, the pass that holds it may open the one slot.
abbrev pub opens_one : ℕ → Has → ℕ → Type 0
opens_one permits h k = (permits ≡ 1) × (k ≡ 0) × (0 < h.held)

-- By whether it is synchronous, how often a resume looks then at the value that it left, and the
-- permits that it opens with.
abbrev pub semaphore_primitive : {T : Type 0} → Bool → ℕ → ℕ → Primitive Entry T
semaphore_primitive sync looks permits = record {
  opening = record { size = permits; mode = Smart; sync = sync; looks = looks };
  shows = shows_core sync permits;
  manner = semaphore_manner sync;
  words = state_word (pos permits) ∷ [];
  most_limit = largest_limit;
  values = 0;
  held = 0;
  opens = opens_one permits;
}

-- an event that changes nothing of what the pass owes or has in hand
abbrev pub event_of : (Moment → List Entry) → (Moment → Doing) → (Moment → ℕ) → Event Entry
event_of entries doing holds = record {
  entries = entries;
  doing = doing;
  holds = holds;
  payload = λ m. m.facts.has.payload;
  further = λ m. m.facts.has.further;
  slots = λ m. m.facts.has.slots;
}

-- an acquire takes one from the state
abbrev pub takes_one : Event Entry
takes_one = event_of
    (λ m. if is_above_zero m.found then entry.TakeNow m.pass ∷ [] else entry.TakeDoor m.pass ∷ [])
    (λ m. if is_above_zero m.found then doing.Idle else doing.Door)
    (λ m. if is_above_zero m.found then m.facts.has.held + 1 else m.facts.has.held)

-- a try loads the state: it is told that none is free, or it is about to exchange the state
abbrev pub loads_to_try : Event Entry
loads_to_try = event_of
    (λ m. if is_above_zero m.found then [] else entry.TryBusy m.pass ∷ [])
    (λ m. if is_above_zero m.found then doing.TryAt (count_in m.found) else doing.Idle)
    (λ m. m.facts.has.held)

-- the try exchanges the state for one less: it has a permit where it made the exchange, and nothing
-- where others were first
abbrev pub tries : Event Entry
tries = event_of
    (λ m. if m.made then entry.TryGot m.pass ∷ [] else [])
    (λ m. doing.Idle)
    (λ m. if m.made then m.facts.has.held + 1 else m.facts.has.held)

-- a release adds one to the state
abbrev pub gives_one : Event Entry
gives_one = record {
  entries = λ m. if is_below_zero m.found then entry.GiveSent m.pass
      ∷ [] else entry.GiveFreed m.pass ∷ [];
  doing = λ m. if is_below_zero m.found then doing.Owes else doing.Idle;
  holds = λ m. m.facts.has.held - 1;
  payload = λ m. 0;
  further = λ m. m.facts.has.further;
  slots = λ m. m.facts.has.slots;
}

-- A canceller adds one to the state: below 0 its waiter has left the line. Else it is refused, and
-- the permit that was on its way to it is free by this step.
abbrev pub decides : Event Entry
decides = event_of
    (λ m. entry.Leave m.pass (number_at m.facts.doing) ∷ [])
    (λ m. doing.Decided (number_at m.facts.doing) (is_below_zero m.found))
    (λ m. m.facts.has.held)
