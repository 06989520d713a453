-- The loads of the table: of the suspend counter, and of a cell. A load of a cell may be an event:
-- the owner of a wait learns what became of it, and a resume meets a cell that is settled.
use Rattle.std.specs.Prelude.{◌≡◌, ℕ, ◌+◌, ◌<◌, Bool, true, false, List, [], length, Option, Some, None, ◌==◌, if◌then◌else◌}
use Rattle.atomic_table.specs.Table.{Me, Step}
use Rattle.cqs_core.specs.declared.cells.CoreState.{CoreState}
use Rattle.cqs_core.specs.declared.cells.CoreState.TheVariants as state
use Rattle.cqs_core.specs.declared.doings.Doing.{Doing}
use Rattle.cqs_core.specs.declared.doings.Doing.TheVariants as doing
use Rattle.cqs_core.specs.QueueStages as stage
use Rattle.cqs_core.specs.QueueStages.{MayFind}
use Rattle.cqs_core.specs.QueueSteps.{QueueStep, looks, pends, grants, late, passes_over, ends_refused, ends_missed, in_sync, sees_value, sees_taken, finds_broken, row_of, StepRow, at_counter, at_cell, payload_told}
use Rattle.cqs_words.specs.declared.cell.CellState.{CellState}
use Rattle.cqs_words.specs.declared.cell.CellState.TheVariants as shown
use Rattle.cqs_words.specs.declared.cell.CellWord.{CellWord}
use Rattle.cqs_words.specs.Cell.{unpacked_cell, index_in}
use Rattle.cqs_rule_laws.specs.Ruled.{number_at}
use Rattle.cqs_rule_laws.specs.declared.view.View.{View}
use Rattle.cqs_rule_laws.specs.declared.view.Facts.{Facts}
use Rattle.cqs_rule_laws.specs.declared.view.Glimpse.{Glimpse}
use Rattle.cqs_rule_laws.specs.declared.loads.Learned.{Learned}
use Rattle.cqs_rule_laws.specs.declared.loads.Learned.TheVariants.{Nothing, Granted, Ended, Settled}
use Rattle.cqs_rule_laws.specs.Exchanges.{FoundCell, WatchedCell, SinceLast, HasCell}
use Rattle.cqs_rule_laws.specs.Facts.{facts_after, facts_watched, facts_counted, is_owing}
use Rattle.cqs_rule_laws.specs.Hidden.{Hidden, Gains}
use Rattle.cqs_rule_laws.specs.Layout.{suspends_place}
use Rattle.cqs_rule_laws.specs.Lists.{Has}
use Rattle.cqs_rule_laws.specs.Manner.{Manner, IsSmart, IsAtOnce}
use Rattle.cqs_rule_laws.specs.Object.{Object, Primitive}
use Rattle.cqs_rule_laws.specs.Placed.{KnowsPlace, place_at}
use Rattle.cqs_rule_laws.specs.Saw.{Saw, IsLive, WasFound}
use Rattle.cqs_rule_laws.specs.Views.{IsSame}

-- A load of the suspend counter; of a cell, with no event; of a cell by the owner of its wait,
-- which asks whether it was served, or whether it is too late to cancel; of a cell by the resume of
-- its number, in smart and in simple mode; and, in a synchronous queue, by the resume that watches
-- its value there, and by the suspend of its number.
pub data LoadStep : Type 0 where
  counts : LoadStep
  watches : LoadStep
  polls : LoadStep
  cancels : LoadStep
  meets : LoadStep
  misses : LoadStep
  sees : LoadStep
  finds : LoadStep

-- the event that a load of a cell in this state shows
abbrev pub event_when_polled : CoreState → Option QueueStep
event_when_polled state.Waiter = Some (looks pends)
event_when_polled state.Resumed = Some (looks grants)
event_when_polled state.Empty = None
event_when_polled state.Value = None
event_when_polled state.Taken = None
event_when_polled state.Broken = None
event_when_polled state.Cancelling = None
event_when_polled state.Delegated = None
event_when_polled state.Cancelled = None
event_when_polled state.Refused = None

abbrev pub event_when_late : CoreState → Option QueueStep
event_when_late state.Resumed = Some (looks late)
event_when_late state.Waiter = None
event_when_late state.Empty = None
event_when_late state.Value = None
event_when_late state.Taken = None
event_when_late state.Broken = None
event_when_late state.Cancelling = None
event_when_late state.Delegated = None
event_when_late state.Cancelled = None
event_when_late state.Refused = None

abbrev pub event_when_met : CoreState → Option QueueStep
event_when_met state.Cancelled = Some passes_over
event_when_met state.Refused = Some ends_refused
event_when_met state.Empty = None
event_when_met state.Waiter = None
event_when_met state.Value = None
event_when_met state.Taken = None
event_when_met state.Broken = None
event_when_met state.Resumed = None
event_when_met state.Cancelling = None
event_when_met state.Delegated = None

abbrev pub event_when_missed : CoreState → Option QueueStep
event_when_missed state.Cancelled = Some ends_missed
event_when_missed state.Refused = None
event_when_missed state.Empty = None
event_when_missed state.Waiter = None
event_when_missed state.Value = None
event_when_missed state.Taken = None
event_when_missed state.Broken = None
event_when_missed state.Resumed = None
event_when_missed state.Cancelling = None
event_when_missed state.Delegated = None

abbrev pub event_when_seen : CoreState → Option QueueStep
event_when_seen state.Value = Some (in_sync sees_value)
event_when_seen state.Taken = Some (in_sync sees_taken)
event_when_seen state.Empty = None
event_when_seen state.Waiter = None
event_when_seen state.Broken = None
event_when_seen state.Resumed = None
event_when_seen state.Cancelling = None
event_when_seen state.Delegated = None
event_when_seen state.Cancelled = None
event_when_seen state.Refused = None

abbrev pub event_when_found : CoreState → Option QueueStep
event_when_found state.Broken = Some (in_sync finds_broken)
event_when_found state.Empty = None
event_when_found state.Waiter = None
event_when_found state.Value = None
event_when_found state.Taken = None
event_when_found state.Resumed = None
event_when_found state.Cancelling = None
event_when_found state.Delegated = None
event_when_found state.Cancelled = None
event_when_found state.Refused = None

abbrev pub event_of : LoadStep → CoreState → Option QueueStep
event_of counts s = None
event_of watches s = None
event_of polls s = event_when_polled s
event_of cancels s = event_when_late s
event_of meets s = event_when_met s
event_of misses s = event_when_missed s
event_of sees s = event_when_seen s
event_of finds s = event_when_found s

-- the loads that a client of this manner makes
abbrev pub LoadSuits : Manner → LoadStep → Type 0
LoadSuits m counts = Unit {0}
LoadSuits m watches = Unit {0}
LoadSuits m polls = Unit {0}
LoadSuits m cancels = Unit {0}
LoadSuits m meets = IsSmart m.leaving
LoadSuits m misses = IsAtOnce m.leaving
LoadSuits m sees = m.watches ≡ true
LoadSuits m finds = m.watches ≡ true

-- what the pass learns from the state of the word that it found: that a wait of its own was served,
-- that its resumption ended, that its value was taken, or that its cell is broken
abbrev pub served_in : CellState → Learned
served_in shown.Resumed = Granted
served_in shown.Empty = Nothing
served_in shown.Waiter = Nothing
served_in shown.Value = Nothing
served_in shown.Taken = Nothing
served_in shown.Broken = Nothing
served_in shown.Cancelling = Nothing
served_in shown.Delegated = Nothing
served_in shown.Cancelled = Nothing
served_in shown.Refused = Nothing

abbrev pub refused_in : CellState → Learned
refused_in shown.Refused = Ended
refused_in shown.Empty = Nothing
refused_in shown.Waiter = Nothing
refused_in shown.Value = Nothing
refused_in shown.Taken = Nothing
refused_in shown.Broken = Nothing
refused_in shown.Resumed = Nothing
refused_in shown.Cancelling = Nothing
refused_in shown.Delegated = Nothing
refused_in shown.Cancelled = Nothing

abbrev pub cancelled_in : CellState → Learned
cancelled_in shown.Cancelled = Ended
cancelled_in shown.Empty = Nothing
cancelled_in shown.Waiter = Nothing
cancelled_in shown.Value = Nothing
cancelled_in shown.Taken = Nothing
cancelled_in shown.Broken = Nothing
cancelled_in shown.Resumed = Nothing
cancelled_in shown.Cancelling = Nothing
cancelled_in shown.Delegated = Nothing
cancelled_in shown.Refused = Nothing

abbrev pub taken_in : CellState → Learned
taken_in shown.Taken = Settled
taken_in shown.Empty = Nothing
taken_in shown.Waiter = Nothing
taken_in shown.Value = Nothing
taken_in shown.Broken = Nothing
taken_in shown.Resumed = Nothing
taken_in shown.Cancelling = Nothing
taken_in shown.Delegated = Nothing
taken_in shown.Cancelled = Nothing
taken_in shown.Refused = Nothing

abbrev pub broken_in : CellState → Learned
broken_in shown.Broken = Settled
broken_in shown.Empty = Nothing
broken_in shown.Waiter = Nothing
broken_in shown.Value = Nothing
broken_in shown.Taken = Nothing
broken_in shown.Resumed = Nothing
broken_in shown.Cancelling = Nothing
broken_in shown.Delegated = Nothing
broken_in shown.Cancelled = Nothing
broken_in shown.Refused = Nothing

abbrev pub learned_of : (CellState → Learned) → Option CellWord → Learned
learned_of by None = Nothing
learned_of by (Some cell) = by cell.state

-- A load that found the word n, by a pass that works at the number k: where that of another number
-- is found, a resume passes over the cell.
abbrev pub learns : LoadStep → ℕ → ℕ → Learned
learns counts k n = Nothing
learns watches k n = Nothing
learns polls k n = learned_of served_in (unpacked_cell n)
learns cancels k n = learned_of served_in (unpacked_cell n)
learns meets k n = if index_in n == k then learned_of refused_in (unpacked_cell n) else Nothing
learns misses k n = learned_of cancelled_in (unpacked_cell n)
learns sees k n = learned_of taken_in (unpacked_cell n)
learns finds k n = learned_of broken_in (unpacked_cell n)

-- a pass that has a ticket has that of this number
abbrev pub IsTicketOf : Doing → ℕ → Type 0
IsTicketOf at number = (k : ℕ) → at ≡ doing.Ticket k → number ≡ k

-- the states in which the cell of a wait that isn't closed may be found, that of an open ticket,
-- one that is watched, and one whose suspend is still to come, where the queue is synchronous or
-- isn't
abbrev pub MayStand : Bool → LoadStep → CoreState → Type 0
MayStand sync counts s = ⊥
MayStand sync watches s = ⊥
MayStand sync polls s = MayFind sync stage.idle s
MayStand sync cancels s = MayFind sync stage.idle s
MayStand sync meets s = MayFind sync stage.ticket s
MayStand sync misses s = MayFind sync stage.ticket s
MayStand sync sees s = MayFind sync stage.watching s
MayStand sync finds s = MayFind sync stage.drawn s

-- the payload of a step at a cell that has this one, by a pass at these facts
abbrev pub told_at : StepRow → ℕ → Facts → ℕ
told_at (at_counter row) left f = f.has.payload
told_at (at_cell row) left f = payload_told row.gain left f.has.payload

-- what a load leaves the pass to count: what it holds, whether it owes, and how many waits were
-- closed
abbrev pub held_learned : (ℕ → ℕ) → Learned → ℕ → ℕ
held_learned gains Nothing held = held
held_learned gains Granted held = gains held
held_learned gains Ended held = held
held_learned gains Settled held = held

abbrev pub owes_learned : Learned → Bool → Bool
owes_learned Nothing owes = owes
owes_learned Granted owes = owes
owes_learned Ended owes = false
owes_learned Settled owes = false

abbrev pub closed_learned : Learned → ℕ
closed_learned Nothing = 0
closed_learned Granted = 1
closed_learned Ended = 0
closed_learned Settled = 0

-- what a load of the cell of the number k leaves the pass at, by the event that it shows
abbrev pub facts_looked : Gains → Option QueueStep → ℕ → Glimpse → Facts → Facts
facts_looked gains None n g f = facts_watched g.number n f
facts_looked gains (Some s) n g f =
    facts_after gains (row_of s) g.number n (told_at (row_of s) g.payload f) f

module _ {E S : Type 0} where
  -- where a pass may load the cell of the number k so
  abbrev pub MayLook : LoadStep → View E S → ℕ → Type 0
  MayLook counts v k = ⊥
  MayLook watches v k = ⊥
  MayLook polls v k = (v.facts.doing ≡ doing.Idle) × Has k v.facts.waits
  MayLook cancels v k = (v.facts.doing ≡ doing.Idle) × Has k v.facts.waits
  MayLook meets v k = v.facts.doing ≡ doing.Ticket k
  MayLook misses v k = v.facts.doing ≡ doing.Ticket k
  MayLook sees v k = v.facts.doing ≡ doing.Watching k
  MayLook finds v k = v.facts.doing ≡ doing.Drawn k

  -- where it may load the word so
  abbrev pub MayLoad : LoadStep → View E S → ℕ → Type 0
  MayLoad counts v word = word ≡ suspends_place
  MayLoad watches v word = (k : ℕ) × KnowsPlace v (place_at word k)
  MayLoad polls v word = (k : ℕ) × KnowsPlace v (place_at word k) × MayLook polls v k
  MayLoad cancels v word = (k : ℕ) × KnowsPlace v (place_at word k) × MayLook cancels v k
  MayLoad meets v word = (k : ℕ) × KnowsPlace v (place_at word k) × MayLook meets v k
  MayLoad misses v word = (k : ℕ) × KnowsPlace v (place_at word k) × MayLook misses v k
  MayLoad sees v word = (k : ℕ) × KnowsPlace v (place_at word k) × MayLook sees v k
  MayLoad finds v word = (k : ℕ) × KnowsPlace v (place_at word k) × MayLook finds v k

-- what the pass counts where the program runs, after a load by which it learned this
pub record CarriesLearned (gains : ℕ → ℕ) (learned : Learned) (f g : Facts) : Type 0 where
  pub held : g.has.held ≡ held_learned gains learned f.has.held
  pub owes : is_owing g.doing ≡ owes_learned learned (is_owing f.doing)
  pub waits : length g.waits + closed_learned learned ≡ length f.waits
  pub further : g.has.further ≡ f.has.further
  pub spares : g.spare_slots ≡ f.spare_slots
  pub open_slot : g.open_slot ≡ f.open_slot
  pub ticket : (k : ℕ) → g.doing ≡ doing.Ticket k → f.doing ≡ doing.Ticket k

-- the suspend counter is n
abbrev pub IsDrawn : ℕ → Hidden → List ℕ → Type 0
IsDrawn n c words = c.queue.suspends ≡ n

module _ {C E S : Type 0} (object : Object E) (primitive : C → Primitive E S) where
  -- the entries of the event that a load shows
  abbrev pub look_entries : Option QueueStep → ℕ → Glimpse → Facts → List E
  look_entries None p g f = []
  look_entries (Some s) p g f = object.entries s p g.number (told_at (row_of s) g.payload f)

  -- a load of the cell of the number k found the word n
  pub record Looked (load : LoadStep) (k : ℕ) (v : View E S) (n : ℕ) (w : View E S) : Type 0 where
    pub glimpse : Glimpse
    pub number : glimpse.number ≡ k
    pub cell : FoundCell n glimpse
    pub may : MayStand v.opening.sync load glimpse.state
    pub since : SinceLast glimpse v.facts.last
    pub saw : Saw object v
        (facts_looked object.gains (event_of load glimpse.state) n glimpse v.facts)
        (look_entries (event_of load glimpse.state) v.number glimpse v.facts) w
    pub was : WasFound primitive (HasCell glimpse)
        (look_entries (event_of load glimpse.state) v.number glimpse v.facts) w

  -- the cell of the number k, which a pass knows to stand at the word that it watched, as it was
  pub record HasWatched (k : ℕ) (v : View E S) (n : ℕ) (w : View E S) : Type 0 where
    pub glimpse : Glimpse
    pub number : glimpse.number ≡ k
    pub cell : WatchedCell n glimpse
    pub since : SinceLast glimpse v.facts.last
    pub was : WasFound primitive (HasCell glimpse) [] w

  -- A load with no event found the word n. It tells of each cell that the pass knows to stand
  -- there.
  pub record Watched (word : ℕ) (v : View E S) (n : ℕ) (w : View E S) : Type 0 where
    pub saw : Saw object v (facts_watched (index_in n) n v.facts) [] w
    pub cells : (k : ℕ) → KnowsPlace v (place_at word k) → k < v.cells → HasWatched k v n w

  -- a load of the suspend counter found n
  pub record CountLoaded (v : View E S) (n : ℕ) (w : View E S) : Type 0 where
    pub saw : Saw object v (facts_counted v.limit n v.facts) [] w
    pub was : WasFound primitive (IsDrawn n) [] w

  -- a load of the word of this number found n: of a cell, whichever it is that the pass knows to
  -- stand there and may load so
  abbrev pub LoadedCell : LoadStep → ℕ → View E S → ℕ → View E S → Type 0
  LoadedCell load word v n w =
      (k : ℕ) → KnowsPlace v (place_at word k) → MayLook load v k → Looked load k v n w

  abbrev pub Loaded : LoadStep → ℕ → View E S → ℕ → View E S → Type 0
  Loaded counts word v n w = CountLoaded v n w
  Loaded watches word v n w = Watched word v n w
  Loaded polls word v n w = LoadedCell polls word v n w
  Loaded cancels word v n w = LoadedCell cancels word v n w
  Loaded meets word v n w = LoadedCell meets word v n w
  Loaded misses word v n w = LoadedCell misses word v n w
  Loaded sees word v n w = LoadedCell sees word v n w
  Loaded finds word v n w = LoadedCell finds word v n w

  abbrev pub loaded_by : LoadStep → Step (Option S) → Me (Option S) (View E S) → ℕ
      → Me (Option S) (View E S) → Type 0
  loaded_by load st me n me' =
      Loaded load st.word me.0 n me'.0 × (me'.1 ≡ me.1) × IsLive object me'.0
      × CarriesLearned object.gains.held (learns load (number_at me.0.facts.doing) n) me.0.facts
      me'.0.facts × IsSame me.0 me'.0
