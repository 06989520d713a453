-- The running rule of one table: what holds of its words and of its passes' views between any two
-- steps.
use Rattle.std.specs.Prelude.{◌≡◌, ◌≢◌, ◌⊎◌, ℕ, ◌+◌, ◌<◌, ◌≤◌, ◌^◌, Bool, true, false, List, [], length, slice_index, slice_get, count_by, Option, Some, None}
use mathlib.Core.Option.{some}
use lib.ListN.{get_elem?}
use Rattle.atomic_table.specs.Table.{State}
use Rattle.cqs_core.specs.declared.cells.CoreCell.{CoreCell}
use Rattle.cqs_core.specs.declared.cells.CoreState.{CoreState}
use Rattle.cqs_core.specs.declared.cells.CoreState.TheVariants as state
use Rattle.cqs_core.specs.declared.doings.Doing.{Doing}
use Rattle.cqs_core.specs.declared.doings.Doing.TheVariants as doing
use Rattle.cqs_core.specs.QueueState.{Queue}
use Rattle.cqs_words.specs.declared.cell.CellState.{CellState}
use Rattle.cqs_words.specs.declared.cell.CellState.TheVariants as shown
use Rattle.cqs_words.specs.Cell.{cell_word, state_code}
use Rattle.cqs_words.specs.Crew.{crew_word}
use Rattle.cqs_rule_laws.specs.declared.view.View.{View}
use Rattle.cqs_rule_laws.specs.declared.view.Facts.{Facts}
use Rattle.cqs_rule_laws.specs.declared.view.Glimpse.{Glimpse}
use Rattle.cqs_core.specs.QueueCells.{rank, IsInstalled, IsBare}
use Rattle.cqs_rule_laws.specs.declared.view.Opening.{Opening}
use Rattle.cqs_rule_laws.specs.Configured.{largest_limit}
use Rattle.cqs_rule_laws.specs.Object.{Object, Primitive}
use Rattle.cqs_rule_laws.specs.Layout.{crew_place, suspends_place, resumes_place, client_words, IsIdle}
use Rattle.cqs_rule_laws.specs.Drawn.{KnowsDrawn}
use Rattle.cqs_rule_laws.specs.Hidden.{Hidden, state_at}
use Rattle.cqs_rule_laws.specs.Lists.{Has, IsDistinct, total, IsPrefix, part}
use Rattle.cqs_rule_laws.specs.Facts.{IsBehind}
use Rattle.cqs_slots.specs.Shown.{Shows, AreSound, AreCells, AreCounted}
use Rattle.cqs_slots.specs.Slots.{Segments}
use Rattle.cqs_rule_laws.specs.Segments.{KnowsSegments}
use Rattle.cqs_rule_laws.specs.Spares.{SparesHold}
use Rattle.cqs_rule_laws.specs.Settling.{duties_in}
use Rattle.cqs_rule_laws.specs.Retiring.{AreToLeave}
use Rattle.cqs_rule_laws.specs.Manner.{IsSmart}
use Rattle.cqs_rule_laws.specs.Given.{AreTied, AreAware}
use Rattle.cqs_rule_laws.specs.Slots.{Shelf}
use Rattle.cqs_rule_laws.specs.Views.{WasCrew, all_own, weight, Apart, Tip, SpentHasNone, first_facts}

-- the state as a cell's word says it
abbrev pub shown_state : CoreState → CellState
shown_state state.Empty = shown.Empty
shown_state state.Waiter = shown.Waiter
shown_state state.Value = shown.Value
shown_state state.Taken = shown.Taken
shown_state state.Broken = shown.Broken
shown_state state.Resumed = shown.Resumed
shown_state state.Cancelling = shown.Cancelling
shown_state state.Delegated = shown.Delegated
shown_state state.Cancelled = shown.Cancelled
shown_state state.Refused = shown.Refused

-- the word of a cell
abbrev pub word_of : ℕ → CoreState → ℕ → ℕ
word_of k s payload = cell_word k (state_code (shown_state s)) payload

-- a table has a cell for each number that can be drawn, and for each value that stands in one at
-- first
abbrev pub cell_count : ℕ → ℕ → ℕ → ℕ
cell_count passes limit values = limit + passes + values

-- the two counters
pub record CountersShow (q : Queue) (words : List ℕ) : Type 0 where
  pub suspends : slice_index words suspends_place ≡ q.suspends
  pub resumes : slice_index words resumes_place ≡ q.resumes

-- what the word of each number's cell is
abbrev pub word_at : Hidden → ℕ → ℕ
word_at c k = word_of k (state_at c.queue k) (c.payloads k)

-- The cells, in the slots of their segments.
pub record CellsShow (t : Segments) (c : Hidden) (slots : ℕ) (words : List ℕ) : Type 0 where
  pub shows : Shows slots t (word_at c) words
  pub sound : AreSound slots t
  pub made : AreCells (word_at c) t.tail
  pub fits : (k : ℕ) → c.payloads k < 2 ^ 20
  pub bare : (k : ℕ) → IsBare (state_at c.queue k) → c.payloads k ≡ 0

-- nobody writes the words between: they hold 0 from the opening on
pub record IdleWords (words : List ℕ) : Type 0 where
  pub none : (i : ℕ) → IsIdle i → slice_index words i ≡ 0

-- each list has a place for each pass that may be made, and no counter can pass the cells: those
-- who may draw and the numbers drawn are together fewer than the limit and the passes
pub record HasRoom (passes limit values : ℕ) (c : Hidden) : Type 0 where
  pub few_passes : passes ≤ 32
  pub low_limit : limit ≤ largest_limit
  pub few_values : values ≤ 4096
  pub doing : length c.queue.doing ≡ passes
  pub has : length c.has ≡ passes
  pub may_draw : length c.may_draw ≡ passes
  pub ground : c.queue.suspends + count_by (λ b. b) c.may_draw < limit + passes
  pub resumes : c.queue.resumes ≤ limit + passes + values

-- the word of the crew, and the passes that it counts
pub record CrewShows {E S : Type 0} (passes made live : ℕ) (words : List ℕ)
    (views : List (View E S)) : Type 0 where
  pub word : slice_index words crew_place ≡ crew_word made live
  pub some_made : 0 < made
  pub few : made ≤ passes
  pub live_few : live ≤ made
  pub live_is : total weight views ≡ live

-- the cell of this number is the wait of the pass p, and isn't closed
pub record IsWaitOf (q : Queue) (p k : ℕ) : Type 0 where
  pub cell : CoreCell
  pub there : slice_get q.cells k ≡ Some cell
  pub owner : cell.owner ≡ Some p
  pub drawn : k < q.suspends
  pub uncollected : cell.collected ≡ false
  pub installed : IsInstalled cell.state

-- What is so of a settled cell: it is final, its suspend has come, nobody waits there, nobody
-- watches it, and only a resume that passes over it has its ticket still, or may yet draw one; this
-- by whether resumes of the client do.
pub record IsFinal (passes_on : Type 0) (q : Queue) (k : ℕ) : Type 0 where
  pub final : rank (state_at q k) ≡ 4
  pub drawn : k < q.suspends
  pub come : (p : ℕ) → slice_get q.doing p ≡ Some (doing.Drawn k) → ⊥
  pub unwatched : (p : ℕ) → slice_get q.doing p ≡ Some (doing.Watching k) → ⊥
  pub unwaited : (p : ℕ) → IsWaitOf q p k → ⊥
  pub met : (p : ℕ) → slice_get q.doing p ≡ Some (doing.Ticket k) → (state_at q k ≡ state.Cancelled)
      × passes_on
  pub reached : (k < q.resumes) ⊎ ((state_at q k ≡ state.Cancelled) × passes_on)

-- no pass watches the number
abbrev pub IsUnwatched : Queue → ℕ → Type 0
IsUnwatched q k = (p : ℕ) → slice_get q.doing p ≡ Some (doing.Watching k) → ⊥

-- the number was drawn to suspend at, and its pass has come to the cell
abbrev pub HasSuspended : Queue → ℕ → Type 0
HasSuspended q k = (k < q.suspends)
    × ((p : ℕ) → slice_get q.doing p ≡ Some (doing.Drawn k) → ⊥)

-- The cell in this state is over: its value was taken, and nobody watches it; or its suspend found
-- it broken; or nobody waits there any more who was served, or its wait has left and resumes of the
-- client pass on.
abbrev pub IsOverAt : Type 0 → Queue → ℕ → CoreState → Type 0
IsOverAt passes_on q k state.Taken = IsUnwatched q k
IsOverAt passes_on q k state.Resumed = (p : ℕ) → IsWaitOf q p k → ⊥
IsOverAt passes_on q k state.Cancelled = passes_on
IsOverAt passes_on q k state.Empty = ⊥
IsOverAt passes_on q k state.Waiter = ⊥
IsOverAt passes_on q k state.Value = ⊥
IsOverAt passes_on q k state.Broken = HasSuspended q k
IsOverAt passes_on q k state.Cancelling = ⊥
IsOverAt passes_on q k state.Delegated = ⊥
IsOverAt passes_on q k state.Refused = ⊥

abbrev pub IsOver : Type 0 → Queue → ℕ → Type 0
IsOver passes_on q k = IsOverAt passes_on q k (state_at q k)

-- the number at which a pass works
abbrev pub number_at : Doing → ℕ
number_at (doing.Drawn k) = k
number_at (doing.Ticket k) = k
number_at (doing.Leaving k) = k
number_at (doing.Watching k) = k
number_at (doing.Decided k on) = k
number_at doing.Idle = 0
number_at doing.Door = 0
number_at doing.Owes = 0
number_at (doing.TryAt v) = 0

-- the cell of the glimpse is still as it was found, or has gone on
abbrev pub HasGoneOn : CoreState → ℕ → Glimpse → Type 0
HasGoneOn now payload g = ((now ≡ g.state) × (payload ≡ g.payload)) ⊎ (rank g.state < rank now)

abbrev pub IsSince : Hidden → Option Glimpse → Type 0
IsSince c None = Unit {0}
IsSince c (Some g) = HasGoneOn (state_at c.queue g.number) (c.payloads g.number) g

-- the pass p is at these facts
pub record Stands (c : Hidden) (p : ℕ) (facts : Facts) : Type 0 where
  pub doing : slice_get c.queue.doing p ≡ Some facts.doing
  pub has : slice_get c.has p ≡ Some facts.has
  pub may_draw : slice_get c.may_draw p ≡ Some facts.may_draw
  pub waits : (k : ℕ) → Has k facts.waits → IsWaitOf c.queue p k
  pub all_waits : (k : ℕ) → IsWaitOf c.queue p k → Has k facts.waits
  pub once : IsDistinct facts.waits
  pub last : IsSince c facts.last
  pub behind : IsBehind c.queue.resumes facts

-- a pass at the door may draw
abbrev pub DoorMayDraw : Hidden → Type 0
DoorMayDraw c =
    (p : ℕ) → slice_get c.queue.doing p ≡ Some doing.Door → slice_get c.may_draw p ≡ Some true

-- no pass has this number yet: it stands where a pass begins
abbrev pub IsUnused : Hidden → ℕ → Type 0
IsUnused c p = Stands c p (first_facts 0)

-- The pass p was met away, or was not made yet: it is in the middle of nothing, holds nothing, and
-- has no wait.
pub record Rests (c : Hidden) (p : ℕ) : Type 0 where
  pub facts : Facts
  pub stands : Stands c p facts
  pub idle : facts.doing ≡ doing.Idle
  pub empty : facts.has.held ≡ 0
  pub owes_none : facts.has.further ≡ 0
  pub slotless : facts.has.slots ≡ []
  pub waitless : facts.waits ≡ []

-- the second pass of a view that counts for two
pub record HasSecond {E S : Type 0} (c : Hidden) (v : View E S) : Type 0 where
  pub own : Has v.second_number v.others
  pub stands : Stands c v.second_number v.second
  pub resting : (n : ℕ) → Has n v.others → n ≢ v.second_number → Rests c n
  pub payload_fits : v.second.has.payload < 2 ^ 20

-- the pass n that was made is that of a live view, or was met into it
pub record IsKept {E S : Type 0} (views : List (View E S)) (n : ℕ) : Type 0 where
  pub place : ℕ
  pub view : View E S
  pub there : get_elem? views place ≡ some view
  pub live : 0 < view.weight
  pub has : Has n (all_own view)

module _ {E S : Type 0} (object : Object E) where
  -- what a view has seen of the history: how it begins, and all of it that names the view's own
  -- passes
  pub record Sees (log : List E) (handed : List (ℕ × S)) (v : View E S) : Type 0 where
    pub seen : IsPrefix v.seen log
    pub other : IsPrefix v.other log
    pub handed_in : IsPrefix v.handed handed
    pub other_handed_in : IsPrefix v.other_handed handed
    pub mine : (n : ℕ) → Has n v.own → part object.names n v.seen ≡ part object.names n log
    pub theirs : (n : ℕ) → Has n v.others → part object.names n v.other ≡ part object.names n log

  -- what the rule says of one live view
  pub record Knows (c : Hidden) (log : List E) (handed : List (ℕ × S))
      (made live passes limit cells : ℕ) (opening : Opening)
      (v : View E S) : Type 0 where
    pub sees : Sees log handed v
    pub below : (n : ℕ) → Has n (all_own v) → n < made
    pub light : v.weight < 2 → v.others ≡ []
    pub parted : (n : ℕ) → Has n v.own → Has n v.others → ⊥
    pub own : Has v.number v.own
    pub stands : Stands c v.number v.facts
    pub resting : (n : ℕ) → Has n v.own → n ≢ v.number → Rests c n
    pub second : 1 < v.weight → HasSecond c v
    pub crew : WasCrew made live v.crew
    pub alone : v.alone ≡ true
        → (live ≡ 1) × (v.weight ≡ 1) × (v.seen ≡ log) × (v.handed ≡ handed)
        × KnowsDrawn v c.queue.resumes
    pub limit_is : v.limit ≡ limit
    pub cells_are : v.cells ≡ cells
    pub passes_are : v.passes ≡ passes
    pub opening_is : v.opening ≡ opening
    pub payload_fits : v.facts.has.payload < 2 ^ 20

  -- The rule, where so many values were handed in for each slot ahead of the entries that are to
  -- give it away.
  pub record RuledAhead (primitive : Primitive E S) (passes limit : ℕ) (ahead : ℕ → ℕ)
      (s : State (Option S) (View E S)) : Type 0 where
    pub hidden : Hidden
    pub log : List E
    pub handed : List (ℕ × S)
    pub made : ℕ
    pub live : ℕ
    pub crew : CrewShows passes made live s.words s.views
    pub counters : CountersShow hidden.queue s.words
    pub slots : ℕ
    pub segments : Segments
    pub cells : CellsShow segments hidden slots s.words
    pub settled : ℕ → Bool
    pub finals : (k : ℕ) → settled k ≡ true → IsFinal (IsSmart primitive.manner.leaving)
        hidden.queue k
    pub all_settled : (k : ℕ) → IsOver (IsSmart primitive.manner.leaving) hidden.queue k
        → settled k ≡ true
    pub counted : AreCounted segments settled (duties_in (λ (v : View E S). v.facts.duties) s.views)
    pub to_leave : AreToLeave segments s.views
    pub spares : SparesHold slots segments s.views
    pub idle_words : IdleWords s.words
    pub room : HasRoom passes limit primitive.values hidden
    pub suits : limit ≤ primitive.most_limit
    pub door : DoorMayDraw hidden
    pub shown : primitive.shows hidden (client_words s.words) log handed
    pub each_view : (j : ℕ) (v : View E S) → get_elem? s.views j ≡ some v → 0 < v.weight
        → Knows hidden log handed made live passes limit (cell_count passes limit primitive.values)
        primitive.opening v
    pub apart : Apart s.views
    pub spent : SpentHasNone s.views
    pub unnamed : (n : ℕ) → made ≤ n → part object.names n log ≡ []
    pub kept : (n : ℕ) → n < made → IsKept s.views n
    pub unused : (n : ℕ) → made ≤ n → n < passes → IsUnused hidden n
    pub tip : Tip log s.views
    pub shelf : Shelf primitive.opens handed live s.homes s.views
    pub tied : AreTied object.gives (length s.homes) ahead log handed
    pub aware : AreAware object.gives primitive.opens (length s.homes) log s.views
    pub noted : (j : ℕ) (v : View E S) → get_elem? s.views j ≡ some v → IsPrefix v.seen log
    pub each_segment : (j : ℕ) (v : View E S) → get_elem? s.views j ≡ some v
        → KnowsSegments slots segments v

  -- The rule, as it is between any two steps.
  abbrev pub Ruled : Primitive E S → ℕ → ℕ → State (Option S) (View E S) → Type 0
  Ruled primitive passes limit s = RuledAhead primitive passes limit (λ k. 0) s
