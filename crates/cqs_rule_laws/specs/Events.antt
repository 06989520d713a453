-- The steps on a client's words: what each shows, and what the client owes for it.
use Rattle.std.specs.Prelude.{◌≡◌, ◌⊎◌, ℕ, suc, ◌+◌, ◌-◌, ◌%◌, ◌^◌, ◌<◌, ◌==◌, Bool, true, List, [], ◌∷◌, ◌++◌, length, slice_index, slice_set, slice_get, Option, Some, None, ℤ, pos, negsuc, if◌then◌else◌}
use prog.Atomic.{either}
use Rattle.atomic_table.specs.Table.{Me, Step}
use Rattle.cqs_core.specs.declared.doings.Doing.{Doing}
use Rattle.cqs_core.specs.declared.doings.Doing.TheVariants as doing
use Rattle.cqs_core.specs.QueueLine.{line}
use Rattle.cqs_core.specs.QueueState.{Queue}
use Rattle.cqs_rule_laws.specs.declared.view.View.{View}
use Rattle.cqs_rule_laws.specs.declared.view.Facts.{Facts}
use Rattle.cqs_rule_laws.specs.declared.view.Has.{Has}
use Rattle.cqs_rule_laws.specs.declared.view.Opening.{Opening}
use Rattle.cqs_rule_laws.specs.declared.view.Sighting.TheVariants.{Word}
use Rattle.cqs_rule_laws.specs.Configured.{longest_line}
use Rattle.cqs_rule_laws.specs.Facts.{is_owing}
use Rattle.cqs_rule_laws.specs.Given.{times_given}
use Rattle.cqs_rule_laws.specs.Hidden.{Hidden, stands_at}
use Rattle.cqs_rule_laws.specs.Layout.{client_place}
use Rattle.cqs_rule_laws.specs.Lists.{NamesOnly}
use Rattle.cqs_rule_laws.specs.Object.{Object, Primitive}
use Rattle.cqs_rule_laws.specs.Saw.{Saw, IsLive, WasFound}
use Rattle.cqs_rule_laws.specs.Slots.{laid_in}

-- What a step on a client's word meets: what the object opened with, the pass and what it is at,
-- the word found, and whether the word was changed as the step means to. An exchange that finds
-- another word changes nothing; every other step is made in any case.
pub record Moment : Type 0 where
  pub opening : Opening
  pub pass : ℕ
  pub facts : Facts
  pub found : ℕ
  pub made : Bool

-- What such a step shows: its entries, and what its pass is doing then and has of its own. How much
-- it holds, and how many further resumptions it owes, is counted where the program runs, too: by
-- what the pass had, the word found, and whether the step was made.
pub record Event (E : Type 0) : Type 0 where
  pub entries : Moment → List E
  pub doing : Moment → Doing
  pub holds : Moment → ℕ
  pub payload : Moment → ℕ
  pub further : Moment → ℕ
  pub slots : Moment → List ℕ

-- whether a step on a client's word is made, by the word that it finds: a load or a sum in any
-- case, and an exchange where it finds the word that it saw
abbrev pub in_any_case : ℕ → Bool
in_any_case n = true

abbrev pub where_found : ℕ → ℕ → Bool
where_found saw n = n == saw

-- the step of the pass p at these facts that finds n
abbrev pub moment : Opening → ℕ → Facts → (ℕ → Bool) → ℕ → Moment
moment opening p facts made n = record
    { opening = opening; pass = p; facts = facts; found = n; made = made n }

-- the moment, as far as the program knows it: what the pass held, the word found, and whether the
-- step was made
pub record IsMoment (held found : ℕ) (made : Bool) (m : Moment) : Type 0 where
  pub held_is : m.facts.has.held ≡ held
  pub found_is : m.found ≡ found
  pub made_is : m.made ≡ made

-- what a pass holds after such a step fits 32 bits
pub record HoldsFew {E : Type 0} (event : Event E) (held found : ℕ) (made : Bool) : Type 0 where
  pub at : Moment
  pub is : IsMoment held found made at
  pub few : event.holds at < 2 ^ 32

module _ {E : Type 0} (event : Event E) where
  abbrev pub has_then : Moment → Has
  has_then m = record {
    held = event.holds m;
    payload = event.payload m;
    further = event.further m;
    slots = event.slots m;
  }

  -- what the pass is at after the step, made at this place
  abbrev pub facts_moved : ℕ → Moment → Facts
  facts_moved place m = record m.facts {
    doing = event.doing m;
    has = has_then m;
    last = None;
    reached = if is_owing m.facts.doing then m.facts.reached else 0;
    found = m.facts.found ++ Word place m.found ∷ [];
  }

-- the client's word i is n
abbrev pub HasWord : ℕ → ℕ → Hidden → List ℕ → Type 0
HasWord i n c words = slice_index words i ≡ n

module _ {C E S : Type 0} (object : Object E) (primitive : C → Primitive E S)
    (event : Event E) where
  -- a step on the client's word at this place found n, and showed the event
  pub record Moved (made : ℕ → Bool) (place : ℕ) (v : View E S) (n : ℕ) (w : View E S)
      : Type 0 where
    pub saw : Saw object v (facts_moved event place (moment v.opening v.number v.facts made n))
        (event.entries (moment v.opening v.number v.facts made n)) w
    pub was : (i : ℕ) → place ≡ client_place i
        → WasFound primitive (HasWord i n)
        (event.entries (moment v.opening v.number v.facts made n)) w

  -- a load, or a sum: it is made in any case
  abbrev pub moved_by : Step (Option S) → Me (Option S) (View E S) → ℕ → Me (Option S) (View E S)
      → Type 0
  moved_by st me n me' =
      Moved in_any_case st.word me.0 n me'.0 × (me'.1 ≡ me.1) × IsLive object me'.0

  -- an exchange, from its first operand
  abbrev pub exchanged_by : Step (Option S) → Me (Option S) (View E S) → ℕ
      → Me (Option S) (View E S) → Type 0
  exchanged_by st me n me' =
      Moved (where_found st.first) st.word me.0 n me'.0 × (me'.1 ≡ me.1) × IsLive object me'.0

-- a word with a signed number added, as it wraps
abbrev pub raise : ℤ → ℕ
raise (pos k) = k
raise (negsuc k) = 2 ^ 64 - suc k

abbrev pub word_plus : ℤ → ℕ → ℕ
word_plus by n = (n + raise by) % 2 ^ 64

-- a word after an exchange
abbrev pub word_after_exchange : ℕ → ℕ → ℕ → ℕ
word_after_exchange saw new n = either (where_found saw n) new n

-- Few wait in line, and no more numbers were drawn to suspend at than the limit and the passes
-- allow, whenever a step is made.
pub record IsShort (limit : ℕ) (q : Queue) : Type 0 where
  pub line : length (line q) < longest_line
  pub drawn : q.suspends < limit + 32

-- A step that shows the event leaves its pass the slots that it has laid something into, and gives
-- none away.
pub record SlotsStay {E S : Type 0} (object : Object E) (primitive : Primitive E S) (slots : ℕ)
    (event : Event E) (made : ℕ → Bool) (v : View E S) : Type 0 where
  pub stay : (n k : ℕ) (x : Option S) → k < slots → laid_in v.laid k ≡ Some x
      → primitive.opens v.facts.has k
      → primitive.opens (has_then event (moment primitive.opening v.number v.facts made n)) k
  pub none : (n k : ℕ) → k < slots → times_given object.gives
      (event.entries (moment primitive.opening v.number v.facts made n)) k ≡ 0

-- a pass is at no number that it is to suspend at, and watches none
abbrev pub IsAway : Doing → Type 0
IsAway (doing.Drawn k) = ⊥
IsAway (doing.Watching k) = ⊥
IsAway doing.Idle = Unit {0}
IsAway (doing.TryAt v) = Unit {0}
IsAway doing.Door = Unit {0}
IsAway doing.Owes = Unit {0}
IsAway (doing.Ticket k) = Unit {0}
IsAway (doing.Leaving k) = Unit {0}
IsAway (doing.Decided k on) = Unit {0}

-- a pass goes on with what it does, or is at no such number before and after
abbrev pub StaysAway : Doing → Doing → Type 0
StaysAway from to = (to ≡ from) ⊎ (IsAway from × IsAway to)

-- What a client owes for a step on its word i, by which n becomes f n: wherever the pass is at
-- these facts, the client's words, the entries and the pass's next facts go together again. What is
-- owed stays, and a step without an event leaves all that the pass has, and whether it owes. A step
-- that brings the pass to the door needs that it may draw, unless it is there already.
pub record Moves {E S : Type 0} (object : Object E) (primitive : Primitive E S) (event : Event E)
    (made : ℕ → Bool)
    (p : ℕ) (facts : Facts) (i : ℕ) (f : ℕ → ℕ) : Type 0 where
  pub step : (c : Hidden) (words : List ℕ) (log : List E) (handed : List (ℕ × S))
      → primitive.shows c words log handed
      → slice_get c.queue.doing p ≡ Some facts.doing → slice_get c.has p ≡ Some facts.has
      → IsShort primitive.most_limit c.queue → slice_index words i < 2 ^ 64
      → primitive.shows
      (stands_at c p (event.doing (moment primitive.opening p facts made (slice_index words i)))
      (has_then event (moment primitive.opening p facts made (slice_index words i))))
      (slice_set words i (f (slice_index words i)))
      (log ++ event.entries (moment primitive.opening p facts made (slice_index words i))) handed
  pub silent : (n : ℕ)
      → NamesOnly object.names p (event.entries (moment primitive.opening p facts made n))
  pub door : (n : ℕ) → event.doing (moment primitive.opening p facts made n) ≡ doing.Door
      → (facts.doing ≡ doing.Door) ⊎ (facts.may_draw ≡ true)
  pub ticket : (n k : ℕ) → event.doing (moment primitive.opening p facts made n) ≡ doing.Ticket k
      → facts.doing ≡ doing.Ticket k
  pub away : (n : ℕ)
      → StaysAway facts.doing (event.doing (moment primitive.opening p facts made n))
  pub owed : (n : ℕ) → is_owing facts.doing ≡ true
      → event.payload (moment primitive.opening p facts made n) ≡ facts.has.payload
  pub keeps : (n : ℕ) → event.entries (moment primitive.opening p facts made n) ≡ []
      → has_then event (moment primitive.opening p facts made n) ≡ facts.has
  pub owing : (n : ℕ) → event.entries (moment primitive.opening p facts made n) ≡ []
      → is_owing (event.doing (moment primitive.opening p facts made n)) ≡ is_owing facts.doing
  pub fits : (n : ℕ) → facts.has.payload < 2 ^ 20
      → event.payload (moment primitive.opening p facts made n) < 2 ^ 20
