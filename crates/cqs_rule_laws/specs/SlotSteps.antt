-- What the steps on value slots tell: a slot is taken from its home, put back, filled before any
-- call, and given away with what lies in it.
use Rattle.std.specs.Prelude.{◌≡◌, ℕ, ◌<◌, ◌==◌, Bool, true, List, [], ◌∷◌, ◌++◌, Option, Some, None, if◌then◌else◌}
use Rattle.atomic_table.specs.Table.{Me, Step}
use Rattle.cqs_core.specs.QueueSteps.{puts, row_of}
use Rattle.cqs_rule_laws.specs.declared.view.View.{View}
use Rattle.cqs_rule_laws.specs.Counts.{DrewBy, IsDrawnAt}
use Rattle.cqs_rule_laws.specs.Events.{Event, Moved, moment, has_then}
use Rattle.cqs_rule_laws.specs.Given.{IsLastGiven, times_given}
use Rattle.cqs_rule_laws.specs.Kinds.{Carries}
use Rattle.cqs_rule_laws.specs.Lists.{IsPrefix}
use Rattle.cqs_rule_laws.specs.Object.{Object, Primitive}
use Rattle.cqs_rule_laws.specs.Saw.{IsLive}
use Rattle.cqs_rule_laws.specs.Slots.{laid_in, taken_off, handed_in}

-- Such a value was handed in for the slot, the last of all that the pass has seen handed in.
pub record HandedIn {E S : Type 0} (slot : ℕ) (value : S) (v w : View E S) : Type 0 where
  pub before : List (ℕ × S)
  pub is : w.handed ≡ before ++ (slot, value) ∷ []
  pub old : IsPrefix v.handed before
  -- a pass that is alone had seen all that was handed in before
  pub whole : v.alone ≡ true → before ≡ v.handed
  -- nothing else lies there now
  pub off : laid_in w.laid slot ≡ None

-- It was handed in, and maybe more after it.
pub record WasHandedIn {E S : Type 0} (slot : ℕ) (value : S) (v w : View E S) : Type 0 where
  pub before : List (ℕ × S)
  pub old : IsPrefix v.handed before
  pub now : IsPrefix (before ++ (slot, value) ∷ []) w.handed
  pub off : laid_in w.laid slot ≡ None

-- What lay in the slot k: what the pass had laid there, or else what was handed in last for it.
pub record LayIn {E S : Type 0} (k : ℕ) (value : Option S) (v w : View E S) : Type 0 where
  pub mine : (x : Option S) → laid_in v.laid k ≡ Some x → value ≡ x
  pub handed : List (ℕ × S)
  pub since : IsPrefix v.handed handed
  pub seen : IsPrefix handed w.handed
  pub last : laid_in v.laid k ≡ None → value ≡ handed_in handed k

module _ {E S : Type 0} where
  -- the slot k was taken from its home, with what lay in it
  pub record TookOut (k : ℕ) (v w : View E S) (items : List (ℕ × Option S)) : Type 0 where
    pub value : Option S
    pub items_are : items ≡ (k, value) ∷ []
    pub mine : (x : Option S) → laid_in v.laid k ≡ Some x → value ≡ x
    pub last : laid_in v.laid k ≡ None → value ≡ handed_in w.handed k
    pub is : w ≡ record v { facts = record v.facts { open_slot = Some k }; handed = w.handed }
    pub more : IsPrefix v.handed w.handed
    pub whole : v.alone ≡ true → w.handed ≡ v.handed

  -- it was put back, and this is what the pass has laid into slots now
  pub record PutBack (laid : List (ℕ × Option S)) (v w : View E S) : Type 0 where
    pub is : w ≡ record v {
      facts = record v.facts { open_slot = None };
      handed = w.handed;
      laid = laid;
    }
    pub more : IsPrefix v.handed w.handed

  -- a swap as a whole: the pass has seen nothing but values that were handed in
  pub record Swapped (laid : List (ℕ × Option S)) (v w : View E S) : Type 0 where
    pub is : w ≡ record v { handed = w.handed; laid = laid }
    pub more : IsPrefix v.handed w.handed

  -- a swap lays it there
  abbrev pub put_back : ℕ → Step (Option S) → Me (Option S) (View E S) → ℕ
      → Me (Option S) (View E S) → Type 0
  put_back k st me n me' = (x : Option S) → me.1 ≡ (k, x) ∷ []
      → PutBack ((k, x) ∷ me.0.laid) me.0 me'.0 × (me'.1 ≡ [])

  -- the first value of a slot is handed in
  abbrev pub filled : ℕ → Step (Option S) → Me (Option S) (View E S) → ℕ
      → Me (Option S) (View E S) → Type 0
  filled k st me n me' = (y : S) → me.1 ≡ (k, Some y) ∷ []
      → PutBack me.0.laid me.0 me'.0 × HandedIn k y me.0 me'.0 × (me'.1 ≡ [])

-- The pass has laid a value into the slot, and has seen one that was handed in for it before.
pub record LaysValue {E S : Type 0} (slot : ℕ) (v : View E S) : Type 0 where
  pub value : S
  pub laid : laid_in v.laid slot ≡ Some (Some value)
  pub last : S
  pub filled : handed_in v.handed slot ≡ Some last

-- By the event the pass gives away this slot alone, and no other of those that it has laid
-- something into; and a value lies there.
pub record GivesAway {E S : Type 0} (object : Object E) (primitive : Primitive E S) (slots : ℕ)
    (event : Event E)
    (made : ℕ → Bool)
    (slot : ℕ) (v : View E S) : Type 0 where
  pub lies : LaysValue slot v
  pub gives : (n k : ℕ) → k < slots → times_given object.gives
      (event.entries (moment primitive.opening v.number v.facts made n)) k
      ≡ (if slot == k then 1 else 0)
  pub others : (n k : ℕ) (x : Option S) → laid_in (taken_off slot v.laid) k ≡ Some x
      → primitive.opens v.facts.has k
      → primitive.opens (has_then event (moment primitive.opening v.number v.facts made n)) k

-- The value was handed in by the entry of this step, which gives the slot away.
pub record HandedBy {E S : Type 0} (object : Object E) (slot : ℕ) (value : S)
    (v w : View E S) : Type 0 where
  pub handed : HandedIn slot value v w
  pub numbered : IsLastGiven object.gives slot value w.seen w.handed

-- An entry of this pass gave the slot away, and handed the value in: it is the value of this
-- entry's number. Maybe more was seen after it.
pub record WasHandedBy {E S : Type 0} (object : Object E) (slot : ℕ) (value : S) (v w : View E S)
    : Type 0 where
  pub handed : WasHandedIn slot value v w
  pub before : List E
  pub entry : E
  pub since : IsPrefix v.seen before
  pub seen : IsPrefix (before ++ entry ∷ []) w.seen
  pub own : object.names v.number entry ≡ true
  pub gives : object.gives entry ≡ Some slot
  pub numbered : IsLastGiven object.gives slot value (before ++ entry ∷ []) w.handed

module _ {E S : Type 0} (object : Object E) where
  -- what was handed in last for the slot is of the last entry seen that gave it away
  abbrev pub KnowsLast : ℕ → View E S → Type 0
  KnowsLast k v = (y : S) → handed_in v.handed k ≡ Some y
      → IsLastGiven object.gives k y v.seen v.handed

  -- what lay there, where the pass had laid nothing, is of the last entry seen that gave it away
  abbrev pub LayLast : ℕ → Option S → View E S → View E S → Type 0
  LayLast k value v w = laid_in v.laid k ≡ None → (y : S) → value ≡ Some y
      → IsLastGiven object.gives k y v.seen w.handed

  abbrev pub took_out : ℕ → Step (Option S) → Me (Option S) (View E S) → ℕ
      → Me (Option S) (View E S) → Type 0
  took_out k st me n me' = TookOut k me.0 me'.0 me'.1 × KnowsLast k me'.0

module _ {C E S : Type 0} (object : Object E) (primitive : C → Primitive E S)
    (event : Event E) where
  -- the value that lies in the slot is handed in by the same step
  abbrev pub given_by : (ℕ → Bool) → ℕ → Step (Option S) → Me (Option S) (View E S) → ℕ
      → Me (Option S) (View E S) → Type 0
  given_by made slot st me n me' =
      Moved object primitive event made st.word me.0 n me'.0 × (me'.1 ≡ me.1) × IsLive object me'.0
      × ((y : S) → laid_in me.0.laid slot ≡ Some (Some y) → HandedBy object slot y me.0 me'.0)

module _ {E : Type 0} (object : Object E) where
  module _ {S : Type 0} where
    -- a number is drawn to resume at and paid for with this element; the value that lies in its
    -- slot is handed in by the same step
    abbrev pub put_by : ℕ → Step (Option S) → Me (Option S) (View E S) → ℕ
        → Me (Option S) (View E S) → Type 0
    put_by slot st me n me' =
        DrewBy object puts (row_of puts) slot me.0 n me'.0 × (me'.1 ≡ me.1) × IsLive object me'.0
        × Carries object.gains.held (row_of puts) me.0.facts me'.0.facts
        × IsDrawnAt puts me.0.facts n
        × ((y : S) → laid_in me.0.laid slot ≡ Some (Some y)
        → HandedBy object slot y me.0 me'.0)

-- the one slot that is taken from its home is this
abbrev pub IsOut : {S : Type 0} → ℕ → List (ℕ × Option S) → Type 0
IsOut {S} k items = (x : Option S) × (items ≡ (k, x) ∷ [])

-- No other pass is there, no call was made yet, and the slot is empty since the table was made.
pub record IsUntouched {E S : Type 0} (slot : ℕ) (v : View E S) : Type 0 where
  pub alone : v.alone ≡ true
  pub none : v.seen ≡ []
  pub empty : handed_in v.handed slot ≡ None
  pub unlaid : laid_in v.laid slot ≡ None
