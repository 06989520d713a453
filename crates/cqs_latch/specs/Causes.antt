-- What the steps of a call found, and where in the history it was so.
use Rattle.std.specs.Prelude.{◌≡◌, ℕ, List, ◌∷◌, ◌++◌, None}
use Rattle.cqs_core.specs.declared.cells.CoreState.{CoreState}
use Rattle.cqs_core.specs.declared.doings.Doing.TheVariants as doing
use Rattle.cqs_latch_object.specs.declared.entries.LatchEntry.{LatchEntry}
use Rattle.cqs_latch_object.specs.LatchObject.{Latch}
use Rattle.cqs_rule_laws.specs.declared.view.Facts.{Facts}
use Rattle.cqs_rule_laws.specs.declared.view.Sighting.{Sighting}
use Rattle.cqs_rule_laws.specs.declared.view.Sighting.TheVariants.{Word}
use Rattle.cqs_rule_laws.specs.declared.view.View.{View}
use Rattle.cqs_rule_laws.specs.Causes as laws
use Rattle.cqs_rule_laws.specs.Layout.{suspends_place, client_place}
use Rattle.cqs_rule_laws.specs.Lists.{IsPrefix}
use Rattle.cqs_rule_laws.specs.Object.{Primitive}
use Rattle.cqs_latch.specs.declared.client.LatchClient.{LatchClient}
use Rattle.cqs_latch.specs.Latch.{latch_primitive}
use Rattle.cqs_latch.specs.LatchMade.{count_of, mode_of}
use Rattle.cqs_latch.specs.LatchTold.{latch_after}

-- an idle pass at these facts that made these loads, and is idle again
abbrev pub facts_turned : List Sighting → Facts → Facts
facts_turned loads f =
    record f { doing = doing.Idle; last = None; reached = 0; found = f.found ++ loads }

module _ {T : Type 0} where
  abbrev pub primitive_of : LatchClient T → Primitive LatchEntry T
  primitive_of x = latch_primitive (mode_of x) (count_of x)

  -- A step of the call found the word i to be n, and this held of it and of the plain latch at its
  -- place: after this history, which the pass has seen all of, and of which what it had seen before
  -- the call is a prefix. The step's own entry, where it has one, comes next.
  pub record WordWas (i : ℕ) (Reads : ℕ → ℕ → Latch → Type 0) (v : View LatchEntry T) (n : ℕ)
      (before own : List LatchEntry) (w : View LatchEntry T) : Type 0 where
    pub since : IsPrefix v.seen before
    pub seen : IsPrefix (before ++ own) w.seen
    pub reads : Reads w.opening.size n (latch_after w before)
    pub found : (earlier : List Sighting) × (later : List Sighting)
        × (w.facts.found ≡ v.facts.found ++ (earlier ++ Word (client_place i) n ∷ later))

  -- A step of the call loaded the suspend counter and found n: it was the next number of the plain
  -- latch after this history.
  pub record NextWas (v : View LatchEntry T) (n : ℕ) (before : List LatchEntry)
      (w : View LatchEntry T) : Type 0 where
    pub since : IsPrefix v.seen before
    pub seen : IsPrefix before w.seen
    pub next : (latch_after w before).waiters.next ≡ n
    pub found : (earlier : List Sighting) × (later : List Sighting)
        × (w.facts.found ≡ v.facts.found ++ (earlier ++ Word suspends_place n ∷ later))

  -- a step of the call found the cell of the number k in this state: its last step, or any
  abbrev pub CellWas : CoreState → ℕ → List LatchEntry → View LatchEntry T → Type 0
  CellWas state k own w = laws.CellWas primitive_of state k own w

  abbrev pub CellWasOnce : CoreState → ℕ → View LatchEntry T → View LatchEntry T → Type 0
  CellWasOnce state k v w = laws.CellWasOnce primitive_of state k v w
