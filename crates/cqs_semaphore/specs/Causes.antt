-- Why a call answered as it did: what its steps found, and where in the history this was so.
use Rattle.std.specs.Prelude.{◌≡◌, ℕ, Bool, true, false, List, ◌∷◌, ◌++◌, count_by, map, ℤ}
use Rattle.cqs_core.specs.declared.cells.CoreState.{CoreState}
use Rattle.cqs_core.specs.declared.entries.Entry.{Entry}
use Rattle.cqs_core.specs.declared.entries.Entry.TheVariants as entry
use Rattle.cqs_core.specs.SemaphoreEntries.{object_after}
use Rattle.cqs_core.specs.SemaphoreShown.{state_of}
use Rattle.cqs_rule_laws.specs.declared.view.Sighting.{Sighting}
use Rattle.cqs_rule_laws.specs.declared.view.Sighting.TheVariants.{Word}
use Rattle.cqs_rule_laws.specs.declared.view.View.{View}
use Rattle.cqs_rule_laws.specs.Causes as laws
use Rattle.cqs_rule_laws.specs.Layout.{client_place}
use Rattle.cqs_rule_laws.specs.Lists.{IsPrefix}
use Rattle.cqs_semaphore_client.specs.SemaphoreMade.{primitive_of}
use Rattle.cqs_words.specs.State.{count_in}

-- a caller drew a number, and came to the end of the line
abbrev pub is_enter : Entry → Bool
is_enter (entry.Enter c k) = true
is_enter (entry.TakeNow c) = false
is_enter (entry.TakeDoor c) = false
is_enter (entry.TryGot c) = false
is_enter (entry.TryBusy c) = false
is_enter (entry.GiveFreed c) = false
is_enter (entry.GiveSent c) = false
is_enter (entry.Deliver k) = false
is_enter (entry.Spoil c k) = false
is_enter (entry.Undo c k) = false
is_enter (entry.Leave c k) = false
is_enter (entry.Late c k) = false
is_enter (entry.LookGranted c k) = false
is_enter (entry.LookPending c k) = false

-- how many numbers were drawn in a history
abbrev pub drawn_in : List Entry → ℕ
drawn_in history = count_by is_enter history

module _ {T : Type 0} where
  -- the state of the plain semaphore after a history
  abbrev pub state_after : View Entry T → List Entry → ℤ
  state_after v history = state_of (object_after v.opening.size history)

  -- A step of the call found the state to be this count: it was that of the plain semaphore after
  -- this history, which the pass has seen all of, and what it had seen before is the prefix of
  -- it. The step's own entry, where it has one, comes next.
  pub record StateWas (v : View Entry T) (count : ℤ) (before own : List Entry) (w : View Entry T)
      : Type 0 where
    pub since : IsPrefix v.seen before
    pub seen : IsPrefix (before ++ own) w.seen
    pub state : count ≡ state_after w before
    pub word : ℕ
    pub count_is : count ≡ count_in word
    pub found : (earlier : List Sighting) × (later : List Sighting)
        × (w.facts.found ≡ v.facts.found ++ (earlier ++ Word (client_place 0) word ∷ later))

  -- The steps of a call found the state to be these counts, in this order. Nothing else was found
  -- by them, on a counter or a cell.
  pub record FoundJust (counts : List ℤ) (v w : View Entry T) : Type 0 where
    pub words : List ℕ
    pub are : counts ≡ map count_in words
    pub found : w.facts.found ≡ v.facts.found ++ map (Word (client_place 0)) words

  -- a step of the call found the cell of the number k in this state: its last step, or any
  abbrev pub CellWas : CoreState → ℕ → List Entry → View Entry T → Type 0
  CellWas state k own w = laws.CellWas (primitive_of {T = T}) state k own w

  abbrev pub CellWasOnce : CoreState → ℕ → View Entry T → View Entry T → Type 0
  CellWasOnce state k v w = laws.CellWasOnce (primitive_of {T = T}) state k v w
