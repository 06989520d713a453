-- What a look at a cell answers: the cell as it was found, or whether the wait in it was served.
use Rattle.std.specs.Prelude.{◌≡◌, ◌⊎◌, ℕ, ◌<◌, ◌≤◌, Bool, false, List, length, Option, Some, None}
use Rattle.cqs_core.specs.QueueCells.{rank}
use Rattle.cqs_words.specs.declared.cell.CellState.TheVariants as shown
use Rattle.cqs_words.specs.declared.cell.CellWord.{CellWord}
use Rattle.cqs_words.specs.Cell.{index_in}
use Rattle.cqs_rule_laws.specs.declared.client.ClientWords.{Ghosts}
use Rattle.cqs_rule_laws.specs.declared.config.Place.{Place}
use Rattle.cqs_rule.specs.declared.queue.Pass.{Pass}
use Rattle.cqs_rule_laws.specs.declared.view.View.{View}
use Rattle.cqs_rule_laws.specs.declared.view.Glimpse.{Glimpse}
use Rattle.cqs_rule_laws.specs.Exchanges.{FoundCell, HasCell, SinceLast}
use Rattle.cqs_rule_laws.specs.Kinds.{change_of}
use Rattle.cqs_rule_laws.specs.Loads.{LoadStep, polls, event_of, facts_looked, HasWatched, look_entries, MayStand, Watched}
use Rattle.cqs_rule_laws.specs.Object.{Object, Primitive}
use Rattle.cqs_rule_laws.specs.Saw.{Saw, WasFound}
use Rattle.cqs_core.specs.QueueSteps.{QueueStep}
use Rattle.cqs_rule.specs.Counting.{counted_after}
use Rattle.cqs_rule.specs.Passes.{pass_view}
use Rattle.cqs_cell.specs.Found.{Shows, cell_gone}

-- The cell of the glimpse is settled, and has left: the word n, which was found, is that of a later
-- number.
pub record HasLeft (n : ℕ) (g : Glimpse) (cell : CellWord) : Type 0 where
  pub settled : rank g.state ≡ 4
  pub later : g.number < index_in n
  pub gone : cell ≡ cell_gone g.number

-- whether the event of a load settles the cell
abbrev pub settles_event : Option QueueStep → Bool
settles_event None = false
settles_event (Some s) = (change_of s).settles

module _ {C E S : Type 0} (object : Object E) (primitive : C → Primitive E S) where
  -- A load of the cell of the number k found the word n. If it settled the cell, that is counted,
  -- and by that at most one head was found.
  pub record LookedThen (load : LoadStep) (k : ℕ) (v : View E S) (n : ℕ) (w : View E S)
      : Type 0 where
    pub glimpse : Glimpse
    pub number : glimpse.number ≡ k
    pub cell : FoundCell n glimpse
    pub may : MayStand v.opening.sync load glimpse.state
    pub since : SinceLast glimpse v.facts.last
    pub heads : List (ℕ × ℕ)
    pub few_heads : length heads ≤ 1
    pub saw : Saw object v
        (counted_after (settles_event (event_of load glimpse.state)) heads
        (facts_looked object.gains (event_of load glimpse.state) n glimpse v.facts))
        (look_entries object primitive (event_of load glimpse.state) v.number glimpse v.facts) w
    pub was : WasFound primitive (HasCell glimpse)
        (look_entries object primitive (event_of load glimpse.state) v.number glimpse v.facts) w

  -- the cell of the number k was loaded so, and answered as this one
  pub record LooksAt (load : LoadStep) (k : ℕ) (v : View E S) (cell : CellWord) (w : View E S)
      : Type 0 where
    pub word : ℕ
    pub looked : LookedThen load k v word w
    pub shows : Shows word looked.glimpse cell

  -- The cell of the number k was watched so, with no event. Whoever only watches may find that it
  -- has left, in whatever final state.
  pub record WatchesAt (k word : ℕ) (v : View E S) (cell : CellWord) (w : View E S) : Type 0 where
    pub found : ℕ
    pub watched : Watched object primitive word v found w
    pub saw : HasWatched object primitive k v found w
    pub shows : Shows found saw.glimpse cell ⊎ HasLeft found saw.glimpse cell

-- What the owner of a wait learned from its cell: this was left in it when the wait was served; or
-- nothing, since the wait goes on.
abbrev pub IsGrant : Option ℕ → CellWord → Type 0
IsGrant (Some payload) cell = (cell.state ≡ shown.Resumed) × (cell.payload ≡ payload)
IsGrant None cell = cell.state ≡ shown.Waiter

module _ {C S E : Type 0} {g : Ghosts C S E} where
  abbrev pub HasLookedAt : LoadStep → ℕ → CellWord → Pass C S E g → Pass C S E g → Type 0
  HasLookedAt load k cell p p' =
      LooksAt g.object g.primitive load k (pass_view p) cell (pass_view p')

  abbrev pub WatchedAt : Place → CellWord → Pass C S E g → Pass C S E g → Type 0
  WatchedAt at cell p p' =
      WatchesAt g.object g.primitive at.index at.word (pass_view p) cell (pass_view p')

  -- a look by the word that was found
  abbrev pub HasLookedAtWord : LoadStep → ℕ → ℕ → Pass C S E g → Pass C S E g → Type 0
  HasLookedAtWord load k word p p' =
      LookedThen g.object g.primitive load k (pass_view p) word (pass_view p')

  -- the owner of the wait k looked at its cell, and learned this
  pub record HasPolled (k : ℕ) (found : Option ℕ) (p p' : Pass C S E g) : Type 0 where
    pub cell : CellWord
    pub looks : HasLookedAt polls k cell p p'
    pub grant : IsGrant found cell
