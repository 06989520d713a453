-- A jump of the resume counter: by one exchange a pass that owes a resumption passes over all
-- numbers between two, whose segments were taken out. That stands for drawing each of them and
-- meeting its cell; of neither is there an entry.
use Rattle.std.specs.Prelude.{◌≡◌, ℕ, ◌/◌, ◌<◌, ◌≤◌, [], ◌∷◌, ◌++◌, Option, None}
use Rattle.atomic_table.specs.Table.{Me, Step}
use Rattle.cqs_core.specs.declared.cells.CoreState.TheVariants as state
use Rattle.cqs_core.specs.declared.doings.Doing.TheVariants as doing
use Rattle.cqs_rule_laws.specs.declared.loads.Learned.TheVariants.{Nothing}
use Rattle.cqs_rule_laws.specs.declared.view.Facts.{Facts}
use Rattle.cqs_rule_laws.specs.declared.view.Sighting.TheVariants.{Jump}
use Rattle.cqs_rule_laws.specs.declared.view.View.{View}
use Rattle.cqs_rule_laws.specs.Causes.{cell_of}
use Rattle.cqs_rule_laws.specs.Exchanges.{HasCell}
use Rattle.cqs_rule_laws.specs.Lists.{Has}
use Rattle.cqs_rule_laws.specs.Loads.{CarriesLearned}
use Rattle.cqs_rule_laws.specs.Object.{Object, Primitive}
use Rattle.cqs_rule_laws.specs.Saw.{Saw, IsLive, WasFound}
use Rattle.cqs_rule_laws.specs.Views.{IsSame}

-- the segments of all numbers from this one to below that one were taken out, as the pass knows
abbrev pub AreOut : {E S : Type 0} → ℕ → ℕ → View E S → Type 0
AreOut from to v = (k : ℕ) → from ≤ k → k < to → Has (k / 32) v.segments.outs

-- the pass owes a resumption, has no open ticket, and may jump from this number to that one
pub record MayJump {E S : Type 0} (from to : ℕ) (v : View E S) : Type 0 where
  pub owes : v.facts.doing ≡ doing.Owes
  pub order : from < to
  pub out : AreOut from to v

-- a pass that tried such a jump, and found this
abbrev pub facts_jumped : ℕ → ℕ → ℕ → Facts → Facts
facts_jumped from to n f = record f { last = None; found = f.found ++ Jump from to n ∷ [] }

module _ {C E S : Type 0} (object : Object E) (primitive : C → Primitive E S) where
  -- the cell of this number was cancelled, at the end of all that the pass has seen
  pub record WasCancelled (k : ℕ) (w : View E S) : Type 0 where
    pub payload : ℕ
    pub was : WasFound primitive (HasCell (cell_of k state.Cancelled payload)) [] w

  -- The counter was found at n. If that was where the jump is from, it was made: it stands where
  -- the jump is to, and each number between was that of a cancelled cell. Else nothing is changed.
  pub record Jumped (from to : ℕ) (v : View E S) (n : ℕ) (w : View E S) : Type 0 where
    pub saw : Saw object v (facts_jumped from to n v.facts) [] w
    pub cancelled : n ≡ from → (k : ℕ) → from ≤ k → k < to → WasCancelled k w

  abbrev pub jumped : Step (Option S) → Me (Option S) (View E S) → ℕ
      → Me (Option S) (View E S) → Type 0
  jumped st me n me' =
      Jumped st.first st.second me.0 n me'.0
      × (me'.1 ≡ me.1) × IsLive object me'.0
      × CarriesLearned object.gains.held Nothing me.0.facts me'.0.facts × IsSame me.0 me'.0
