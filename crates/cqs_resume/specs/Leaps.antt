-- A resume tries to jump: the resume counter goes on past numbers whose segments were taken out.
use Rattle.std.specs.Prelude.{◌≡◌, ◌≢◌, ℕ, ◌<◌, ◌≤◌, List, [], ◌∷◌, Option, Some, None}
use Rattle.cqs_core.specs.declared.cells.CoreState.TheVariants as state
use Rattle.cqs_rule_laws.specs.declared.client.ClientWords.{Ghosts}
use Rattle.cqs_rule_laws.specs.declared.view.Sighting.{Sighting}
use Rattle.cqs_rule_laws.specs.declared.view.Sighting.TheVariants.{Jump}
use Rattle.cqs_rule_laws.specs.declared.view.View.{View}
use Rattle.cqs_rule_laws.specs.Causes.{cell_of}
use Rattle.cqs_rule_laws.specs.Exchanges.{HasCell}
use Rattle.cqs_rule_laws.specs.Jumped.{Jumped}
use Rattle.cqs_rule_laws.specs.Object.{Object, Primitive}
use Rattle.cqs_rule_laws.specs.Saw.{WasSo}
use Rattle.cqs_rule.specs.declared.queue.Pass.{Pass}
use Rattle.cqs_rule.specs.Passes.{pass_view}

-- One jump that was tried: from a number to another, and where the counter was found.
pub record Leap : Type 0 where
  pub from : ℕ
  pub to : ℕ
  pub found : ℕ

-- a jump from the one number to the other was tried where the other comes later, and else none
abbrev pub IsTried : ℕ → ℕ → Option Leap → Type 0
IsTried from to None = to ≤ from
IsTried from to (Some l) = (l.from ≡ from) × (l.to ≡ to)

-- what was found by the jump, if one was tried
abbrev pub leap_seen : Option Leap → List Sighting
leap_seen None = []
leap_seen (Some l) = Jump l.from l.to l.found ∷ []

module _ {C E S : Type 0} (primitive : C → Primitive E S) where
  -- Where a jump was tried and made, the cell of each number that it passed over was cancelled.
  abbrev pub IsLeapt : View E S → Option Leap → Type 0
  IsLeapt w None = Unit {0}
  IsLeapt w (Some l) =
      (l.from < l.to)
      × (l.found ≡ l.from → (k : ℕ) → l.from ≤ k → k < l.to
      → (payload : ℕ) × WasSo primitive (HasCell (cell_of k state.Cancelled payload)) w)

module _ {C E S : Type 0} (object : Object E) (primitive : C → Primitive E S) where
  -- such a jump was tried, or none
  abbrev pub Leapt : Option Leap → View E S → View E S → Type 0
  Leapt None v w = w ≡ v
  Leapt (Some l) v w = (l.from < l.to) × Jumped object primitive l.from l.to v l.found w

module _ {C S E : Type 0} {g : Ghosts C S E} where
  -- the counter was moved from the one number to the other
  abbrev pub HasJumped : ℕ → ℕ → Pass C S E g → Pass C S E g → Type 0
  HasJumped from to p p' = Jumped g.object g.primitive from to (pass_view p) from (pass_view p')

  -- it was found at this number instead
  abbrev pub HasMissedJump : ℕ → ℕ → ℕ → Pass C S E g → Pass C S E g → Type 0
  HasMissedJump from to found p p' =
      (found ≢ from) × Jumped g.object g.primitive from to (pass_view p) found (pass_view p')

  abbrev pub HasLeapt : ℕ → ℕ → Pass C S E g → Pass C S E g → Type 0
  HasLeapt from to p p' =
      (leap : Option Leap) × Leapt g.object g.primitive leap (pass_view p) (pass_view p')
      × IsTried from to leap
