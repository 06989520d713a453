-- The waits of a pass, by the places of their cells.
use Rattle.std.specs.Prelude.{◌≡◌, ◌≢◌, ℕ, ◌<◌, List, [], ◌∷◌, All, Some, length, slice_get}
use Rattle.cqs_rule_laws.specs.declared.config.Place.{Place}
use Rattle.cqs_rule_laws.specs.declared.view.View.{View}
use Rattle.cqs_rule_laws.specs.Lists.{Has}
use Rattle.cqs_rule_laws.specs.Placed.{KnowsPlace}

-- the pass has a wait at this place that isn't closed, and knows that its cell stands there
pub record HasAt {E S : Type 0} (v : View E S) (at : Place) : Type 0 where
  pub open_yet : Has at.index v.facts.waits
  pub place : KnowsPlace v at

-- no number stands there twice
abbrev pub Apart : List Place → Type 0
Apart [] = Unit {0}
Apart (x ∷ xs) = All (λ y. y.index ≢ x.index) xs × Apart xs

-- the wait of this number stands at i
pub record IsAt (number : ℕ) (waits : List Place) (i : ℕ) : Type 0 where
  pub below : i < length waits
  pub at : Place
  pub is : slice_get waits i ≡ Some at
  pub number_is : at.index ≡ number
