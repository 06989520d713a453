-- What contracts see of a wait.
use Rattle.std.specs.Prelude.{◌≡◌, ℕ}
use Rattle.cqs_rule_laws.specs.declared.view.View.{View}
use Rattle.cqs_rule_laws.specs.Lists.{Has}
use Rattle.cqs_rule_laws.specs.Placed.{KnowsPlace}
use Rattle.cqs_rule_laws.specs.declared.config.Place.{Place}
use Rattle.cqs_rule.specs.declared.queue.tokens.Wait.{Wait}

-- the number of the wait, and where its cell stands
abbrev pub place_of : Wait → Place
place_of w = record { word = w.word; index = w.number }

-- the number of the pass that it belongs to
abbrev pub pass_of : Wait → ℕ
pass_of w = w.pass

-- The pass has the wait: it is one of its own that isn't closed, and it knows where the cell
-- stands.
pub record HasWait {E S : Type 0} (v : View E S) (wait : Wait) : Type 0 where
  pub mine : pass_of wait ≡ v.number
  pub open_yet : Has (place_of wait).index v.facts.waits
  pub place : KnowsPlace v (place_of wait)
