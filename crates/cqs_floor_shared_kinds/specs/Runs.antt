-- What one or several calls leave of a pass that others are beside, on any client of the queue.
use Rattle.std.specs.Prelude.{◌≡◌, ℕ, List, [], ◌++◌, drop}
use Rattle.cqs_core.specs.Parts.{Has, part}
use Rattle.cqs_rule_laws.specs.declared.config.Place.{Place}
use Rattle.cqs_rule_laws.specs.declared.view.View.{View}
use Rattle.cqs_rule_laws.specs.Object.{Object}
use Rattle.cqs_rule_laws.specs.Placed.{GoesOn, KnowsPlace}

-- what neither a call nor a split changes of a pass
pub record Stays {E S : Type 0} (v w : View E S) : Type 0 where
  pub number : w.number ≡ v.number
  pub own : w.own ≡ v.own
  pub limit : w.limit ≡ v.limit
  pub cells : w.cells ≡ v.cells
  pub passes : w.passes ≡ v.passes
  pub opening : w.opening ≡ v.opening
  pub goes : GoesOn v w

-- The pass went on: it has seen more, in which these entries name it, in order, and none names a
-- pass that was met into it.
pub record Went {E S : Type 0} (object : Object E) (v : View E S) (entries : List E) (w : View E S)
    : Type 0 where
  pub more : List E
  pub seen : w.seen ≡ v.seen ++ more
  pub mine : part object.names v.number more ≡ entries
  pub others : (n : ℕ) → Has n (drop 1 v.own) → part object.names n more ≡ []
  pub legal : object.legal w.opening w.seen
  pub same : Stays v w

-- The pass has the wait of this place: it is one of its own that isn't closed, and it knows that
-- the cell stands there.
pub record WaitsAt {E S : Type 0} (v : View E S) (at : Place) : Type 0 where
  pub open_yet : Has at.index v.facts.waits
  pub place : KnowsPlace v at
