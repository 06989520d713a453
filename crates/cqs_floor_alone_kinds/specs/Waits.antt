-- Where the cell of a wait stands: of a job's wait, and of a wait that a pass has.
use Rattle.std.specs.Prelude.{ℕ, Option, Some, None}
use Rattle.cqs_rule_laws.specs.declared.config.Place.{Place}
use Rattle.cqs_rule_laws.specs.declared.view.View.{View}
use Rattle.cqs_rule_laws.specs.Lists.{Has}
use Rattle.cqs_rule_laws.specs.Placed.{KnowsPlace}
use Rattle.cqs_floor_alone_kinds.specs.declared.waits.Wait.{Wait}
use Rattle.cqs_floor_alone_kinds.specs.declared.waits.WaitSlot.{WaitSlot}
use Rattle.cqs_floor_alone_kinds.specs.declared.waits.WaitSlot.TheVariants.{Free, Used}

-- where the cell of the job's wait stands
abbrev pub place_in : Wait → Place
place_in w = record { word = w.word; index = w.index }

-- the wait for a resource, in this round, whose cell stands there
abbrev pub wait_for : ℕ → ℕ → Place → Wait
wait_for at round place =
    record { at = at; round = round; word = place.word; index = place.index }

-- the wait that a slot has
abbrev pub slot_wait : WaitSlot → Option Wait
slot_wait Free = None
slot_wait (Used round at word index) =
    Some (record { at = at; round = round; word = word; index = index })

-- The pass has the wait of this place: it is one of its own that isn't closed, and it knows that
-- the cell stands there.
pub record WaitsAt {E S : Type 0} (v : View E S) (at : Place) : Type 0 where
  pub open_yet : Has at.index v.facts.waits
  pub place : KnowsPlace v at
