-- How the calls of all callers stand in one history of the plain semaphore.
use Rattle.std.specs.Prelude.{List}
use Rattle.cqs_core.specs.declared.entries.Entry.{Entry}
use Rattle.cqs_rule_laws.specs.declared.view.View.{View}
use Rattle.cqs_rule.specs.Histories as queue
use Rattle.cqs_semaphore_client.specs.Semaphore.{semaphore_object}
use Rattle.cqs_semaphore.specs.Calls.{CallRule, Course}

module _ {T : Type 0} where
  -- the history begins with all that the pass has seen, and names the pass nowhere behind that
  abbrev pub StandsIn : List Entry → View Entry T → Type 0
  StandsIn history v = queue.StandsIn semaphore_object history v

  -- the history begins with what was seen at v; behind that the pass has just its own entries
  abbrev pub GoesOnBy : List Entry → View Entry T → List Entry → Type 0
  GoesOnBy history v own = queue.GoesOnBy semaphore_object history v own

  -- A call after which a pass is at w has its place in each history in which the pass stands: the
  -- history begins with what the caller had seen, and has the entries of the call once.
  abbrev pub CallHasItsPlace : View Entry T → Type 0
  CallHasItsPlace w =
      (history : List Entry) (v : View Entry T) (own further : List Entry)
      → CallRule v own further w → StandsIn history w → GoesOnBy history v own

  -- so have all calls that its caller made since v, in the order in which they were made
  abbrev pub CallsStandInOrder : View Entry T → Type 0
  CallsStandInOrder w =
      (history : List Entry) (v : View Entry T) (own : List Entry) → Course v own w
      → StandsIn history w → GoesOnBy history v own
