-- What a split and a look at the crew leave of a pass, and what a pass knows that is alone.
use Rattle.cqs_core.specs.declared.entries.Entry.{Entry}
use Rattle.cqs_rule_laws.specs.declared.view.View.{View}
use Rattle.cqs_rule_laws.specs.Alone.{IsAlone}
use Rattle.cqs_rule_laws.specs.CallRule as laws
use Rattle.cqs_semaphore_client.specs.Semaphore.{semaphore_object}
use Rattle.cqs_semaphore_client.specs.SemaphoreMade.{primitive_of}

module _ {T : Type 0} where
  -- the pass has seen more, done nothing, and is at what it was
  abbrev pub LookedOn : View Entry T → View Entry T → Type 0
  LookedOn v w = laws.LookedOn semaphore_object v w

  -- it has seen the whole history, and every other number rests
  abbrev pub SeesAll : View Entry T → Type 0
  SeesAll v = IsAlone primitive_of v
