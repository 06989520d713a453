-- What a split and a look at the crew leave of a pass, and what a pass knows that is alone.
use Rattle.cqs_latch_object.specs.declared.entries.LatchEntry.{LatchEntry}
use Rattle.cqs_rule_laws.specs.declared.view.View.{View}
use Rattle.cqs_rule_laws.specs.Alone.{IsAlone}
use Rattle.cqs_rule_laws.specs.CallRule as laws
use Rattle.cqs_latch.specs.Causes.{primitive_of}
use Rattle.cqs_latch.specs.Latch.{latch_object}

module _ {T : Type 0} where
  -- the pass has seen more, done nothing, and is at what it was
  abbrev pub LookedOn : View LatchEntry T → View LatchEntry T → Type 0
  LookedOn v w = laws.LookedOn latch_object v w

  -- it has seen the whole history, and every other number rests
  abbrev pub SeesAll : View LatchEntry T → Type 0
  SeesAll v = IsAlone primitive_of v
