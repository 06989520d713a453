-- What a split and a look at the crew leave of a pass, and what a pass knows that is alone.
use Rattle.cqs_pool_object.specs.declared.entries.PoolEntry.{PoolEntry}
use Rattle.cqs_rule_laws.specs.declared.view.View.{View}
use Rattle.cqs_rule_laws.specs.Alone.{IsAlone}
use Rattle.cqs_rule_laws.specs.CallRule as laws
use Rattle.cqs_pool.specs.Causes.{primitive_of}
use Rattle.cqs_pool.specs.Pool.{pool_object}

module _ {T : Type 0} where
  -- the pass has seen more, done nothing, and is at what it was
  abbrev pub LookedOn : View PoolEntry T → View PoolEntry T → Type 0
  LookedOn v w = laws.LookedOn pool_object v w

  -- it has seen the whole history, and every other number rests
  abbrev pub SeesAll : View PoolEntry T → Type 0
  SeesAll v = IsAlone primitive_of v
