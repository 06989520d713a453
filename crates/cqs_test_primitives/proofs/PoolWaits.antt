-- A wait is still the pass's own after an item was put.
use Rattle.std.proofs.Common.{ap, sym, subst, ℕ, List, Option}
use Rattle.cqs_pool_object.specs.declared.entries.PoolEntry.{PoolEntry}
use Rattle.cqs_rule.specs.declared.queue.tokens.Wait.{Wait}
use Rattle.cqs_rule_laws.specs.declared.carries.Kept.{Kept}
use Rattle.cqs_rule_laws.specs.declared.view.View.{View}
use Rattle.cqs_rule_laws.specs.Lists.{Has}
use Rattle.cqs_rule_laws.specs.SlotSteps.{Swapped}
use Rattle.cqs_rule.specs.Waits.{HasWait, place_of}
use Rattle.cqs_rule_laws.proofs.Places.{goes-swapped}
use Rattle.cqs_rule.proofs.Places.{has-wait-called, has-wait-on}
use Rattle.cqs_pool.specs.declared.answers.Placed.TheVariants.{Sent}
use Rattle.cqs_pool.specs.Pool.{pool_object}
use Rattle.cqs_pool_values.specs.Calls.{HasPut}
use Rattle.cqs_test_primitives.proofs.Claims.{wait-claimed}

module _ {T : Type 0} where
  wait-swapped : (laid : List (ℕ × Option (Kept T))) (v w : View PoolEntry (Kept T)) (wait : Wait) → Swapped laid v w
      → HasWait v wait → HasWait w wait
  wait-swapped laid v w wait swap h =
      has-wait-on v w wait (goes-swapped laid v w swap)
      (subst (Has (place_of wait).index)
      (sym (ap (λ (z : View PoolEntry (Kept T)). z.facts.waits) swap.is)) h.open_yet) h

  pub wait-sent : (e : ℕ) (value : T) (v w : View PoolEntry (Kept T)) (k : ℕ) (wait : Wait)
      → HasPut e value v (Sent k) w → HasWait v wait → HasWait w wait
  wait-sent e value v w k wait p h =
      has-wait-called pool_object p.between w _ _ wait p.called.called p.ends.1.waits_are
      (wait-swapped _ p.claimed p.between wait p.laid (wait-claimed pool_object 1 v p.claimed wait p.claims h))
