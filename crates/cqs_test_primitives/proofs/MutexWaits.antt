-- A wait is still the pass's own after its slot was opened, and after the calls that leave it.
use Rattle.std.proofs.Common.{ap, sym, subst, ℕ, List, Option}
use Rattle.cqs_core.specs.declared.entries.Entry.{Entry}
use Rattle.cqs_rule.specs.declared.queue.tokens.Wait.{Wait}
use Rattle.cqs_rule_laws.specs.declared.carries.Kept.{Kept}
use Rattle.cqs_rule_laws.specs.declared.view.View.{View}
use Rattle.cqs_rule_laws.specs.Lists.{Has}
use Rattle.cqs_semaphore_client.specs.Semaphore.{semaphore_object}
use Rattle.cqs_rule_laws.specs.SlotSteps.{Swapped}
use Rattle.cqs_rule.specs.Waits.{HasWait, place_of}
use Rattle.cqs_rule_laws.proofs.Places.{goes-swapped}
use Rattle.cqs_rule.proofs.Places.{has-wait-called, has-wait-on}
use Rattle.cqs_semaphore.specs.declared.answers.Released.TheVariants.{Sent}
use Rattle.cqs_mutex.specs.declared.answers.TriedLock.TheVariants.{Busy}
use Rattle.cqs_mutex.specs.Calls.{HasTried, HasUnlocked}
use Rattle.cqs_test_primitives.proofs.Claims.{wait-claimed}

module _ {T : Type 0} where
  pub wait-swapped : (laid : List (ℕ × Option (Kept T))) (v w : View Entry (Kept T)) (wait : Wait) → Swapped laid v w
      → HasWait v wait → HasWait w wait
  wait-swapped laid v w wait swap h =
      has-wait-on v w wait (goes-swapped laid v w swap)
      (subst (Has (place_of wait).index) (sym (ap (λ (z : View Entry (Kept T)). z.facts.waits) swap.is)) h.open_yet) h

  pub wait-busy : (v w : View Entry (Kept T)) (wait : Wait) → HasTried v Busy w → HasWait v wait → HasWait w wait
  wait-busy v w wait t h = subst (λ (z : View Entry (Kept T)). HasWait z wait) (sym t.value)
      (has-wait-called semaphore_object v t.between _ _ wait t.called.called t.tries.rests.waits_are h)

  pub wait-sent : (value : T) (v w : View Entry (Kept T)) (k : ℕ) (wait : Wait) → HasUnlocked value v (Sent k) w
      → HasWait v wait → HasWait w wait
  wait-sent value v w k wait u h =
      has-wait-called semaphore_object u.between w _ _ wait u.called.called u.releases.1.1.waits_are
      (wait-swapped _ u.claimed u.between wait u.laid (wait-claimed semaphore_object 1 v u.claimed wait u.claims h))
