-- What each kind of resource is on a floor, as the floor sees it: a semaphore of the floor's own
-- sort, or a pool, a latch or the rounds of a barrier of the running queue.
use Rattle.std.specs.Prelude.{ℕ, List, Option}
use Rattle.cqs_plan.specs.declared.plans.kind.Kind.{Kind}
use Rattle.cqs_plan.specs.FloorHistory.{History}
use Rattle.cqs_rule_laws.specs.declared.config.Place.{Place}
use Rattle.cqs_floor_alone_kinds.specs.declared.any_sole.AnySole.{AnySole}
use Rattle.cqs_floor_alone_kinds.specs.declared.any_sole.AnySole.TheVariants.{Permits, Pool, Latch, Rounds}
use Rattle.cqs_floor_alone_kinds.specs.Lifted.{of_semaphore}
use Rattle.cqs_floor_alone_kinds.specs.SoleLatch.{store_latch}
use Rattle.cqs_floor_alone_kinds.specs.SolePool.{store_pool}
use Rattle.cqs_floor_alone_kinds.specs.SoleRounds.{store_rounds}
use Rattle.cqs_floor_alone_kinds.specs.Soles.{Sole}
use Rattle.cqs_floor_alone_kinds.specs.Stores.{Store}

module _ {S : Type 0} (s : Sole S) where
  abbrev pub history_of : AnySole S → History
  history_of (Permits x) = (of_semaphore s).history x
  history_of (Pool x) = store_pool.history x
  history_of (Latch x) = store_latch.history x
  history_of (Rounds x) = store_rounds.history x

  abbrev pub IsFunded : AnySole S → Option Kind → ℕ → ℕ → List (List ℕ) → Type 0
  IsFunded (Permits x) kind room waiting held = (of_semaphore s).funded x kind room waiting held
  IsFunded (Pool x) kind room waiting held = store_pool.funded x kind room waiting held
  IsFunded (Latch x) kind room waiting held = store_latch.funded x kind room waiting held
  IsFunded (Rounds x) kind room waiting held = store_rounds.funded x kind room waiting held

  abbrev pub HasAny : AnySole S → ℕ → Place → Type 0
  HasAny (Permits x) round wait = (of_semaphore s).has x round wait
  HasAny (Pool x) round wait = store_pool.has x round wait
  HasAny (Latch x) round wait = store_latch.has x round wait
  HasAny (Rounds x) round wait = store_rounds.has x round wait

  abbrev pub store_any : Store (AnySole S)
  store_any = record {
    history = history_of;
    funded = IsFunded;
    has = HasAny;
  }
