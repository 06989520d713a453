-- A resource of the running queue, as a floor sees it: a semaphore, or a mutex.
use Rattle.std.specs.Prelude.{◌≡◌, ℕ, true, List, Option, length}
use Rattle.cqs_core.specs.declared.entries.Entry.{Entry}
use Rattle.cqs_plan.specs.declared.plans.kind.Kind.{Kind}
use Rattle.cqs_rule_laws.specs.declared.config.Place.{Place}
use Rattle.cqs_rule.specs.Passes.{pass_view}
use Rattle.cqs_floor_alone_kinds.specs.declared.running_sole.RunningSole.{RunningSole}
use Rattle.cqs_floor_alone_kinds.specs.declared.running_sole.RunningSole.TheVariants.{Semaphore, Mutex}
use Rattle.cqs_plan.specs.Floor.{IsLatch}
use Rattle.cqs_latch.specs.Calls.{IsMine as IsMineLatch}
use Rattle.cqs_pool.specs.Calls.{IsMine}
use Rattle.cqs_floor_alone_kinds.specs.declared.any_sole.AnySole.{AnySole}
use Rattle.cqs_floor_alone_kinds.specs.declared.any_sole.AnySole.TheVariants as any
use Rattle.cqs_floor_alone_kinds.specs.AnySoles.{store_any}
use Rattle.cqs_floor_alone_kinds.specs.SolePool.{IsPool}
use Rattle.cqs_floor_alone_kinds.specs.SoleRounds.{AreAlone, IsOfRounds}
use Rattle.cqs_floor_alone_kinds.specs.Soles.{Sole}
use Rattle.cqs_floor_alone_kinds.specs.Stores.{Store}
use Rattle.cqs_floor_alone_kinds.specs.SoleQueue.{IsMutex, IsSemaphore, mutex_pass, semaphore_pass, sole_mutex, sole_queue}

-- the entries that its pass has seen, without looks that found nothing new
abbrev pub entries_seen : RunningSole → List Entry
entries_seen (Semaphore x) = sole_queue.entries x
entries_seen (Mutex x) = sole_mutex.entries x

abbrev pub IsFundedHere : RunningSole → Option Kind → ℕ → ℕ → ℕ → Type 0
IsFundedHere (Semaphore x) kind room waiting held = sole_queue.funded x kind room waiting held
IsFundedHere (Mutex x) kind room waiting held = sole_mutex.funded x kind room waiting held

abbrev pub HasHere : RunningSole → Place → Type 0
HasHere (Semaphore x) wait = sole_queue.has x wait
HasHere (Mutex x) wait = sole_mutex.has x wait

abbrev pub sole_running : Sole RunningSole
sole_running = record {
  entries = entries_seen;
  funded = IsFundedHere;
  has = HasHere;
}

-- what a resource is on a floor of the running queue
abbrev pub store_running : Store (AnySole RunningSole)
store_running = store_any sole_running

-- It is what a resource of this kind is on the running queue, and has one pass, which is its own: a
-- semaphore for a semaphore, for a mutex a mutex, for a pool a pool, for a latch a latch, and for a
-- barrier one for each of its rounds.
abbrev pub IsAlone : Option Kind → RunningSole → Type 0
IsAlone kind (Semaphore x) =
    IsSemaphore kind × semaphore_pass.mine x × ((pass_view x.pass).alone ≡ true)
IsAlone kind (Mutex x) = IsMutex kind × mutex_pass.mine x × ((pass_view x.pass).alone ≡ true)

abbrev pub IsAloneAt : Option Kind → AnySole RunningSole → Type 0
IsAloneAt kind (any.Permits x) = IsAlone kind x
IsAloneAt kind (any.Pool x) =
    IsPool kind × IsMine x.pool x.pass × ((pass_view x.pass).alone ≡ true)
IsAloneAt kind (any.Latch x) =
    IsLatch kind × IsMineLatch x.latch x.pass × ((pass_view x.pass).alone ≡ true)
IsAloneAt kind (any.Rounds x) =
    IsOfRounds kind (length x.rounds.items) × AreAlone x.rounds.items
