-- A semaphore or a mutex of the running queue with its one pass, as a floor sees it.
use Rattle.std.specs.Prelude.{◌≡◌, ℕ, ◌+◌, ◌<◌, ◌≤◌, Bool, true, false, List, [], Option, Some, None, length, vec_capacity, filter}
use Rattle.cqs_core.specs.declared.entries.Entry.{Entry}
use Rattle.cqs_core.specs.declared.entries.Entry.TheVariants as entry
use Rattle.cqs_core.specs.SemaphoreObject as plain
use Rattle.cqs_plan.specs.declared.plans.kind.Kind.{Kind}
use Rattle.cqs_plan.specs.declared.plans.kind.Kind.TheVariants.{Semaphore, Mutex, Pool, Latch, Rounds}
use Rattle.cqs_plan.specs.Floor.{size_of}
use Rattle.cqs_rule_laws.specs.declared.carries.Kept.{Kept}
use Rattle.cqs_rule_laws.specs.declared.view.View.{View}
use Rattle.cqs_rule_laws.specs.Lists.{Has}
use Rattle.cqs_rule.specs.Passes.{pass_view}
use Rattle.cqs_rule_laws.specs.CallRule.{IsReady}
use Rattle.cqs_semaphore.specs.Calls.{IsMine, plain_after}
use Rattle.cqs_semaphore.specs.Causes.{drawn_in}
use Rattle.cqs_mutex.specs.Mutexes.{Belongs}
use Rattle.cqs_floor_alone_kinds.specs.declared.mutex_sole.MutexSole.{MutexSole}
use Rattle.cqs_floor_alone_kinds.specs.declared.queue_sole.QueueSole.{QueueSole}
use Rattle.cqs_floor_alone_kinds.specs.Soles.{Sole}
use Rattle.cqs_floor_alone_kinds.specs.Waits.{WaitsAt}

-- an entry is news, but for a look that found nothing new
abbrev pub is_news : Entry → Bool
is_news (entry.LookPending c k) = false
is_news (entry.TakeNow c) = true
is_news (entry.TakeDoor c) = true
is_news (entry.Enter c k) = true
is_news (entry.TryGot c) = true
is_news (entry.TryBusy c) = true
is_news (entry.GiveFreed c) = true
is_news (entry.GiveSent c) = true
is_news (entry.Deliver k) = true
is_news (entry.Spoil c k) = true
is_news (entry.Undo c k) = true
is_news (entry.Leave c k) = true
is_news (entry.Late c k) = true
is_news (entry.LookGranted c k) = true

-- a history without looks that found nothing new
abbrev pub news : List Entry → List Entry
news history = filter is_news history

-- nobody is at the door, and no permit is on its way
pub record IsStill (o : plain.Semaphore) : Type 0 where
  pub way : o.way ≡ 0
  pub door : o.door ≡ []

module _ {T : Type 0} where
  -- The pass is alone, and is between two calls, which it makes as pass 0. The numbers that it may
  -- still draw are below the limit, and each of its waits was drawn.
  pub record IsResting (v : View Entry T) (size room held : ℕ) : Type 0 where
    pub size_is : v.opening.size ≡ size
    pub some : 0 < size
    pub most : size ≤ 1048576
    pub few : v.limit ≤ 1048576
    pub number : v.number ≡ 0
    pub alone : v.alone ≡ true
    pub ready : IsReady v.facts
    pub still : IsStill (plain_after v)
    pub below : drawn_in v.seen + room < v.limit
    pub drawn : (k : ℕ) → Has k v.facts.waits → k < (plain_after v).next
    pub holds : v.facts.has.held ≡ held

-- One of the running queue with its one pass, as a floor sees it: of which kinds of resource it is,
-- whether the pass is its own, what the pass has seen, and how much its caller holds and for how
-- much of that there is memory.
pub record OnePass (X T : Type 0) : Type 1 where
  pub sort : Option Kind → Type 0
  pub mine : X → Type 0
  pub view : X → View Entry T
  pub held : X → ℕ
  pub space : X → ℕ

module _ {X T : Type 0} (q : OnePass X T) where
  -- It is of the kind, and the pass is its own; there is a permit for each that is held, and place
  -- for each that can still come.
  pub record IsFunded (x : X) (kind : Option Kind) (room waiting held : ℕ) : Type 0 where
    pub sort : q.sort kind
    pub mine : q.mine x
    pub rests : IsResting (q.view x) (size_of kind) room held
    pub permits : q.held x ≡ held
    pub spare : room + waiting + held ≤ q.space x

  abbrev pub sole_of : Sole X
  sole_of = record {
    entries = λ x. news (q.view x).seen;
    funded = IsFunded;
    has = λ x wait. WaitsAt (q.view x) wait;
  }

abbrev pub IsSemaphore : Option Kind → Type 0
IsSemaphore (Some (Semaphore permits)) = Unit {0}
IsSemaphore (Some Mutex) = ⊥
IsSemaphore (Some (Pool elements)) = ⊥
IsSemaphore (Some (Latch count)) = ⊥
IsSemaphore (Some (Rounds parties rounds)) = ⊥
IsSemaphore None = ⊥

abbrev pub IsMutex : Option Kind → Type 0
IsMutex (Some Mutex) = Unit {0}
IsMutex (Some (Semaphore permits)) = ⊥
IsMutex (Some (Pool elements)) = ⊥
IsMutex (Some (Latch count)) = ⊥
IsMutex (Some (Rounds parties rounds)) = ⊥
IsMutex None = ⊥

-- a semaphore, and the permits that its caller holds
abbrev pub semaphore_pass : OnePass QueueSole (Unit {0})
semaphore_pass = record {
  sort = IsSemaphore;
  mine = λ x. IsMine x.semaphore x.pass;
  view = λ x. pass_view x.pass;
  held = λ x. length x.permits.items;
  space = λ x. vec_capacity x.permits;
}

abbrev pub sole_queue : Sole QueueSole
sole_queue = sole_of semaphore_pass

-- a mutex, and the guards that its caller has
abbrev pub mutex_pass : OnePass MutexSole (Kept (Unit {0}))
mutex_pass = record {
  sort = IsMutex;
  mine = λ x. Belongs x.mutex x.pass;
  view = λ x. pass_view x.pass;
  held = λ x. length x.guards.items;
  space = λ x. vec_capacity x.guards;
}

abbrev pub sole_mutex : Sole MutexSole
sole_mutex = sole_of mutex_pass
