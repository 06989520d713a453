-- A pool of the running queue with its one pass, as a floor sees it.
use Rattle.std.specs.Prelude.{◌≡◌, ◌⊎◌, ℕ, ◌+◌, ◌<◌, ◌≤◌, Bool, true, false, List, [], length, Option, Some, None, filter, vec_capacity}
use Rattle.cqs_plan.specs.declared.plans.kind.Kind.{Kind}
use Rattle.cqs_plan.specs.declared.plans.kind.Kind.TheVariants as kind
use Rattle.cqs_plan.specs.Floor.{size_of}
use Rattle.cqs_plan.specs.FloorHistory.{of_elements}
use Rattle.cqs_pool_object.specs.declared.entries.PoolEntry.{PoolEntry}
use Rattle.cqs_pool_object.specs.declared.entries.PoolEntry.TheVariants as entry
use Rattle.cqs_pool_object.specs.PoolObject.{times}
use Rattle.cqs_pool.specs.Alone.{IsOnlyCaller}
use Rattle.cqs_rule_laws.specs.CallRule.{IsReady}
use Rattle.cqs_pool.specs.Calls.{IsMine, plain_after}
use Rattle.cqs_pool.specs.Causes.{drawn_in}
use Rattle.cqs_rule_laws.specs.declared.view.View.{View}
use Rattle.cqs_rule_laws.specs.Lists.{Has}
use Rattle.cqs_rule.specs.Passes.{pass_view}
use Rattle.cqs_floor_common.specs.HeldElements.{held_by}
use Rattle.cqs_floor_common.specs.HeldElements.{all_held, elements_held}
use Rattle.cqs_floor_alone_kinds.specs.declared.pool_sole.PoolSole.{PoolSole}
use Rattle.cqs_floor_alone_kinds.specs.Stores.{Store}
use Rattle.cqs_floor_alone_kinds.specs.Waits.{WaitsAt}
pub use Rattle.cqs_floor_alone_kinds.specs.PoolKinds.{IsPool}

-- an entry is news, but for a look that found nothing new
abbrev pub is_news : PoolEntry → Bool
is_news (entry.LookPending c k) = false
is_news (entry.Put c e) = true
is_news (entry.Enter c k) = true
is_news (entry.Deliver k e) = true
is_news (entry.Leave c k) = true
is_news (entry.Late c k e) = true
is_news (entry.LookGranted c k e) = true

-- a history without looks that found nothing new
abbrev pub news : List PoolEntry → List PoolEntry
news history = filter is_news history

-- The pass is alone, and nobody else has made a call; it is between two calls, which it makes as
-- pass 0. The numbers that it may still draw are below the limit, and each of its waits was drawn.
pub record IsResting {T : Type 0} (v : View PoolEntry T) (size room : ℕ) : Type 0 where
  pub size_is : v.opening.size ≡ size
  pub most : size ≤ 4096
  pub few : v.limit ≤ 1048576
  pub number : v.number ≡ 0
  pub only : IsOnlyCaller v
  pub ready : IsReady v.facts
  -- an element is free, or somebody waits, or neither
  pub still : ((plain_after v).way ≡ []) ⊎ ((plain_after v).line ≡ [])
  pub below : drawn_in v.seen + room < v.limit
  pub drawn : (k : ℕ) → Has k v.facts.waits → k < (plain_after v).next

-- It is a pool, and the pass is its own, and has in hand what is held, job by job; there is place
-- for each element that can still come; and it is counted what is free, and who waits.
pub record IsFunded (x : PoolSole) (kind : Option Kind) (room waiting : ℕ)
    (held : List (List ℕ)) : Type 0 where
  pub sort : IsPool kind
  pub mine : IsMine x.pool x.pass
  pub rests : IsResting (pass_view x.pass) (size_of kind) room
  pub here : (job : ℕ) → elements_held job x.held.items ≡ held_by held job
  pub hands : (e : ℕ)
      → (times e (all_held x.held.items) ≤ times e (pass_view x.pass).facts.has.slots)
      × (times e (pass_view x.pass).facts.has.slots ≤ 1)
  pub spare : room + waiting + length x.held.items ≤ vec_capacity x.held
  pub free : x.free ≡ length (plain_after (pass_view x.pass)).way
  pub line : x.line ≡ length (plain_after (pass_view x.pass)).line
  pub few_wait : x.line + room ≤ 1048576

abbrev pub store_pool : Store PoolSole
store_pool = record {
  history = λ x. of_elements (news (pass_view x.pass).seen);
  funded = IsFunded;
  has = λ x round wait. (round ≡ 0) × WaitsAt (pass_view x.pass) wait;
}
