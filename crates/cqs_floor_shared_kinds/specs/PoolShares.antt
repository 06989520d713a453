-- A pool that workers share, with the pass of one of them, as a floor sees it.
use Rattle.std.specs.Prelude.{◌≡◌, ℕ, ◌+◌, ◌≤◌, List, [], ◌∷◌, drop, length, Some, vec_capacity}
use Rattle.std.specs.Arc.{arc_value}
use Rattle.cqs_plan.specs.Floor.{size_of}
use Rattle.cqs_plan.specs.FloorHistory.{of_elements}
use Rattle.cqs_rule_laws.specs.CallRule.{IsReady}
use Rattle.cqs_pool.specs.Calls.{IsMine}
use Rattle.cqs_pool_object.specs.declared.entries.PoolEntry.{PoolEntry}
use Rattle.cqs_pool_object.specs.PoolObject.{times}
use Rattle.cqs_rule_laws.specs.declared.view.View.{View}
use Rattle.cqs_rule_laws.specs.Lists.{IsDistinct}
use Rattle.cqs_rule.specs.Passes.{pass_view}
use Rattle.cqs_floor_common.specs.declared.held.HeldElement.{HeldElement}
use Rattle.cqs_floor_common.specs.HeldElements.{all_held, elements_held, held_by}
use Rattle.cqs_floor_shared_kinds.specs.declared.kinds.pool.SharedPool.{SharedPool}
use Rattle.cqs_floor_shared_kinds.specs.Families.{queue_name}
use Rattle.cqs_floor_shared_kinds.specs.PoolAccounts.{IsAccounted}
use Rattle.cqs_floor_shared_kinds.specs.PoolRuns.{IsPool}
use Rattle.cqs_floor_shared_kinds.specs.Runs.{WaitsAt}
use Rattle.cqs_floor_shared_kinds.specs.Shares.{Funds, Share}

-- What a pass is between two calls of a floor: it owes nothing, its own number is the first of its
-- numbers, of which none comes twice, and what they came to and haven't put back is what it has in
-- hand and what it waits for.
pub record IsResting {T : Type 0} (v : View PoolEntry T) (size waiting : ℕ) : Type 0 where
  pub size_is : v.opening.size ≡ size
  pub ready : IsReady v.facts
  pub numbers : v.own ≡ v.number ∷ drop 1 v.own
  pub distinct : IsDistinct v.own
  pub waits_are : length v.facts.waits ≡ waiting
  pub account : IsAccounted v.own v.seen (length v.facts.has.slots + waiting)

-- what is held is what the pass has in hand
pub record AreInHand (held : List HeldElement) (slots : List ℕ) : Type 0 where
  pub each : (e : ℕ) → times e (all_held held) ≡ times e slots
  pub many : length held ≡ length slots

-- It is a pool, the pass is its own and has in hand what is held, job by job, and there is memory
-- for all of its elements.
pub record IsFunded (x : SharedPool) (a : Funds) : Type 0 where
  pub sort : IsPool a.kind
  pub mine : IsMine (arc_value x.pool) x.pass
  pub none_came : a.came ≡ 0
  pub rests : IsResting (pass_view x.pass) (size_of (Some a.kind)) a.waiting
  pub here : (job : ℕ) → elements_held job x.held.items ≡ held_by a.held job
  pub hands : AreInHand x.held.items (pass_view x.pass).facts.has.slots
  pub space : size_of (Some a.kind) ≤ vec_capacity x.held

abbrev pub share_pool : Share SharedPool
share_pool = record {
  seen = λ x. of_elements (pass_view x.pass).seen;
  number = λ x. (pass_view x.pass).number;
  met = λ x. drop 1 (pass_view x.pass).own;
  passes = λ x. (pass_view x.pass).passes;
  limit = λ x. (pass_view x.pass).limit;
  parties = λ x. [];
  family = λ x. queue_name x.pass ∷ [];
  funded = IsFunded;
  has = λ x round wait. (round ≡ 0) × WaitsAt (pass_view x.pass) wait;
}
