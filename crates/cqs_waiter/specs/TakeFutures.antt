-- When a future that takes an item of a pool may be polled, and what may come of it.
use Rattle.std.specs.Prelude.{Option, Result, IfOk}
use Rattle.cqs_pool_object.specs.declared.entries.PoolEntry.{PoolEntry}
use Rattle.cqs_rule_laws.specs.declared.client.ClientWords.{Ghosts}
use Rattle.cqs_rule_laws.specs.declared.config.AcquireError.{AcquireError}
use Rattle.cqs_rule.specs.declared.queue.Pass.{Pass}
use Rattle.cqs_rule.specs.declared.queue.tokens.Wait.{Wait}
use Rattle.cqs_rule_laws.specs.declared.carries.Kept.{Kept}
use Rattle.cqs_rule.specs.Passes.{pass_view}
use Rattle.cqs_rule.specs.Waits.{HasWait}
use Rattle.cqs_pool.specs.declared.client.PoolClient.{PoolClient}
use Rattle.cqs_pool.specs.Answers.{IsInHand}
use Rattle.cqs_rule_laws.specs.CallRule.{IsReady}
use Rattle.cqs_pool_values.specs.declared.answers.ItemLeft.{ItemLeft}
use Rattle.cqs_pool_values.specs.declared.item.Item.{Item}
use Rattle.cqs_pool_values.specs.declared.opening.ValuePool.{ValuePool}
use Rattle.cqs_pool_values.specs.Calls.{HasLeft, LeftLeaves}
use Rattle.cqs_pool_values.specs.Items.{number_of}
use Rattle.cqs_pool_values.specs.Pools.{Belongs}
use Rattle.cqs_waiter.specs.declared.take_future.TakeFuture.{TakeFuture}
use Rattle.cqs_waiter.specs.declared.take_future.TakeOutcome.{TakeOutcome}
use Rattle.cqs_waiter.specs.Arrivals.{Pends}
use Rattle.cqs_waiter.specs.Futures.{CanPoll, Gives, LookPended}
use Rattle.cqs_waiter.specs.Takes.{ItemArrives, take_calls}

module _ {T : Type 0} {g : Ghosts (PoolClient (Kept T)) (Kept T) PoolEntry} where
  -- the pass is one of this pool, between two calls
  abbrev pub IsOfPool : ValuePool T → Pass (PoolClient (Kept T)) (Kept T) PoolEntry g → Type 0
  IsOfPool m p = Belongs m p × IsReady (pass_view p).facts

  -- of its pass: that it has a wait, that it has an item that came, what came of a take or a wait,
  -- what a pending poll found, and a cancel
  abbrev pub WaitsInPool : Pass (PoolClient (Kept T)) (Kept T) PoolEntry g → Wait → Type 0
  WaitsInPool p wait = HasWait (pass_view p) wait

  abbrev pub HasItem : Result (Item T) AcquireError
      → Pass (PoolClient (Kept T)) (Kept T) PoolEntry g → Type 0
  HasItem got p = IfOk got (λ item. IsInHand (number_of item) (pass_view p).facts)

  abbrev pub TakesItem : Pass (PoolClient (Kept T)) (Kept T) PoolEntry g → Option Wait
      → Result (Item T) AcquireError → Pass (PoolClient (Kept T)) (Kept T) PoolEntry g → Type 0
  TakesItem p wait got after =
      ItemArrives (pass_view p) wait got (pass_view after) × HasItem got after

  abbrev pub TakePends : Pass (PoolClient (Kept T)) (Kept T) PoolEntry g → Option Wait → Wait
      → Pass (PoolClient (Kept T)) (Kept T) PoolEntry g → Type 0
  TakePends p wait again after = Pends take_calls (pass_view p) wait again (pass_view after)

  abbrev pub EndsTakeWait : Pass (PoolClient (Kept T)) (Kept T) PoolEntry g → Wait → ItemLeft T
      → Pass (PoolClient (Kept T)) (Kept T) PoolEntry g → Type 0
  EndsTakeWait p wait answer after =
      HasLeft wait (pass_view p) answer (pass_view after)
      × LeftLeaves wait (pass_view p) answer (pass_view after)

  -- it has a pass of the pool, and its wait, if there is one; or it was ready before
  abbrev pub CanPollTake : TakeFuture T g → Type 0
  CanPollTake f = CanPoll (IsOfPool f.pool.now) WaitsInPool f.pass f.wait

  -- what may come of it
  abbrev pub GivesItem : TakeFuture T g → TakeOutcome T g → Type 0
  GivesItem f out = Gives (IsOfPool f.pool.now) TakesItem f.pass f.wait out.pass out.got

  -- what may come of it later comes of it now
  abbrev pub ItemLeadsTo : TakeFuture T g → TakeFuture T g → Type 0
  ItemLeadsTo f later = (out : TakeOutcome T g) → GivesItem later out → GivesItem f out

  -- the look of a poll was pending
  abbrev pub TakePended : TakeFuture T g → TakeFuture T g → Type 0
  TakePended f later = LookPended TakePends f.pass f.wait later.pass later.wait
