-- How an item of a pool came to a caller who took, and looked at its wait until it was served: what
-- the pool's own calls gave, one after the other.
use Rattle.std.specs.Prelude.{Option, Result, Ok, Err}
use Rattle.cqs_pool_object.specs.declared.entries.PoolEntry.{PoolEntry}
use Rattle.cqs_rule_laws.specs.declared.config.AcquireError.{AcquireError}
use Rattle.cqs_rule.specs.declared.queue.tokens.Wait.{Wait}
use Rattle.cqs_rule_laws.specs.declared.carries.Kept.{Kept}
use Rattle.cqs_rule_laws.specs.declared.view.View.{View}
use Rattle.cqs_rule.specs.Waits.{HasWait}
use Rattle.cqs_pool_values.specs.declared.answers.ItemPolled.{ItemPolled}
use Rattle.cqs_pool_values.specs.declared.answers.ItemPolled.TheVariants.{Granted, Pending}
use Rattle.cqs_pool_values.specs.declared.answers.ItemTaking.{ItemTaking}
use Rattle.cqs_pool_values.specs.declared.answers.ItemTaking.TheVariants.{Took, Later}
use Rattle.cqs_pool_values.specs.declared.item.Item.{Item}
use Rattle.cqs_pool_values.specs.Calls.{HasPolled, HasTaken, PolledLeaves, TakenLeaves}
use Rattle.cqs_waiter.specs.Arrivals.{WaiterCalls, Arrives, BeginsAtOnce, BeginsToWait, BeginsRefused}

module _ {T : Type 0} where
  -- a take, and a look at a wait, each with what it leaves of the pass
  abbrev pub Takes : View PoolEntry (Kept T) → Result (ItemTaking T) AcquireError
      → View PoolEntry (Kept T) → Type 0
  Takes v answer w = HasTaken v answer w × TakenLeaves v answer w

  abbrev pub Looks : Wait → View PoolEntry (Kept T) → ItemPolled T → View PoolEntry (Kept T)
      → Type 0
  Looks wait v answer w = HasPolled wait v answer w × PolledLeaves wait v answer w

  abbrev pub take_calls : WaiterCalls (View PoolEntry (Kept T)) Wait (Item T)
  take_calls = record {
    at_once = λ v item w. Takes v (Ok (Took item)) w;
    waits = λ v wait w. Takes v (Ok (Later wait)) w;
    refuses = λ v e w. Takes v (Err e) w;
    serves = λ wait v item w. Looks wait v (Granted item) w;
    pends = λ wait v again w. Looks wait v (Pending again) w;
  }

  -- what came of a take, or of the wait that it had got before
  abbrev pub ItemArrives : View PoolEntry (Kept T) → Option Wait → Result (Item T) AcquireError
      → View PoolEntry (Kept T) → Type 0
  ItemArrives = Arrives take_calls

  -- what a poll begins with: the wait of before, or what a take got
  abbrev pub ItemBegins : View PoolEntry (Kept T) → Option Wait
      → Result (ItemTaking T) AcquireError → View PoolEntry (Kept T) → Type 0
  ItemBegins v wait (Ok (Took item)) w = BeginsAtOnce take_calls v wait item w
  ItemBegins v wait (Ok (Later got)) w = BeginsToWait take_calls v wait got w
  ItemBegins v wait (Err e) w = BeginsRefused take_calls v wait e w

  -- the pass has the wait that a poll begins with
  abbrev pub HasItsWait : Result (ItemTaking T) AcquireError → View PoolEntry (Kept T) → Type 0
  HasItsWait (Ok (Later wait)) w = HasWait w wait
  HasItsWait (Ok (Took item)) w = Unit {0}
  HasItsWait (Err e) w = Unit {0}
