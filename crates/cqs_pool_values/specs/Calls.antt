-- The calls of a pool of values: each is the call of the same name of the pool below, at which the
-- pass was at a view in between; and where the caller has an item then, or gives one back, its
-- value moves.
use Rattle.std.specs.Prelude.{◌≡◌, ℕ, true, [], ◌∷◌, ◌++◌, Result, Ok, Err, IfOk, IsErrOf, OnOk}
use Rattle.cqs_pool_object.specs.declared.entries.PoolEntry.{PoolEntry}
use Rattle.cqs_pool_object.specs.declared.entries.PoolEntry.TheVariants as entry
use Rattle.cqs_rule_laws.specs.declared.config.AcquireError.{AcquireError}
use Rattle.cqs_rule_laws.specs.declared.config.AcquireError.TheVariants as refused
use Rattle.cqs_rule.specs.declared.queue.tokens.Wait.{Wait}
use Rattle.cqs_rule_laws.specs.declared.carries.Kept.{Kept}
use Rattle.cqs_rule_laws.specs.declared.view.View.{View}
use Rattle.cqs_rule_laws.specs.Lists.{without}
use Rattle.cqs_rule.specs.Claims.{Claimed}
use Rattle.cqs_rule.specs.Owed.{HasUnder}
use Rattle.cqs_rule.specs.Waits.{HasWait, place_of}
use Rattle.cqs_pool.specs.declared.answers.Placed.{Placed}
use Rattle.cqs_pool.specs.declared.answers.Placed.TheVariants.{Sent, Left, Under}
use Rattle.cqs_pool.specs.declared.answers.PoolLeft.{PoolLeft}
use Rattle.cqs_pool.specs.declared.answers.PoolLeft.TheVariants as left
use Rattle.cqs_pool.specs.declared.answers.PoolPolled.{PoolPolled}
use Rattle.cqs_pool.specs.declared.answers.PoolPolled.TheVariants as polled
use Rattle.cqs_pool.specs.declared.answers.Taking.{Taking}
use Rattle.cqs_pool.specs.declared.answers.Taking.TheVariants as taking
use Rattle.cqs_pool.specs.Alone.{IsPlainTake, IsPlainPut, IsPlainPoll, IsPlainCancel, IsOnlyCaller, TakesFirst, TakesNew, PollsNew, CancelsNew}
use Rattle.cqs_pool.specs.Answers.{IsWorn, IsBelow, IsCrowded, Takes, Ends, IsPolled, LeavesPass}
use Rattle.cqs_pool.specs.Calls.{Rests, CallRule}
use Rattle.cqs_pool.specs.Entries.{took_entries, took_further, polled_entries, placed_further}
use Rattle.cqs_pool.specs.Steps.{HasCancelled}
use Rattle.cqs_pool_values.specs.declared.answers.ItemTaking.{ItemTaking}
use Rattle.cqs_pool_values.specs.declared.answers.ItemTaking.TheVariants.{Took, Later}
use Rattle.cqs_pool_values.specs.declared.answers.ItemPolled.{ItemPolled}
use Rattle.cqs_pool_values.specs.declared.answers.ItemPolled.TheVariants.{Granted, Pending}
use Rattle.cqs_pool_values.specs.declared.answers.ItemLeft.{ItemLeft}
use Rattle.cqs_pool_values.specs.declared.answers.ItemLeft.TheVariants.{Cancelled, TooLate}
use Rattle.cqs_pool_values.specs.Items.{value_of, element_of, number_of}
use Rattle.cqs_pool_values.specs.Values.{TookValue, LaidValue}

module _ {T : Type 0} where
  -- the answers of the pool below, where nothing is said of the value
  abbrev pub as_taking : ItemTaking T → Taking
  as_taking (Took item) = taking.Took (element_of item)
  as_taking (Later wait) = taking.Later wait

  abbrev pub as_answer : Result (ItemTaking T) AcquireError → Result Taking AcquireError
  as_answer (Ok came) = Ok (as_taking came)
  as_answer (Err e) = Err e

  abbrev pub as_polled : ItemPolled T → PoolPolled
  as_polled (Granted item) = polled.Granted (element_of item)
  as_polled (Pending wait) = polled.Pending wait

  abbrev pub as_left : ItemLeft T → PoolLeft
  as_left (Cancelled under) = left.Cancelled under
  as_left (TooLate item) = left.TooLate (element_of item)

  -- with an item the value left its slot, and else nothing was done
  abbrev pub TakenValue : Result (ItemTaking T) AcquireError → View PoolEntry (Kept T)
      → View PoolEntry (Kept T) → Type 0
  TakenValue (Ok (Took item)) v w = TookValue (number_of item) (value_of item) v w
  TakenValue (Ok (Later wait)) v w = w ≡ v
  TakenValue (Err e) v w = w ≡ v

  abbrev pub PolledValue : ItemPolled T → View PoolEntry (Kept T) → View PoolEntry (Kept T)
      → Type 0
  PolledValue (Granted item) v w = TookValue (number_of item) (value_of item) v w
  PolledValue (Pending wait) v w = w ≡ v

  abbrev pub LeftValue : ItemLeft T → View PoolEntry (Kept T) → View PoolEntry (Kept T) → Type 0
  LeftValue (Cancelled under) v w = w ≡ v
  LeftValue (TooLate item) v w = TookValue (number_of item) (value_of item) v w

  -- what the pass has in hand after a call, and its waits
  abbrev pub TakenLeaves : View PoolEntry (Kept T) → Result (ItemTaking T) AcquireError
      → View PoolEntry (Kept T) → Type 0
  TakenLeaves v (Ok (Took item)) w =
      Rests v (number_of item ∷ v.facts.has.slots) v.facts.waits w
  TakenLeaves v (Ok (Later wait)) w =
      HasWait w wait
      × Rests v v.facts.has.slots (v.facts.waits ++ (place_of wait).index ∷ []) w
  TakenLeaves v (Err e) w = Rests v v.facts.has.slots v.facts.waits w

  abbrev pub PolledLeaves : Wait → View PoolEntry (Kept T) → ItemPolled T
      → View PoolEntry (Kept T) → Type 0
  PolledLeaves wait v (Granted item) w =
      Rests v (number_of item ∷ v.facts.has.slots) (without (place_of wait).index v.facts.waits) w
  PolledLeaves wait v (Pending again) w =
      (place_of again ≡ place_of wait) × HasWait w again
      × Rests v v.facts.has.slots v.facts.waits w

  abbrev pub LeftLeaves : Wait → View PoolEntry (Kept T) → ItemLeft T → View PoolEntry (Kept T)
      → Type 0
  LeftLeaves wait v answer w = LeavesPass (place_of wait).index v (as_left answer) w

  -- a put leaves the pass without the element; or it owes the resumption that was handed back
  abbrev pub PutLeaves : ℕ → View PoolEntry (Kept T) → Placed → View PoolEntry (Kept T) → Type 0
  PutLeaves e v (Sent k) w = Rests v (without e v.facts.has.slots) v.facts.waits w
  PutLeaves e v (Left k) w = Rests v (without e v.facts.has.slots) v.facts.waits w
  PutLeaves e v (Under under) w =
      HasUnder w.facts under × (w.facts.has.further ≡ 0)
      × (w.facts.has.slots ≡ without e v.facts.has.slots) × (w.facts.waits ≡ v.facts.waits)

  -- a take is one of the pool below, and the value
  pub record HasTaken (v : View PoolEntry (Kept T)) (answer : Result (ItemTaking T) AcquireError)
      (w : View PoolEntry (Kept T)) : Type 0 where
    pub between : View PoolEntry (Kept T)
    pub called : CallRule v (took_entries v.number (as_answer answer))
        (took_further (as_answer answer)) between
    pub worn : IsErrOf answer refused.Worn → IsWorn v between
    pub crowded : IsErrOf answer refused.Crowded → IsCrowded v between
    pub below : OnOk answer (IsBelow v between)
    pub took : IfOk answer (λ came. Takes v (as_taking came) between)
    pub alone : v.alone ≡ true → IfOk answer (λ came. IsPlainTake v (as_taking came))
    pub new : IfOk answer (λ came. TakesNew v (as_taking came))
    pub first : IsOnlyCaller v → IfOk answer (λ came. TakesFirst v (as_taking came))
    pub value : TakenValue answer between w

  -- a look at a wait
  pub record HasPolled (wait : Wait) (v : View PoolEntry (Kept T)) (answer : ItemPolled T)
      (w : View PoolEntry (Kept T)) : Type 0 where
    pub between : View PoolEntry (Kept T)
    pub called : CallRule v (polled_entries v.number (place_of wait).index (as_polled answer)) []
        between
    pub polled : IsPolled wait v (as_polled answer) between
    pub alone : v.alone ≡ true → IsPlainPoll (place_of wait).index v (as_polled answer)
    pub new : PollsNew v (as_polled answer)
    pub value : PolledValue answer between w

  -- a cancel
  pub record HasLeft (wait : Wait) (v : View PoolEntry (Kept T)) (answer : ItemLeft T)
      (w : View PoolEntry (Kept T)) : Type 0 where
    pub between : View PoolEntry (Kept T)
    pub cancelled : HasCancelled (place_of wait).index v (as_left answer) between
    pub alone : v.alone ≡ true → IsPlainCancel (place_of wait).index v (as_left answer) between
    pub new : CancelsNew v (as_left answer)
    pub value : LeftValue answer between w

  -- A put of the element e claims a slot where the pass has none spare, lays the value into its
  -- value slot, and is one of the pool below then.
  pub record HasPut (e : ℕ) (value : T) (v : View PoolEntry (Kept T)) (answer : Placed)
      (w : View PoolEntry (Kept T)) : Type 0 where
    pub claimed : View PoolEntry (Kept T)
    pub claims : Claimed 1 v claimed
    pub between : View PoolEntry (Kept T)
    pub laid : LaidValue e value claimed between
    pub called : CallRule between (entry.Put between.number e ∷ []) (placed_further e answer) w
    pub ends : Ends between e (without e between.facts.has.slots) between.facts.waits answer w
    pub alone : v.alone ≡ true → IsPlainPut between answer w
