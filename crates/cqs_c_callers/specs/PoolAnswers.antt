-- What the answers of a call by number mean, of a pool: it is refused, for a cause that is the
-- caller's, and leaves the caller as it was; or it was one call of the pool, whose answer is told,
-- and of whose contract those clauses hold that stand here. What it says of a pass that is alone,
-- or of the only caller, isn't among them.
use Rattle.std.specs.Prelude.{◌≡◌, ◌≢◌, ◌⊎◌, ℕ, ◌≤◌, true, [], All, None, IsSome, Result, IsErrOf, OnErr, IfOk, vec_len, vec_capacity}
use Rattle.cqs_rule_laws.specs.declared.config.AcquireError.{AcquireError}
use Rattle.cqs_rule_laws.specs.declared.config.AcquireError.TheVariants as refused
use Rattle.cqs_rule_laws.specs.declared.config.Crowded.{Crowded}
use Rattle.cqs_rule.specs.declared.queue.tokens.Under.{Under}
use Rattle.cqs_rule.specs.declared.queue.tokens.Wait.{Wait}
use Rattle.cqs_rule_laws.specs.declared.view.View.{View}
use Rattle.cqs_rule_laws.specs.Lists.{without}
use Rattle.cqs_rule.specs.Claims.{WasCrowded}
use Rattle.cqs_rule.specs.Owed.{HasUnder, under_payload}
use Rattle.cqs_rule.specs.Passes.{pass_view}
use Rattle.cqs_rule.specs.Waits.{place_of, HasWait}
use Rattle.cqs_pool_object.specs.declared.entries.PoolEntry.{PoolEntry}
use Rattle.cqs_pool.specs.declared.element.Element.{Element}
use Rattle.cqs_pool.specs.declared.answers.Placed.{Placed}
use Rattle.cqs_pool.specs.declared.answers.PoolLeft.{PoolLeft}
use Rattle.cqs_pool.specs.declared.answers.PoolPolled.{PoolPolled}
use Rattle.cqs_pool.specs.declared.answers.Taking.{Taking}
use Rattle.cqs_pool.specs.Answers.{IsWorn, IsCrowded, Takes, Ends, IsPolled, IsInHand}
use Rattle.cqs_pool.specs.Calls.{CallRule}
use Rattle.cqs_pool.specs.Elements.{number_of}
use Rattle.cqs_pool.specs.Entries.{took_entries, took_further, polled_entries, put_entries, put_further, placed_further}
use Rattle.cqs_pool.specs.Seats.{LookedOn, SeesAll}
use Rattle.cqs_pool.specs.Steps.{HasCancelled}
use Rattle.cqs_c_callers.specs.declared.answers.Answer.{Answer}
use Rattle.cqs_c_callers.specs.declared.answers.Answer.TheVariants as answer
use Rattle.cqs_c_callers.specs.declared.pool_caller.PoolCaller.{PoolCaller}
use Rattle.cqs_c_callers.specs.declared.verb.Verb.{Verb}
use Rattle.cqs_c_callers.specs.declared.verb.Verb.TheVariants as verb
use Rattle.cqs_c_callers.specs.PoolTold.{told_taken, told_polled, told_left, told_placed, told_put}

-- there is no room for another element
abbrev pub IsLaden : PoolCaller → Type 0
IsLaden c = vec_capacity c.elements ≤ vec_len c.elements

-- why a call is refused
abbrev pub RefusesTake : PoolCaller → Answer → Type 0
RefusesTake c answer.Owes = IsSome c.under
RefusesTake c answer.Full = (vec_capacity c.waits ≤ vec_len c.waits) ⊎ IsLaden c
RefusesTake c a = ⊥

abbrev pub RefusesWait : ℕ → PoolCaller → Answer → Type 0
RefusesWait n c answer.Owes = IsSome c.under
RefusesWait n c answer.Full = IsLaden c
RefusesWait n c answer.NoWait = All (λ wait. (place_of wait).index ≢ n) c.waits.items
RefusesWait n c a = ⊥

abbrev pub RefusesPut : ℕ → PoolCaller → Answer → Type 0
RefusesPut n c answer.Owes = IsSome c.under
RefusesPut n c answer.NoElement = All (λ x. number_of x ≢ n) c.elements.items
RefusesPut n c a = ⊥

abbrev pub RefusesFinish : PoolCaller → Answer → Type 0
RefusesFinish c answer.OwesNothing = c.under ≡ None
RefusesFinish c a = ⊥

abbrev pub Refuses : Verb → ℕ → PoolCaller → Answer → Type 0
Refuses verb.Enter n c a = RefusesTake c a
Refuses verb.Try n c a = a ≡ answer.NoCall
Refuses verb.Poll n c a = RefusesWait n c a
Refuses verb.Cancel n c a = RefusesWait n c a
Refuses verb.Leave n c a = RefusesPut n c a
Refuses verb.Finish n c a = RefusesFinish c a
Refuses verb.State n c a = a ≡ answer.NoCall
Refuses verb.Sole n c a = ⊥

module _ {T : Type 0} where
  -- a take, of which this was told
  pub record HasTaken (v : View PoolEntry T) (a : Answer) (w : View PoolEntry T) : Type 0 where
    pub given : Result Taking AcquireError
    pub told : a ≡ told_taken given
    pub called : CallRule v (took_entries v.number given) (took_further given) w
    pub worn : IsErrOf given refused.Worn → IsWorn v w
    pub crowded : IsErrOf given refused.Crowded → IsCrowded v w
    pub took : IfOk given (λ x. Takes v x w)

  -- a look at the wait of this number, which the pass had
  pub record HasPolled (n : ℕ) (v : View PoolEntry T) (a : Answer) (w : View PoolEntry T)
      : Type 0 where
    pub wait : Wait
    pub has : HasWait v wait
    pub number_is : (place_of wait).index ≡ n
    pub given : PoolPolled
    pub told : a ≡ told_polled given
    pub called : CallRule v (polled_entries v.number (place_of wait).index given) [] w
    pub polled : IsPolled wait v given w

  -- a cancel of the wait of this number, which the pass had
  pub record HasGivenUp (n : ℕ) (v : View PoolEntry T) (a : Answer) (w : View PoolEntry T)
      : Type 0 where
    pub wait : Wait
    pub has : HasWait v wait
    pub number_is : (place_of wait).index ≡ n
    pub given : PoolLeft
    pub told : a ≡ told_left given
    pub cancelled : HasCancelled (place_of wait).index v given w

  -- the element of this number, which the pass had, was put
  pub record HasPut (n : ℕ) (v : View PoolEntry T) (a : Answer) (w : View PoolEntry T)
      : Type 0 where
    pub had : IsInHand n v.facts
    pub given : Result Placed (Element × Crowded)
    pub told : a ≡ told_put given
    pub called : CallRule v (put_entries v.number n given) (put_further n given) w
    pub crowded : OnErr given (WasCrowded 1 v.facts v w)
    pub ends : IfOk given (λ x. Ends v n (without n v.facts.has.slots) v.facts.waits x w)

  -- the element went on whose resumption was owed
  pub record HasFinished (v : View PoolEntry T) (a : Answer) (w : View PoolEntry T) : Type 0 where
    pub under : Under
    pub owes : HasUnder v.facts under
    pub given : Placed
    pub told : a ≡ told_placed given
    pub called : CallRule v [] (placed_further (under_payload under) given) w
    pub ends : Ends v (under_payload under) v.facts.has.slots v.facts.waits given w

  -- whether the pass is alone; then it has seen the whole history
  pub record HasLooked (v : View PoolEntry T) (a : Answer) (w : View PoolEntry T) : Type 0 where
    pub told : a ≡ answer.Sole w.alone
    pub looked : LookedOn v w
    pub others : w.alone ≡ true → SeesAll w

  -- a call that wasn't refused
  abbrev pub Makes : Verb → ℕ → View PoolEntry T → Answer → View PoolEntry T → Type 0
  Makes verb.Enter n v a w = HasTaken v a w
  Makes verb.Try n v a w = ⊥
  Makes verb.Poll n v a w = HasPolled n v a w
  Makes verb.Cancel n v a w = HasGivenUp n v a w
  Makes verb.Leave n v a w = HasPut n v a w
  Makes verb.Finish n v a w = HasFinished v a w
  Makes verb.State n v a w = ⊥
  Makes verb.Sole n v a w = HasLooked v a w

-- A call of this verb, with the number of a wait or of an element: it was refused, or made.
abbrev pub IsAnswered : Verb → ℕ → PoolCaller → Answer → PoolCaller → Type 0
IsAnswered v n c a d =
    (Refuses v n c a × (d ≡ c)) ⊎ Makes v n (pass_view c.pass) a (pass_view d.pass)
