-- What the answers of a call by number mean, of a barrier: it is refused, for a cause that is the
-- caller's, and leaves the caller as it was; or it was one call of the barrier, whose answer is
-- told, and of whose contract those clauses hold that stand here. What it says of a pass that is
-- alone, and of the cell that an arrival found, isn't among them.
use Rattle.std.specs.Prelude.{◌≡◌, ◌≢◌, ◌⊎◌, ℕ, ◌≤◌, true, [], All, Option, Some, None, IsSome, Result, IsErrOf, IfOk, vec_len, vec_capacity}
use Rattle.cqs_rule_laws.specs.declared.config.AcquireError.{AcquireError}
use Rattle.cqs_rule_laws.specs.declared.config.AcquireError.TheVariants as refused
use Rattle.cqs_rule_laws.specs.declared.view.View.{View}
use Rattle.cqs_rule_laws.specs.Alone.{IsAlone}
use Rattle.cqs_rule.specs.Passes.{pass_view}
use Rattle.cqs_rule_laws.specs.Saw.{Saw}
use Rattle.cqs_rule_laws.specs.Views.{as_before}
use Rattle.cqs_rule.specs.Waits.{place_of, HasWait}
use Rattle.cqs_barrier_object.specs.declared.entries.BarrierEntry.{BarrierEntry}
use Rattle.cqs_barrier.specs.declared.answers.Arrived.{Arrived}
use Rattle.cqs_barrier.specs.declared.answers.Owing.{Owing}
use Rattle.cqs_barrier.specs.declared.answers.PartyLeft.{PartyLeft}
use Rattle.cqs_barrier.specs.declared.answers.PartyPolled.{PartyPolled}
use Rattle.cqs_barrier.specs.declared.answers.PartyWait.{PartyWait}
use Rattle.cqs_barrier.specs.Answers.{IsPolled}
use Rattle.cqs_barrier.specs.Arriving.{IsWorn, IsCrowded, Arrives, Finishes}
use Rattle.cqs_barrier.specs.Barrier.{barrier_object}
use Rattle.cqs_barrier.specs.Calls.{CallRule}
use Rattle.cqs_barrier.specs.Causes.{primitive_of}
use Rattle.cqs_barrier.specs.Entries.{polled_entries}
use Rattle.cqs_barrier.specs.Leaving.{HasLeft, leaving_at}
use Rattle.cqs_barrier.specs.Waits.{wait_in}
use Rattle.cqs_c_callers.specs.declared.answers.Answer.{Answer}
use Rattle.cqs_c_callers.specs.declared.answers.Answer.TheVariants as answer
use Rattle.cqs_c_latch_callers.specs.declared.barrier_caller.BarrierCaller.{BarrierCaller}
use Rattle.cqs_c_latch_callers.specs.declared.barrier_caller.PartyOwes.{PartyOwes}
use Rattle.cqs_c_latch_callers.specs.declared.barrier_caller.PartyOwes.TheVariants.{Others, Leave}
use Rattle.cqs_c_callers.specs.declared.verb.Verb.{Verb}
use Rattle.cqs_c_callers.specs.declared.verb.Verb.TheVariants as verb
use Rattle.cqs_c_latch_callers.specs.BarrierTold.{told_arrived, told_polled, told_left, told_finished}

-- why a call is refused
abbrev pub RefusesArrive : BarrierCaller → Answer → Type 0
RefusesArrive c answer.Owes = IsSome c.owed
RefusesArrive c answer.Full = vec_capacity c.waits ≤ vec_len c.waits
RefusesArrive c answer.NoParty = (pass_view c.pass).facts.has.held ≡ 0
RefusesArrive c a = ⊥

abbrev pub RefusesWait : ℕ → BarrierCaller → Answer → Type 0
RefusesWait n c answer.Owes = IsSome c.owed
RefusesWait n c answer.NoWait = All (λ wait. (place_of (wait_in wait)).index ≢ n) c.waits.items
RefusesWait n c a = ⊥

abbrev pub RefusesFinish : BarrierCaller → Answer → Type 0
RefusesFinish c answer.OwesNothing = c.owed ≡ None
RefusesFinish c a = ⊥

abbrev pub Refuses : Verb → ℕ → BarrierCaller → Answer → Type 0
Refuses verb.Enter n c a = RefusesArrive c a
Refuses verb.Try n c a = a ≡ answer.NoCall
Refuses verb.Poll n c a = RefusesWait n c a
Refuses verb.Cancel n c a = RefusesWait n c a
Refuses verb.Leave n c a = a ≡ answer.NoCall
Refuses verb.Finish n c a = RefusesFinish c a
Refuses verb.State n c a = a ≡ answer.NoCall
Refuses verb.Sole n c a = ⊥

module _ {T : Type 0} where
  -- an arrival, of which this was told
  pub record HasArrived (v : View BarrierEntry T) (a : Answer) (w : View BarrierEntry T)
      : Type 0 where
    pub given : Result Arrived AcquireError
    pub told : a ≡ told_arrived given
    pub worn : IsErrOf given refused.Worn → IsWorn v w
    pub crowded : IsErrOf given refused.Crowded → IsCrowded v w
    pub arrived : IfOk given (λ x. Arrives v x w)

  -- a look at the wait of this number, which the pass had
  pub record HasPolled (n : ℕ) (v : View BarrierEntry T) (a : Answer) (w : View BarrierEntry T)
      : Type 0 where
    pub wait : PartyWait
    pub has : HasWait v (wait_in wait)
    pub number_is : (place_of (wait_in wait)).index ≡ n
    pub given : PartyPolled
    pub told : a ≡ told_polled given
    pub called : CallRule v (polled_entries v.number (place_of (wait_in wait)).index given) [] w
    pub polled : IsPolled (wait_in wait) v given w

  -- a cancel of the wait of this number, which the pass had
  pub record HasGivenUp (n : ℕ) (v : View BarrierEntry T) (a : Answer) (w : View BarrierEntry T)
      : Type 0 where
    pub wait : PartyWait
    pub has : HasWait v (wait_in wait)
    pub number_is : (place_of (wait_in wait)).index ≡ n
    pub given : PartyLeft
    pub told : a ≡ told_left given
    pub left : HasLeft (place_of (wait_in wait)).index v given w

  -- the resumptions went on that the last party owed
  pub record HasResumed (v : View BarrierEntry T) (a : Answer) (w : View BarrierEntry T)
      : Type 0 where
    pub given : Result (Unit {0}) Owing
    pub told : a ≡ told_finished given
    pub finished : Finishes v given w

  -- the leaving of the wait k went on
  pub record HasGoneOn (k : ℕ) (v : View BarrierEntry T) (a : Answer) (w : View BarrierEntry T)
      : Type 0 where
    pub given : PartyLeft
    pub told : a ≡ told_left given
    pub left : HasLeft k v given w

  -- a finish, of what was owed
  abbrev pub HasFinished : Option PartyOwes → View BarrierEntry T → Answer → View BarrierEntry T
      → Type 0
  HasFinished None v a w = ⊥
  HasFinished (Some (Others owing)) v a w = HasResumed v a w
  HasFinished (Some (Leave leaving)) v a w = HasGoneOn (leaving_at leaving).index v a w

  -- whether the pass is alone; then it has seen the whole history
  pub record HasLooked (v : View BarrierEntry T) (a : Answer) (w : View BarrierEntry T)
      : Type 0 where
    pub told : a ≡ answer.Sole w.alone
    pub looked : Saw barrier_object v v.facts [] (as_before v w)
    pub others : w.alone ≡ true → IsAlone primitive_of w

  -- a call that wasn't refused, of a pass that owed this
  abbrev pub Makes : Option PartyOwes → Verb → ℕ → View BarrierEntry T → Answer
      → View BarrierEntry T → Type 0
  Makes owed verb.Enter n v a w = HasArrived v a w
  Makes owed verb.Try n v a w = ⊥
  Makes owed verb.Poll n v a w = HasPolled n v a w
  Makes owed verb.Cancel n v a w = HasGivenUp n v a w
  Makes owed verb.Leave n v a w = ⊥
  Makes owed verb.Finish n v a w = HasFinished owed v a w
  Makes owed verb.State n v a w = ⊥
  Makes owed verb.Sole n v a w = HasLooked v a w

-- A call of this verb, with the number of a wait: it was refused, or made.
abbrev pub IsAnswered : Verb → ℕ → BarrierCaller → Answer → BarrierCaller → Type 0
IsAnswered v n c a d =
    (Refuses v n c a × (d ≡ c)) ⊎ Makes c.owed v n (pass_view c.pass) a (pass_view d.pass)
