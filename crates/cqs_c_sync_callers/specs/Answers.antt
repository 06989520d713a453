-- What the answers of a call by number mean. A call is refused, for a cause that is the caller's,
-- and leaves it as it was; or it was one call of the semaphore, whose answer is told, and of whose
-- contract those clauses hold that stand here. What it says of a pass that is alone isn't among
-- them. What a try, a look at a wait, the state, and a look for other passes have done is said as
-- of a plain semaphore.
use Rattle.std.specs.Prelude.{◌≡◌, ◌≢◌, ◌⊎◌, ℕ, ◌≤◌, [], All, None, IsSome, Result, IsErrOf, OnErr, IfOk, vec_len, vec_capacity}
use Rattle.cqs_core.specs.declared.entries.Entry.{Entry}
use Rattle.cqs_rule_laws.specs.declared.config.AcquireError.{AcquireError}
use Rattle.cqs_rule_laws.specs.declared.config.AcquireError.TheVariants as refused
use Rattle.cqs_rule_laws.specs.declared.config.Crowded.{Crowded}
use Rattle.cqs_rule_laws.specs.declared.view.View.{View}
use Rattle.cqs_rule.specs.declared.queue.tokens.Wait.{Wait}
use Rattle.cqs_rule.specs.Claims.{WasCrowded}
use Rattle.cqs_rule.specs.Passes.{pass_view}
use Rattle.cqs_rule.specs.Waits.{place_of, HasWait}
use Rattle.cqs_semaphore.specs.declared.answers.Permit.{Permit}
use Rattle.cqs_semaphore.specs.Answers.{IsWorn, IsCrowded}
use Rattle.cqs_semaphore.specs.Calls.{CallRule}
use Rattle.cqs_sync_semaphore.specs.declared.answers.SyncAcquired.{SyncAcquired}
use Rattle.cqs_sync_semaphore.specs.declared.answers.SyncLeft.{SyncLeft}
use Rattle.cqs_sync_semaphore.specs.declared.answers.SyncReleased.{SyncReleased}
use Rattle.cqs_sync_semaphore.specs.Answers.{Acquires, Cancels, Ends, Releases}
use Rattle.cqs_sync_semaphore.specs.Entries.{acquired_entries, acquired_further}
use Rattle.cqs_c_callers.specs.declared.answers.Answer.{Answer}
use Rattle.cqs_c_callers.specs.declared.answers.Answer.TheVariants as answer
use Rattle.cqs_c_callers.specs.declared.verb.Verb.{Verb}
use Rattle.cqs_c_callers.specs.declared.verb.Verb.TheVariants as verb
use Rattle.cqs_c_callers.specs.SemaphoreAnswers.{HasTried, HasPolled, HasRead, HasLooked}
use Rattle.cqs_c_sync_callers.specs.declared.sync_semaphore_caller.SyncSemaphoreCaller.{SyncSemaphoreCaller}
use Rattle.cqs_c_sync_callers.specs.Told.{told_acquired, told_left, told_given, told_released}

-- why a call is refused: the pass owes a resumption; or there is no room for its wait, it has no
-- wait of the number, or it holds no permit; or it owes nothing that might be finished
abbrev pub RefusesOwing : SyncSemaphoreCaller → Answer → Type 0
RefusesOwing c answer.Owes = IsSome c.under
RefusesOwing c a = ⊥

abbrev pub RefusesEnter : SyncSemaphoreCaller → Answer → Type 0
RefusesEnter c answer.Owes = IsSome c.under
RefusesEnter c answer.Full = vec_capacity c.waits ≤ vec_len c.waits
RefusesEnter c a = ⊥

abbrev pub RefusesWait : ℕ → SyncSemaphoreCaller → Answer → Type 0
RefusesWait n c answer.Owes = IsSome c.under
RefusesWait n c answer.NoWait = All (λ at. at.index ≢ n) c.waits.items
RefusesWait n c a = ⊥

abbrev pub RefusesLeave : SyncSemaphoreCaller → Answer → Type 0
RefusesLeave c answer.Owes = IsSome c.under
RefusesLeave c answer.NoPermit = (pass_view c.pass).facts.has.held ≡ 0
RefusesLeave c a = ⊥

abbrev pub RefusesFinish : SyncSemaphoreCaller → Answer → Type 0
RefusesFinish c answer.OwesNothing = c.under ≡ None
RefusesFinish c a = ⊥

abbrev pub Refuses : Verb → ℕ → SyncSemaphoreCaller → Answer → Type 0
Refuses verb.Enter n c a = RefusesEnter c a
Refuses verb.Try n c a = RefusesOwing c a
Refuses verb.Poll n c a = RefusesWait n c a
Refuses verb.Cancel n c a = RefusesWait n c a
Refuses verb.Leave n c a = RefusesLeave c a
Refuses verb.Finish n c a = RefusesFinish c a
Refuses verb.State n c a = RefusesOwing c a
Refuses verb.Sole n c a = ⊥

module _ {T : Type 0} where
  -- an acquire, of which this was told
  pub record HasAcquired (v : View Entry T) (a : Answer) (w : View Entry T) : Type 0 where
    pub given : Result SyncAcquired AcquireError
    pub told : a ≡ told_acquired given
    pub called : CallRule v (acquired_entries v.number given) (acquired_further given) w
    pub worn : IsErrOf given refused.Worn → IsWorn v w
    pub crowded : IsErrOf given refused.Crowded → IsCrowded v w
    pub acquired : IfOk given (λ x. Acquires v x w)

  -- a cancel of the wait of this number, which the pass had
  pub record HasGivenUp (n : ℕ) (v : View Entry T) (a : Answer) (w : View Entry T) : Type 0 where
    pub wait : Wait
    pub has : HasWait v wait
    pub number_is : (place_of wait).index ≡ n
    pub given : SyncLeft
    pub told : a ≡ told_left given
    pub cancelled : Cancels (place_of wait).index v given w

  -- a release, of a permit without a number
  pub record HasReleased (v : View Entry T) (a : Answer) (w : View Entry T) : Type 0 where
    pub given : Result SyncReleased (Permit × Crowded)
    pub told : a ≡ told_given given
    pub refused : OnErr given (CallRule v [] [] w)
    pub crowded : OnErr given (WasCrowded 1 v.facts v w)
    pub released : IfOk given (λ x. Releases None v x w)

  -- what was owed went on
  pub record HasFinished (v : View Entry T) (a : Answer) (w : View Entry T) : Type 0 where
    pub given : SyncReleased
    pub told : a ≡ told_released given
    pub ends : Ends [] v.facts.has.held v.facts.waits None v given w

  -- a call that wasn't refused
  abbrev pub Makes : Verb → ℕ → View Entry T → Answer → View Entry T → Type 0
  Makes verb.Enter n v a w = HasAcquired v a w
  Makes verb.Try n v a w = HasTried v a w
  Makes verb.Poll n v a w = HasPolled n v a w
  Makes verb.Cancel n v a w = HasGivenUp n v a w
  Makes verb.Leave n v a w = HasReleased v a w
  Makes verb.Finish n v a w = HasFinished v a w
  Makes verb.State n v a w = HasRead v a w
  Makes verb.Sole n v a w = HasLooked v a w

-- A call of this verb, with the number of a wait: it was refused, or made.
abbrev pub IsAnswered : Verb → ℕ → SyncSemaphoreCaller → Answer → SyncSemaphoreCaller → Type 0
IsAnswered v n c a d =
    (Refuses v n c a × (d ≡ c)) ⊎ Makes v n (pass_view c.pass) a (pass_view d.pass)
