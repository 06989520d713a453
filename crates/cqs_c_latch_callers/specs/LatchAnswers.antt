-- What the answers of a call by number mean, of a latch: it is refused, for a cause that is the
-- caller's, and leaves the caller as it was; or it was one call of the latch, whose answer is told,
-- and of whose contract those clauses hold that stand here. What it says of a pass that is alone
-- isn't among them.
use Rattle.std.specs.Prelude.{◌≡◌, ◌≢◌, ◌⊎◌, ℕ, ◌≤◌, true, [], All, None, IsSome, Result, IsErrOf, OnErr, IfOk, vec_len, vec_capacity}
use Rattle.cqs_rule_laws.specs.declared.config.AcquireError.{AcquireError}
use Rattle.cqs_rule_laws.specs.declared.config.AcquireError.TheVariants as refused
use Rattle.cqs_rule_laws.specs.declared.config.CancelMode.{CancelMode}
use Rattle.cqs_rule_laws.specs.declared.config.Crowded.{Crowded}
use Rattle.cqs_rule.specs.declared.queue.tokens.Wait.{Wait}
use Rattle.cqs_rule_laws.specs.declared.carries.Unparked.{Unparked}
use Rattle.cqs_rule_laws.specs.declared.view.View.{View}
use Rattle.cqs_rule.specs.Passes.{pass_view, client_of}
use Rattle.cqs_rule.specs.Waits.{place_of, HasWait}
use Rattle.cqs_latch_object.specs.declared.entries.LatchEntry.{LatchEntry}
use Rattle.cqs_latch.specs.declared.answers.Down.{Down}
use Rattle.cqs_latch.specs.declared.answers.LatchLeft.{LatchLeft}
use Rattle.cqs_latch.specs.declared.answers.LatchPolled.{LatchPolled}
use Rattle.cqs_latch.specs.declared.answers.LatchWait.{LatchWait}
use Rattle.cqs_latch.specs.declared.answers.Owed.{Owed}
use Rattle.cqs_latch.specs.declared.latch.Latch.{Latch}
use Rattle.cqs_latch.specs.Answers.{IsCrowded, IsPolled, HasWaited as Waited}
use Rattle.cqs_latch.specs.Calls.{CallRule}
use Rattle.cqs_latch.specs.CountAnswers.{HasCounted as Counted, HasFinished as Finished, IsRefused}
use Rattle.cqs_latch.specs.Entries.{polled_entries}
use Rattle.cqs_latch.specs.LatchMade.{mode_of}
use Rattle.cqs_latch.specs.LeftAnswers.{HasLeft}
use Rattle.cqs_latch.specs.Owed.{HasOwed}
use Rattle.cqs_latch.specs.Seats.{LookedOn, SeesAll}
use Rattle.cqs_c_callers.specs.declared.answers.Answer.{Answer}
use Rattle.cqs_c_callers.specs.declared.answers.Answer.TheVariants as answer
use Rattle.cqs_c_latch_callers.specs.declared.latch_caller.LatchCaller.{LatchCaller}
use Rattle.cqs_c_callers.specs.declared.verb.Verb.{Verb}
use Rattle.cqs_c_callers.specs.declared.verb.Verb.TheVariants as verb
use Rattle.cqs_c_latch_callers.specs.LatchTold.{told_waited, told_polled, told_left, told_down, told_finished}

-- why a call is refused
abbrev pub RefusesOwing : LatchCaller → Answer → Type 0
RefusesOwing c answer.Owes = IsSome c.owed
RefusesOwing c a = ⊥

abbrev pub RefusesEnter : LatchCaller → Answer → Type 0
RefusesEnter c answer.Owes = IsSome c.owed
RefusesEnter c answer.Full = vec_capacity c.waits ≤ vec_len c.waits
RefusesEnter c a = ⊥

abbrev pub RefusesWait : ℕ → LatchCaller → Answer → Type 0
RefusesWait n c answer.Owes = IsSome c.owed
RefusesWait n c answer.NoWait = All (λ wait. (place_of wait).index ≢ n) c.waits.items
RefusesWait n c a = ⊥

abbrev pub RefusesFinish : LatchCaller → Answer → Type 0
RefusesFinish c answer.OwesNothing = c.owed ≡ None
RefusesFinish c a = ⊥

abbrev pub Refuses : Verb → ℕ → LatchCaller → Answer → Type 0
Refuses verb.Enter n c a = RefusesEnter c a
Refuses verb.Try n c a = a ≡ answer.NoCall
Refuses verb.Poll n c a = RefusesWait n c a
Refuses verb.Cancel n c a = RefusesWait n c a
Refuses verb.Leave n c a = RefusesOwing c a
Refuses verb.Finish n c a = RefusesFinish c a
Refuses verb.State n c a = a ≡ answer.NoCall
Refuses verb.Sole n c a = ⊥

module _ {T : Type 0} where
  -- a wait, of which this was told
  pub record HasWaited (v : View LatchEntry T) (a : Answer) (w : View LatchEntry T)
      : Type 0 where
    pub given : Result LatchWait AcquireError
    pub told : a ≡ told_waited given
    pub waited : Waited v given w
    pub crowded : IsErrOf given refused.Crowded → IsCrowded v w

  -- a look at the wait of this number, which the pass had
  pub record HasPolled (n : ℕ) (v : View LatchEntry T) (a : Answer) (w : View LatchEntry T)
      : Type 0 where
    pub wait : Wait
    pub has : HasWait v wait
    pub number_is : (place_of wait).index ≡ n
    pub given : LatchPolled
    pub told : a ≡ told_polled given
    pub called : CallRule v (polled_entries v.number (place_of wait).index given) [] w
    pub polled : IsPolled wait v given w

  -- a cancel of the wait of this number, which the pass had
  pub record HasGivenUp (mode : CancelMode) (n : ℕ) (v : View LatchEntry T) (a : Answer)
      (w : View LatchEntry T) : Type 0 where
    pub wait : Wait
    pub has : HasWait v wait
    pub number_is : (place_of wait).index ≡ n
    pub given : LatchLeft
    pub told : a ≡ told_left given
    pub left : HasLeft mode (place_of wait).index v given w

  -- a count down
  pub record HasCounted (v : View LatchEntry T) (a : Answer) (w : View LatchEntry T)
      : Type 0 where
    pub given : Result Down Crowded
    pub told : a ≡ told_down given
    pub crowded : OnErr given (IsRefused v w)
    pub counted : IfOk given (λ x. Counted v x w)

  -- the resumptions went on that were owed
  pub record HasFinished (v : View LatchEntry T) (a : Answer) (w : View LatchEntry T)
      : Type 0 where
    pub owed : Owed
    pub owes : HasOwed v.facts owed
    pub given : Result (Unit {0}) Owed
    pub told : a ≡ told_finished given
    pub finished : Finished owed v given w

  -- whether the pass is alone; then it has seen the whole history
  pub record HasLooked (v : View LatchEntry T) (a : Answer) (w : View LatchEntry T) : Type 0 where
    pub told : a ≡ answer.Sole w.alone
    pub looked : LookedOn v w
    pub others : w.alone ≡ true → SeesAll w

  -- a call that wasn't refused, of a latch whose waits leave in this mode
  abbrev pub Makes : CancelMode → Verb → ℕ → View LatchEntry T → Answer → View LatchEntry T
      → Type 0
  Makes mode verb.Enter n v a w = HasWaited v a w
  Makes mode verb.Try n v a w = ⊥
  Makes mode verb.Poll n v a w = HasPolled n v a w
  Makes mode verb.Cancel n v a w = HasGivenUp mode n v a w
  Makes mode verb.Leave n v a w = HasCounted v a w
  Makes mode verb.Finish n v a w = HasFinished v a w
  Makes mode verb.State n v a w = ⊥
  Makes mode verb.Sole n v a w = HasLooked v a w

-- A call of this verb, with the number of a wait: it was refused, or made.
abbrev pub IsAnswered : Latch Unparked → Verb → ℕ → LatchCaller → Answer → LatchCaller → Type 0
IsAnswered l v n c a d =
    (Refuses v n c a × (d ≡ c))
    ⊎ Makes (mode_of (client_of l.queue)) v n (pass_view c.pass) a (pass_view d.pass)
