-- When a future that acquires may be polled, and what may come of it.
use Rattle.std.specs.Prelude.{Option, Result, Ok, Err}
use Rattle.cqs_core.specs.declared.entries.Entry.{Entry}
use Rattle.cqs_rule_laws.specs.declared.client.ClientWords.{Ghosts}
use Rattle.cqs_rule_laws.specs.declared.config.AcquireError.{AcquireError}
use Rattle.cqs_rule.specs.declared.queue.Pass.{Pass}
use Rattle.cqs_rule.specs.declared.queue.tokens.Wait.{Wait}
use Rattle.cqs_semaphore_client.specs.declared.semaphore.SemClient.{SemClient}
use Rattle.cqs_rule_laws.specs.declared.view.View.{View}
use Rattle.cqs_rule.specs.Passes.{pass_view}
use Rattle.cqs_rule.specs.Waits.{HasWait}
use Rattle.cqs_semaphore.specs.declared.answers.Acquired.{Acquired}
use Rattle.cqs_semaphore.specs.declared.answers.Acquired.TheVariants.{Now, Later}
use Rattle.cqs_semaphore.specs.declared.answers.CancelAnswer.{CancelAnswer}
use Rattle.cqs_semaphore.specs.declared.answers.Permit.{Permit}
use Rattle.cqs_semaphore.specs.declared.semaphore.Semaphore.{Semaphore}
use Rattle.cqs_rule_laws.specs.CallRule.{IsReady}
use Rattle.cqs_semaphore.specs.Calls.{IsMine}
use Rattle.cqs_waiter.specs.Arrivals.{Pends}
use Rattle.cqs_waiter.specs.Permits.{HasLeft, PermitArrives, permit_calls}

module _ {T : Type 0} where
  -- the pass has the wait that an acquire got
  abbrev pub GotWait : Result Acquired AcquireError → View Entry T → Type 0
  GotWait (Ok (Later wait)) v = HasWait v wait
  GotWait (Ok (Now permit)) v = Unit {0}
  GotWait (Err e) v = Unit {0}

module _ {T : Type 0} {g : Ghosts (SemClient T) T Entry} where
  -- the pass is one of this semaphore, between two calls
  abbrev pub IsIn : Semaphore T → Pass (SemClient T) T Entry g → Type 0
  IsIn s p = IsMine s p × IsReady (pass_view p).facts

  -- of its pass: that it has a wait, what came of an acquire or a wait, what a pending poll found,
  -- and a cancel
  abbrev pub Waits : Pass (SemClient T) T Entry g → Wait → Type 0
  Waits p wait = HasWait (pass_view p) wait

  abbrev pub Acquires : Pass (SemClient T) T Entry g → Option Wait → Result Permit AcquireError
      → Pass (SemClient T) T Entry g → Type 0
  Acquires p wait got after = PermitArrives (pass_view p) wait got (pass_view after)

  abbrev pub AcquirePends : Pass (SemClient T) T Entry g → Option Wait → Wait
      → Pass (SemClient T) T Entry g → Type 0
  AcquirePends p wait again after =
      Pends permit_calls (pass_view p) wait again (pass_view after)

  abbrev pub EndsWait : Pass (SemClient T) T Entry g → Wait → CancelAnswer
      → Pass (SemClient T) T Entry g → Type 0
  EndsWait p wait answer after = HasLeft wait (pass_view p) answer (pass_view after)
