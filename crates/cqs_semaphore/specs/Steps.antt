-- The parts of the calls: what a suspend and a resume mean for a permit.
use Rattle.std.specs.Prelude.{◌≡◌, ℕ, ◌<◌, Option, Some, None}
use Rattle.cqs_core.specs.declared.entries.Entry.{Entry}
use Rattle.cqs_core.specs.QueueSteps.{installs, takes}
use Rattle.cqs_rule_laws.specs.declared.view.View.{View}
use Rattle.cqs_semaphore_client.specs.Semaphore.{semaphore_object}
use Rattle.cqs_rule.specs.Waits.{place_of, HasWait}
use Rattle.cqs_rule.specs.Owed.{under_reached, under_ticket}
use Rattle.cqs_rule.specs.declared.queue.tokens.Under as token
use Rattle.cqs_resume.specs.declared.resumed.Resumed as resume
use Rattle.cqs_resume.specs.declared.resumed.Resumed.TheVariants as resumed
use Rattle.cqs_resume.specs.Resumes.{GoesOn}
use Rattle.cqs_suspend.specs.Suspends.{EndsBy}
use Rattle.cqs_semaphore.specs.declared.answers.Acquired.{Acquired}
use Rattle.cqs_semaphore.specs.declared.answers.Acquired.TheVariants.{Now, Later}
use Rattle.cqs_semaphore.specs.declared.answers.Released.{Released}
use Rattle.cqs_semaphore.specs.declared.answers.Released.TheVariants.{Freed, Sent, Left, Void, Under}
use Rattle.cqs_semaphore.specs.declared.answers.CancelAnswer.{CancelAnswer}
use Rattle.cqs_semaphore.specs.Answers.{Cancels, most_passed_over}
use Rattle.cqs_semaphore.specs.Calls.{CallRule}
use Rattle.cqs_semaphore_client.specs.SemaphoreMade.{primitive_of}
use Rattle.cqs_semaphore.specs.Entries.{cancelled_entries, passed_further}
use Rattle.cqs_semaphore.specs.Owed.{owed_after}
use Rattle.cqs_semaphore.specs.Permits.{number_of}

-- what the end of a resumption means for the permit
abbrev pub as_released : resume.Resumed → Released
as_released (resumed.Served k) = Sent k
as_released (resumed.Left k) = Left k
as_released (resumed.Refused k) = Void k
as_released (resumed.Under under) = Under under

-- where the resumption was handed back, the last number that was drawn for it is greater than this
abbrev pub IsFurther : ℕ → Released → Type 0
IsFurther reached Freed = Unit {0}
IsFurther reached (Sent k) = Unit {0}
IsFurther reached (Left k) = Unit {0}
IsFurther reached (Void k) = Unit {0}
IsFurther reached (Under under) = reached < under_reached under

-- the same where it was handed back with no ticket open
abbrev pub HasDrawnPast : ℕ → Released → Type 0
HasDrawnPast reached Freed = Unit {0}
HasDrawnPast reached (Sent k) = Unit {0}
HasDrawnPast reached (Left k) = Unit {0}
HasDrawnPast reached (Void k) = Unit {0}
HasDrawnPast reached (Under under) =
    under_ticket under ≡ None → reached < under_reached under

module _ {T : Type 0} where
  -- a caller at the door drew a number: the value of its resume was there, or the caller waits
  abbrev pub WaitsInLine : View Entry T → Acquired → View Entry T → Type 0
  WaitsInLine v (Now permit) w =
      (k : ℕ) × (payload : ℕ) × (number_of permit ≡ Some k)
      × EndsBy semaphore_object primitive_of takes 2 k payload v w
  WaitsInLine v (Later wait) w =
      EndsBy semaphore_object primitive_of installs 0 (place_of wait).index 0 v w × HasWait w wait

  -- a resumption that the pass owed went on, and ended or was handed back
  abbrev pub HasEnded : Option ℕ → ℕ → View Entry T → Released → View Entry T → Type 0
  HasEnded ticket payload v released w =
      (ended : resume.Resumed) × (released ≡ as_released ended)
      × GoesOn semaphore_object primitive_of most_passed_over ticket payload v ended w

  -- the same by what is still owed
  abbrev pub PassedOn : ℕ → View Entry T → Option token.Under → View Entry T → Type 0
  PassedOn payload v under w =
      (released : Released) × (under ≡ owed_after released) × HasEnded None payload v released w

  -- A cancel of the wait k: what became of what was on its way to it, the call rule, and why.
  abbrev pub HasCancelled : ℕ → View Entry T → CancelAnswer → View Entry T → Type 0
  HasCancelled k v answer w =
      (passed : Option Released)
      × CallRule v (cancelled_entries v.number k answer) (passed_further passed) w
      × Cancels k v answer passed w
