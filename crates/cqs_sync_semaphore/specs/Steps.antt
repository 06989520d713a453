-- The parts of the calls: what a suspend and a resume of a synchronous queue mean for a permit.
use Rattle.std.specs.Prelude.{◌≡◌, ℕ, ◌<◌, Option, Some}
use Rattle.cqs_core.specs.declared.entries.Entry.{Entry}
use Rattle.cqs_core.specs.QueueSteps.{finds_broken, in_sync, installs, takes_watched}
use Rattle.cqs_rule_laws.specs.declared.view.Facts.{Facts}
use Rattle.cqs_rule_laws.specs.declared.view.View.{View}
use Rattle.cqs_rule.specs.Waits.{place_of, HasWait}
use Rattle.cqs_resume.specs.SyncResumes.{SyncGoesOn}
use Rattle.cqs_resume.specs.declared.sync_resumed.SyncResumed.{SyncResumed}
use Rattle.cqs_resume.specs.declared.sync_resumed.SyncResumed.TheVariants as resumed
use Rattle.cqs_suspend.specs.Suspends.{EndsBy}
use Rattle.cqs_semaphore_client.specs.Semaphore.{semaphore_object}
use Rattle.cqs_semaphore_client.specs.SemaphoreMade.{primitive_of}
use Rattle.cqs_semaphore.specs.Answers.{most_passed_over}
use Rattle.cqs_semaphore.specs.Permits.{number_of}
use Rattle.cqs_semaphore.specs.declared.answers.Permit.{Permit}
use Rattle.cqs_sync_semaphore.specs.Owed.{number_under, token_of}
use Rattle.cqs_sync_semaphore.specs.declared.answers.SyncAcquired.{SyncAcquired}
use Rattle.cqs_sync_semaphore.specs.declared.answers.SyncAcquired.TheVariants.{Now, Later, Broke as Broken}
use Rattle.cqs_sync_semaphore.specs.declared.answers.SyncReleased.{SyncReleased}
use Rattle.cqs_sync_semaphore.specs.declared.answers.SyncReleased.TheVariants.{Sent, Void, Broke, Handling, Under}
use Rattle.cqs_sync_semaphore.specs.declared.answers.Under as owed

-- what the end of a resumption means for the permit with which it began, which had come with this
-- number
abbrev pub IsAnswered : Option ℕ → SyncResumed → SyncReleased → Type 0
IsAnswered number (resumed.Served k) a = a ≡ Sent k
IsAnswered number (resumed.Refused k) a = a ≡ Void k
IsAnswered number (resumed.Broke k) a =
    (permit : Permit) × (a ≡ Broke k permit) × (number_of permit ≡ number)
IsAnswered number (resumed.Handling k token) a =
    (under : owed.Under) × (a ≡ Handling k under) × (token_of under ≡ token)
    × (number_under under ≡ number)
IsAnswered number (resumed.Under token) a =
    (under : owed.Under) × (a ≡ Under under) × (token_of under ≡ token)
    × (number_under under ≡ number)

-- a pass that broke a cell holds the permit again
abbrev pub HoldsIfBroken : SyncResumed → Facts → Type 0
HoldsIfBroken (resumed.Served k) f = Unit {0}
HoldsIfBroken (resumed.Refused k) f = Unit {0}
HoldsIfBroken (resumed.Broke k) f = 0 < f.has.held
HoldsIfBroken (resumed.Handling k token) f = Unit {0}
HoldsIfBroken (resumed.Under token) f = Unit {0}

module _ {T : Type 0} where
  -- a caller at the door drew a number: its permit was held out in the cell, or the caller waits,
  -- or the cell was broken
  abbrev pub WaitsInLine : View Entry T → SyncAcquired → View Entry T → Type 0
  WaitsInLine v (Now permit) w =
      (k : ℕ) × (payload : ℕ) × (number_of permit ≡ Some k)
      × EndsBy semaphore_object primitive_of (in_sync takes_watched) 2 k payload v w
  WaitsInLine v (Later wait) w =
      EndsBy semaphore_object primitive_of installs 0 (place_of wait).index 0 v w × HasWait w wait
  WaitsInLine v (Broken k) w =
      (payload : ℕ)
      × EndsBy semaphore_object primitive_of (in_sync finds_broken) 3 k payload v w

  -- a resumption that the pass owed went on, and ended or was handed back
  abbrev pub HasEnded : Option ℕ → ℕ → Option ℕ → View Entry T → SyncReleased → View Entry T
      → Type 0
  HasEnded ticket payload number v a w =
      (ended : SyncResumed) × IsAnswered number ended a
      × SyncGoesOn semaphore_object primitive_of most_passed_over ticket payload v ended w
