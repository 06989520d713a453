-- The parts of the calls: what a suspend means for a wait, and a resume for a cancel.
use Rattle.std.specs.Prelude.{◌≡◌, ℕ, Option, None}
use Rattle.cqs_core.specs.QueueSteps.{installs, takes}
use Rattle.cqs_latch_object.specs.declared.entries.LatchEntry.{LatchEntry}
use Rattle.cqs_resume.specs.declared.resumed.Resumed.{Resumed}
use Rattle.cqs_resume.specs.Resumes as resumes
use Rattle.cqs_rule.specs.declared.queue.tokens.Under.{Under}
use Rattle.cqs_rule_laws.specs.declared.view.View.{View}
use Rattle.cqs_rule.specs.Waits.{place_of, HasWait}
use Rattle.cqs_suspend.specs.Suspends.{EndsBy}
use Rattle.cqs_cancel.specs.declared.at_once.AtOnce.{AtOnce}
use Rattle.cqs_cancel.specs.declared.at_once.AtOnce.TheVariants as once
use Rattle.cqs_latch.specs.declared.answers.LatchLeft.{LatchLeft}
use Rattle.cqs_latch.specs.declared.answers.LatchLeft.TheVariants.{Gone, TooLate}
use Rattle.cqs_latch.specs.declared.answers.LatchWait.{LatchWait}
use Rattle.cqs_latch.specs.declared.answers.LatchWait.TheVariants.{Passed, Later}
use Rattle.cqs_latch.specs.Latch.{latch_object}
use Rattle.cqs_latch.specs.Causes.{primitive_of}
use Rattle.cqs_latch.specs.Waking.{handed_back}

-- what a cancel that leaves at once means for the wait
abbrev pub as_left : AtOnce → LatchLeft
as_left once.Gone = Gone
as_left (once.Late payload) = TooLate

module _ {T : Type 0} where
  -- a caller at the door drew a number: the value of its resume was there, or the caller waits
  abbrev pub WaitsInLine : View LatchEntry T → LatchWait → View LatchEntry T → Type 0
  WaitsInLine v Passed w =
      (k : ℕ) × (payload : ℕ) × EndsBy latch_object primitive_of takes 2 k payload v w
  WaitsInLine v (Later wait) w =
      EndsBy latch_object primitive_of installs 0 (place_of wait).index 0 v w × HasWait w wait

  -- a resumption that the pass owed went on, and ended or was handed back
  abbrev pub GoesOn : ℕ → View LatchEntry T → Option Under → View LatchEntry T → Type 0
  GoesOn payload v under w =
      (ended : Resumed) × (under ≡ handed_back ended)
      × resumes.GoesOn latch_object primitive_of resumes.most_passed_over None payload v ended w
