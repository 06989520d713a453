-- What each answer tells, by what the semaphore's own call answered.
use Rattle.std.specs.Prelude.{Some, None, Result, Ok, Err}
use Rattle.cqs_rule_laws.specs.declared.config.AcquireError.{AcquireError}
use Rattle.cqs_rule_laws.specs.declared.config.AcquireError.TheVariants as refused
use Rattle.cqs_rule_laws.specs.declared.config.Crowded.{Crowded}
use Rattle.cqs_rule.specs.Waits.{place_of}
use Rattle.cqs_rule.specs.Owed.{under_reached}
use Rattle.cqs_semaphore.specs.declared.answers.Acquired.{Acquired}
use Rattle.cqs_semaphore.specs.declared.answers.Acquired.TheVariants as acquired
use Rattle.cqs_semaphore.specs.declared.answers.Tried.{Tried}
use Rattle.cqs_semaphore.specs.declared.answers.Tried.TheVariants as tried
use Rattle.cqs_semaphore.specs.declared.answers.Permit.{Permit}
use Rattle.cqs_semaphore.specs.declared.answers.Released.{Released}
use Rattle.cqs_semaphore.specs.declared.answers.Released.TheVariants as released
use Rattle.cqs_semaphore.specs.declared.answers.Polled.{Polled}
use Rattle.cqs_semaphore.specs.declared.answers.Polled.TheVariants as polled
use Rattle.cqs_semaphore.specs.declared.answers.CancelAnswer.{CancelAnswer}
use Rattle.cqs_semaphore.specs.declared.answers.CancelAnswer.TheVariants as cancelled
use Rattle.cqs_semaphore.specs.Permits.{number_of}
use Rattle.cqs_c_callers.specs.declared.answers.Answer.{Answer}
use Rattle.cqs_c_callers.specs.declared.answers.Answer.TheVariants as answer

abbrev pub told_acquired : Result Acquired AcquireError → Answer
told_acquired (Ok (acquired.Now permit)) = answer.Now (number_of permit)
told_acquired (Ok (acquired.Later wait)) = answer.Later (place_of wait).index
told_acquired (Err refused.Worn) = answer.Worn
told_acquired (Err refused.Crowded) = answer.Crowded

abbrev pub told_tried : Tried → Answer
told_tried (tried.Got permit) = answer.Got
told_tried tried.Busy = answer.NoneFree
told_tried (tried.Contended saw found) = answer.Contended saw found

abbrev pub told_polled : Polled → Answer
told_polled (polled.Granted permit) = answer.Granted
told_polled (polled.Pending wait) = answer.Pending

abbrev pub told_cancelled : CancelAnswer → Answer
told_cancelled (cancelled.Cancelled None) = answer.Cancelled
told_cancelled (cancelled.Cancelled (Some under)) = answer.CancelledOwing (under_reached under)
told_cancelled (cancelled.TooLate permit) = answer.TooLate

abbrev pub told_released : Released → Answer
told_released released.Freed = answer.Freed
told_released (released.Sent k) = answer.Sent k
told_released (released.Left k) = answer.Left k
told_released (released.Void k) = answer.Void k
told_released (released.Under under) = answer.Under (under_reached under)

-- of a release that may be refused
abbrev pub told_given : Result Released (Permit × Crowded) → Answer
told_given (Ok given) = told_released given
told_given (Err back) = answer.Crowded
