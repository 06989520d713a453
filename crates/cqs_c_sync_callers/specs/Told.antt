-- What each answer tells, by what the semaphore's own call answered. Of a try and of a look at a
-- wait it is told as of a plain semaphore.
use Rattle.std.specs.Prelude.{Result, Ok, Err}
use Rattle.cqs_rule_laws.specs.declared.config.AcquireError.{AcquireError}
use Rattle.cqs_rule_laws.specs.declared.config.AcquireError.TheVariants as refused
use Rattle.cqs_rule_laws.specs.declared.config.Crowded.{Crowded}
use Rattle.cqs_rule.specs.Waits.{place_of}
use Rattle.cqs_rule.specs.Owed.{under_reached}
use Rattle.cqs_semaphore.specs.declared.answers.Permit.{Permit}
use Rattle.cqs_semaphore.specs.Permits.{number_of}
use Rattle.cqs_sync_semaphore.specs.declared.answers.SyncAcquired.{SyncAcquired}
use Rattle.cqs_sync_semaphore.specs.declared.answers.SyncAcquired.TheVariants as acquired
use Rattle.cqs_sync_semaphore.specs.declared.answers.SyncLeft.{SyncLeft}
use Rattle.cqs_sync_semaphore.specs.declared.answers.SyncLeft.TheVariants as left
use Rattle.cqs_sync_semaphore.specs.declared.answers.SyncReleased.{SyncReleased}
use Rattle.cqs_sync_semaphore.specs.declared.answers.SyncReleased.TheVariants as released
use Rattle.cqs_sync_semaphore.specs.Owed.{token_of}
use Rattle.cqs_c_callers.specs.declared.answers.Answer.{Answer}
use Rattle.cqs_c_callers.specs.declared.answers.Answer.TheVariants as answer

abbrev pub told_acquired : Result SyncAcquired AcquireError → Answer
told_acquired (Ok (acquired.Now permit)) = answer.Now (number_of permit)
told_acquired (Ok (acquired.Later wait)) = answer.Later (place_of wait).index
told_acquired (Ok (acquired.Broke k)) = answer.Broke k
told_acquired (Err refused.Worn) = answer.Worn
told_acquired (Err refused.Crowded) = answer.Crowded

abbrev pub told_left : SyncLeft → Answer
told_left left.Cancelled = answer.Cancelled
told_left (left.TooLate permit) = answer.TooLate

abbrev pub told_released : SyncReleased → Answer
told_released released.Freed = answer.Freed
told_released (released.Sent k) = answer.Sent k
told_released (released.Void k) = answer.Void k
told_released (released.Broke k permit) = answer.Broke k
told_released (released.Handling k under) = answer.Handling k
told_released (released.Under under) = answer.Under (under_reached (token_of under))

-- of a release that may be refused
abbrev pub told_given : Result SyncReleased (Permit × Crowded) → Answer
told_given (Ok given) = told_released given
told_given (Err back) = answer.Crowded
