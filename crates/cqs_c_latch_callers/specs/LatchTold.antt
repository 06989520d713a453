-- What each answer tells, by what the latch's own call answered.
use Rattle.std.specs.Prelude.{Result, Ok, Err}
use Rattle.cqs_rule_laws.specs.declared.config.AcquireError.{AcquireError}
use Rattle.cqs_rule_laws.specs.declared.config.AcquireError.TheVariants as refused
use Rattle.cqs_rule_laws.specs.declared.config.Crowded.{Crowded}
use Rattle.cqs_rule.specs.Waits.{place_of}
use Rattle.cqs_latch.specs.declared.answers.Down.{Down}
use Rattle.cqs_latch.specs.declared.answers.Down.TheVariants as down
use Rattle.cqs_latch.specs.declared.answers.LatchLeft.{LatchLeft}
use Rattle.cqs_latch.specs.declared.answers.LatchLeft.TheVariants as left
use Rattle.cqs_latch.specs.declared.answers.LatchPolled.{LatchPolled}
use Rattle.cqs_latch.specs.declared.answers.LatchPolled.TheVariants as polled
use Rattle.cqs_latch.specs.declared.answers.LatchWait.{LatchWait}
use Rattle.cqs_latch.specs.declared.answers.LatchWait.TheVariants as waited
use Rattle.cqs_latch.specs.declared.answers.Owed.{Owed}
use Rattle.cqs_latch.specs.Owed.{owed_reached}
use Rattle.cqs_c_callers.specs.declared.answers.Answer.{Answer}
use Rattle.cqs_c_callers.specs.declared.answers.Answer.TheVariants as answer

abbrev pub told_waited : Result LatchWait AcquireError → Answer
told_waited (Ok waited.Passed) = answer.Passed
told_waited (Ok (waited.Later wait)) = answer.Later (place_of wait).index
told_waited (Err refused.Worn) = answer.Worn
told_waited (Err refused.Crowded) = answer.Crowded

abbrev pub told_polled : LatchPolled → Answer
told_polled polled.Through = answer.Through
told_polled (polled.Pending wait) = answer.Pending

abbrev pub told_left : LatchLeft → Answer
told_left left.Gone = answer.Cancelled
told_left (left.GoneOwing owed) = answer.CancelledOwing (owed_reached owed)
told_left left.TooLate = answer.TooLate

abbrev pub told_counted : Down → Answer
told_counted (down.Left n) = answer.Counted n
told_counted down.Last = answer.Last
told_counted (down.LastOwing owed) = answer.LastOwing (owed_reached owed)
told_counted down.Already = answer.Already

-- of a count down that may be refused
abbrev pub told_down : Result Down Crowded → Answer
told_down (Ok counted) = told_counted counted
told_down (Err crowded) = answer.Crowded

abbrev pub told_finished : Result (Unit {0}) Owed → Answer
told_finished (Ok done) = answer.Finished
told_finished (Err owed) = answer.Under (owed_reached owed)
