-- What each answer tells, by what the barrier's own call answered.
use Rattle.std.specs.Prelude.{Result, Ok, Err, pos}
use Rattle.cqs_rule_laws.specs.declared.config.AcquireError.{AcquireError}
use Rattle.cqs_rule_laws.specs.declared.config.AcquireError.TheVariants as refused
use Rattle.cqs_rule.specs.Waits.{place_of}
use Rattle.cqs_barrier.specs.declared.answers.Arrived.{Arrived}
use Rattle.cqs_barrier.specs.declared.answers.Arrived.TheVariants as arrived
use Rattle.cqs_barrier.specs.declared.answers.Owing.{Owing}
use Rattle.cqs_barrier.specs.declared.answers.PartyLeft.{PartyLeft}
use Rattle.cqs_barrier.specs.declared.answers.PartyLeft.TheVariants as left
use Rattle.cqs_barrier.specs.declared.answers.PartyPolled.{PartyPolled}
use Rattle.cqs_barrier.specs.declared.answers.PartyPolled.TheVariants as polled
use Rattle.cqs_barrier.specs.Resuming.{owing_reached}
use Rattle.cqs_barrier.specs.Waits.{wait_in}
use Rattle.cqs_c_callers.specs.declared.answers.Answer.{Answer}
use Rattle.cqs_c_callers.specs.declared.answers.Answer.TheVariants as answer

abbrev pub told_arrived : Result Arrived AcquireError → Answer
told_arrived (Ok arrived.Last) = answer.Last
told_arrived (Ok (arrived.LastOwing owing)) = answer.LastOwing (owing_reached owing)
told_arrived (Ok (arrived.Later wait)) = answer.Later (place_of (wait_in wait)).index
told_arrived (Err refused.Worn) = answer.Worn
told_arrived (Err refused.Crowded) = answer.Crowded

abbrev pub told_polled : PartyPolled → Answer
told_polled polled.Through = answer.Through
told_polled (polled.Pending wait) = answer.Pending

abbrev pub told_left : PartyLeft → Answer
told_left left.Withdrawn = answer.Cancelled
told_left left.TooLate = answer.TooLate
told_left (left.Contended saw found leaving) = answer.Contended (pos saw) (pos found)

abbrev pub told_finished : Result (Unit {0}) Owing → Answer
told_finished (Ok done) = answer.Finished
told_finished (Err owing) = answer.Under (owing_reached owing)
