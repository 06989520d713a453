-- What each answer tells, by what the pool's own call answered.
use Rattle.std.specs.Prelude.{Some, None, Result, Ok, Err}
use Rattle.cqs_rule_laws.specs.declared.config.AcquireError.{AcquireError}
use Rattle.cqs_rule_laws.specs.declared.config.AcquireError.TheVariants as refused
use Rattle.cqs_rule_laws.specs.declared.config.Crowded.{Crowded}
use Rattle.cqs_rule.specs.Waits.{place_of}
use Rattle.cqs_rule.specs.Owed.{under_reached}
use Rattle.cqs_pool.specs.declared.answers.Placed.{Placed}
use Rattle.cqs_pool.specs.declared.answers.Placed.TheVariants as placed
use Rattle.cqs_pool.specs.declared.answers.PoolLeft.{PoolLeft}
use Rattle.cqs_pool.specs.declared.answers.PoolLeft.TheVariants as left
use Rattle.cqs_pool.specs.declared.answers.PoolPolled.{PoolPolled}
use Rattle.cqs_pool.specs.declared.answers.PoolPolled.TheVariants as polled
use Rattle.cqs_pool.specs.declared.answers.Taking.{Taking}
use Rattle.cqs_pool.specs.declared.answers.Taking.TheVariants as taking
use Rattle.cqs_pool.specs.declared.element.Element.{Element}
use Rattle.cqs_pool.specs.Elements.{number_of}
use Rattle.cqs_c_callers.specs.declared.answers.Answer.{Answer}
use Rattle.cqs_c_callers.specs.declared.answers.Answer.TheVariants as answer

abbrev pub told_taken : Result Taking AcquireError → Answer
told_taken (Ok (taking.Took element)) = answer.Took (number_of element)
told_taken (Ok (taking.Later wait)) = answer.Later (place_of wait).index
told_taken (Err refused.Worn) = answer.Worn
told_taken (Err refused.Crowded) = answer.Crowded

abbrev pub told_polled : PoolPolled → Answer
told_polled (polled.Granted element) = answer.Took (number_of element)
told_polled (polled.Pending wait) = answer.Pending

abbrev pub told_left : PoolLeft → Answer
told_left (left.Cancelled None) = answer.Cancelled
told_left (left.Cancelled (Some under)) = answer.CancelledOwing (under_reached under)
told_left (left.TooLate element) = answer.LateTook (number_of element)

abbrev pub told_placed : Placed → Answer
told_placed (placed.Sent k) = answer.Sent k
told_placed (placed.Left k) = answer.Left k
told_placed (placed.Under under) = answer.Under (under_reached under)

-- of a put that may be refused
abbrev pub told_put : Result Placed (Element × Crowded) → Answer
told_put (Ok put) = told_placed put
told_put (Err back) = answer.Crowded
