-- A job that makes a step again has a retry left.
use Rattle.std.proofs.Common.{◌≡◌, ◌<◌, nat_lt, true, not, ltb-true}
use Rattle.std.proofs.lemmas.Bool.{and_parts}
use Rattle.cqs_plan.specs.declared.floors.answers.FloorLeave.{FloorLeave}
use Rattle.cqs_plan.specs.declared.floors.answers.FloorLeave.TheVariants.{Gone, Late}
use Rattle.cqs_turns_report.specs.declared.states.Patience.{Patience}
use Rattle.cqs_turns_report.specs.Turns.{Role, is_due, retries}

pub retry-left : (r : Role) (x : Patience) (answer : FloorLeave) → retries r x answer ≡ true
    → x.used < r.job.retry
retry-left r x Gone is =
    ltb-true x.used r.job.retry (and_parts (not (is_due r.job.deadline r.turn)) (nat_lt x.used r.job.retry) is).1
retry-left r x (Late element) is = absurd (cc)
