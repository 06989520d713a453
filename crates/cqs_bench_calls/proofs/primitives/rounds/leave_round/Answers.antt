use Rattle.std.proofs.Common.{ap, ◌∙◌, subst, None}
use Rattle.cqs_rule.specs.Passes.{pass_view}
use Rattle.cqs_rule.specs.Waits.{place_of}
use Rattle.cqs_semaphore.specs.declared.answers.CancelAnswer.TheVariants.{Cancelled}
use Rattle.cqs_semaphore.specs.Steps.{HasCancelled}
use Rattle.cqs_semaphore_crew.proofs.Ends.{left-done}
use Rattle.cqs_bench_calls.proofs.primitives.rounds.leave_round.Goals as goal

-- nothing is owed
pub returns-in-Cancelled-None : goal.returns-in-Cancelled-None
returns-in-Cancelled-None c =
    let k = (place_of c.in-Pending.wait).index in
    let v = pass_view c.poll.new.pass in
    let w = pass_view c.cancel.new.pass in
    let answer = c.in-Cancelled-None.is ∙ ap Cancelled c.in-Cancelled-None.field-0-is in
    let told : HasCancelled k v (Cancelled None) w =
    subst (λ answer. HasCancelled k v answer w) answer c.cancel.ensures.cancelled in
    let rests = left-done k v w told.0 told.2.1 in record {
      idle = λ _. record { belongs = c.cancel.ensures.belongs; ready = rests.ready };
    }
