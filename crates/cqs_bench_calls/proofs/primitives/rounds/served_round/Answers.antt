use Rattle.std.proofs.Common.{◌∙◌, ap, sym, subst, Ok}
use Rattle.std.proofs.lemmas.Result.{IfOk-at_ok}
use Rattle.cqs_rule_laws.specs.Lists.{Has}
use Rattle.cqs_rule.specs.Passes.{pass_view}
use Rattle.cqs_rule.specs.Waits.{place_of}
use Rattle.cqs_semaphore.specs.Answers.{Acquires, Releases}
use Rattle.cqs_rule.proofs.Places.{wait-kept}
use Rattle.cqs_semaphore_client.specs.Semaphore.{semaphore_object}
use Rattle.cqs_bench_calls.proofs.primitives.rounds.served_round.Goals as goal

-- the release closes no wait
pub poll-requires-clause-has : goal.poll-requires-clause-has
poll-requires-clause-has g c κs lives =
    let v = pass_view c.args.pass.now in
    let u = pass_view c.acquire.new.pass in
    let w = pass_view c.release.new.pass in
    let later = c.in-Ok-Later.is ∙ ap Ok c.in-Ok-Later.field-0-is in
    let sent = c.in-Ok-Sent.is ∙ ap Ok c.in-Ok-Sent.field-0-is in
    let acquired = IfOk-at_ok (λ a. Acquires v a u) later c.acquire.ensures.acquired in
    let released = IfOk-at_ok (λ r. Releases u r w) sent c.release.ensures.released in
    wait-kept semaphore_object u w _ _ c.in-Ok-Later.wait c.release.ensures.called.called
    (subst (Has (place_of c.in-Ok-Later.wait).index) (sym released.1.1.waits_are) acquired.2.open_yet) acquired.2
