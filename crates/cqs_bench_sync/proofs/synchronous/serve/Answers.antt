use Rattle.std.proofs.Common.{◌-◌, ap, ◌∙◌, Ok}
use Rattle.std.proofs.lemmas.Result.{IfOk-at_ok}
use Rattle.cqs_rule.specs.Passes.{pass_view}
use Rattle.cqs_semaphore.specs.Permits.{number_of}
use Rattle.cqs_sync_semaphore.specs.Answers.{Releases}
use Rattle.cqs_bench_sync.proofs.Kept.{sent-keeps}
use Rattle.cqs_bench_sync.proofs.synchronous.serve.Goals as goal

-- the permit is gone, and the wait is still there
pub returns-in-Ok-Sent : goal.returns-in-Ok-Sent
returns-in-Ok-Sent c =
    let v = pass_view c.args.pass.now in
    let w = pass_view c.release.new.pass in
    let waits = c.requires.waits in
    let sent = c.in-Ok-Sent.is ∙ ap Ok c.in-Ok-Sent.field-0-is in
    let released = IfOk-at_ok (λ r. Releases (number_of c.args.permit) v r w) sent c.release.ensures.released in
    let rests = released.1.1 in
    record {
      waits = (
        record {
          belongs = c.release.ensures.belongs;
          ready = rests.ready;
          held_is = rests.held_is ∙ ap (λ n. n - 1) waits.0.held_is;
          waits_are = rests.waits_are ∙ waits.0.waits_are;
        },
        sent-keeps _ _ c.args.wait v w released.1.0 rests.waits_are waits.1,
      );
    }
