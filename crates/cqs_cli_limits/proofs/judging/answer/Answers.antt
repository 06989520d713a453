use Rattle.cqs_limiter_workers.specs.Noting.{told_by}
use Rattle.cqs_cli_limits.proofs.Replied.{are-replies}
use Rattle.cqs_cli_limits.proofs.judging.answer.Goals as goal

pub returns-in_ok-limit_run-in-Ok : goal.returns-in_ok-limit_run-in-Ok
returns-in_ok-limit_run-in-Ok g c =
    are-replies (told_by g.G.Gate.begun g.G.Gate.ended c.args.gate.now) c.args.bytes.now c.in-Ok.requests
    c.in_ok-limit_run-in-Ok.field-0 c.in-Ok.ensures.ok c.in_ok-limit_run-in-Ok.ensures
