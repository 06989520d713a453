-- The answer has that the verdict, as it was told, is a call of the command, and leaves the rest to `search`: so a
-- body that gives another status is refused by the clause.
use Rattle.std.proofs.Common.{rules}
use Rattle.cqs_limiter_workers.specs.Noting.{told_by}
use Rattle.cqs_cli_limits.proofs.Calls.{is_call}
use Rattle.cqs_cli_limits.proofs.limiting.limit.Goals as goal

pub returns : goal.returns
returns g c =
    let call =
    is_call (told_by g.G.Gate.begun g.G.Gate.ended c.args.gate.now) g.S.Source g.K.Sink _ _ _ _ c.judge-verdict.result
    c.tell-status.result c.judge-verdict.ensures.right c.tell-status.ensures c.judge-verdict.ensures.taken
    c.judge-verdict.ensures.counted in
    search rules
