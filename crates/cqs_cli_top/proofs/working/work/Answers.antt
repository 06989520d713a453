-- The answer has that the verdict, as it was told, is a call of the program, and leaves the rest to `search`.
use Rattle.std.proofs.Common.{rules}
use Rattle.cqs_floor_shared_any.specs.AnyShares.{share_any}
use Rattle.cqs_floor_shared_queue.specs.Ledgers.{shared_in}
use Rattle.cqs_work.specs.Gated.{told_by}
use Rattle.cqs_cli_top.specs.Commands.{LeavesAll}
use Rattle.cqs_cli_top.proofs.Endings.{is_call}
use Rattle.cqs_cli_top.proofs.working.work.Goals as goal

pub returns : goal.returns
returns g c =
    let call =
    is_call (shared_in share_any) (LeavesAll (told_by g.G.Gate.begun g.G.Gate.ended c.args.gate.now))
    g.S.Source g.K.Sink _ _ _ _ _ _ _ c.judge-verdict.result c.tell.result
    (c.judge-verdict.ensures.right, c.tell.ensures) c.judge-verdict.ensures.taken c.judge-verdict.ensures.counted
    c.requires.empty in
    search rules
