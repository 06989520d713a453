-- What `top_alone` says, said of all commands.
use Rattle.std.proofs.Common.{rules}
use Rattle.cqs_floor_shared_any.specs.AnyShares.{share_any}
use Rattle.cqs_floor_shared_queue.specs.Ledgers.{shared_in}
use Rattle.cqs_work.specs.Gated.{told_by}
use Rattle.cqs_cli_top.specs.Commands.{LeavesAll}
use Rattle.cqs_cli_top.proofs.Alone.{of_alone}
use Rattle.cqs_cli_top.proofs.top_call.top_for_plans.Goals as goal

pub returns-in-None : goal.returns-in-None
returns-in-None g c =
    let call =
    of_alone (shared_in share_any) (LeavesAll (told_by g.G.Gate.begun g.G.Gate.ended c.args.gate.now))
    g.S.Source g.K.Sink _ _ _ _ _ _ _ _ c.in-None.ensures c.kept_alone.ensures.is
    c.kept_alone.ensures.nothing c.top_alone-status.ensures.call in
    search rules

pub returns-in-Some : goal.returns-in-Some
returns-in-Some g c = c.work.ensures _ c.in-Some.ensures
