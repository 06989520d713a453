use Rattle.cqs_limiter_workers.specs.Noting.{told_by}
use Rattle.cqs_limiter_workers.proofs.OnWay.{IsWorking}
use Rattle.cqs_limiter_workers.proofs.works.work.Given as goal

abbrev pub invariant-loop-line : goal.invariant-loop-line
invariant-loop-line g l =
    IsWorking g.T.Desk.sight l.notes (told_by g.G.Gate.begun g.G.Gate.ended l.gate l.worker) l.fn.post.desks.items
    l.fn.lines l.desks.items l.tokens.items l.line-index
