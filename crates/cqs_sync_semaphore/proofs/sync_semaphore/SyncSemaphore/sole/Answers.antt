use Rattle.std.proofs.Common.{sym, ◌∙◌}
use Rattle.cqs_sync_semaphore.proofs.sync_semaphore.SyncSemaphore.sole.Goals as goal

pub returns-clause-others : goal.returns-clause-others
returns-clause-others g c = λ alone.
    c.sole.ensures.belongs.alone c.sole.new.pass.live.0 (sym c.sole.ensures.alone ∙ alone)
