use Rattle.cqs_core.proofs.EitherFacts.{shows-object, plain-core}
use Rattle.cqs_core_run.proofs.runnable.Core.is_core.Goals as goal

pub returns-clause-plain : goal.returns-clause-plain
returns-clause-plain c = rw (← c.self.view_is) (plain-core c.self.inside.table.shape c.self.invariant)

pub returns-clause-shows : goal.returns-clause-shows
returns-clause-shows c = rw (← c.self.view_is) (shows-object c.self.inside.table.shape c.self.invariant)
