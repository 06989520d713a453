use Rattle.cqs_core.proofs.EitherFacts.{shows-object, balanced-object, plain-core}
use Rattle.cqs_core_run.proofs.runnable.Core.history.Goals as goal

pub returns-clause-plain : goal.returns-clause-plain
returns-clause-plain c = rw (← c.self.view_is) (λ is. (plain-core c.self.inside.table.shape c.self.invariant is).object)

pub returns-clause-shows : goal.returns-clause-shows
returns-clause-shows c = rw (← c.self.view_is) (shows-object c.self.inside.table.shape c.self.invariant)

pub returns-clause-balanced : goal.returns-clause-balanced
returns-clause-balanced c = rw (← c.self.view_is) (balanced-object c.self.inside.table.shape c.self.invariant)
