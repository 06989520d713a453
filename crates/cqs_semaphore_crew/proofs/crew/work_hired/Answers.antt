use Rattle.cqs_semaphore_crew.proofs.Meeting.{told-all}
use Rattle.cqs_semaphore_crew.proofs.crew.work_hired.Goals as goal

pub returns-clause-told : goal.returns-clause-told
returns-clause-told g c = told-all _ _ _ c.requires.new c.work.ensures.worked
