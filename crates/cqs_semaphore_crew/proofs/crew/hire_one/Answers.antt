use Rattle.cqs_semaphore_crew.proofs.Hired.{came-hired}
use Rattle.cqs_semaphore_crew.proofs.crew.hire_one.Goals as goal

pub returns-clause-hired : goal.returns-clause-hired
returns-clause-hired c =
    came-hired c.args.semaphore.now _ c.split.result c.split.ensures.new_belongs c.split.ensures.came
    c.split.ensures.new_ready
