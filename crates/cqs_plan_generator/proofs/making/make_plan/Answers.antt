use Rattle.cqs_plan_generator.proofs.Valid.{generated-valid, generated-runnable, resources-sized}
use Rattle.cqs_plan_generator.proofs.making.make_plan.Goals as goal

pub returns-clause-valid : goal.returns-clause-valid
returns-clause-valid c =
    rw (c.in_ok-make_resources.ensures, c.in_ok-make_jobs.ensures)
    (generated-valid c.args.number c.args.jobs c.requires.jobs.0 c.requires.jobs.1)

pub returns-clause-runnable : goal.returns-clause-runnable
returns-clause-runnable c =
    rw (c.in_ok-make_resources.ensures, c.in_ok-make_jobs.ensures)
    (generated-runnable c.args.number c.args.jobs c.requires.jobs.0 c.requires.jobs.1)

pub returns-clause-sized : goal.returns-clause-sized
returns-clause-sized c = rw c.in_ok-make_resources.ensures resources-sized
