use Rattle.cqs_semaphore.proofs.semaphore.Semaphore.pass_on.Goals as goal

pub returns-clause-passed : goal.returns-clause-passed
returns-clause-passed g c =
    (c.release_after.result, c.into_under.ensures, (c.resume.result, c.release_after.ensures, c.resume.ensures.resumed))
