use Rattle.cqs_semaphore.proofs.semaphore.Semaphore.send.Goals as goal

pub returns-clause-ended : goal.returns-clause-ended
returns-clause-ended g c = (c.resume.result, c.release_after.ensures, c.resume.ensures.resumed)
