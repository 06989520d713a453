use Rattle.cqs_pool.proofs.ResumeSteps.{never-refused}
use Rattle.cqs_pool.proofs.pool.Pool.pass_on.Goals as goal

pub placed_by-requires : goal.placed_by-requires
placed_by-requires g c = never-refused _ _ _ _ _ c.resume.result c.resume.ensures.resumed

pub returns-clause-passed : goal.returns-clause-passed
returns-clause-passed g c =
    let resumed = c.resume.ensures.resumed in
    (c.placed_by.result, c.into_under.ensures, (c.resume.result, c.placed_by.ensures, resumed))
