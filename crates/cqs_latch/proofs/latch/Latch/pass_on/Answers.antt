use Rattle.cqs_latch.proofs.Simple.{is-smart}
use Rattle.cqs_latch.proofs.latch.Latch.pass_on.Goals as goal

pub resume-requires-clause-smart : goal.resume-requires-clause-smart
resume-requires-clause-smart g c = λ given lives. is-smart _ c.requires.smart

pub returns-clause-on : goal.returns-clause-on
returns-clause-on g c = (c.resume.result, c.handed_back.ensures, c.resume.ensures.resumed)
