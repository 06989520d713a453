use Rattle.cqs_turns_laws.proofs.Kept.{ended-jobs-have-nothing}
use Rattle.cqs_turns_laws.proofs.ended_jobs_have_nothing.Goals as goal

pub returns : goal.returns
returns c = ended-jobs-have-nothing
