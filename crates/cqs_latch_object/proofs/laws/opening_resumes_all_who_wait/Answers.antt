use Rattle.cqs_latch_object.proofs.Balance.{every-history-is-balanced}
use Rattle.cqs_latch_object.proofs.laws.opening_resumes_all_who_wait.Goals as goal

pub returns : goal.returns
returns c = every-history-is-balanced
