use Rattle.cqs_barrier_object.proofs.Conserved.{every-history-balanced}
use Rattle.cqs_barrier_object.proofs.laws.parties_are_conserved.Goals as goal

pub returns : goal.returns
returns c = every-history-balanced
