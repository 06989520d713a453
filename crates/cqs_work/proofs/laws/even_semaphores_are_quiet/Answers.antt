use Rattle.cqs_work.proofs.QuietSemaphores.{even-semaphores}
use Rattle.cqs_work.proofs.laws.even_semaphores_are_quiet.Goals as goal

pub returns : goal.returns
returns c = even-semaphores
