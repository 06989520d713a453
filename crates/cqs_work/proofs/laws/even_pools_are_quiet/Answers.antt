use Rattle.cqs_work.proofs.QuietPools.{even-pools}
use Rattle.cqs_work.proofs.laws.even_pools_are_quiet.Goals as goal

pub returns : goal.returns
returns c = even-pools
