use Rattle.cqs_pool_object.proofs.PoolSteps.{step-pool}
use Rattle.cqs_pool_object.proofs.laws.steps_keep_the_pool.Goals as goal

pub returns : goal.returns
returns c = step-pool
