use Rattle.cqs_pool_object.proofs.PoolOpens.{numbers-left}
use Rattle.cqs_pool_object.proofs.laws.numbers_are_left.Goals as goal

pub returns : goal.returns
returns c = numbers-left
