use Rattle.cqs_floor_shared_any.proofs.AnyShares.{any-lawful}
use Rattle.cqs_floor_shared_any.proofs.kinds.any.AnySharedSharedResource.law.Goals as goal

pub returns : goal.returns
returns c = any-lawful c.law.ensures c.law-2.ensures c.law-3.ensures c.law-4.ensures
