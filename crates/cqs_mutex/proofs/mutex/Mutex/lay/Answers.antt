use Rattle.std.proofs.Common.{subst}
use Rattle.cqs_rule.specs.Passes.{IsOf}
use Rattle.cqs_mutex.proofs.mutex.Mutex.lay.Goals as goal

pub returns-clause-belongs : goal.returns-clause-belongs
returns-clause-belongs g c = subst (λ q. IsOf q c.swap_slot.new.pass) c.queue.ensures c.swap_slot.ensures.belongs
