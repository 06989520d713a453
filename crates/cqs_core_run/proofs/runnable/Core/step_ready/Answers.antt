use Rattle.cqs_core.proofs.EitherFacts.{core-fits, ready-keeps}
use Rattle.cqs_core_run.proofs.runnable.Core.step_ready.Goals as goal

pub step_ready-requires-clause-fits : goal.step_ready-requires-clause-fits
step_ready-requires-clause-fits c = core-fits _ c.self.invariant

pub invariant_of-self : goal.invariant_of-self
invariant_of-self c = ready-keeps _ _ _ _ c.self.invariant c.step_ready.ensures
