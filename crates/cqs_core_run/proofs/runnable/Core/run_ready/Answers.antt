use Rattle.cqs_core.proofs.EitherFacts.{core-fits}
use Rattle.cqs_core.proofs.CallsKeep.{call_ready-either}
use Rattle.cqs_core_run.proofs.RestingCalls.{calls-end, sole-ready, sole-refused, sole-shown}
use Rattle.cqs_core_run.proofs.runnable.Core.run_ready.Goals as goal

pub run_ready-requires-clause-fits : goal.run_ready-requires-clause-fits
run_ready-requires-clause-fits c = core-fits _ c.self.invariant

pub run_ready-requires-clause-ends : goal.run_ready-requires-clause-ends
run_ready-requires-clause-ends c = calls-end _ c.args.call c.self.invariant (rw c.self.view_is c.requires.resting)

pub invariant_of-self : goal.invariant_of-self
invariant_of-self c = call_ready-either _ _ _ _ c.self.invariant c.run_ready.ensures

pub returns-clause-sole : goal.returns-clause-sole
returns-clause-sole c =
    rw (← c.self.view_is)
    (sole-ready c.self.inside.table c.run_ready.new.self c.args.call c.run_ready.result c.self.invariant
    (rw c.self.view_is c.requires.resting) c.run_ready.ensures)

pub returns-clause-refused : goal.returns-clause-refused
returns-clause-refused c =
    rw (← c.self.view_is)
    (sole-refused c.self.inside.table c.run_ready.new.self c.args.call c.run_ready.result c.self.invariant
    (rw c.self.view_is c.requires.resting) c.run_ready.ensures)

pub returns-clause-shown : goal.returns-clause-shown
returns-clause-shown c =
    rw (← c.self.view_is)
    (sole-shown c.self.inside.table c.run_ready.new.self c.args.call c.run_ready.result c.self.invariant
    (rw c.self.view_is c.requires.resting) c.run_ready.ensures)
