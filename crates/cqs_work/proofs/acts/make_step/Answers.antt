use Rattle.std.proofs.Common.{arith}
use Rattle.cqs_work.proofs.StepNeeds.{work-small}
use Rattle.cqs_work.proofs.StepCalls.{work-did}
use Rattle.cqs_work.proofs.acts.make_step.Goals as goal

pub returns-in-Work-clause-did : goal.returns-in-Work-clause-did
returns-in-Work-clause-did g c =
    let step = rw c.in-Work.is at c.requires.step in
    rw c.in-Work.is (work-did c.args.actor.now _ c.args.next c.in-Work.turns c.requires.can step)

pub overflow_add-result-in-Work : goal.overflow_add-result-in-Work
overflow_add-result-in-Work g c =
    let step = rw c.in-Work.is at c.requires.step in
    let small = work-small c.args.actor.now (g.F.SharedFloor.shared c.args.clerk.now.floor) c.args.next c.in-Work.turns
    c.requires.can step in
    omega (arith, small)
