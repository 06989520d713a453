use Rattle.std.proofs.Common.{refl}
use Rattle.cqs_rule.specs.Passes.{pass_view}
use Rattle.cqs_rule.proofs.Places.{knows-saw}
use Rattle.cqs_barrier.specs.Barrier.{barrier_object}
use Rattle.cqs_barrier.specs.Word.{is_over}
use Rattle.cqs_barrier.proofs.LeaveSteps.{looked, has-loaded}
use Rattle.cqs_barrier.proofs.barrier.Barrier.leave.Goals as goal

pub leave_from-requires-clause-place : goal.leave_from-requires-clause-place
leave_from-requires-clause-place g c = λ given lives.
    knows-saw barrier_object _ _ _ _ c.args.at c.look_to_leave-saw.ensures.saw.saw c.requires.place

pub leave_from-requires-clause-loaded : goal.leave_from-requires-clause-loaded
leave_from-requires-clause-loaded g c = λ given lives.
    has-loaded _ _ _ _ c.requires.leaving c.look_to_leave-saw.ensures.saw

pub returns-clause-leaves : goal.returns-clause-leaves
returns-clause-leaves g c =
    let n = c.look_to_leave-saw.result in
    let v = pass_view c.args.pass.now in
    let u = pass_view c.look_to_leave-saw.new.pass in
    c.leave_from.ensures.leaves v
    (looked (is_over n) c.args.at.index n v u c.requires.leaving c.look_to_leave-saw.ensures.saw refl)
