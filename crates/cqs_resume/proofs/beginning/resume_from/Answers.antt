use Rattle.std.proofs.Common.{◌∷◌, [], Some, false, arith}
use Rattle.cqs_core.specs.declared.cells.CoreState.TheVariants as state
use Rattle.cqs_core.specs.declared.doings.Doing.TheVariants as doing
use Rattle.cqs_core.specs.QueueSteps.{passes_over}
use Rattle.cqs_rule.specs.Passes.{pass_view}
use Rattle.cqs_rule.proofs.Segments.{ample-view}
use Rattle.cqs_resume.proofs.Holds.{goes-amply, goes-open, goes-then}
use Rattle.cqs_resume.proofs.Runs.{went-open}
use Rattle.cqs_resume.proofs.beginning.resume_from.Goals as goal

pub returns-in-Ok-clause-resumed : goal.returns-in-Ok-clause-resumed
returns-in-Ok-clause-resumed g c =
    let C = g.C.ClientWords in
    goes-open C.object C.primitive 63 c.args.payload c.args.number c.in-Ok.resumed (pass_view c.args.pass.now)
    (pass_view c.meet.new.pass) (omega arith) c.in-Ok.ensures.met

pub returns-in-Ok-clause-ample : goal.returns-in-Ok-clause-ample
returns-in-Ok-clause-ample g c = λ ample.
    let C = g.C.ClientWords in
    goes-amply C.object C.primitive 63 c.args.payload (Some c.args.number) c.in-Ok.resumed
    (pass_view c.args.pass.now) (pass_view c.meet.new.pass)
    (ample-view c.args.queue.now c.args.pass.now c.requires.belongs ample)
    (returns-in-Ok-clause-resumed g c)

pub returns-in-Err-clause-resumed : goal.returns-in-Err-clause-resumed
returns-in-Err-clause-resumed g c =
    let C = g.C.ClientWords in
    let k = c.args.number in
    let v = pass_view c.args.pass.now in
    let u = pass_view c.meet.new.pass in
    let w = pass_view c.go_on.new.pass in
    let t = went-open C.object C.primitive passes_over state.Cancelled doing.Owes
    (k ∷ []) c.args.payload k v u c.in-Err.ensures.met.0 in
    goes-then C.object C.primitive false 63 c.args.payload k c.go_on.result v u w t tt
    c.go_on.ensures.resumed

pub returns-in-Err-clause-ample : goal.returns-in-Err-clause-ample
returns-in-Err-clause-ample g c = λ ample.
    let C = g.C.ClientWords in
    goes-amply C.object C.primitive 63 c.args.payload (Some c.args.number) c.go_on.result
    (pass_view c.args.pass.now) (pass_view c.go_on.new.pass)
    (ample-view c.args.queue.now c.args.pass.now c.requires.belongs ample)
    (returns-in-Err-clause-resumed g c)
