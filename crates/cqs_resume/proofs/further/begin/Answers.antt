use Rattle.std.proofs.Common.{◌∷◌, [], Some, false, arith}
use Rattle.cqs_core.specs.declared.cells.CoreState.TheVariants as state
use Rattle.cqs_core.specs.declared.doings.Doing.TheVariants as doing
use Rattle.cqs_core.specs.QueueSteps.{passes_over}
use Rattle.cqs_rule.specs.Passes.{pass_view}
use Rattle.cqs_rule.proofs.Segments.{ample-view}
use Rattle.cqs_resume.proofs.Holds.{goes-amply, goes-open, goes-then}
use Rattle.cqs_resume.proofs.Runs.{went-open}
use Rattle.cqs_resume.proofs.further.begin.Goals as goal

pub returns-in-Ok-clause-begun : goal.returns-in-Ok-clause-begun
returns-in-Ok-clause-begun g c =
    let C = g.C.ClientWords in
    let x = pass_view c.add_table-number.new.pass in
    record {
      number = c.add_table-number.result;
      from = x;
      drew = c.add_table-number.ensures.saw;
      after = c.add_table-number.ensures.after;
      goes = goes-open C.object C.primitive 63 c.args.payload c.add_table-number.result c.in-Ok.resumed x
          (pass_view c.meet.new.pass) (omega arith) c.in-Ok.ensures.met;
    }

pub returns-in-Ok-clause-ample : goal.returns-in-Ok-clause-ample
returns-in-Ok-clause-ample g c = λ ample.
    let C = g.C.ClientWords in
    let x = pass_view c.add_table-number.new.pass in
    record {
      number = c.add_table-number.result;
      from = x;
      drew = c.add_table-number.ensures.saw;
      after = c.add_table-number.ensures.after;
      resumes = goes-amply C.object C.primitive 63 c.args.payload (Some c.add_table-number.result) c.in-Ok.resumed x
          (pass_view c.meet.new.pass)
          (ample-view c.args.queue.now c.add_table-number.new.pass c.add_table-number.ensures.belongs ample)
          (goes-open C.object C.primitive 63 c.args.payload c.add_table-number.result c.in-Ok.resumed x
          (pass_view c.meet.new.pass) (omega arith) c.in-Ok.ensures.met);
    }

pub returns-in-Err-clause-begun : goal.returns-in-Err-clause-begun
returns-in-Err-clause-begun g c =
    let C = g.C.ClientWords in
    let k = c.add_table-number.result in
    let x = pass_view c.add_table-number.new.pass in
    let u = pass_view c.meet.new.pass in
    let w = pass_view c.go_on.new.pass in
    let t = went-open C.object C.primitive passes_over state.Cancelled doing.Owes
    (k ∷ []) c.args.payload k x u c.in-Err.ensures.met.0 in
    record {
      number = k;
      from = x;
      drew = c.add_table-number.ensures.saw;
      after = c.add_table-number.ensures.after;
      goes = goes-then C.object C.primitive false 63 c.args.payload k c.go_on.result x u w t tt
          c.go_on.ensures.resumed;
    }

pub returns-in-Err-clause-ample : goal.returns-in-Err-clause-ample
returns-in-Err-clause-ample g c = λ ample.
    let C = g.C.ClientWords in
    let k = c.add_table-number.result in
    let x = pass_view c.add_table-number.new.pass in
    let u = pass_view c.meet.new.pass in
    let w = pass_view c.go_on.new.pass in
    let t = went-open C.object C.primitive passes_over state.Cancelled doing.Owes
    (k ∷ []) c.args.payload k x u c.in-Err.ensures.met.0 in
    record {
      number = c.add_table-number.result;
      from = x;
      drew = c.add_table-number.ensures.saw;
      after = c.add_table-number.ensures.after;
      resumes = goes-amply C.object C.primitive 63 c.args.payload (Some c.add_table-number.result) c.go_on.result x
          (pass_view c.go_on.new.pass)
          (ample-view c.args.queue.now c.add_table-number.new.pass c.add_table-number.ensures.belongs ample)
          (goes-then C.object C.primitive false 63 c.args.payload k c.go_on.result x u w t tt
          c.go_on.ensures.resumed);
    }
