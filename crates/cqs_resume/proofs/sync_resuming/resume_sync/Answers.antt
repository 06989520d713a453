use Rattle.std.proofs.Common.{None}
use Rattle.cqs_rule.specs.Passes.{pass_view}
use Rattle.cqs_rule.proofs.Segments.{ample-view}
use Rattle.cqs_resume.proofs.SyncHolds.{sync-amply}
use Rattle.cqs_resume.proofs.sync_resuming.resume_sync.Goals as goal

pub returns-clause-ample : goal.returns-clause-ample
returns-clause-ample g c = λ ample.
    let C = g.C.ClientWords in
    sync-amply C.object C.primitive 64 c.args.payload None c.go_on_sync.result
    (pass_view c.args.pass.now) (pass_view c.go_on_sync.new.pass)
    (ample-view c.args.queue.now c.args.pass.now c.requires.belongs ample)
    c.go_on_sync.ensures.resumed
