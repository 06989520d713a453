use Rattle.std.proofs.Common.{◌≡◌, ℕ, ◌∷◌, [], false, Option, Some, sym, ◌∙◌, subst, arith}
use Rattle.cqs_core.specs.declared.cells.CoreState.TheVariants as state
use Rattle.cqs_core.specs.declared.doings.Doing.TheVariants as doing
use Rattle.cqs_core.specs.QueueSteps.{passes_over}
use Rattle.cqs_rule_laws.specs.declared.view.View.{View}
use Rattle.cqs_rule.specs.Owed.{under_payload, under_ticket}
use Rattle.cqs_rule.specs.Passes.{pass_view}
use Rattle.cqs_rule.proofs.Segments.{ample-view}
use Rattle.cqs_resume.specs.SyncResumes.{SyncGoesOn}
use Rattle.cqs_resume.proofs.SyncHolds.{sync-amply, sync-open, sync-then}
use Rattle.cqs_resume.proofs.Runs.{went-open}
use Rattle.cqs_resume.proofs.sync_resuming.end_sync.Goals as goal

pub returns-in-Ok-clause-resumed : goal.returns-in-Ok-clause-resumed
returns-in-Ok-clause-resumed g c =
    let C = g.C.ClientWords in
    let spent = c.spend_under-payload in
    let k = c.in-Some.number in
    let v = pass_view spent.new.pass in
    let w = pass_view c.meet_sync.new.pass in
    let ticket : Some k ≡ under_ticket c.args.under = sym c.in-Some.is ∙ spent.ensures.ticket in
    let now : SyncGoesOn C.object C.primitive 64 (Some k) spent.result.0 v c.in-Ok.resumed w =
    sync-open C.object C.primitive 64 spent.result.0 k c.in-Ok.resumed v w (omega arith)
    c.in-Ok.ensures.met in
    subst (λ (z : Option ℕ × ℕ × View g.row.C-Entry.Denot g.row.C-Slot.Denot).
    SyncGoesOn C.object C.primitive 64 z.0 z.1 z.2 c.in-Ok.resumed w)
    (λ i. (ticket i, spent.ensures.payload i, pass_view (spent.ensures.same i))) now

pub returns-in-Ok-clause-ample : goal.returns-in-Ok-clause-ample
returns-in-Ok-clause-ample g c = λ ample.
    let C = g.C.ClientWords in
    sync-amply C.object C.primitive 64 (under_payload c.args.under) (under_ticket c.args.under) c.in-Ok.resumed
    (pass_view c.args.pass.now) (pass_view c.meet_sync.new.pass)
    (ample-view c.args.queue.now c.args.pass.now c.requires.belongs ample)
    (returns-in-Ok-clause-resumed g c)

pub returns-in-Err-clause-resumed : goal.returns-in-Err-clause-resumed
returns-in-Err-clause-resumed g c =
    let C = g.C.ClientWords in
    let spent = c.spend_under-payload in
    let k = c.in-Some.number in
    let v = pass_view spent.new.pass in
    let u = pass_view c.meet_sync.new.pass in
    let w = pass_view c.go_on_sync-in-Err.new.pass in
    let ticket : Some k ≡ under_ticket c.args.under = sym c.in-Some.is ∙ spent.ensures.ticket in
    let t = went-open C.object C.primitive passes_over state.Cancelled doing.Owes
    (k ∷ []) spent.result.0 k v u c.in-Err.ensures.met.0 in
    let now : SyncGoesOn C.object C.primitive 64 (Some k) spent.result.0 v c.go_on_sync-in-Err.result w =
    sync-then C.object C.primitive false 64 spent.result.0 k c.go_on_sync-in-Err.result v u w t tt
    c.go_on_sync-in-Err.ensures.resumed in
    subst (λ (z : Option ℕ × ℕ × View g.row.C-Entry.Denot g.row.C-Slot.Denot).
    SyncGoesOn C.object C.primitive 64 z.0 z.1 z.2 c.go_on_sync-in-Err.result w)
    (λ i. (ticket i, spent.ensures.payload i, pass_view (spent.ensures.same i))) now

pub returns-in-Err-clause-ample : goal.returns-in-Err-clause-ample
returns-in-Err-clause-ample g c = λ ample.
    let C = g.C.ClientWords in
    sync-amply C.object C.primitive 64 (under_payload c.args.under) (under_ticket c.args.under)
    c.go_on_sync-in-Err.result (pass_view c.args.pass.now) (pass_view c.go_on_sync-in-Err.new.pass)
    (ample-view c.args.queue.now c.args.pass.now c.requires.belongs ample)
    (returns-in-Err-clause-resumed g c)
