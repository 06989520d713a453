use Rattle.std.proofs.Common.{◌≡◌, ◌+◌, ◌-◌, ◌∷◌, [], None, true, ap, ◌∙◌, subst, inl, arith}
use Rattle.cqs_core.specs.declared.cells.CoreState.TheVariants as state
use Rattle.cqs_core.specs.declared.doings.Doing.TheVariants as doing
use Rattle.cqs_core.specs.QueueSteps.{passes_over}
use Rattle.cqs_rule_laws.specs.declared.view.Facts.{Facts}
use Rattle.cqs_rule.specs.Passes.{pass_view}
use Rattle.cqs_resume.specs.declared.sync_resumed.SyncResumed.TheVariants.{Under}
use Rattle.cqs_resume.specs.SyncResumes.{SyncGoesOn}
use Rattle.cqs_resume.proofs.SyncHolds.{sync-drawn, sync-then}
use Rattle.cqs_resume.proofs.Leaping.{behind-first, firstly}
use Rattle.cqs_resume.proofs.Runs.{went-drawn, stopped-now}
use Rattle.cqs_resume.proofs.sync_resuming.go_on_sync.Goals as goal

pub returns-in-Ok-clause-resumed : goal.returns-in-Ok-clause-resumed
returns-in-Ok-clause-resumed g c =
    let C = g.C.ClientWords in
    let l = c.loop-resumed.invariant in
    let k = c.add_table-number.result in
    let v = pass_view c.loop-resumed.pass in
    let y = pass_view c.leap.new.pass in
    let x = pass_view c.add_table-number.new.pass in
    let w = pass_view c.meet_sync.new.pass in
    let leapt = c.leap.ensures.leapt in
    l.rest c.in-Ok.resumed w
    (sync-drawn C.object C.primitive c.loop-resumed.left c.args.payload k c.in-Ok.resumed leapt.0 v y x w l.some
    l.payload leapt.1 c.add_table-number.ensures.after c.add_table-number.ensures.saw c.in-Ok.ensures.met)

pub returns-then-left-eq0-clause-resumed : goal.returns-then-left-eq0-clause-resumed
returns-then-left-eq0-clause-resumed g c =
    let C = g.C.ClientWords in
    let l = c.loop-resumed.invariant in
    let k = c.add_table-number.result in
    let v = pass_view c.loop-resumed.pass in
    let x = pass_view c.add_table-number.new.pass in
    let u = pass_view c.meet_sync.new.pass in
    let y = pass_view c.leap.new.pass in
    let leapt = c.leap.ensures.leapt in
    let w = pass_view c.under_of.new.pass in
    let under = c.under_of.ensures in
    let t = went-drawn C.object C.primitive passes_over state.Cancelled doing.Owes
    (k ∷ []) c.args.payload k leapt.0 v y x u l.payload leapt.1
    c.add_table-number.ensures.saw c.in-Err.ensures.met.0 in
    let next = behind-first C.object C.primitive leapt.0 v y k (firstly C.object C.primitive leapt.0 v y leapt.1)
    c.add_table-number.ensures.after in
    let last : c.loop-resumed.left - 1 ≡ 0 = c.if-left-eq0.true in
    let some = l.some in
    let one : 1 ≡ c.loop-resumed.left = omega arith in
    l.rest (Under c.under_of.result) w
    (subst (λ z. SyncGoesOn C.object C.primitive z None c.args.payload v (Under c.under_of.result) w) one
    (inl (stopped-now C.object C.primitive c.args.payload k c.under_of.result v u w t next
    (ap pass_view under.same) under.payload under.ticket under.reached under.owes)))

pub loop-resumed-preserved : goal.loop-resumed-preserved
loop-resumed-preserved g c =
    let C = g.C.ClientWords in
    let l = c.loop-resumed.invariant in
    let k = c.add_table-number.result in
    let v = pass_view c.loop-resumed.pass in
    let x = pass_view c.add_table-number.new.pass in
    let u = pass_view c.meet_sync.new.pass in
    let y = pass_view c.leap.new.pass in
    let leapt = c.leap.ensures.leapt in
    let left = c.loop-resumed.left in
    let t = went-drawn C.object C.primitive passes_over state.Cancelled doing.Owes
    (k ∷ []) c.args.payload k leapt.0 v y x u l.payload leapt.1
    c.add_table-number.ensures.saw c.in-Err.ensures.met.0 in
    let next = behind-first C.object C.primitive leapt.0 v y k (firstly C.object C.primitive leapt.0 v y leapt.1)
    c.add_table-number.ensures.after in
    let some = l.some in
    let few = l.few in
    let more = c.if-left-eq0.false in
    let same : 1 + (left - 1) ≡ left = omega arith in record {
      belongs = c.in-Err.ensures.belongs;
      owes = ap (λ (f : Facts). f.doing) t.facts_are;
      payload = ap (λ (f : Facts). f.has.payload) t.facts_are ∙ l.payload;
      out = c.in-Err.ensures.met.1;
      some = omega arith;
      few = omega arith;
      rest = λ result w e. l.rest result w
          (subst (λ z. SyncGoesOn C.object C.primitive z None c.args.payload v result w) same
          (sync-then C.object C.primitive true
          (left - 1) c.args.payload k result v u w t next e));
    }
