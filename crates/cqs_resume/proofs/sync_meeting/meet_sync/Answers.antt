use Rattle.std.proofs.Common.{◌+◌, ◌/◌, ◌∷◌, [], Ok, min, refl, sym, ap, ◌∙◌, subst, inl, arith}
use Rattle.cqs_core.specs.declared.cells.CoreState.TheVariants as state
use Rattle.cqs_core.specs.declared.doings.Doing.TheVariants as doing
use Rattle.cqs_core.specs.QueueCells.{rank}
use Rattle.cqs_core.specs.QueueSteps.{serves, passes_over, ends_refused, in_sync, leaves_watched}
use Rattle.cqs_rule.specs.Passes.{pass_view}
use Rattle.cqs_rule.proofs.Places.{knows-saw}
use Rattle.cqs_find.proofs.Numbers.{outs-grow}
use Rattle.cqs_rule_laws.proofs.CellSteps.{shown-injective}
use Rattle.cqs_resume.proofs.OneNumber.{OnWay, stays-searched, stays-missed, way-searched, tried-first, tried-next, way-stayed, worked-by, worked-gone, worked-over, worked-refused, met-by, end-serves, end-watched, end-refused, end-over, ended-refused}
use Rattle.cqs_resume.proofs.SyncOneNumber.{met-canceller, met-watched}
use Rattle.cqs_resume.specs.declared.sync_resumed.SyncResumed.TheVariants.{Refused}
use Rattle.cqs_resume.specs.SyncMeets.{HasSyncMet, SyncMeets}
use Rattle.cqs_resume.proofs.sync_meeting.meet_sync.Goals as goal

pub returns-in-Ok-clause-met : goal.returns-in-Ok-clause-met
returns-in-Ok-clause-met g c =
    let C = g.C.ClientWords in (
      refl,
      inl (met-by C.object C.primitive serves state.Waiter doing.Idle (λ _. []) 0 _ _ _ _ _ _
          (rw c.in-Ok-At.field-0-is at c.in-Ok-At.ensures.locates).0
          (end-serves C.object.gains _) (omega arith) c.requires.payload
          (way-searched C.object C.primitive _ _ _ c.locate.ensures.searched)
          (worked-by C.object C.primitive serves _ 0 _ _ c.in-Ok.ensures.made)),
    )

pub loop-state-init : goal.loop-state-init
loop-state-init g c =
    let C = g.C.ClientWords in
    let first = stays-searched C.object C.primitive _ _ _ c.locate.ensures.searched in
    let m = c.in-Err-serve.ensures.missed in
    let then = stays-missed C.object C.primitive _ _ _ _ _ m in record {
      belongs = c.in-Err-serve.ensures.belongs;
      number = (rw c.in-Ok-At.field-0-is at c.in-Ok-At.ensures.locates).0;
      ticket = then.doing ∙ (first.doing ∙ (c.requires.ticket
          ∙ ap doing.Ticket (sym (rw c.in-Ok-At.field-0-is at c.in-Ok-At.ensures.locates).0)));
      owes = then.payload ∙ (first.payload ∙ c.requires.payload);
      place = then.place c.in-Ok-At.at (rw c.in-Ok-At.field-0-is at c.in-Ok-At.ensures.locates).1;
      tried = tried-first C.object C.primitive _ _ _ _ _ _ _ refl c.locate.ensures.searched m;
    }

pub loop-state-preserved-in-Err-leave_watched : goal.loop-state-preserved-in-Err-leave_watched
loop-state-preserved-in-Err-leave_watched g c =
    let C = g.C.ClientWords in
    let l = c.loop-state.invariant in
    let m = c.in-Err-leave_watched.ensures.missed in
    let is = shown-injective l.tried.glimpse.state state.Empty (l.tried.state_is ∙ c.in-Empty.is) in
    let then = stays-missed C.object C.primitive _ _ _ _ _ m in record {
      belongs = c.in-Err-leave_watched.ensures.belongs;
      number = l.number;
      ticket = then.doing ∙ l.ticket;
      owes = then.payload ∙ l.owes;
      place = then.place c.in-Ok-At.at l.place;
      tried = tried-next C.object C.primitive _ _ _ _ _ _ _ _ refl tt (omega arith) l.tried is m;
    }

pub loop-state-preserved : goal.loop-state-preserved
loop-state-preserved g c =
    let C = g.C.ClientWords in
    let l = c.loop-state.invariant in
    let m = c.in-Err-serve-2.ensures.missed in
    let is = shown-injective l.tried.glimpse.state state.Waiter (l.tried.state_is ∙ c.in-Waiter.is) in
    let then = stays-missed C.object C.primitive _ _ _ _ _ m in record {
      belongs = c.in-Err-serve-2.ensures.belongs;
      number = l.number;
      ticket = then.doing ∙ l.ticket;
      owes = then.payload ∙ l.owes;
      place = then.place c.in-Ok-At.at l.place;
      tried = tried-next C.object C.primitive _ _ _ _ _ _ _ _ refl tt (omega arith) l.tried is m;
    }

pub watch_value-requires-clause-place : goal.watch_value-requires-clause-place
watch_value-requires-clause-place g c =
    let C = g.C.ClientWords in
    knows-saw C.object (pass_view c.loop-state.pass) (pass_view c.leave_watched.new.pass) _ _ _
    c.in-Ok-leave_watched.ensures.made.saw c.loop-state.invariant.place

pub returns-in-Ok-leave_watched-clause-met : goal.returns-in-Ok-leave_watched-clause-met
returns-in-Ok-leave_watched-clause-met g c =
    let C = g.C.ClientWords in
    let l = c.loop-state.invariant in
    let k = c.in-Ok-At.at.index in
    let v = pass_view c.args.pass.now in
    let u = pass_view c.leave_watched.new.pass in
    let w = pass_view c.watch_value.new.pass in
    let tries = min (rank l.tried.glimpse.state + 1) 4 in
    subst (λ z. SyncMeets C.object C.primitive c.args.payload z v (Ok c.watch_value.result) w) l.number
    (met-watched C.object C.primitive c.args.payload k c.watch_value.result v u w
    (met-by C.object C.primitive (in_sync leaves_watched) state.Empty (doing.Watching k) (λ _. [])
    tries k k c.args.payload v (pass_view c.loop-state.pass) u refl (end-watched C.object.gains k) (omega arith)
    c.requires.payload
    (subst (λ z. OnWay C.object C.primitive tries z v (pass_view c.loop-state.pass)) (sym l.number) l.tried.way)
    (worked-by C.object C.primitive (in_sync leaves_watched) k 0 _ _ c.in-Ok-leave_watched.ensures.made))
    c.watch_value.ensures.watched)

pub returns-in-Ok-serve-clause-met : goal.returns-in-Ok-serve-clause-met
returns-in-Ok-serve-clause-met g c =
    let C = g.C.ClientWords in
    let l = c.loop-state.invariant in (
      refl,
      inl (met-by C.object C.primitive serves state.Waiter doing.Idle (λ _. []) _ _ _ _ _ _ _ l.number
          (end-serves C.object.gains _) (omega arith) c.requires.payload l.tried.way
          (worked-by C.object C.primitive serves _ 0 _ _ c.in-Ok-serve.ensures.made)),
    )

pub returns-in-Cancelling-clause-met : goal.returns-in-Cancelling-clause-met
returns-in-Cancelling-clause-met g c =
    let C = g.C.ClientWords in
    let l = c.loop-state.invariant in
    let under = c.under_of-under.ensures in (
      refl,
      met-canceller C.object C.primitive c.args.payload c.in-Ok-At.at.index c.args.number c.loop-state.state
          c.under_of-under.result (pass_view c.args.pass.now) (pass_view c.loop-state.pass)
          (pass_view c.under_of-under.new.pass) l.tried l.number
          (shown-injective l.tried.glimpse.state state.Cancelling (l.tried.state_is ∙ c.in-Cancelling.is))
          c.requires.ticket (ap pass_view under.same) under.payload under.ticket
          (under.reached ∙ sym c.requires.reached) under.owes,
    )

pub returns-in-Cancelled : goal.returns-in-Cancelled
returns-in-Cancelled g c =
    let C = g.C.ClientWords in
    let l = c.loop-state.invariant in record {
      belongs = c.look.ensures.belongs;
      met = (
        met-by C.object C.primitive passes_over state.Cancelled doing.Owes (λ k. k ∷ []) _ _ _ _ _ _ _ l.number
            (end-over C.object.gains _) (omega arith) c.requires.payload l.tried.way
            (worked-over C.object C.primitive _ _ _ _ c.look.ensures.looks c.in-Cancelled.is),
        λ k low below. absurd (omega arith),
      );
    }

pub complete_refused_resume-requires-clause-ended : goal.complete_refused_resume-requires-clause-ended
complete_refused_resume-requires-clause-ended g c =
    let C = g.C.ClientWords in
    let l = c.loop-state.invariant in
    ended-refused C.object C.primitive _ _ _ _ c.requires.payload
    (met-by C.object C.primitive ends_refused state.Refused doing.Idle (λ _. []) _ _ _ _ _ _ _ l.number
    (end-refused C.object.gains _) (omega arith) c.requires.payload l.tried.way
    (worked-refused C.object C.primitive _ _ _ _ c.look.ensures.looks c.in-Refused.is))

pub returns-in-Refused-clause-met : goal.returns-in-Refused-clause-met
returns-in-Refused-clause-met g c =
    let C = g.C.ClientWords in
    let l = c.loop-state.invariant in
    subst (λ r. HasSyncMet c.args.payload c.args.number c.args.pass.now (Ok (Refused c.args.number)) r)
    (sym c.complete_refused_resume.ensures.same) (
      refl,
      met-by C.object C.primitive ends_refused state.Refused doing.Idle (λ _. []) _ _ _ _ _ _ _ l.number
          (end-refused C.object.gains _) (omega arith) c.requires.payload l.tried.way
          (worked-refused C.object C.primitive _ _ _ _ c.look.ensures.looks c.in-Refused.is),
    )

pub returns-in-Ok-Over-clause-met : goal.returns-in-Ok-Over-clause-met
returns-in-Ok-Over-clause-met g c =
    let C = g.C.ClientWords in
    let u = pass_view c.locate.new.pass in
    let x = pass_view c.place_after-after.new.pass in
    let w = pass_view c.pass_over.new.pass in
    let way = way-stayed C.object C.primitive 0 _ _ _ _
    (way-searched C.object C.primitive _ _ _ c.locate.ensures.searched) c.place_after-after.ensures.stayed in
    let taken = rw c.in-Ok-Over.field-0-is at c.in-Ok-Over.ensures.locates in
    let then = c.place_after-after.ensures.stayed.segments in
    let over = c.pass_over.ensures.over in
    let last = over.saw.same.segments in (
      met-by C.object C.primitive passes_over state.Cancelled doing.Owes (λ k. k ∷ []) 0 _ _ _ _ _ _
          c.place_after-after.ensures.index (end-over C.object.gains _) (omega arith) c.requires.payload way
          (worked-gone C.object C.primitive _ _ _ _ over),
      λ k low below.
          let next = taken.next_is in
          outs-grow x w (k / 32) last
          (outs-grow u x (k / 32) then
          (taken.out (k / 32) (omega arith) (omega arith))),
    )
