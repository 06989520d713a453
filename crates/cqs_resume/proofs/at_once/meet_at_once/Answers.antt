use Rattle.std.proofs.Common.{[], refl, sym, ap, ◌∙◌, inl, inr, arith}
use Rattle.cqs_core.specs.declared.cells.CoreState.TheVariants as state
use Rattle.cqs_core.specs.declared.doings.Doing.TheVariants as doing
use Rattle.cqs_core.specs.QueueSteps.{serves, leaves, ends_missed}
use Rattle.cqs_rule_laws.proofs.CellSteps.{shown-injective}
use Rattle.cqs_rule.specs.Passes.{pass_view}
use Rattle.cqs_find.proofs.Numbers.{number-out}
use Rattle.cqs_resume.proofs.AtOnceSteps.{end-missed, simple-mode, worked-missed}
use Rattle.cqs_resume.proofs.OneNumber.{stays-searched, stays-missed, way-searched, tried-first, tried-next, worked-by, met-by, end-serves, end-leaves}
use Rattle.cqs_resume.proofs.at_once.meet_at_once.Goals as goal

pub returns-in-Ok-clause-met : goal.returns-in-Ok-clause-met
returns-in-Ok-clause-met g c =
    let C = g.C.ClientWords in inl (
      refl,
      met-by C.object C.primitive serves state.Waiter doing.Idle (λ _. []) 0 _ _ _ _ _ _
          (rw c.in-Ok-At.field-0-is at c.in-Ok-At.ensures.locates).0
          (end-serves C.object.gains _) (omega arith) c.requires.payload
          (way-searched C.object C.primitive _ _ _ c.locate.ensures.searched)
          (worked-by C.object C.primitive serves _ 0 _ _ c.in-Ok.ensures.made),
    )

pub loop-state-init : goal.loop-state-init
loop-state-init g c =
    let C = g.C.ClientWords in
    let first = stays-searched C.object C.primitive _ _ _ c.locate.ensures.searched in
    let m = c.in-Err-serve.ensures.missed in
    let then = stays-missed C.object C.primitive _ _ _ _ _ m in record {
      belongs = c.in-Err-serve.ensures.belongs;
      number = (rw c.in-Ok-At.field-0-is at c.in-Ok-At.ensures.locates).0;
      ticket = then.doing ∙ (first.doing ∙ (c.requires.ticket
          ∙ ap doing.Ticket (sym (rw c.in-Ok-At.field-0-is at c.in-Ok-At.ensures.locates).0)));
      owes = then.payload ∙ (first.payload ∙ c.requires.payload);
      place = then.place c.in-Ok-At.at (rw c.in-Ok-At.field-0-is at c.in-Ok-At.ensures.locates).1;
      tried = tried-first C.object C.primitive _ _ _ _ _ _ _ refl c.locate.ensures.searched m;
    }

pub loop-state-preserved-in-Err-leave_value : goal.loop-state-preserved-in-Err-leave_value
loop-state-preserved-in-Err-leave_value g c =
    let C = g.C.ClientWords in
    let l = c.loop-state.invariant in
    let m = c.in-Err-leave_value.ensures.missed in
    let is = shown-injective l.tried.glimpse.state state.Empty (l.tried.state_is ∙ c.in-Empty.is) in
    let then = stays-missed C.object C.primitive _ _ _ _ _ m in record {
      belongs = c.in-Err-leave_value.ensures.belongs;
      number = l.number;
      ticket = then.doing ∙ l.ticket;
      owes = then.payload ∙ l.owes;
      place = then.place c.in-Ok-At.at l.place;
      tried = tried-next C.object C.primitive _ _ _ _ _ _ _ _ refl tt (omega arith) l.tried is m;
    }

pub loop-state-preserved : goal.loop-state-preserved
loop-state-preserved g c =
    let C = g.C.ClientWords in
    let l = c.loop-state.invariant in
    let m = c.in-Err-serve-2.ensures.missed in
    let is = shown-injective l.tried.glimpse.state state.Waiter (l.tried.state_is ∙ c.in-Waiter.is) in
    let then = stays-missed C.object C.primitive _ _ _ _ _ m in record {
      belongs = c.in-Err-serve-2.ensures.belongs;
      number = l.number;
      ticket = then.doing ∙ l.ticket;
      owes = then.payload ∙ l.owes;
      place = then.place c.in-Ok-At.at l.place;
      tried = tried-next C.object C.primitive _ _ _ _ _ _ _ _ refl tt (omega arith) l.tried is m;
    }

pub returns-in-Ok-leave_value-clause-met : goal.returns-in-Ok-leave_value-clause-met
returns-in-Ok-leave_value-clause-met g c =
    let C = g.C.ClientWords in
    let l = c.loop-state.invariant in inl (
      refl,
      met-by C.object C.primitive leaves state.Empty doing.Idle (λ _. []) _ _ _ _ _ _ _ l.number
          (end-leaves C.object.gains _) (omega arith) c.requires.payload l.tried.way
          (worked-by C.object C.primitive leaves _ 0 _ _ c.in-Ok-leave_value.ensures.made),
    )

pub returns-in-Ok-serve-clause-met : goal.returns-in-Ok-serve-clause-met
returns-in-Ok-serve-clause-met g c =
    let C = g.C.ClientWords in
    let l = c.loop-state.invariant in inl (
      refl,
      met-by C.object C.primitive serves state.Waiter doing.Idle (λ _. []) _ _ _ _ _ _ _ l.number
          (end-serves C.object.gains _) (omega arith) c.requires.payload l.tried.way
          (worked-by C.object C.primitive serves _ 0 _ _ c.in-Ok-serve.ensures.made),
    )

pub returns-in-Cancelled-clause-met : goal.returns-in-Cancelled-clause-met
returns-in-Cancelled-clause-met g c =
    let C = g.C.ClientWords in
    let l = c.loop-state.invariant in inl (
      refl,
      met-by C.object C.primitive ends_missed state.Cancelled doing.Idle (λ _. []) _ _ _ _ _ _ _ l.number
          (end-missed C.object.gains _) (omega arith) c.requires.payload l.tried.way
          (worked-missed C.object C.primitive _ _ _ _ c.look.ensures.looks c.in-Cancelled.is),
    )

pub unreachable-requires : goal.unreachable-requires
unreachable-requires g c =
    let C = g.C.ClientWords in
    let x = c.args.queue.now.table.shared.key.client in
    let out = rw c.in-Ok-Over.field-0-is at c.in-Ok-Over.ensures.locates in
    let first = stays-searched C.object C.primitive _ _ _ c.locate.ensures.searched in
    let mode = ap (λ o. o.mode) c.locate.ensures.belongs.opening
    ∙ ((g.met.C.ClientWords.keeps x).mode ∙ simple-mode _ c.requires.at_once) in
    out.own c.args.number (inr (inr (inr (inr (first.doing ∙ c.requires.ticket, mode)))))
    (number-out c.args.number _ (pass_view c.locate.new.pass) out)
