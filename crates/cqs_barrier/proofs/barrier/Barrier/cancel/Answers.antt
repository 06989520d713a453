use Rattle.std.proofs.Common.{sym, subst, ap, ◌∙◌}
use Rattle.cqs_rule_laws.specs.declared.config.Place.{Place}
use Rattle.cqs_rule_laws.specs.Lists.{Has}
use Rattle.cqs_rule.specs.Passes.{pass_view, IsOf}
use Rattle.cqs_rule_laws.specs.Placed.{KnowsPlace}
use Rattle.cqs_rule.specs.Waits.{place_of}
use Rattle.cqs_cancel.proofs.Steps.{came-late, began-place, missed-place}
use Rattle.cqs_barrier.specs.declared.answers.PartyLeft.TheVariants.{TooLate}
use Rattle.cqs_barrier.specs.Barrier.{barrier_object}
use Rattle.cqs_rule_laws.specs.CallRule.{IsReady}
use Rattle.cqs_barrier.specs.Causes.{primitive_of}
use Rattle.cqs_barrier.specs.Leaving.{HasLeft}
use Rattle.cqs_barrier.specs.Waits.{wait_in}
use Rattle.cqs_barrier.proofs.AloneCalls.{plain-cancel}
use Rattle.cqs_barrier.proofs.LeftSteps.{starts-leaving, left-so, came-too-late}
use Rattle.cqs_barrier.proofs.barrier.Barrier.cancel.Goals as goal

pub begin_cancel-requires-clause-belongs : goal.begin_cancel-requires-clause-belongs
begin_cancel-requires-clause-belongs g c =
    subst (λ p. IsOf c.args.self.now.queue p) (sym c.spend_wait-at.ensures.same) c.requires.belongs

pub leave-requires-clause-place : goal.leave-requires-clause-place
leave-requires-clause-place g c = λ given lives.
    let at = c.spend_wait-at in
    began-place at.result.index at.new.pass c.begin_cancel.new.pass (place_of (wait_in c.args.wait)) at.result
    c.in-Ok.ensures.made at.ensures.place
    (subst (λ q. KnowsPlace (pass_view q) (place_of (wait_in c.args.wait))) (sym at.ensures.same) c.requires.has.place)

pub look-requires-clause-place : goal.look-requires-clause-place
look-requires-clause-place g c =
    let at = c.spend_wait-at in
    missed-place at.result.index c.in-Err.field-0 at.new.pass c.begin_cancel.new.pass
    (place_of (wait_in c.args.wait)) at.result
    c.in-Err.ensures.missed at.ensures.place
    (subst (λ q. KnowsPlace (pass_view q) (place_of (wait_in c.args.wait))) (sym at.ensures.same) c.requires.has.place)

pub returns-in-Ok-clause-left : goal.returns-in-Ok-clause-left
returns-in-Ok-clause-left g c =
    let at = c.spend_wait-at in
    let v = pass_view at.new.pass in
    let same = ap pass_view at.ensures.same in
    subst (λ q. HasLeft c.args.wait.wait.number (pass_view q) c.leave.result (pass_view c.leave.new.pass))
    at.ensures.same
    (subst (λ (p : Place). HasLeft p.index v c.leave.result (pass_view c.leave.new.pass)) at.ensures.place
    (left-so at.result.index c.leave.result v (pass_view c.begin_cancel.new.pass) (pass_view c.leave.new.pass)
    (starts-leaving at.result.index v (pass_view c.begin_cancel.new.pass)
    (ap (λ q. (pass_view q).facts.has.further) at.ensures.same ∙ c.requires.ready.further) c.in-Ok.ensures.made)
    (subst (λ q. Has (pass_view q).number (pass_view q).own) (sym at.ensures.same) c.requires.belongs.live.own)
    c.leave.ensures.belongs.live.legal c.leave.ensures.leaves))

pub returns-in-Err-clause-left : goal.returns-in-Err-clause-left
returns-in-Err-clause-left g c =
    let at = c.spend_wait-at in
    let v = pass_view at.new.pass in
    subst (λ q. HasLeft c.args.wait.wait.number (pass_view q) TooLate (pass_view c.look.new.pass)) at.ensures.same
    (subst (λ (p : Place). HasLeft p.index v TooLate (pass_view c.look.new.pass)) at.ensures.place
    (came-too-late at.result.index c.look.result.payload v (pass_view c.look.new.pass)
    (subst (λ q. IsReady (pass_view q).facts) (sym at.ensures.same) c.requires.ready)
    (subst (λ q. Has (pass_view q).number (pass_view q).own) (sym at.ensures.same) c.requires.belongs.live.own)
    c.look.ensures.belongs.live.legal
    (came-late barrier_object primitive_of at.result.index c.in-Err.field-0 c.look.result v
    (pass_view c.begin_cancel.new.pass) (pass_view c.look.new.pass) c.in-Err.ensures.missed c.look.ensures.looks)))

pub returns-in-Ok-clause-alone : goal.returns-in-Ok-clause-alone
returns-in-Ok-clause-alone g c =
    plain-cancel (place_of (wait_in c.args.wait)).index (pass_view c.args.pass.now) (pass_view c.leave.new.pass)
    c.leave.result (returns-in-Ok-clause-left g c) c.requires.ready (c.requires.belongs.alone c.args.pass.now.live.0)

pub returns-in-Err-clause-alone : goal.returns-in-Err-clause-alone
returns-in-Err-clause-alone g c =
    plain-cancel (place_of (wait_in c.args.wait)).index (pass_view c.args.pass.now) (pass_view c.look.new.pass)
    TooLate (returns-in-Err-clause-left g c) c.requires.ready (c.requires.belongs.alone c.args.pass.now.live.0)
