use Rattle.std.proofs.Common.{◌<◌, arith, drop, sym, ap, ◌∙◌}
use Rattle.cqs_plan.specs.Floor.{PlainFloor}
use Rattle.cqs_turns_report.specs.Roles.{left_with, role, wait_at}
use Rattle.cqs_turns_report.specs.Turns.{places_held}
use Rattle.cqs_turns_report.proofs.Readied.{leave-held, leave-ready}
use Rattle.cqs_turns.proofs.Retries.{retry-left}
use Rattle.cqs_turns.proofs.acts.wait_too_long.Goals as goal

pub overflow_add-state : goal.overflow_add-state
overflow_add-state g c =
    let left : c.args.state.now.patience.used < c.args.actor.now.job.now.retry =
    retry-left (role c.args.actor.now) c.args.state.now.patience c.leave-answer.result
    (sym c.retries.ensures ∙ c.if-retries.true) in
    omega (arith, left, c.requires.few_retries)

pub give_up-requires-clause-held : goal.give_up-requires-clause-held
give_up-requires-clause-held g c =
    let f : PlainFloor = g.F.Floor.plain c.args.floor.now in
    let resources = c.args.actor.now.resources.now in
    let place = c.args.actor.now.place in
    ap (λ (h : PlainFloor). places_held h place) c.leave-answer.ensures.after
    ∙ leave-held f resources place (wait_at c.args.at c.args.round c.args.number) c.leave-answer.result
    c.requires.kinds c.requires.ready.job c.requires.ready.waits
    ∙ ap (λ held. left_with resources held c.args.at c.leave-answer.result) (sym c.requires.held)

pub give_up-requires-clause-ready : goal.give_up-requires-clause-ready
give_up-requires-clause-ready g c =
    rw c.leave-answer.ensures.after
    (leave-ready _ _ (wait_at c.args.at c.args.round c.args.number) _
    (drop c.args.next c.args.actor.now.job.now.steps) c.requires.ready)
