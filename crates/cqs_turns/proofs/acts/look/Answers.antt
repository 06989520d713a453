use Rattle.std.proofs.Common.{drop, take, sym, ap, ◌∙◌}
use Rattle.cqs_turns_report.specs.Ready.{with_place}
use Rattle.cqs_turns_report.specs.Roles.{is_holdable_at, wait_at}
use Rattle.cqs_turns_report.proofs.Moved.{look-room}
use Rattle.cqs_turns_report.proofs.Readied.{after_looking-ready, look-held}
use Rattle.cqs_turns.proofs.acts.look.Goals as goal

pub be_served-requires-clause-held : goal.be_served-requires-clause-held
be_served-requires-clause-held g c =
    let place = c.args.actor.now.place in
    rw c.in-Granted.ensures.after
    (look-held _ c.args.actor.now.resources.now place (wait_at c.args.at c.args.round c.args.number)
    c.in-Granted.element c.requires.kinds c.requires.ready.job c.requires.ready.waits
    ∙ ap (λ held. with_place (is_holdable_at c.args.actor.now.resources.now c.args.at) held c.args.at)
    (sym c.requires.held))

pub be_served-requires-clause-ready : goal.be_served-requires-clause-ready
be_served-requires-clause-ready g c =
    rw c.in-Granted.ensures.after
    (after_looking-ready _ c.args.actor.now.place (wait_at c.args.at c.args.round c.args.number) c.in-Granted.element
    (drop c.args.next c.args.actor.now.job.now.steps) c.requires.ready)

pub be_served-requires-clause-room : goal.be_served-requires-clause-room
be_served-requires-clause-room g c =
    rw c.in-Granted.ensures.after
    (look-room c.args.actor.now.place _ c.in-Granted.element (take c.args.next c.args.actor.now.job.now.steps)
    (drop c.args.next c.args.actor.now.job.now.steps) c.requires.room)
