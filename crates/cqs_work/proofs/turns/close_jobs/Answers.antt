use Rattle.std.proofs.Common.{◌<◌, length, get_or, ap, arith, refl}
use Rattle.cqs_work.specs.Desk.{Desk}
use Rattle.cqs_work.specs.Hands.{at_hand}
use Rattle.cqs_work.proofs.Closing.{closing-starts, close-held, close-stands, closes-next}
use Rattle.cqs_work.proofs.turns.close_jobs.Goals as goal

pub loop-place-init : goal.loop-place-init
loop-place-init g c = closing-starts c.args.plan.now _ c.args.states.now c.requires.runs

pub close_job-requires-clause-held : goal.close_job-requires-clause-held
close_job-requires-clause-held g c =
    let below : c.loop-place.place < length c.args.plan.now.jobs
    = omega (arith, c.loop-place-test.true, ap length c.as_slice-place-end.ensures) in
    let f : Desk = at_hand g.F.SharedFloor.shared g.G.Gate.begun g.G.Gate.ended c.args.clerk.now in
    close-held c.args.plan.now c.loop-place.place f
    (at_hand g.F.SharedFloor.shared g.G.Gate.begun g.G.Gate.ended c.loop-place.clerk) f c.args.states.now
    c.loop-place.states (get_or c.loop-place.states c.loop-place.place c.index-states-place.result)
    c.index-states-place.result c.index-states-place.result c.actor_at-actor.result c.loop-place.invariant below refl
    c.actor_at-actor.ensures.place

pub close_job-requires-clause-stands : goal.close_job-requires-clause-stands
close_job-requires-clause-stands g c =
    let below : c.loop-place.place < length c.args.plan.now.jobs
    = omega (arith, c.loop-place-test.true, ap length c.as_slice-place-end.ensures) in
    let f : Desk = at_hand g.F.SharedFloor.shared g.G.Gate.begun g.G.Gate.ended c.args.clerk.now in
    close-stands c.args.plan.now c.loop-place.place f
    (at_hand g.F.SharedFloor.shared g.G.Gate.begun g.G.Gate.ended c.loop-place.clerk) f
    c.args.states.now c.loop-place.states (get_or c.loop-place.states c.loop-place.place c.index-states-place.result)
    c.index-states-place.result c.index-states-place.result c.actor_at-actor.result c.loop-place.invariant below refl
    c.actor_at-actor.ensures.place c.actor_at-actor.ensures.resources

pub loop-place-preserved : goal.loop-place-preserved
loop-place-preserved g c =
    let below : c.loop-place.place < length c.args.plan.now.jobs
    = omega (arith, c.loop-place-test.true, ap length c.as_slice-place-end.ensures) in
    let f : Desk = at_hand g.F.SharedFloor.shared g.G.Gate.begun g.G.Gate.ended c.args.clerk.now in
    closes-next c.args.plan.now c.loop-place.place f
    (at_hand g.F.SharedFloor.shared g.G.Gate.begun g.G.Gate.ended c.loop-place.clerk)
    (at_hand g.F.SharedFloor.shared g.G.Gate.begun g.G.Gate.ended c.close_job.new.clerk) c.args.states.now
    c.loop-place.states
    (get_or c.loop-place.states c.loop-place.place c.index-states-place.result) c.close_job.new.state
    c.index-states-place.result c.actor_at-actor.result c.loop-place.invariant below refl
    c.actor_at-actor.ensures.resources c.actor_at-actor.ensures.turn c.actor_at-actor.ensures.place
    c.actor_at-actor.ensures.job c.in_ok-close_job.ensures.did c.in_ok-close_job.ensures.clear
    c.in_ok-close_job.ensures.held c.in_ok-close_job.ensures.stage
