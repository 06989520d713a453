use Rattle.std.proofs.Common.{get_or}
use Rattle.cqs_work.specs.Desk.{Desk}
use Rattle.cqs_work.specs.Hands.{at_hand}
use Rattle.cqs_work.proofs.Acting.{on-ok-both}
use Rattle.cqs_work.proofs.Turning.{Acting, acting-at, has-turn, its-held, one-job-heard, one-job-runs, one-job-went}
use Rattle.cqs_work.proofs.turns.one_job.Goals as goal

pub act-requires-clause-held : goal.act-requires-clause-held
act-requires-clause-held g c =
    let actor = c.actor_at-actor.ensures in
    let f : Desk = at_hand g.F.SharedFloor.shared g.G.Gate.begun g.G.Gate.ended c.args.clerk.now in
    its-held c.args.plan.now c.actor_at-actor.result f c.args.states.now
    (get_or c.args.states.now c.args.place c.index-states-place.result)
    (acting-at c.args.plan.now c.actor_at-actor.result f.floor c.args.states.now c.args.place
    c.index-states-place.result
    actor.resources actor.place actor.job c.requires.runnable c.requires.runs c.requires.place)

pub act-requires-clause-turn : goal.act-requires-clause-turn
act-requires-clause-turn g c =
    let actor = c.actor_at-actor.ensures in
    let f : Desk = at_hand g.F.SharedFloor.shared g.G.Gate.begun g.G.Gate.ended c.args.clerk.now in
    has-turn c.args.plan.now c.actor_at-actor.result f c.args.states.now
    (get_or c.args.states.now c.args.place c.index-states-place.result)
    (acting-at c.args.plan.now c.actor_at-actor.result f.floor c.args.states.now c.args.place
    c.index-states-place.result
    actor.resources actor.place actor.job c.requires.runnable c.requires.runs c.requires.place)
    (rw actor.turn c.requires.turn)

pub returns-clause-heard : goal.returns-clause-heard
returns-clause-heard g c =
    let actor = c.actor_at-actor.ensures in
    let f : Desk = at_hand g.F.SharedFloor.shared g.G.Gate.begun g.G.Gate.ended c.args.clerk.now in
    let acting : Acting c.args.plan.now c.actor_at-actor.result f.floor c.args.states.now
    (get_or c.args.states.now c.args.place c.index-states-place.result)
    = acting-at c.args.plan.now c.actor_at-actor.result f.floor c.args.states.now c.args.place
    c.index-states-place.result
    actor.resources actor.place actor.job c.requires.runnable c.requires.runs c.requires.place in
    on-ok-both c.act.result
    (λ acts held. one-job-heard c.args.plan.now c.actor_at-actor.result f c.args.states.now
    (get_or c.args.states.now c.args.place c.index-states-place.result) acting
    (at_hand g.F.SharedFloor.shared g.G.Gate.begun g.G.Gate.ended c.act.new.clerk) c.act.new.state acts held
    c.args.turn c.args.place actor.turn actor.place)
    c.act.ensures.did c.act.ensures.held

pub returns-clause-runs : goal.returns-clause-runs
returns-clause-runs g c =
    let actor = c.actor_at-actor.ensures in
    let f : Desk = at_hand g.F.SharedFloor.shared g.G.Gate.begun g.G.Gate.ended c.args.clerk.now in
    let acting : Acting c.args.plan.now c.actor_at-actor.result f.floor c.args.states.now
    (get_or c.args.states.now c.args.place c.index-states-place.result)
    = acting-at c.args.plan.now c.actor_at-actor.result f.floor c.args.states.now c.args.place
    c.index-states-place.result
    actor.resources actor.place actor.job c.requires.runnable c.requires.runs c.requires.place in
    on-ok-both c.act.result
    (λ acts held. one-job-runs c.args.plan.now c.actor_at-actor.result f c.args.states.now
    (get_or c.args.states.now c.args.place c.index-states-place.result) acting
    (at_hand g.F.SharedFloor.shared g.G.Gate.begun g.G.Gate.ended c.act.new.clerk) c.act.new.state acts held
    c.args.turn c.args.place actor.turn actor.place)
    c.act.ensures.did c.act.ensures.held

pub returns-clause-went : goal.returns-clause-went
returns-clause-went g c =
    let actor = c.actor_at-actor.ensures in
    let f : Desk = at_hand g.F.SharedFloor.shared g.G.Gate.begun g.G.Gate.ended c.args.clerk.now in
    let acting : Acting c.args.plan.now c.actor_at-actor.result f.floor c.args.states.now
    (get_or c.args.states.now c.args.place c.index-states-place.result)
    = acting-at c.args.plan.now c.actor_at-actor.result f.floor c.args.states.now c.args.place
    c.index-states-place.result
    actor.resources actor.place actor.job c.requires.runnable c.requires.runs c.requires.place in
    on-ok-both c.act.result
    (λ acts held. one-job-went c.args.plan.now c.actor_at-actor.result f c.args.states.now
    (get_or c.args.states.now c.args.place c.index-states-place.result) acting
    (at_hand g.F.SharedFloor.shared g.G.Gate.begun g.G.Gate.ended c.act.new.clerk) c.act.new.state acts held
    c.args.turn c.args.place actor.turn actor.place)
    c.act.ensures.did c.act.ensures.held
