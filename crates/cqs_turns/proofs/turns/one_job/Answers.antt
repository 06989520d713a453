use Rattle.std.proofs.Common.{get_or}
use Rattle.std.proofs.lemmas.Result.{on_ok_weaker}
use Rattle.cqs_turns_report.specs.Roles.{role}
use Rattle.cqs_turns_report.proofs.Growth.{on-ok-both}
use Rattle.cqs_turns.proofs.Jobs.{Acting, acting-again, acting-at, acting-set, acting-room, one-job-ok, one-job-running, one-job-kept, on-ok-pair}
use Rattle.cqs_turns.proofs.turns.one_job.Goals as goal

pub act-requires-clause-ready : goal.act-requires-clause-ready
act-requires-clause-ready g c =
    let actor = c.actor_at-actor.ensures in
    let acting : Acting c.args.plan.now (role c.actor_at-actor.result)
    (g.F.Floor.plain c.args.floor.now) c.args.report.now
    c.args.states.now (get_or c.args.states.now c.args.place c.index-states-place-2.result)
    = acting-at _ _ _ _ _ _ c.index-states-place-2.result actor.resources actor.place actor.job
    c.requires.runnable c.requires.running c.requires.kept c.requires.place in
    acting-set _ _ _ _ _ _ acting

pub act-requires-clause-room : goal.act-requires-clause-room
act-requires-clause-room g c =
    let actor = c.actor_at-actor.ensures in
    let acting : Acting c.args.plan.now (role c.actor_at-actor.result)
    (g.F.Floor.plain c.args.floor.now) c.args.report.now
    c.args.states.now (get_or c.args.states.now c.args.place c.index-states-place-2.result)
    = acting-at _ _ _ _ _ _ c.index-states-place-2.result actor.resources actor.place actor.job
    c.requires.runnable c.requires.running c.requires.kept c.requires.place in
    acting-room _ _ _ _ _ _ acting

pub act-requires-clause-again : goal.act-requires-clause-again
act-requires-clause-again g c =
    let actor = c.actor_at-actor.ensures in
    let acting : Acting c.args.plan.now (role c.actor_at-actor.result)
    (g.F.Floor.plain c.args.floor.now) c.args.report.now
    c.args.states.now (get_or c.args.states.now c.args.place c.index-states-place-2.result)
    = acting-at _ _ _ _ _ _ c.index-states-place-2.result actor.resources actor.place actor.job
    c.requires.runnable c.requires.running c.requires.kept c.requires.place in
    acting-again _ _ _ _ _ _ acting

pub returns-clause-ok : goal.returns-clause-ok
returns-clause-ok g c =
    let actor = c.actor_at-actor.ensures in
    let acting : Acting c.args.plan.now (role c.actor_at-actor.result)
    (g.F.Floor.plain c.args.floor.now) c.args.report.now
    c.args.states.now (get_or c.args.states.now c.args.place c.index-states-place-2.result)
    = acting-at _ _ _ _ _ _ c.index-states-place-2.result actor.resources actor.place actor.job
    c.requires.runnable c.requires.running c.requires.kept c.requires.place in
    on_ok_weaker c.act.result
    (one-job-ok _ _ _ _ _ _ acting c.args.turn c.args.place actor.turn actor.place _ _ c.act.new.state)
    (on-ok-pair _ _ c.act.result c.act.ensures.comes.ok c.act.ensures.patience)

pub returns-clause-running : goal.returns-clause-running
returns-clause-running g c =
    let actor = c.actor_at-actor.ensures in
    let acting : Acting c.args.plan.now (role c.actor_at-actor.result)
    (g.F.Floor.plain c.args.floor.now) c.args.report.now
    c.args.states.now (get_or c.args.states.now c.args.place c.index-states-place-2.result)
    = acting-at _ _ _ _ _ _ c.index-states-place-2.result actor.resources actor.place actor.job
    c.requires.runnable c.requires.running c.requires.kept c.requires.place in
    on_ok_weaker c.act.result
    (one-job-running _ _ _ _ _ _ acting c.args.turn c.args.place actor.turn actor.place _ _ c.act.new.state)
    (on-ok-pair _ _ c.act.result c.act.ensures.comes.ok c.act.ensures.patience)

pub returns-clause-kept : goal.returns-clause-kept
returns-clause-kept g c =
    let actor = c.actor_at-actor.ensures in
    let acting : Acting c.args.plan.now (role c.actor_at-actor.result)
    (g.F.Floor.plain c.args.floor.now) c.args.report.now
    c.args.states.now (get_or c.args.states.now c.args.place c.index-states-place-2.result)
    = acting-at _ _ _ _ _ _ c.index-states-place-2.result actor.resources actor.place actor.job
    c.requires.runnable c.requires.running c.requires.kept c.requires.place in
    on-ok-both c.act.result
    (one-job-kept _ _ _ _ _ _ acting c.args.turn c.args.place actor.turn actor.place _ _ c.act.new.state)
    (on-ok-pair _ _ c.act.result c.act.ensures.comes.ok c.act.ensures.patience) c.act.ensures.held
