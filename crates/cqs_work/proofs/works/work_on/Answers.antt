use Rattle.cqs_work.proofs.Closing.{worked-ok}
use Rattle.cqs_work.proofs.works.work_on.Goals as goal

pub returns : goal.returns
returns g c =
    worked-ok c.close_jobs.result c.args.plan.now _ _ _ c.args.states.now c.all_turns.new.states c.close_jobs.new.states
    c.in_ok-all_turns.ensures.heard c.in_ok-all_turns.ensures.runs c.in_ok-all_turns.ensures.went
    c.close_jobs.ensures.heard c.close_jobs.ensures.keeps c.close_jobs.ensures.clear c.close_jobs.ensures.stages
