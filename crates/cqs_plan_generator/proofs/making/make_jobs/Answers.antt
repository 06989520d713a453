use Rattle.std.proofs.Common.{◌∙◌, ap, rules, sym}
use Rattle.cqs_plan_generator.specs.Draws.{next_state}
use Rattle.cqs_plan_generator.proofs.Jobs.{after-three, jobs-more, next-job}
use Rattle.cqs_plan_generator.proofs.making.make_jobs.Goals as goal

pub loop-index-preserved : goal.loop-index-preserved
loop-index-preserved c =
    let number = c.args.number in
    let i = c.loop-index.index in
    let state = c.loop-index.invariant.state in
    let job = next-job number i in record {
      made = search (rules, jobs-more number i, job, state);
      state = c.make_job.ensures.draws ∙ ap (λ s. next_state (next_state (next_state s))) state
          ∙ sym (after-three number i);
    }
