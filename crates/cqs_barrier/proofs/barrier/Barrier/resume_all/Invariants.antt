use Rattle.std.proofs.Common.{◌≤◌}
use Rattle.cqs_rule.specs.Passes.{pass_view}
use Rattle.cqs_barrier.specs.Calls.{IsMine}
use Rattle.cqs_barrier.specs.Resuming.{OwesMore}
use Rattle.cqs_barrier.proofs.ResumeSteps.{RanSo}
use Rattle.cqs_barrier.proofs.barrier.Barrier.resume_all.Given as goal

abbrev pub invariant-loop-left : goal.invariant-loop-left
invariant-loop-left g l = record {
  belongs : IsMine l.self l.pass;
  owes : OwesMore l.left (pass_view l.pass).facts;
  reached : (pass_view l.fn.pass).facts.reached ≤ (pass_view l.pass).facts.reached;
  ran : RanSo (pass_view l.fn.pass) (pass_view l.pass);
}

abbrev pub decreases-loop-left : goal.decreases-loop-left
decreases-loop-left g l = l.left
