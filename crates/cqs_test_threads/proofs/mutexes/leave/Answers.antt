use Rattle.std.proofs.Common.{◌<◌, subst, sym}
use Rattle.cqs_test_threads.proofs.Ends.{crowded-held}
use Rattle.cqs_test_threads.proofs.mutexes.leave.Goals as goal

-- an unlock that was refused changed nothing of what the pass holds
pub loop-preserved : goal.loop-preserved
loop-preserved g c = record {
  belongs = c.unlock.ensures.belongs;
  ready = c.in-Err.ensures.ready;
  holds = subst (λ n. 0 < n) (sym (crowded-held _ _ _ c.in-Err.ensures.crowded)) c.loop.invariant.holds;
}
