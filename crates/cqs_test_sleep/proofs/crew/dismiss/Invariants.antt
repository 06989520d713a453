use Rattle.std.proofs.Common.{All}
use Rattle.std.specs.Vec.Iter.{into_iter_items}
use Rattle.cqs_semaphore.specs.Callers.{IsIdle}
use Rattle.cqs_test_sleep.proofs.crew.dismiss.Given as goal

-- the pass is idle, and each of those that are left
abbrev pub invariant-loop-given : goal.invariant-loop-given
invariant-loop-given l = record {
  idle : IsIdle l.semaphore l.pass;
  left : All (λ w. IsIdle l.semaphore w.0) (into_iter_items l.given-iterator);
}
