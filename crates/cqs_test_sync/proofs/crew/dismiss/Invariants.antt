use Rattle.std.proofs.Common.{All}
use Rattle.std.specs.Vec.Iter.{into_iter_items}
use Rattle.cqs_sync_semaphore.specs.Callers.{IsAtRest}
use Rattle.cqs_test_sync.proofs.crew.dismiss.Given as goal

-- the passes that are left hold nothing, too
abbrev pub invariant-loop-given : goal.invariant-loop-given
invariant-loop-given l = record {
  rest : IsAtRest l.semaphore 0 l.pass;
  left : All (λ one. IsAtRest l.semaphore 0 one.0) (into_iter_items l.given-iterator);
}
