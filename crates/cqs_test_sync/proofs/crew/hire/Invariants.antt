use Rattle.std.proofs.Common.{All}
use Rattle.cqs_sync_semaphore.specs.Callers.{IsAtRest}
use Rattle.cqs_test_sync.proofs.crew.hire.Given as goal

-- the passes that were made so far hold nothing
abbrev pub invariant-loop : goal.invariant-loop
invariant-loop l = record {
  rest : IsAtRest l.semaphore 0 l.pass;
  hired : All (IsAtRest l.semaphore 0) l.passes.items;
}
