use Rattle.cqs_test_threads.specs.Workers.{IsAtRest}
use Rattle.cqs_test_threads.proofs.pools.worker.work.Given as goal

-- between two rounds the passes are at rest
abbrev pub invariant-loop-round : goal.invariant-loop-round
invariant-loop-round g l = record {
  first : IsAtRest l.pool l.first;
  second : IsAtRest l.pool l.second;
  third : IsAtRest l.pool l.third;
}
