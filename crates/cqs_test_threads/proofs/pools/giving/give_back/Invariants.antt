use Rattle.cqs_pool_values.specs.Items.{number_of}
use Rattle.cqs_test_threads.specs.Workers.{HasInHand}
use Rattle.cqs_test_threads.proofs.pools.giving.give_back.Given as goal

-- between two tries the pass has the item in hand
abbrev pub invariant-loop : goal.invariant-loop
invariant-loop g l = record { has : HasInHand l.pool (number_of l.item) l.pass }
