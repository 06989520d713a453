use Rattle.cqs_test_semaphore.specs.Callers.{Stands}
use Rattle.cqs_test_semaphore.proofs.run_file.Given as goal

-- between two lines the caller stands
abbrev pub invariant-loop-line : goal.invariant-loop-line
invariant-loop-line g l =
    (goal.iterator-loop-line g).can_next l.line-iterator
    × (goal.iterator-loop-line g).is_finite l.line-iterator
    × Stands l.caller
