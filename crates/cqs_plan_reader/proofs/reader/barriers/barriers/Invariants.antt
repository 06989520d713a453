use Rattle.std.proofs.Common.{◌≡◌, drop}
use Rattle.cqs_plan_reader.specs.Faults.{barrier_faults}
use Rattle.cqs_plan_reader.proofs.FirstFaults.{faults_from}
use Rattle.cqs_plan_reader.proofs.reader.barriers.barriers.Given as goal

abbrev pub invariant-loop-at : goal.invariant-loop-at
invariant-loop-at l =
    faults_from (barrier_faults l.jobs) 0 l.resources
    ≡ faults_from (barrier_faults l.jobs) l.at (drop l.at l.resources)
