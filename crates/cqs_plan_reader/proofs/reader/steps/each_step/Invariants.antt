use Rattle.std.proofs.Common.{◌≡◌, codes, drop, map, take}
use Rattle.toml.specs.View.{view}
use Rattle.cqs_plan_reader.specs.Faults.{job_step_faults}
use Rattle.cqs_plan_reader.specs.Places.{part_place}
use Rattle.cqs_plan_reader.specs.Meaning.{steps_in}
use Rattle.cqs_plan_reader.proofs.FirstFaults.{faults_from}
use Rattle.cqs_plan_reader.proofs.reader.steps.each_step.Given as goal

abbrev pub invariant-loop-index : goal.invariant-loop-index
invariant-loop-index l =
    let place = part_place l.job (codes "steps") in
    let all = map view l.values.items in record {
      faults : faults_from (job_step_faults place l.resources all) 0 all
          ≡ faults_from (job_step_faults place l.resources all) l.index (drop l.index all);
      values : l.steps.items ≡ steps_in l.resources (take l.index all);
    }
