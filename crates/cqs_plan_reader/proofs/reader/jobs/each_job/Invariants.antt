use Rattle.std.proofs.Common.{◌≡◌, ℕ, List, drop, map, take}
use Rattle.std.specs.BTreeSet.{contains_text}
use Rattle.toml.specs.View.{view}
use Rattle.cqs_plan_reader.specs.Faults.{is_named, listed_job_faults}
use Rattle.cqs_plan_reader.specs.Meaning.{job_in}
use Rattle.cqs_plan_reader.proofs.FirstFaults.{faults_from}
use Rattle.cqs_plan_reader.proofs.reader.jobs.each_job.Given as goal

abbrev pub invariant-loop-index : goal.invariant-loop-index
invariant-loop-index l =
    let all = map view l.values.items in record {
      faults : faults_from (listed_job_faults l.version l.resources all) 0 all
          ≡ faults_from (listed_job_faults l.version l.resources all) l.index (drop l.index all);
      values : l.jobs.items ≡ map (job_in l.resources) (take l.index all);
      names : (name : List ℕ) → contains_text l.names name ≡ is_named (take l.index all) name;
    }
