use Rattle.std.proofs.Common.{◌≡◌, ◌≤◌, map, length, [], take, arith, sym, ◌∙◌}
use Rattle.std.specs.BTreeSet.{contains_text}
use Rattle.std.proofs.lemmas.List.{take_all, length-map, map-append}
use Rattle.std.proofs.lemmas.Result.{err_from_is_err_and}
use Rattle.toml.specs.View.{view}
use Rattle.cqs_plan_reader.specs.Faults.{is_named, job_faults, listed_job_faults}
use Rattle.cqs_plan_reader.specs.Reading.{StopsAt}
use Rattle.cqs_plan_reader.proofs.FirstFaults.{Turn, take-turn, stops-here, goes-on, ends}
use Rattle.cqs_plan_reader.proofs.MeaningLemmas.{job_faults-same, is_named-push}
use Rattle.cqs_plan_reader.proofs.reader.jobs.each_job.Goals as goal
use Rattle.cqs_plan_reader.proofs.reader.jobs.each_job.Goals.{After-job}

this_turn : (c : After-job)
    → Turn view (listed_job_faults c.args.version c.args.resources.now (map view c.args.values.now.items))
    c.args.values.now.items c.loop-index.index c.value-item.result
this_turn c = record {
  below = omega arith;
  is = rw (← c.deref-value-items.ensures.value) c.value-item.is;
  rest = c.loop-index.invariant.faults;
}

-- the set tells just which names stand, so the faults are those of the list
same_faults : (c : After-job)
    → job_faults c.args.version c.args.resources.now (contains_text c.loop-index.names) c.loop-index.index
    (view c.value-item.result)
    ≡ listed_job_faults c.args.version c.args.resources.now (map view c.args.values.now.items) c.loop-index.index
    (view c.value-item.result)
same_faults c =
    let before = take c.loop-index.index (map view c.args.values.now.items) in
    job_faults-same c.args.version c.args.resources.now (contains_text c.loop-index.names) (is_named before)
    c.loop-index.index (view c.value-item.result) c.loop-index.invariant.names

pub returns-in_err-read-clause-faults : goal.returns-in_err-read-clause-faults
returns-in_err-read-clause-faults c =
    let after = (goal.at.returns-in_err-read-clause-faults c).After-job in
    let faults = listed_job_faults c.args.version c.args.resources.now (map view c.args.values.now.items) in
    let stops : StopsAt (faults c.loop-index.index (view c.value-item.result)) c.in_err-read.field-0.0 =
    rw (← same_faults after) c.in_err-read.ensures.faults in
    let p = err_from_is_err_and c.from_residual-in_err-read.result c.from_residual-in_err-read.ensures.1 in
    rw (p.1, p.2) (stops-here (this_turn after) c.in_err-read.field-0.0 stops)

pub loop-index-preserved : goal.loop-index-preserved
loop-index-preserved c =
    let after = (goal.at.loop-index-preserved c).After-job in
    let now = this_turn after in
    let before = take c.loop-index.index (map view c.args.values.now.items) in
    let faults = listed_job_faults c.args.version c.args.resources.now (map view c.args.values.now.items) in
    let none : faults c.loop-index.index (view c.value-item.result) ≡ [] =
    sym (same_faults after) ∙ c.in_ok-read.ensures.faults in record {
      faults = goes-on now none;
      values =
          rw (c.in_ok-push.ensures.items, take-turn now, map-append)
          (rw (c.loop-index.invariant.values, c.in_ok-read.ensures.value));
      names = λ name.
          rw (take-turn now, is_named-push before (view c.value-item.result) name)
          (rw (← c.loop-index.invariant.names name)
          (c.in_ok-read.ensures.added name ∙ rw c.in_ok-read.ensures.value));
    }

pub returns-clause-faults : goal.returns-clause-faults
returns-clause-faults c =
    let faults = listed_job_faults c.args.version c.args.resources.now (map view c.args.values.now.items) in
    ends view faults c.args.values.now.items c.loop-index.index c.loop-index.invariant.faults (omega arith)

pub returns-clause-value : goal.returns-clause-value
returns-clause-value c =
    let all = map view c.args.values.now.items in
    let past : length all ≤ c.loop-index.index = rw length-map (omega arith) in
    rw (← take_all c.loop-index.index all past) c.loop-index.invariant.values
