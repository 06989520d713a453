use Rattle.std.proofs.Common.{◌≡◌, ◌≤◌, ℕ, List, codes, map, length, [], take, arith, sym}
use Rattle.std.proofs.lemmas.List.{take_all, length-map}
use Rattle.std.proofs.lemmas.Result.{err_from_is_err_and}
use Rattle.toml.specs.Data.{Data}
use Rattle.toml.specs.View.{view}
use Rattle.cqs_plan.specs.declared.plans.resource.Resource.{Resource}
use Rattle.cqs_plan_reader.specs.FaultRules.{Fault}
use Rattle.cqs_plan_reader.specs.Faults.{job_step_faults}
use Rattle.cqs_plan_reader.specs.Places.{part_place}
use Rattle.cqs_plan_reader.specs.Reading.{StopsAt}
use Rattle.cqs_plan_reader.proofs.FirstFaults.{Turn, take-turn, stops-here, goes-on, ends}
use Rattle.cqs_plan_reader.proofs.MeaningLemmas.{steps_in-push}
use Rattle.cqs_plan_reader.proofs.reader.steps.each_step.Goals as goal
use Rattle.cqs_plan_reader.proofs.reader.steps.each_step.Goals.{After-step}

-- the faults of the steps of a job
abbrev faults_of : ℕ → List Resource → List Data → ℕ → Data → List Fault
faults_of job resources values = job_step_faults (part_place job (codes "steps")) resources values

this_turn : (c : After-step)
    → Turn view (faults_of c.args.job c.args.resources.now (map view c.args.values.now.items))
    c.args.values.now.items c.loop-index.index c.value-item.result
this_turn c = record {
  below = omega arith;
  is = rw (← c.deref-value-items.ensures.value) c.value-item.is;
  rest = c.loop-index.invariant.faults;
}

pub returns-in_err-read-clause-faults : goal.returns-in_err-read-clause-faults
returns-in_err-read-clause-faults c =
    let now = this_turn (goal.at.returns-in_err-read-clause-faults c).After-step in
    let faults = faults_of c.args.job c.args.resources.now (map view c.args.values.now.items) in
    let stops : StopsAt (faults c.loop-index.index (view c.value-item.result)) c.in_err-read.field-0.0 =
    rw (← c.loop-index.invariant.values, ← c.as_slice.ensures.value) c.in_err-read.ensures.faults in
    let p = err_from_is_err_and c.from_residual-in_err-read.result c.from_residual-in_err-read.ensures.1 in
    rw (p.1, p.2) (stops-here now c.in_err-read.field-0.0 stops)

pub loop-index-preserved : goal.loop-index-preserved
loop-index-preserved c =
    let now = this_turn (goal.at.loop-index-preserved c).After-step in
    let all = map view c.args.values.now.items in
    let faults = faults_of c.args.job c.args.resources.now all in
    let none : faults c.loop-index.index (view c.value-item.result) ≡ [] =
    rw (← c.loop-index.invariant.values, ← c.as_slice.ensures.value) c.in_ok-read.ensures.faults in
    let more =
    steps_in-push c.args.resources.now (take c.loop-index.index all) (view c.value-item.result)
    c.in_ok-read.read c.in_ok-read.ensures.value in record {
      faults = goes-on now none;
      values = rw (c.in_ok-push.ensures.items, take-turn now, c.loop-index.invariant.values) (sym more);
    }

pub returns-clause-faults : goal.returns-clause-faults
returns-clause-faults c =
    let faults = faults_of c.args.job c.args.resources.now (map view c.args.values.now.items) in
    ends view faults c.args.values.now.items c.loop-index.index c.loop-index.invariant.faults (omega arith)

pub returns-clause-value : goal.returns-clause-value
returns-clause-value c =
    let all = map view c.args.values.now.items in
    let past : length all ≤ c.loop-index.index = rw length-map (omega arith) in
    rw (← take_all c.loop-index.index all past) c.loop-index.invariant.values
