use Rattle.std.proofs.Common.{◌≤◌, ◌<◌, length, map, arith}
use Rattle.std.proofs.lemmas.Bool.{le-leb}
use Rattle.std.proofs.lemmas.List.{length-map}
use Rattle.toml.specs.View.{view}
use Rattle.cqs_plan_reader.proofs.DataLists.{items_list-view}
use Rattle.cqs_plan_reader.proofs.FirstFaults.{stops-over}
use Rattle.cqs_plan_reader.proofs.reader.steps.listed_steps.Goals as goal

pub returns-then-len-gt64-clause-faults : goal.returns-then-len-gt64-clause-faults
returns-then-len-gt64-clause-faults c =
    let many : 64 < length (map view c.args.values.now.items) = rw length-map (omega arith) in
    rw (items_list-view c.args.values.now.items) (stops-over _ 64 _ _ _ many c.fault.ensures)

pub returns-clause-faults : goal.returns-clause-faults
returns-clause-faults c =
    let few : length (map view c.args.values.now.items) ≤ 64 = rw length-map (omega arith) in
    let passed = le-leb (length (map view c.args.values.now.items)) 64 few in
    rw (items_list-view c.args.values.now.items, passed) c.each_step.ensures.faults

pub returns-clause-value : goal.returns-clause-value
returns-clause-value c = rw (items_list-view c.args.values.now.items) c.each_step.ensures.value
