use Rattle.std.proofs.Common.{◌≡◌, codes, true, [], Some, rules}
use Rattle.std.specs.BTreeSet.{contains_text}
use Rattle.std.proofs.lemmas.Result.{err_from_is_err_and}
use Rattle.toml.specs.Data.{as_table, get_member}
use Rattle.toml.specs.View.{table_view, view}
use Rattle.cqs_plan_reader.specs.FaultRules.{has_only, optional, require}
use Rattle.cqs_plan_reader.specs.Faults.{job_keys, name_faults, number_faults, patience_faults}
use Rattle.cqs_plan_reader.specs.Places.{part_place}
use Rattle.cqs_plan_reader.specs.Reading.{StopsAt}
use Rattle.cqs_plan_reader.proofs.PatienceFaults.{stops-in-patience}
use Rattle.cqs_plan_reader.proofs.reader.jobs.job.Goals as goal

pub returns-in_err-within-clause-faults : goal.returns-in_err-within-clause-faults
returns-in_err-within-clause-faults c =
    let p = err_from_is_err_and c.from_residual-in_err-within.result c.from_residual-in_err-within.ensures.1 in
    let job = table_view c.in-Some.table.now in
    let stands = contains_text c.args.names.now in
    let named = part_place c.args.index (codes "name") in
    let due = part_place c.args.index (codes "deadline") in
    let is : as_table (view c.args.value.now) ≡ Some job = search rules in
    let only : has_only (job_keys c.args.version) job ≡ true = search rules in
    let name : require named (get_member (codes "name") job) (name_faults named stands) ≡ [] = search rules in
    let deadline : optional (get_member (codes "deadline") job) (number_faults due 0 40000) ≡ [] = search rules in
    let first : StopsAt (patience_faults c.args.version c.args.index job) c.in_err-within.field-0.0 = search rules in
    rw (p.1, p.2)
    (stops-in-patience c.args.version c.args.resources.now stands c.args.index (view c.args.value.now) job _ is only
    name deadline first)
