use Rattle.std.proofs.Common.{◌≡◌, codes, rules, ◌∙◌}
use Rattle.std.proofs.lemmas.Result.{err_from_is_err_and}
use Rattle.toml.specs.Data.{get_member}
use Rattle.toml.specs.View.{table_view}
use Rattle.cqs_plan_reader.specs.Faults.{arriving_jobs_faults}
use Rattle.cqs_plan_reader.specs.Meaning.{number_in, version_in}
use Rattle.cqs_plan_reader.specs.Reading.{StopsAt}
use Rattle.cqs_plan_reader.proofs.WholePlans.{AreFaultless, no-fault, plan-is, stops-in-jobs}
use Rattle.cqs_plan_reader.proofs.reader.plan_from.Goals as goal

pub returns-in_err-jobs-clause-faults : goal.returns-in_err-jobs-clause-faults
returns-in_err-jobs-clause-faults c =
    let p = err_from_is_err_and c.from_residual-in_err-jobs.result c.from_residual-in_err-jobs.ensures.1 in
    let root = table_view c.args.root.now in
    let none : AreFaultless root = record {
      keys = search rules;
      version = search rules;
      turns = search rules;
    } in
    let version : c.in_ok-version.version ≡ version_in root = search rules in
    let found = c.in_ok-resources.resources.items in
    let first : StopsAt (arriving_jobs_faults (version_in root) found (get_member (codes "job") root))
    c.in_err-jobs.field-0.0 =
    rw (← version, ← c.as_slice.ensures.value) c.in_err-jobs.ensures.faults in
    rw (p.1, p.2) (stops-in-jobs root found _ none c.in_ok-resources.ensures.read first)

pub returns-clause-faults : goal.returns-clause-faults
returns-clause-faults c =
    let root = table_view c.args.root.now in
    let none : AreFaultless root = record {
      keys = search rules;
      version = search rules;
      turns = search rules;
    } in
    let version : c.in_ok-version.version ≡ version_in root = search rules in
    no-fault root c.in_ok-resources.resources.items none c.in_ok-resources.ensures.read
    (rw (← version, ← c.as_slice.ensures.value) c.in_ok-jobs.ensures.faults)

pub returns-clause-value : goal.returns-clause-value
returns-clause-value c =
    let root = table_view c.args.root.now in
    let version : c.in_ok-version.version ≡ version_in root = search rules in
    let turns : c.in_ok-turns.turns ≡ number_in (get_member (codes "turns") root) = search rules in
    plan-is root _ version turns (c.from.ensures ∙ c.in_ok-resources.ensures.read.says)
    (c.from-2.ensures ∙ rw (c.from.ensures, ← c.as_slice.ensures.value) c.in_ok-jobs.ensures.value)
