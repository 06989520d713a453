use Rattle.std.proofs.Common.{rules}
use Rattle.toml.specs.View.{table_view, view}
use Rattle.cqs_plan_reader.specs.Sections.{kind_of, names_of}
use Rattle.cqs_plan_reader.proofs.SectionFaults.{IsTable, after-keys}
use Rattle.cqs_plan_reader.proofs.reader.resources.resource.Goals as goal

pub returns-clause-faults : goal.returns-clause-faults
returns-clause-faults c =
    let table = table_view c.in-Some.table.now in
    let has : IsTable (kind_of c.args.section) c.args.name.now (view c.args.value.now) table = record {
      named = search rules;
      is = search rules;
      only = search rules;
    } in
    rw (after-keys (kind_of c.args.section) (names_of c.args.earlier.now) c.args.index c.args.name.now
    (view c.args.value.now) table has)
    c.tabled.ensures.faults
