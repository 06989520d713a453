use Rattle.std.proofs.Common.{◌≡◌, false, sym, ap}
use Rattle.std.proofs.lemmas.Bool.{ne_eqb}
use Rattle.toml.specs.View.{table_view}
use Rattle.cqs_plan_reader.specs.Faults.{has_patience}
use Rattle.cqs_plan_reader.specs.Meaning.{given_number, number_in}
use Rattle.cqs_plan_reader.proofs.ValidPatience.{neither}
use Rattle.cqs_plan_reader.proofs.reader.patience.patience.Goals as goal

pub returns-then-version-ne2-clause-within : goal.returns-then-version-ne2-clause-within
returns-then-version-ne2-clause-within c =
    let old : has_patience c.args.version ≡ false = ne_eqb c.args.version 2 c.if-version-ne2.true in
    sym (ap given_number (neither c.args.version (table_view c.args.table.now) old c.requires).0)

pub returns-then-version-ne2-clause-retry : goal.returns-then-version-ne2-clause-retry
returns-then-version-ne2-clause-retry c =
    let old : has_patience c.args.version ≡ false = ne_eqb c.args.version 2 c.if-version-ne2.true in
    sym (ap number_in (neither c.args.version (table_view c.args.table.now) old c.requires).1)
