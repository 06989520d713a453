use Rattle.std.proofs.Common.{◌≡◌, ◌+◌, ◌≤◌, ◌<◌, length, sym, ◌∙◌, rules, arith}
use Rattle.std.specs.List.{list_any}
use Rattle.std.specs.Str.{bytes_eq}
use Rattle.std.proofs.lemmas.Bool.{leb-true, leb-false}
use Rattle.std.proofs.lemmas.List.{length-map}
use Rattle.toml.specs.View.{table_view}
use Rattle.cqs_plan.specs.declared.plans.resource.Resource.{Resource}
use Rattle.cqs_plan_reader.specs.Sections.{kind_of, names_of}
use Rattle.cqs_plan_reader.proofs.SectionFaults.{any-name, stands, too-many, numbers}
use Rattle.cqs_plan_reader.proofs.reader.resources.tabled.Goals as goal
use Rattle.cqs_plan_reader.proofs.reader.resources.tabled.Goals.{After-is_taken}

-- whether the name stands already
taken : (c : After-is_taken) → c.is_taken.result ≡ list_any (bytes_eq c.args.name.now) (names_of c.args.earlier.now)
taken c = c.is_taken.ensures ∙ any-name c.args.name.now c.args.earlier.now

-- as many names as resources
named : (c : After-is_taken) → length (names_of c.args.earlier.now) ≡ length c.args.earlier.now
named c = length-map c.args.earlier.now (λ (r : Resource). r.name)

pub returns-then-is_taken-clause-faults : goal.returns-then-is_taken-clause-faults
returns-then-is_taken-clause-faults c =
    let after = (goal.at.returns-then-is_taken-clause-faults c).After-is_taken in
    stands (kind_of c.args.section) (names_of c.args.earlier.now) c.args.index c.args.name.now
    (table_view c.args.table.now) _ (sym (taken after) ∙ c.if-is_taken.true) (search rules)

pub returns-then-is_full-clause-faults : goal.returns-then-is_full-clause-faults
returns-then-is_full-clause-faults c =
    let after = (goal.at.returns-then-is_full-clause-faults c).After-is_taken in
    let over : 64 ≤ length (names_of c.args.earlier.now) + c.args.index =
    omega (arith, named after, leb-true 64 _ (sym c.is_full.ensures ∙ c.if-is_full.true)) in
    too-many (kind_of c.args.section) (names_of c.args.earlier.now) c.args.index c.args.name.now
    (table_view c.args.table.now) _ (sym (taken after) ∙ c.if-is_taken.false) over (search rules)

pub returns-clause-faults : goal.returns-clause-faults
returns-clause-faults c =
    let after = (goal.at.returns-clause-faults c).After-is_taken in
    let few : length (names_of c.args.earlier.now) + c.args.index < 64 =
    omega (arith, named after, leb-false 64 _ (sym c.is_full.ensures ∙ c.if-is_full.false)) in
    rw (numbers (kind_of c.args.section) (names_of c.args.earlier.now) c.args.index c.args.name.now
    (table_view c.args.table.now) (sym (taken after) ∙ c.if-is_taken.false) few)
    c.numbered.ensures.faults
