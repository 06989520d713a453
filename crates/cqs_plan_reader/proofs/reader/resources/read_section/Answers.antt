use Rattle.std.proofs.Common.{◌≡◌, ◌++◌, [], OnOk, sym, ap, rules, ◌∙◌}
use Rattle.std.proofs.lemmas.Iterator.Adapters.{YieldsList-from_vec, fact_from_extend}
use Rattle.std.proofs.lemmas.List.{map-id}
use Rattle.std.proofs.lemmas.Result.{err_from_is_err_and}
use Rattle.toml.specs.View.{table_view}
use Rattle.cqs_plan_reader.specs.Faults.{kind_faults}
use Rattle.cqs_plan_reader.specs.Reading.{StopsAt}
use Rattle.cqs_plan_reader.specs.Sections.{kind_of, names_of}
use Rattle.cqs_plan_reader.proofs.ReadSections.{joined, stops}
use Rattle.cqs_plan_reader.proofs.reader.resources.read_section.Goals as goal

pub returns-in_err-more-clause-err : goal.returns-in_err-more-clause-err
returns-in_err-more-clause-err c =
    let p = err_from_is_err_and c.from_residual.result c.from_residual.ensures.1 in
    let root = table_view c.args.root.now in
    let first : StopsAt (kind_faults (kind_of c.args.section) (names_of c.args.found.now.items) root)
    c.in_err-more.field-0.0 =
    search rules in
    rw (p.1, p.2) (stops c.args.section root c.args.found.now.items _ c.requires first)

pub returns-clause-ok : goal.returns-clause-ok
returns-clause-ok c =
    let root = table_view c.args.root.now in
    let more = c.in_ok-more.more.items in
    let grown : OnOk c.extend.result (c.extend.new.self.items ≡ c.args.found.now.items ++ more) =
    fact_from_extend (λ x. x) c.extend.result c.extend.ensures.ran
    (λ it b. YieldsList-from_vec {s = it} _ b.0 (b.1 ∙ c.in_ok-more.more.ok.0))
    (λ xs e h. h.0 ∙ ap (λ items. c.args.found.now.items ++ items) (sym (map-id xs) ∙ e)) in
    let now : c.extend.new.self.items ≡ c.args.found.now.items ++ more = search rules in
    let none : kind_faults (kind_of c.args.section) (names_of c.args.found.now.items) root ≡ [] = search rules in
    rw now
    (joined c.args.section root c.args.found.now.items more c.requires none (search rules) (search rules))
