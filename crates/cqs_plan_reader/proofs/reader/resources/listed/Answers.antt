use Rattle.std.proofs.Common.{◌≡◌, map, sym, rules, vec_len, string_bytes, append-nil}
use Rattle.std.specs.Map.Iter.{deref_pair}
use Rattle.std.proofs.lemmas.Map.Iter.{rest_all, rest_more}
use Rattle.std.proofs.lemmas.Result.{err_from_is_err_and}
use Rattle.toml.specs.View.{view}
use Rattle.cqs_plan_reader.specs.Faults.{resource_faults}
use Rattle.cqs_plan_reader.specs.Meaning.{resource_in}
use Rattle.cqs_plan_reader.specs.Reading.{StopsAt}
use Rattle.cqs_plan_reader.specs.Sections.{kind_of, names_of}
use Rattle.cqs_plan_reader.proofs.DataLists.{entry_view, members_list-view, names_ascend}
use Rattle.cqs_plan_reader.proofs.FirstFaults.{StopsAt-append}
use Rattle.cqs_plan_reader.proofs.reader.resources.listed.Goals as goal

pub returns-in_err-resource-clause-faults : goal.returns-in_err-resource-clause-faults
returns-in_err-resource-clause-faults c =
    let p = err_from_is_err_and c.from_residual-in_err-resource.result c.from_residual-in_err-resource.ensures.1 in
    let here =
    rest_more deref_pair _ _ c.next.result (c.in-Some.name, c.in-Some.value) c.in-Some.is
    c.next.ensures.steps in
    let name = string_bytes c.in-Some.name.now in
    let index = vec_len c.loop-name.found in
    let kind = kind_of c.args.section in
    let stand = names_of c.args.earlier.now in
    let faults : StopsAt (resource_faults kind stand index (name, view c.in-Some.value.now))
    c.in_err-resource.field-0.0 =
    search rules in
    rw (p.1, p.2, members_list-view c.args.table.now.entries, c.loop-name.invariant.faults, here)
    (StopsAt-append _ _ _ faults)

pub returns-clause-faults : goal.returns-clause-faults
returns-clause-faults c =
    let done = rest_all deref_pair _ _ c.next.result c.in-None.is c.next.ensures.steps in
    rw (members_list-view c.args.table.now.entries, c.loop-name.invariant.faults, done)

pub returns-clause-value : goal.returns-clause-value
returns-clause-value c =
    let done = rest_all deref_pair _ _ c.next.result c.in-None.is c.next.ensures.steps in
    rw (members_list-view c.args.table.now.entries, c.loop-name.invariant.values, done)
    (sym (append-nil c.loop-name.found.items))

pub returns-clause-order : goal.returns-clause-order
returns-clause-order c =
    let done = rest_all deref_pair _ _ c.next.result c.in-None.is c.next.ensures.steps in
    let members = map entry_view c.args.table.now.entries in
    let all : c.loop-name.found.items ≡ map (resource_in (kind_of c.args.section)) members =
    rw (c.loop-name.invariant.values, done) (sym (append-nil c.loop-name.found.items)) in
    rw all (names_ascend (kind_of c.args.section) c.args.table.now.entries c.len.ensures.ordered)
