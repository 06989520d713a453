use Rattle.std.proofs.Common.{◌≡◌, Bool, true, false, cond, ◌||◌, string_bytes, refl, ◌∙◌, rules}
use Rattle.std.specs.BTreeSet.{contains_text}
use Rattle.std.specs.Str.{bytes_eq}
use Rattle.std.proofs.lemmas.Map.Text.{btree_set_updates_text}
use Rattle.cqs_plan_reader.proofs.reader.names.add_name.Goals as goal

cond-or : (b c : Bool) → cond b true c ≡ (b || c)
cond-or true c = refl
cond-or false c = refl

pub returns-clause-added : goal.returns-clause-added
returns-clause-added c = λ other.
    let key = string_bytes c.in_ok-from_str.field-0 in
    let same : c.from.result ≡ key = search rules in
    let inserted =
    btree_set_updates_text key c.args.names.now c.insert.new.self true c.in_ok-insert.ensures.updates other in
    rw same (inserted ∙ cond-or (bytes_eq key other) (contains_text c.args.names.now other))
