use Rattle.std.proofs.Common.{◌∙◌, ap, refl, sym, drop, map, string_bytes}
use Rattle.std.specs.Vec.Iter.{into_iter_items}
use Rattle.std.proofs.lemmas.Iterator.{items_from_collect}
use Rattle.std.proofs.lemmas.Iterator.Adapters.{YieldsList-from_skip, YieldsList-from_vec}
use Rattle.std.proofs.lemmas.Result.{IfOk-weaker}
use Rattle.cqs_cli_main.specs.Arguments.{words_of}
use Rattle.cqs_cli_main.proofs.words.words_after_name.Goals as goal

-- what was collected is what comes after the first
pub returns-in-Ok-clause-words : goal.returns-in-Ok-clause-words
returns-in-Ok-clause-words c =
    let all = c.skip.result.iter in
    let whole = YieldsList-from_vec {s = all} (into_iter_items all) refl all.rest.ok.0 in
    let rest = YieldsList-from_skip {s = c.skip.result} 1 whole c.skip.ensures.count in
    let behind = ap (λ it. drop 1 (into_iter_items it)) c.skip.ensures.source in
    IfOk-weaker c.collect.result _ _
    (λ words taken. ap (map string_bytes) (taken ∙ behind) ∙ sym (ap words_of c.in-Ok.is))
    (items_from_collect c.collect.result c.collect.ensures.ran rest)
