use Rattle.std.proofs.Common.{◌≡◌, ◌==◌, ◌&&◌, ◌∙◌, Bool, Some, None, IsTrue, ap, sym, rules, tests, arith}
use Rattle.std.specs.List.{position_from}
use Rattle.std.proofs.lemmas.Iterator.{YieldsList-from_slice}
use Rattle.std.proofs.lemmas.Iterator.Adapters.{position_from-zero}
use Rattle.std.proofs.lemmas.Iterator.Search.{position_from_yields_List}
use Rattle.cqs_floor_shared_queue.specs.declared.floors.holdings.JobHolding.{JobHolding}
use Rattle.cqs_floor_shared_queue.specs.Holdings.{is_of}
use Rattle.cqs_floor_shared_queue.proofs.JobHoldings.{less-at, none-of}
use Rattle.cqs_floor_shared_queue.proofs.floors.holdings.drop_oldest.Goals as goal

pub unreachable-requires : goal.unreachable-requires
unreachable-requires c =
    let test : JobHolding → Bool = λ h. is_of c.args.at c.args.job h in
    let found : c.position.result ≡ position_from test 0 c.args.holdings.now.items =
    position_from_yields_List test _ _ c.position.result c.position.ensures.ran
    (YieldsList-from_slice _ c.iter.ensures.rest) (λ x b q k. search (rules, tests))
    ∙ position_from-zero test c.deref.result.now ∙ ap (position_from test 0) c.deref.ensures.value in
    let none : c.position.result ≡ None = search rules in
    none-of c.args.at c.args.job c.args.holdings.now.items 0 (sym found ∙ none) c.requires

pub returns-clause-items : goal.returns-clause-items
returns-clause-items c =
    let test : JobHolding → Bool = λ h. is_of c.args.at c.args.job h in
    let found : c.position.result ≡ position_from test 0 c.args.holdings.now.items =
    position_from_yields_List test _ _ c.position.result c.position.ensures.ran
    (YieldsList-from_slice _ c.iter.ensures.rest) (λ x b q k. search (rules, tests))
    ∙ position_from-zero test c.deref.result.now ∙ ap (position_from test 0) c.deref.ensures.value in
    let some : c.position.result ≡ Some c.in-Some.oldest = search rules in
    c.remove.ensures.items ∙ less-at c.args.at c.args.job c.args.holdings.now.items c.in-Some.oldest (sym found ∙ some)
