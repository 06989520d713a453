use Rattle.std.proofs.Common.{◌≡◌, ◌==◌, ◌∙◌, Bool, Some, None, ap, sym, rules, tests, arith}
use Rattle.std.specs.List.{position_from}
use Rattle.std.proofs.lemmas.Iterator.{YieldsList-from_slice}
use Rattle.std.proofs.lemmas.Iterator.Adapters.{position_from-zero}
use Rattle.std.proofs.lemmas.Iterator.Search.{position_from_yields_List}
use Rattle.std.proofs.lemmas.Option.{get_or_from_slice_get}
use Rattle.cqs_pool.specs.Elements.{number_of}
use Rattle.cqs_floor_common.specs.declared.held.HeldElement.{HeldElement}
use Rattle.cqs_floor_common.proofs.FirstHeld.{none-held, stands-at}
use Rattle.cqs_floor_common.proofs.held.take_out.Goals as goal

pub unreachable-requires : goal.unreachable-requires
unreachable-requires c =
    let test : HeldElement → Bool = λ h. h.job == c.args.job in
    let found : c.position.result ≡ position_from test 0 c.args.held.now.items =
    position_from_yields_List test _ _ c.position.result c.position.ensures.ran
    (YieldsList-from_slice _ c.iter.ensures.rest) (λ x b q k. search (rules, tests))
    ∙ position_from-zero test c.deref.result.now ∙ ap (position_from test 0) c.deref.ensures.value in
    let none : c.position.result ≡ None = search rules in
    omega (arith, none-held c.args.job c.args.held.now.items 0 (sym found ∙ none), c.requires)

pub returns-clause-first : goal.returns-clause-first
returns-clause-first c =
    let test : HeldElement → Bool = λ h. h.job == c.args.job in
    let found : c.position.result ≡ position_from test 0 c.args.held.now.items =
    position_from_yields_List test _ _ c.position.result c.position.ensures.ran
    (YieldsList-from_slice _ c.iter.ensures.rest) (λ x b q k. search (rules, tests))
    ∙ position_from-zero test c.deref.result.now ∙ ap (position_from test 0) c.deref.ensures.value in
    let some : c.position.result ≡ Some c.in-Some.at = search rules in
    let stands = stands-at c.args.job c.args.held.now.items c.in-Some.at (sym found ∙ some) in
    let is =
    c.remove.ensures.value
    ∙ get_or_from_slice_get c.args.held.now.items c.in-Some.at stands.held c.remove.result stands.there in
    stands.first ∙ ap (λ (h : HeldElement). Some (number_of h.element)) (sym is)

pub returns-clause-rest : goal.returns-clause-rest
returns-clause-rest c =
    let test : HeldElement → Bool = λ h. h.job == c.args.job in
    let found : c.position.result ≡ position_from test 0 c.args.held.now.items =
    position_from_yields_List test _ _ c.position.result c.position.ensures.ran
    (YieldsList-from_slice _ c.iter.ensures.rest) (λ x b q k. search (rules, tests))
    ∙ position_from-zero test c.deref.result.now ∙ ap (position_from test 0) c.deref.ensures.value in
    let some : c.position.result ≡ Some c.in-Some.at = search rules in
    let stands = stands-at c.args.job c.args.held.now.items c.in-Some.at (sym found ∙ some) in
    c.remove.ensures.items ∙ sym stands.rest
