use Rattle.std.proofs.Common.{◌≡◌, ◌&&◌, ◌∙◌, rules, tests, Bool}
use Rattle.std.specs.Str.{bytes_eq}
use Rattle.std.specs.List.{position_from}
use Rattle.std.proofs.lemmas.Iterator.{YieldsList-from_slice}
use Rattle.std.proofs.lemmas.Iterator.Adapters.{position_from-zero}
use Rattle.std.proofs.lemmas.Iterator.Search.{position_from_yields_List}
use Rattle.cqs_plan.specs.declared.plans.resource.Resource.{Resource}
use Rattle.cqs_plan_reader.specs.Needs.{suits}
use Rattle.cqs_plan_reader.proofs.reader.places.place_of.Goals as goal

pub returns : goal.returns
returns c =
    let test : Resource → Bool =
    λ resource. bytes_eq resource.name c.args.name.now && suits c.args.need resource.kind in
    let found : c.position.result ≡ position_from test 0 c.args.resources.now =
    position_from_yields_List test _ _ c.position.result c.position.ensures.ran
    (YieldsList-from_slice _ c.iter.ensures.rest) (λ x b q k. search (rules, tests))
    ∙ position_from-zero test c.args.resources.now in
    let same : c.map.result ≡ c.position.result = search rules in same ∙ found
