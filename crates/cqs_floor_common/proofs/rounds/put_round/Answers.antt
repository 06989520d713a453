use Rattle.std.proofs.Common.{◌≡◌, [], Some, ap, get_or, map, set, slice_get, sym, ◌∙◌}
use Rattle.std.specs.Option.{option_map}
use Rattle.std.proofs.lemmas.List.{map-set}
use Rattle.std.proofs.lemmas.Option.{get_or_from_slice_get, slice_get-get_or, slice_get-map}
use Rattle.cqs_floor_common.proofs.rounds.put_round.Goals as goal

pub returns : goal.returns
returns c =
    let rounds = c.args.rounds.now.items in
    let there : slice_get rounds c.args.job ≡ Some c.index_mut-own.result.now =
    slice_get-get_or rounds c.args.job c.index_mut-own.result.now c.requires.own
    ∙ ap Some (sym c.index_mut-own.ensures.value) in
    let own : get_or (map (λ own. own.items) rounds) c.args.job [] ≡ c.index_mut-own.result.now.items =
    get_or_from_slice_get (map (λ own. own.items) rounds) c.args.job c.index_mut-own.result.now.items []
    (slice_get-map (λ own. own.items) rounds c.args.job ∙ ap (option_map (λ own. own.items)) there) in
    map-set (λ own. own.items) rounds c.args.job _
    ∙ sym (ap (λ items. set (map (λ own. own.items) rounds) c.args.job (set items c.args.at c.args.round)) own)
