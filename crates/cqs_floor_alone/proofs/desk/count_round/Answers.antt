use Rattle.std.proofs.Common.{◌≡◌, ◌+◌, ◌<◌, Some, ap, get_or, length, map, set, slice_get, subst, sym, ◌∙◌}
use Rattle.std.specs.Option.{option_map}
use Rattle.std.proofs.lemmas.List.{map-set}
use Rattle.std.proofs.lemmas.Option.{get_or_from_slice_get, slice_get-get_or, slice_get-map}
use Rattle.cqs_floor_alone.specs.Ledger.{own_round, own_rounds}
use Rattle.cqs_floor_alone.proofs.desk.count_round.Goals as goal

pub returns-clause-counted : goal.returns-clause-counted
returns-clause-counted c =
    let rounds = c.args.rounds.now.items in
    let there : slice_get rounds c.args.job ≡ Some c.index_mut-own.result.now =
    slice_get-get_or rounds c.args.job c.index_mut-own.result.now c.requires.own
    ∙ ap Some (sym c.index_mut-own.ensures.value) in
    let own : own_rounds (map (λ own. own.items) rounds) c.args.job ≡ c.index_mut-own.result.now.items =
    get_or_from_slice_get (map (λ own. own.items) rounds) c.args.job c.index_mut-own.result.now.items _
    (slice_get-map (λ own. own.items) rounds c.args.job ∙ ap (option_map (λ own. own.items)) there) in
    let below : c.args.at < length c.index_mut-own.result.now.items =
    subst (λ items. c.args.at < length items) own c.requires.each in
    let round : own_round (map (λ own. own.items) rounds) c.args.job c.args.at ≡ c.index-round.result.now =
    ap (λ items. get_or items c.args.at 0) own
    ∙ get_or_from_slice_get c.index_mut-own.result.now.items c.args.at c.index-round.result.now _
    (slice_get-get_or c.index_mut-own.result.now.items c.args.at c.index-round.result.now below
    ∙ ap Some (sym c.index-round.ensures)) in
    map-set (λ own. own.items) rounds c.args.job _
    ∙ sym (λ i. set (map (λ own. own.items) rounds) c.args.job (set (own i) c.args.at (round i + 1)))
