use Rattle.std.proofs.Common.{◌≡◌, refl, sym, ap, ◌∙◌, Some, slice_get, slice_set}
use Rattle.std.proofs.lemmas.Option.{slice_get-get_or, get_or_from_slice_get}
use Rattle.cqs_limiter_workers.proofs.gathers.take.Goals as goal

pub returns : goal.returns
returns g c =
    let hand = c.index_mut.result.now in
    let there : slice_get c.args.hands.now.items c.args.worker ≡ Some hand
    = slice_get-get_or c.args.hands.now.items c.args.worker hand c.requires.worker
    ∙ ap (λ h. Some h) (sym c.index_mut.ensures.value) in
    let t = c.requires.there hand there in
    let found : c.index_mut-2.result.now ≡ Some t.0
    = c.index_mut-2.ensures.value ∙ get_or_from_slice_get hand.desks.items c.args.place (Some t.0) _ t.1 in
    let same : Some c.in-Some.tenant ≡ Some t.0 = cc (found, c.take.ensures.value, c.in-Some.is) in
    record {
      was = hand;
      is = _;
      there = there;
      hands = refl;
      tenant = t.1 ∙ ap (λ o. Some o) (sym same);
      desks = ap (λ o. slice_set hand.desks.items c.args.place o) c.take.ensures.after;
    }
