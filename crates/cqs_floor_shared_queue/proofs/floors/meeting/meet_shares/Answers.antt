use Rattle.std.proofs.Common.{◌≡◌, ◌<◌, ◌++◌, ◌∷◌, [], Some, length, slice_get, refl, ap, sym, ◌∙◌, append_assoc, length-append, length-set, arith}
use Rattle.std.specs.Vec.Iter.{into_iter_items}
use Rattle.std.proofs.lemmas.List.{length_push}
use Rattle.std.proofs.lemmas.Option.{slice_get-get_or}
use Rattle.cqs_core.proofs.Places.{get-below}
use Rattle.cqs_floor_shared_queue.proofs.MeetEach.{met-next, rest-next, stands-next}
use Rattle.cqs_floor_shared_queue.proofs.floors.meeting.meet_shares.Goals as goal

pub loop-one-init : goal.loop-one-init
loop-one-init g c =
    let started = c.into_iter-one-iterator.ensures.into_iter_gives in
    record {
      all = started.0;
      left = started.1 ∙ c.args.given.ok.0 ∙ sym (ap length started.0);
      many = refl;
      long = refl;
      met = λ k y low got. absurd (omega (arith, low));
      rest = λ k low. refl;
    }

pub index_mut-requires : goal.index_mut-requires
index_mut-requires g c =
    let i = c.loop-one.invariant in
    let steps : into_iter_items c.loop-one.one-iterator ≡ c.in-Some.one ∷ into_iter_items c.next.new.self =
    c.in-Some.ensures.steps.0 in
    let short = ap length steps in
    let all = ap length i.all in
    let both = length-append c.loop-one.yielded (into_iter_items c.loop-one.one-iterator) in
    omega (arith, short, all, both, i.many, i.long, c.requires.long)

pub meet-requires : goal.meet-requires
meet-requires g c =
    let i = c.loop-one.invariant in
    let steps : into_iter_items c.loop-one.one-iterator ≡ c.in-Some.one ∷ into_iter_items c.next.new.self =
    c.in-Some.ensures.steps.0 in
    let whole : c.loop-one.yielded ++ (c.in-Some.one ∷ into_iter_items c.next.new.self) ≡ c.args.given.items =
    rw (← steps) i.all in
    let short = ap length steps in
    let all = ap length i.all in
    let both = length-append c.loop-one.yielded (into_iter_items c.loop-one.one-iterator) in
    let low : c.loop-one.at < length c.loop-one.shares.items =
    omega (arith, short, all, both, i.many, i.long, c.requires.long) in
    let here : slice_get c.loop-one.shares.items c.loop-one.at ≡ Some c.index_mut.result.now =
    slice_get-get_or c.loop-one.shares.items c.loop-one.at c.index_mut.result.now low
    ∙ ap Some (sym c.index_mut.ensures.value) in
    c.requires.each c.loop-one.at c.index_mut.result.now c.in-Some.one
    (sym (i.rest c.loop-one.at (omega arith)) ∙ here)
    (stands-next c.loop-one.yielded (into_iter_items c.next.new.self) c.args.given.items c.in-Some.one c.loop-one.at
    whole i.many)

pub loop-one-preserved : goal.loop-one-preserved
loop-one-preserved g c =
    let s = g.X.SharedResource.share in
    let i = c.loop-one.invariant in
    let steps : into_iter_items c.loop-one.one-iterator ≡ c.in-Some.one ∷ into_iter_items c.next.new.self =
    c.in-Some.ensures.steps.0 in
    let whole : c.loop-one.yielded ++ (c.in-Some.one ∷ into_iter_items c.next.new.self) ≡ c.args.given.items =
    rw (← steps) i.all in
    let short = ap length steps in
    let all = ap length i.all in
    let both = length-append c.loop-one.yielded (into_iter_items c.loop-one.one-iterator) in
    let low : c.loop-one.at < length c.loop-one.shares.items =
    omega (arith, short, all, both, i.many, i.long, c.requires.long) in
    let here : slice_get c.loop-one.shares.items c.loop-one.at ≡ Some c.index_mut.result.now =
    slice_get-get_or c.loop-one.shares.items c.loop-one.at c.index_mut.result.now low
    ∙ ap Some (sym c.index_mut.ensures.value) in
    let its = stands-next c.loop-one.yielded (into_iter_items c.next.new.self) c.args.given.items c.in-Some.one
    c.loop-one.at whole i.many in
    record {
      all = append_assoc c.loop-one.yielded (c.in-Some.one ∷ []) (into_iter_items c.next.new.self) ∙ whole;
      left = let gone = c.in-Some.ensures.steps.1 in let was = i.left in omega (arith, gone, short, was);
      many = let more = length_push c.loop-one.yielded c.in-Some.one in omega (arith, more, i.many);
      long = length-set c.loop-one.shares.items c.loop-one.at c.meet.new.self ∙ i.long;
      met = met-next s c.args.shares.now.items c.args.given.items c.loop-one.shares.items c.loop-one.at
          c.index_mut.result.now c.in-Some.one c.meet.new.self here (sym (i.rest c.loop-one.at (omega arith)) ∙ here)
          its c.meet.ensures i.met;
      rest = rest-next c.args.shares.now.items c.loop-one.shares.items c.loop-one.at c.meet.new.self i.rest;
    }

pub returns : goal.returns
returns g c =
    let i = c.loop-one.invariant in
    let gone = c.in-None.ensures.steps.0 in
    let all = ap length i.all in
    let both = length-append c.loop-one.yielded (into_iter_items c.loop-one.one-iterator) in
    record {
      long = i.long;
      each = λ at y got.
          let low = get-below c.loop-one.shares.items at y got in
          i.met at y (omega (arith, low, gone, all, both, i.many, i.long, i.left, c.requires.long)) got;
    }
