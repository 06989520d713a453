use Rattle.std.proofs.Common.{◌≡◌, ◌∷◌, [], ◌++◌, length, map, Ok, refl, sym, ap, ◌∙◌, append_assoc, arith}
use Rattle.std.specs.Vec.Iter.{into_iter_items}
use Rattle.std.proofs.lemmas.List.{map-append}
use Rattle.cqs_limiter_workers.proofs.gathers.part.Goals as goal

pub loop-one-init : goal.loop-one-init
loop-one-init g c =
    let started = c.into_iter-one-iterator.ensures.into_iter_gives in
    record {
      all = refl;
      len = started.1 ∙ c.args.workers.ok.0 ∙ sym (ap length started.0);
      parted = sym (ap (map (λ told. Ok told)) c.in_ok-hands.ensures.items);
    }

pub loop-one-preserved : goal.loop-one-preserved
loop-one-preserved g c =
    let at = c.loop-one in
    let x = c.in-Some.one in
    let steps : into_iter_items at.one-iterator ≡ x ∷ into_iter_items c.next.new.self = c.in-Some.ensures.steps.0 in
    record {
      all = append_assoc at.yielded (x ∷ []) _ ∙ rw (← steps) at.invariant.all;
      len = let was = at.invariant.len in
          let gone = c.in-Some.ensures.steps.1 in
          let short = ap length steps in
          omega arith;
      parted = ap (λ l. l ++ x ∷ []) at.invariant.parted
          ∙ ap (λ y. map (λ told. Ok told) at.hands.items ++ y ∷ []) c.in_ok-told.was
          ∙ sym (map-append (λ told. Ok told) at.hands.items (c.in_ok-told.told ∷ []))
          ∙ sym (ap (map (λ told. Ok told)) c.in_ok-push.ensures.items);
    }
