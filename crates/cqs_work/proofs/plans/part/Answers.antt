use Rattle.std.proofs.Common.{◌≡◌, ◌∷◌, [], length, map, refl, sym, ap, ◌∙◌, append_assoc, arith}
use Rattle.std.specs.Vec.Iter.{into_iter_items}
use Rattle.std.proofs.lemmas.List.{map-append}
use Rattle.cqs_work.proofs.Posting.{parted-none, parted-push}
use Rattle.cqs_work.proofs.plans.part.Goals as goal

pub loop-one-init : goal.loop-one-init
loop-one-init g c =
    let started = c.into_iter-one-iterator.ensures.into_iter_gives in
    record {
      all = refl;
      len = started.1 ∙ c.args.workers.ok.0 ∙ sym (ap length started.0);
      parted = parted-none c.in_ok-floors.floors.items _ _ c.in_ok-floors.ensures.items
          (ap (map (λ own. own.items)) c.in_ok-states.ensures.items)
          (ap (map (λ own. own.items)) c.in_ok-waits.ensures.items);
    }

pub loop-one-preserved : goal.loop-one-preserved
loop-one-preserved g c =
    let at = c.loop-one in
    let x = c.in-Some.one in
    let steps : into_iter_items at.one-iterator ≡ x ∷ into_iter_items c.next.new.self = c.in-Some.ensures.steps.0 in
    record {
      all = append_assoc at.yielded (x ∷ []) _ ∙ rw (← steps) at.invariant.all;
      len = let was = at.invariant.len in
          let gone = c.in-Some.ensures.steps.1 in
          let short = ap length steps in
          omega arith;
      parted = rw (
        c.in_ok-add.ensures.floors,
        c.in_ok-add.ensures.states,
        c.in_ok-add.ensures.waits,
        map-append,
        map-append,
      )
          (parted-push at.yielded at.parted.floors.items _ _ x c.in_ok-worker.worker c.in_ok-worker.was
          at.invariant.parted);
    }
