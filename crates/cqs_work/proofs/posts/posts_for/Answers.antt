use Rattle.std.proofs.Common.{◌≡◌, ◌∷◌, [], length, refl, sym, ap, ◌∙◌, append_assoc, arith}
use Rattle.std.specs.Vec.Iter.{into_iter_items}
use Rattle.cqs_work.proofs.Posting.{posts-none, posts-next}
use Rattle.cqs_work.proofs.posts.posts_for.Goals as goal

pub loop-floor-init : goal.loop-floor-init
loop-floor-init g c =
    let started = c.into_iter-floor-iterator.ensures.into_iter_gives in
    record {
      all = refl;
      len = started.1 ∙ c.args.floors.ok.0 ∙ sym (ap length started.0);
      posts = posts-none _ _ c.in_ok-posts.posts.items c.in_ok-posts.ensures.items;
    }

pub loop-floor-preserved : goal.loop-floor-preserved
loop-floor-preserved g c =
    let at = c.loop-floor in
    let x = c.in-Some.floor in
    let steps : into_iter_items at.floor-iterator ≡ x ∷ into_iter_items c.next.new.self = c.in-Some.ensures.steps.0 in
    record {
      all = append_assoc at.yielded (x ∷ []) _ ∙ rw (← steps) at.invariant.all;
      len = let was = at.invariant.len in
          let gone = c.in-Some.ensures.steps.1 in
          let short = ap length steps in
          omega arith;
      posts = rw c.in_ok-push.ensures.items
          (posts-next _ _ _ at.yielded at.posts.items _ at.invariant.posts (c.len-worker.ensures ∙ at.posts.ok.0)
          c.in_ok-states.ensures refl);
    }
