use Rattle.std.proofs.Common.{◌≡◌, ℕ, ◌+◌, ◌<◌, Some, length, set, slice_get, ap, sym, subst, ◌∙◌, length-set, arith}
use Rattle.std.proofs.lemmas.List.{length_push}
use Rattle.std.proofs.lemmas.Option.{slice_get-get_or}
use Rattle.cqs_core.proofs.Places.{get-below}
use Rattle.cqs_floor_shared_queue.specs.Openings.{HasSplitAt, arriving_from}
use Rattle.cqs_floor_shared_kinds.specs.ShareCalls.{HasSplit}
use Rattle.cqs_floor_shared_queue.proofs.MeetEach.{rest-next}
use Rattle.cqs_floor_shared_queue.proofs.SplitEach.{split-next}
use Rattle.cqs_floor_shared_queue.proofs.floors.opening.split_shares.Goals as goal

pub loop-at-preserved : goal.loop-at-preserved
loop-at-preserved g c =
    let s = g.X.SharedResource.share in
    let i = c.loop-at.invariant in
    let at = c.loop-at.at in
    let now = c.loop-at.shares.items in
    let x = c.index_mut.result.now in
    let low : at < length now = omega (arith, c.loop-at-test.true, c.len-at-end.ensures, i.long) in
    let here : slice_get now at ≡ Some x =
    slice_get-get_or now at x low ∙ ap Some (sym c.index_mut.ensures.value) in
    let split = subst (λ n. HasSplit s n x c.in_ok-one.one c.split_one.new.share) c.count_arriving-gives.ensures
    c.in_ok-one.ensures.split in
    let all = split-next s (λ at. arriving_from c.args.workers c.args.worker at 0 c.args.jobs.now) c.args.worker
    c.args.shares.now.items c.loop-at.made.items now at x c.in_ok-one.one c.split_one.new.share i.made_long here
    (sym (i.rest at (omega arith)) ∙ here) split c.in_ok-one.ensures.number i.split in
    record {
      made_long = ap length c.in_ok-push.ensures.items
          ∙ omega (arith, length_push c.loop-at.made.items c.in_ok-one.one, i.made_long);
      long = length-set now at c.split_one.new.share ∙ i.long;
      split = subst (λ m. (k : ℕ) (z : g.row.X.Denot) → k < at + 1 → slice_get c.args.shares.now.items k ≡ Some z
          → HasSplitAt s (λ at. arriving_from c.args.workers c.args.worker at 0 c.args.jobs.now) c.args.worker m
          (set now at c.split_one.new.share) k z) (sym c.in_ok-push.ensures.items) all;
      rest = rest-next c.args.shares.now.items now at c.split_one.new.share i.rest;
    }

pub returns : goal.returns
returns g c =
    let i = c.loop-at.invariant in
    record {
      made_long = omega (arith, c.loop-at-test.false, c.loop-at.auto.at-end, c.len-at-end.ensures, i.made_long);
      new_long = i.long;
      each = λ at x got.
          i.split at x
          (omega (arith, get-below c.args.shares.now.items at x got, c.loop-at-test.false, c.len-at-end.ensures)) got;
    }
