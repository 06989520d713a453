use Rattle.std.proofs.Common.{◌≡◌, ◌+◌, ◌++◌, ◌∷◌, [], length, map, refl, ap, subst, sym, ◌∙◌, arith}
use Rattle.std.specs.List.{range_with_len}
use Rattle.cqs_core.specs.Numbered.{EachAt}
use Rattle.std.proofs.lemmas.List.{length_push}
use Rattle.std.proofs.lemmas.List.FromFn.{length-map-range_with_len}
use Rattle.cqs_work.specs.Opening.{AreSplit}
use Rattle.cqs_floor_common.proofs.Counting.{runnable-countable}
use Rattle.cqs_floor_common.specs.Room.{room_of}
use Rattle.cqs_floor_shared_queue.specs.Ledgers.{shared_in}
use Rattle.cqs_floor_shared_queue.specs.Openings.{CanSplitEach, HaveOpened, AreLimits, HaveSplitEach, arriving_from, plan_name}
use Rattle.cqs_floor_shared_queue.proofs.FloorsOpen.{all-split, all-wide}
use Rattle.cqs_floor_shared_queue.proofs.OpenNext.{Ready, ready-all, ready-can, ready-first, ready-last, ready-new, ready-next, ready-wide}
use Rattle.cqs_floor_shared_queue.proofs.floors.opening.open_floors.Goals as goal

pub count_room-requires-clause-countable : goal.count_room-requires-clause-countable
count_room-requires-clause-countable g c =
    rw (c.as_slice-resources.ensures, c.as_slice-jobs.ensures) (runnable-countable c.args.plan.now c.requires.runnable)

pub open_shares-requires-clause-same : goal.open_shares-requires-clause-same
open_shares-requires-clause-same g c =
    rw (c.deref.ensures.value, c.in_ok-room.ensures.counts) (length-map-range_with_len _ _ _)

pub loop-worker-init : goal.loop-worker-init
loop-worker-init g c =
    let s = g.X.SharedResource.share in
    let plan = c.args.plan.now in
    let opened = subst (λ rs. HaveOpened s rs c.args.workers c.deref.result.now c.in_ok-shares.shares.items)
    c.as_slice-resources.ensures c.in_ok-shares.ensures.opened in
    let long = c.in_ok-shares.ensures.long ∙ ap length c.as_slice-resources.ensures in
    let counted : c.deref.result.now ≡ map (room_of plan.jobs) (range_with_len 0 (length plan.resources)) =
    rw (c.deref.ensures.value, c.in_ok-room.ensures.counts, c.as_slice-jobs.ensures, c.as_slice-resources.ensures) refl
    in
    subst (λ fs. Ready s plan c.args.workers 1 c.in_ok-shares.shares.items fs) (sym c.in_ok-floors.ensures.items)
    (ready-first s plan c.args.workers c.deref.result.now c.in_ok-shares.shares.items c.requires.runnable counted opened
    long)

pub split_shares-requires-clause-can : goal.split_shares-requires-clause-can
split_shares-requires-clause-can g c =
    let s = g.X.SharedResource.share in
    let plan = c.args.plan.now in
    let n = c.args.workers in
    let w = c.loop-worker.worker in
    let r = c.loop-worker.invariant in
    let low = c.loop-worker.auto.worker in
    subst (λ js. CanSplitEach s (λ at. arriving_from n w at 0 js) c.loop-worker.shares.items)
    (sym c.as_slice-jobs.ensures)
    (ready-can s plan n w low c.loop-worker.shares.items c.loop-worker.floors.items r)

pub make_floor-requires-clause-fresh : goal.make_floor-requires-clause-fresh
make_floor-requires-clause-fresh g c =
    let s = g.X.SharedResource.share in
    let plan = c.args.plan.now in
    let n = c.args.workers in
    let w = c.loop-worker.worker in
    let r = c.loop-worker.invariant in
    let low = c.loop-worker.auto.worker in
    let split = subst (λ js. HaveSplitEach s (λ at. arriving_from n w at 0 js) w c.loop-worker.shares.items
    c.in_ok-next.next.items c.split_shares.new.shares.items) c.as_slice-jobs.ensures c.in_ok-next.ensures in
    ready-new s plan n w low c.loop-worker.shares.items c.loop-worker.floors.items r c.in_ok-next.next.items
    c.split_shares.new.shares.items split

pub loop-worker-preserved : goal.loop-worker-preserved
loop-worker-preserved g c =
    let s = g.X.SharedResource.share in
    let plan = c.args.plan.now in
    let n = c.args.workers in
    let w = c.loop-worker.worker in
    let r = c.loop-worker.invariant in
    let low = c.loop-worker.auto.worker in
    let split = subst (λ js. HaveSplitEach s (λ at. arriving_from n w at 0 js) w c.loop-worker.shares.items
    c.in_ok-next.next.items c.split_shares.new.shares.items) c.as_slice-jobs.ensures c.in_ok-next.ensures in
    let f = c.in_ok-make_floor.field-0 in
    let e = c.in_ok-make_floor.ensures in
    subst (Ready s plan n (w + 1) c.in_ok-next.next.items) (sym c.in_ok-push.ensures.items)
    (ready-next s plan n w low c.loop-worker.shares.items c.loop-worker.floors.items r c.in_ok-next.next.items
    c.split_shares.new.shares.items split f e.opens e.number e.family e.limits)

pub make_floor-requires-2-clause-fresh : goal.make_floor-requires-2-clause-fresh
make_floor-requires-2-clause-fresh g c =
    let s = g.X.SharedResource.share in
    let plan = c.args.plan.now in
    let n = c.args.workers in
    let w = c.loop-worker.worker in
    let r = c.loop-worker.invariant in
    let low = c.loop-worker.auto.worker in
    let same : w ≡ n =
    omega (arith, c.loop-worker-test.false, c.loop-worker.auto.worker-end c.requires.some) in
    let last = subst (λ v. Ready s plan n v c.loop-worker.shares.items c.loop-worker.floors.items) same r in
    ready-last s plan n n c.loop-worker.shares.items c.loop-worker.floors.items last

pub returns-clause-split : goal.returns-clause-split
returns-clause-split g c =
    let s = g.X.SharedResource.share in
    let plan = c.args.plan.now in
    let n = c.args.workers in
    let w = c.loop-worker.worker in
    let r = c.loop-worker.invariant in
    let low = c.loop-worker.auto.worker in
    let same : w ≡ n =
    omega (arith, c.loop-worker-test.false, c.loop-worker.auto.worker-end c.requires.some) in
    let last = subst (λ v. Ready s plan n v c.loop-worker.shares.items c.loop-worker.floors.items) same r in
    let f = c.in_ok-make_floor-2.field-0 in
    let e = c.in_ok-make_floor-2.ensures in
    let so = ready-all s plan n n c.loop-worker.shares.items c.loop-worker.floors.items last c.requires.some f e.opens
    e.number e.family in
    let long : length (c.loop-worker.floors.items ++ f ∷ []) ≡ n =
    omega (arith, length_push c.loop-worker.floors.items f, last.many) in
    subst (λ fs. AreSplit plan (map (shared_in s) fs)) (sym c.in_ok-push-2.ensures.items)
    (all-split s plan n (plan_name plan n ∷ map s.family c.loop-worker.shares.items)
    (c.loop-worker.floors.items ++ f ∷ []) long c.requires.some c.requires.few so)

pub returns-clause-many : goal.returns-clause-many
returns-clause-many g c =
    let s = g.X.SharedResource.share in
    let plan = c.args.plan.now in
    let n = c.args.workers in
    let w = c.loop-worker.worker in
    let r = c.loop-worker.invariant in
    let low = c.loop-worker.auto.worker in
    let same : w ≡ n =
    omega (arith, c.loop-worker-test.false, c.loop-worker.auto.worker-end c.requires.some) in
    let last = subst (λ v. Ready s plan n v c.loop-worker.shares.items c.loop-worker.floors.items) same r in
    let f = c.in_ok-make_floor-2.field-0 in
    let long : length (c.loop-worker.floors.items ++ f ∷ []) ≡ n =
    omega (arith, length_push c.loop-worker.floors.items f, last.many) in
    c.push-2.new.self.ok.0 ∙ ap length c.in_ok-push-2.ensures.items ∙ long

pub returns-clause-wide : goal.returns-clause-wide
returns-clause-wide g c =
    let s = g.X.SharedResource.share in
    let plan = c.args.plan.now in
    let n = c.args.workers in
    let w = c.loop-worker.worker in
    let r = c.loop-worker.invariant in
    let same : w ≡ n =
    omega (arith, c.loop-worker-test.false, c.loop-worker.auto.worker-end c.requires.some) in
    let last = subst (λ v. Ready s plan n v c.loop-worker.shares.items c.loop-worker.floors.items) same r in
    let f = c.in_ok-make_floor-2.field-0 in
    let wide = ready-wide s plan n n c.loop-worker.shares.items c.loop-worker.floors.items last f
    c.in_ok-make_floor-2.ensures.limits in
    subst (λ fs. EachAt (λ i h. AreLimits plan h.limits) (map (shared_in s) fs)) (sym c.in_ok-push-2.ensures.items)
    (all-wide s plan n (c.loop-worker.floors.items ++ f ∷ []) wide)
