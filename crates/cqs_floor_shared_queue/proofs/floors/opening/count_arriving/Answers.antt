use Rattle.std.proofs.Common.{◌≡◌, ◌+◌, ◌%◌, ◌++◌, ◌∷◌, [], ◌&&◌, nat_le, cond, length, take, ap, sym, ◌∙◌, arith}
use Rattle.std.specs.List.{list_any}
use Rattle.std.proofs.lemmas.List.{take_more}
use Rattle.cqs_plan.specs.PlanSteps.{is_arrival}
use Rattle.cqs_floor_shared_queue.specs.Openings.{arrives_from, arriving_from}
use Rattle.cqs_floor_shared_queue.proofs.FloorProvides.{at-most-one, from-push, take-long}
use Rattle.cqs_floor_shared_queue.proofs.floors.opening.count_arriving.Goals as goal

pub loop-place-preserved : goal.loop-place-preserved
loop-place-preserved c =
    let i = c.loop-place.invariant in
    let jobs = c.args.jobs.now in
    let place = c.loop-place.place in
    let job = c.index-jobs-place.result in
    let low = c.loop-place-test.true in
    let takes : take (place + 1) jobs ≡ take place jobs ++ job ∷ [] =
    take_more jobs place job low ∙ ap (λ j. take place jobs ++ j ∷ []) (sym c.index-jobs-place.is) in
    let long : 0 + length (take place jobs) ≡ place = omega (arith, take-long place jobs (omega (arith, low))) in
    let more = ap (arriving_from c.args.workers c.args.worker c.args.at 0) takes
    ∙ from-push c.args.workers c.args.worker c.args.at 0 (take place jobs) job in
    let one : c.one_arriving-many.result
    ≡ arrives_from c.args.workers c.args.worker c.args.at (0 + length (take place jobs)) job =
    c.one_arriving-many.ensures
    ∙ (λ i. cond (nat_le c.args.worker (sym long i % c.args.workers)
    && list_any (is_arrival c.args.at) (c.as_slice.ensures i)) 1 0) in
    let most = at-most-one c.args.workers c.args.worker c.args.at (0 + length (take place jobs)) job in
    record {
      counted = omega (arith, more, one, i.counted);
      few = omega (arith, one, most, i.few);
    }
