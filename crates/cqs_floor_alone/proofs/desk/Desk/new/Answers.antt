use Rattle.std.proofs.Common.{ℕ, List, length, ap, ◌∙◌, arith}
use Rattle.std.proofs.lemmas.List.FromFn.{length-map-range_with_len}
use Rattle.cqs_plan.specs.declared.plans.resource.Resource.{Resource}
use Rattle.cqs_floor_common.proofs.Counting.{runnable-countable}
use Rattle.cqs_floor_alone.proofs.desk.Desk.new.Goals as goal

pub count_room-requires-clause-countable : goal.count_room-requires-clause-countable
count_room-requires-clause-countable g c =
    rw (c.as_slice-resources.ensures, c.as_slice-jobs.ensures) (runnable-countable c.args.plan.now c.requires.runnable)

pub open_soles-requires-clause-same : goal.open_soles-requires-clause-same
open_soles-requires-clause-same g c =
    rw (c.deref-2.ensures.value, c.in_ok-room.ensures.counts) (length-map-range_with_len _ _ _)

-- a room for each resource, of which a plan has few
pub invariant_of-result : goal.invariant_of-result
invariant_of-result g c =
    let few = c.requires.runnable.resources in
    let many = ap (λ (l : List ℕ). length l) c.in_ok-room.ensures.counts ∙ length-map-range_with_len _ _ _ in
    let same = ap (λ (l : List Resource). length l) c.as_slice-resources.ensures in
    (omega (arith, few, many, same), tt)
