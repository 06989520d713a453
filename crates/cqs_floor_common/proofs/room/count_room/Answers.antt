use Rattle.std.proofs.Common.{◌≡◌, ℕ, ◌+◌, ◌*◌, ◌≤◌, List, Some, arith, length, take, drop, get_or, sum, ◌++◌, ap, sym, ◌∙◌}
use Rattle.std.proofs.Math.Seq.{take-append_seam}
use Rattle.std.proofs.lemmas.Option.{slice_get-get_or}
use Rattle.cqs_plan.specs.Floor.{waits_of_job}
use Rattle.cqs_floor_common.specs.Room.{IsCountable}
use Rattle.cqs_floor_common.proofs.Counting.{room-more, counts-all, sum-most}
use Rattle.cqs_floor_common.proofs.room.count_room.Goals as goal

pub loop-job-preserved : goal.loop-job-preserved
loop-job-preserved c =
    let new : List ℕ = c.count_job.new.room in
    let long : c.loop-job.room.len ≡ length new = omega (arith, c.count_job.auto.room, c.deref_mut.ensures.len) in
    let whole : take c.loop-job.room.len (new ++ drop (length new) c.loop-job.room.items) ≡ new =
    ap (λ n. take n (new ++ drop (length new) c.loop-job.room.items)) long
    ∙ take-append_seam new (drop (length new) c.loop-job.room.items) in
    let same_long : length c.loop-job.room.items ≡ c.args.resources = c.loop-job.invariant.long in
    record {
      counts = λ at below.
          let written : get_or new at 0
          ≡ get_or c.loop-job.room.items at 0 + waits_of_job at c.job-item.result =
          rw (← c.deref_mut.ensures.value) (c.count_job.ensures.counts at
          (rw c.deref_mut.ensures.value (omega (arith, below, same_long)))) in
          ap (λ xs. get_or xs at 0) whole ∙ written
          ∙ ap (λ n. n + waits_of_job at c.job-item.result) (c.loop-job.invariant.counts at below)
          ∙ sym (room-more c.args.jobs.now c.loop-job.job-index c.job-item.result at
          c.loop-job-test.true c.job-item.is);
      few = λ at.
          let more : get_or new at 0 ≤ get_or c.loop-job.room.items at 0 + 128
          = rw (← c.deref_mut.ensures.value) (c.count_job.ensures.few at) in
          rw whole (omega (arith, more, c.loop-job.invariant.few at));
      long = rw whole (omega (arith, long, c.loop-job.invariant.long, c.deref_mut.ensures.len));
    }

pub count_job-requires-clause-countable : goal.count_job-requires-clause-countable
count_job-requires-clause-countable c =
    let job : IsCountable c.args.resources c.job-item.result
    = c.requires.countable.at c.loop-job.job-index c.job-item.result
    (slice_get-get_or c.args.jobs.now c.loop-job.job-index c.job-item.result c.loop-job-test.true
    ∙ ap Some (sym c.job-item.is)) in
    let long : length c.loop-job.room.items ≡ c.args.resources = c.loop-job.invariant.long in
    rw (c.deref_mut.ensures.value, long) job

pub returns-clause-counts : goal.returns-clause-counts
returns-clause-counts c =
    counts-all c.loop-job.room.items c.args.jobs.now c.args.resources c.loop-job.job-index c.loop-job.invariant.long
    (omega (arith, c.loop-job-test.false, c.loop-job.auto.job-index-end)) c.loop-job.invariant.counts

pub returns-clause-few_in_all : goal.returns-clause-few_in_all
returns-clause-few_in_all c =
    let many : c.loop-job.job-index ≤ 4096 = omega (arith, c.loop-job.auto.job-index-end, c.requires.few) in
    let all : sum c.loop-job.room.items ≤ 524288 * length c.loop-job.room.items =
    sum-most c.loop-job.room.items (λ at. omega (arith, many, c.loop-job.invariant.few at)) in
    omega (arith, all, c.loop-job.invariant.long, c.requires.few_resources)
