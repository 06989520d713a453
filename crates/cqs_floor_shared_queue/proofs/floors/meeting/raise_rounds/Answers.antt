use Rattle.std.proofs.Common.{◌≡◌, ◌+◌, ◌<◌, [], Some, length, map, set, get_or, ap, sym, subst, ◌∙◌, length-set, arith}
use Rattle.std.proofs.lemmas.List.{length-map, map-set}
use Rattle.std.proofs.lemmas.Option.{slice_get-get_or}
use Rattle.cqs_floor_shared_queue.proofs.FloorLists.{index-mapped}
use Rattle.cqs_floor_shared_queue.proofs.MeetEach.{Raised, raised-next}
use Rattle.cqs_floor_shared_queue.proofs.floors.meeting.raise_rounds.Goals as goal

pub loop-job-preserved : goal.loop-job-preserved
loop-job-preserved c =
    let i = c.loop-job.invariant in
    let job = c.loop-job.job in
    let now = c.loop-job.rounds.items in
    let given = c.args.given.now.items in
    let low : job < length now = omega (arith, c.loop-job-test.true, c.len-job-end.ensures, i.long) in
    let its : job < length given = omega (arith, low, i.long, c.requires.long) in
    let mine : get_or (map (λ own. own.items) now) job [] ≡ c.index_mut.result.now.items =
    index-mapped (λ own. own.items) now job c.index_mut.result.now []
    (slice_get-get_or now job c.index_mut.result.now low ∙ ap Some (sym c.index_mut.ensures.value)) in
    let theirs : get_or (map (λ own. own.items) given) job [] ≡ c.index.result.now.items =
    index-mapped (λ own. own.items) given job c.index.result.now []
    (slice_get-get_or given job c.index.result.now its ∙ ap Some (sym c.index.ensures)) in
    let next = raised-next (map (λ own. own.items) c.args.rounds.now.items) (map (λ own. own.items) given)
    (map (λ own. own.items) now) job c.raise.new.own.items (omega (arith, low, length-map now (λ own. own.items)))
    (rw mine c.raise.ensures.long) (rw (mine, theirs) c.raise.ensures.raised)
    (record { each = i.each; raised = i.raised; rest = i.rest }) in
    let same : set (map (λ own. own.items) now) job c.raise.new.own.items
    ≡ map (λ own. own.items) (set now job c.raise.new.own) = sym (map-set (λ own. own.items) now job c.raise.new.own) in
    let after = subst (λ r. Raised (map (λ own. own.items) c.args.rounds.now.items) (map (λ own. own.items) given) r
    (job + 1)) same next in
    record {
      long = length-set now job c.raise.new.own ∙ i.long;
      each = after.each;
      raised = after.raised;
      rest = after.rest;
    }
