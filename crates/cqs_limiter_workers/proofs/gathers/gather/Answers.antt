use Rattle.std.proofs.Common.{rules, ◌≡◌, ◌<◌, ◌%◌, ◌∙◌, length, slice_get, sym, ap, subst}
use Rattle.cqs_limiter_workers.specs.Gathering.{IsTakenFrom}
use Rattle.cqs_limiter_workers.proofs.Gathered.{gathering-next, worker-there, tenant-there}
use Rattle.cqs_limiter_workers.proofs.gathers.gather.Goals as goal

pub take-requires-clause-worker : goal.take-requires-clause-worker
take-requires-clause-worker g c =
    let many : c.len-workers.result ≡ length c.args.hands.items = search rules in
    subst (λ n. c.loop-place.place % n < length c.loop-place.hands.items) (sym many)
    (worker-there c.args.hands.items _ _ _ _ c.requires.some c.loop-place.invariant)

pub take-requires-clause-there : goal.take-requires-clause-there
take-requires-clause-there g c = λ told got.
    let many : c.len-workers.result ≡ length c.args.hands.items = search rules in
    tenant-there c.args.hands.items _ _ _ _ c.requires.some c.loop-place.invariant c.loop-place-test.true told
    (ap (λ n. slice_get c.loop-place.hands.items (c.loop-place.place % n)) (sym many) ∙ got)

pub loop-place-preserved : goal.loop-place-preserved
loop-place-preserved g c =
    let many : c.len-workers.result ≡ length c.args.hands.items = search rules in
    rw c.in_ok-push.ensures.items (
    gathering-next c.args.hands.items _ _ _ _ _ _ c.requires.some c.loop-place.invariant
    (subst (λ n. IsTakenFrom c.loop-place.hands.items (c.loop-place.place % n) c.loop-place.place c.take.result
    c.take.new.hands.items) many c.take.ensures)
    )
