use Rattle.std.proofs.Common.{arith}
use Rattle.std.proofs.lemmas.List.Elements.{All-append}
use Rattle.cqs_limiter_requests.specs.Lines.{IsPermits}
use Rattle.cqs_limiter_requests.proofs.Heads.{moves-on, one-permit}
use Rattle.cqs_limiter_requests.proofs.reading.permits_in.Goals as goal

pub loop-number-preserved : goal.loop-number-preserved
loop-number-preserved c =
    let some = c.if-number-eq0.false in
    let most = c.if-number-gt1048576.false in
    rw c.in_ok-push.ensures.items (
      moves-on _ _ _ _ c.loop-number-test.true c.loop-number.invariant.0,
      All-append IsPermits _ _ c.loop-number.invariant.1 (one-permit _ (omega (arith, some)) (omega (arith, most))),
    )
