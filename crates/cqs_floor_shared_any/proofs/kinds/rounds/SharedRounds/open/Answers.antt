use Rattle.std.proofs.Common.{arith, subst, sym}
use Rattle.std.proofs.lemmas.List.{length_push}
use Rattle.cqs_core.proofs.EachAtLemmas.{EachAt-push}
use Rattle.cqs_plan.specs.Validity.{IsKind}
use Rattle.cqs_floor_shared_any.specs.RoundsOne.{IsOpenedRound}
use Rattle.cqs_floor_shared_any.specs.RoundsShares.{share_rounds}
use Rattle.cqs_floor_shared_kinds.specs.ShareCalls.{IsOpened}
use Rattle.cqs_floor_shared_any.proofs.RoundsOpens.{rounds-opened}
use Rattle.cqs_floor_shared_any.proofs.kinds.rounds.SharedRounds.open.Goals as goal

pub loop-round-preserved : goal.loop-round-preserved
loop-round-preserved c =
    let made = c.loop-round.made.items in
    let long = c.loop-round.invariant.long in
    record {
      long = rw c.in_ok-push.ensures.items (omega (arith, length_push made c.in_ok-open.field-0, long));
      each = rw c.in_ok-push.ensures.items
          (EachAt-push (λ round r. IsOpenedRound c.in-Rounds.parties c.args.workers c.args.arrivals r)
          (λ round r. IsOpenedRound c.in-Rounds.parties c.args.workers c.args.arrivals r) made c.in_ok-open.field-0
          c.in_ok-open.ensures (λ round r got opened. opened) c.loop-round.invariant.each);
    }

pub returns : goal.returns
returns c =
    let sized = subst IsKind c.in-Rounds.is c.requires.sized in
    subst (λ k. IsOpened share_rounds k c.args.workers c.args.arrivals (record { rounds = c.loop-round.made }))
    (sym c.in-Rounds.is)
    (rounds-opened (record { rounds = c.loop-round.made }) c.in-Rounds.parties c.in-Rounds.rounds c.args.workers
    c.args.arrivals sized
    (omega (arith, c.loop-round.invariant.long, c.loop-round-test.false, c.loop-round.auto._round-end))
    c.loop-round.invariant.each)
