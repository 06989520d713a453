use Rattle.std.proofs.Common.{refl, arith}
use Rattle.std.proofs.lemmas.List.{length_push}
use Rattle.cqs_core.proofs.EachAtLemmas.{EachAt-push}
use Rattle.cqs_floor_alone_kinds.specs.SoleRound.{IsOpenedRound}
use Rattle.cqs_floor_alone_kinds.proofs.BarrierSole.{rounds-opened}
use Rattle.cqs_floor_alone_kinds.proofs.rounds_sole.RoundsSole.open.Goals as goal

pub loop-round-preserved : goal.loop-round-preserved
loop-round-preserved c =
    let made = c.loop-round.made.items in
    let long = c.loop-round.invariant.long in
    record {
      long = rw c.in_ok-push.ensures.items (omega (arith, length_push made c.in_ok-open.field-0, long));
      each = rw c.in_ok-push.ensures.items
          (EachAt-push (λ round r. IsOpenedRound c.args.parties c.args.arrivals r)
          (λ round r. IsOpenedRound c.args.parties c.args.arrivals r) made c.in_ok-open.field-0 c.in_ok-open.ensures
          (λ round r got opened. opened) c.loop-round.invariant.each);
    }

pub returns : goal.returns
returns c =
    rounds-opened _ c.args.parties c.args.rounds c.args.arrivals c.requires.some c.requires.few_rounds
    (omega (arith, c.loop-round.invariant.long, c.loop-round-test.false, c.loop-round.auto._round-end))
    c.loop-round.invariant.each refl
