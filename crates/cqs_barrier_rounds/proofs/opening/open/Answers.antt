use Rattle.std.proofs.Common.{◌≡◌, ◌<◌, true, Ok, ap, length, arith}
use Rattle.std.specs.Result.{IsErrOf}
use Rattle.std.proofs.lemmas.List.{length_push}
use Rattle.cqs_rule.specs.Passes.{ample_of}
use Rattle.cqs_barrier_rounds.specs.Rounds.{IsOpened}
use Rattle.cqs_barrier_rounds.proofs.Below.{each-none, each-push}
use Rattle.cqs_barrier_rounds.proofs.Mine.{mine-none, mine-push}
use Rattle.cqs_barrier_rounds.proofs.Pairs.{pairs-none, pairs-push}
use Rattle.cqs_barrier_rounds.proofs.opening.open.Goals as goal

-- what is Ok is no error
not-err : {T E : Type 0} (x : T) (e : E) → IsErrOf (Ok x) e → ⊥
not-err x e is = absurd (cc)

pub loop-round-init : goal.loop-round-init
loop-round-init c = record {
  long = ap length c.new-barriers.ensures.items;
  mine = mine-none _ _ c.new-barriers.ensures.items c.new-passes.ensures.items;
  opened = pairs-none (IsOpened c.args.config c.args.parties) _ _ c.new-barriers.ensures.items;
  ample = λ is. each-none (λ b. ample_of b.queue ≡ true) _ c.new-barriers.ensures.items;
  in_range = λ some bad. absurd (omega arith);
}

pub loop-round-preserved : goal.loop-round-preserved
loop-round-preserved c =
    let long = c.loop-round.invariant.long in
    record {
      long = rw c.in-Ok.ensures.items
          (omega (arith, length_push c.loop-round.barriers.items c.in_ok-barrier.barrier, long));
      mine = rw (c.in-Ok.ensures.items, c.in-Ok-push.ensures.items)
          (mine-push _ _ _ _ c.loop-round.invariant.mine c.in_ok-barrier.ensures.belongs);
      opened = rw (c.in-Ok.ensures.items, c.in-Ok-push.ensures.items)
          (pairs-push (IsOpened c.args.config c.args.parties) _ _ _ _ c.loop-round.invariant.mine.many
          c.loop-round.invariant.opened c.in_ok-barrier.ensures.opened);
      ample = λ is. rw c.in-Ok.ensures.items
          (each-push (λ b. ample_of b.queue ≡ true) _ _ (c.loop-round.invariant.ample is)
          (c.in_ok-barrier.ensures.ample is));
      in_range = λ some bad. not-err _ _ (c.in_ok-barrier.ensures.bad_config.1 bad);
    }

pub returns-clause-bad_config : goal.returns-clause-bad_config
returns-clause-bad_config c =
    let some : 0 < c.loop-round._round = omega arith in
    (λ is. absurd (not-err _ _ is), λ bad. absurd (c.loop-round.invariant.in_range some bad))

pub returns-clause-rounds : goal.returns-clause-rounds
returns-clause-rounds c = let long = c.loop-round.invariant.long in omega arith

pub returns-clause-belongs : goal.returns-clause-belongs
returns-clause-belongs c = c.loop-round.invariant.mine

pub returns-clause-opened : goal.returns-clause-opened
returns-clause-opened c = c.loop-round.invariant.opened

pub returns-clause-ample : goal.returns-clause-ample
returns-clause-ample c = c.loop-round.invariant.ample
