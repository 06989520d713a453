use Rattle.std.proofs.Common.{◌≡◌, All, rules, arith, subst, sym}
use Rattle.std.proofs.lemmas.List.Elements.{All-tail}
use Rattle.std.specs.Vec.Iter.{into_iter_items}
use Rattle.cqs_semaphore.specs.Callers.{IsIdle}
use Rattle.cqs_test_sleep.proofs.crew.dismiss.Goals as goal

pub loop-given-init : goal.loop-given-init
loop-given-init c =
    let all : into_iter_items c.into_iter-given-iterator.result ≡ c.args.slept.items = search rules in
    record {
      idle = c.requires.idle;
      left = subst (All (λ w. IsIdle c.args.semaphore.now w.0)) (sym all) c.requires.slept;
    }

-- the pass that comes next is one of them
pub take_in-requires-clause-given : goal.take_in-requires-clause-given
take_in-requires-clause-given c =
    subst (All (λ w. IsIdle c.args.semaphore.now w.0)) c.in-Some.ensures.steps.0 c.loop-given.invariant.left
    0 (c.in-Some.given, c.in-Some.times) (omega arith)

pub loop-given-preserved : goal.loop-given-preserved
loop-given-preserved c =
    let left = subst (All (λ w. IsIdle c.args.semaphore.now w.0)) c.in-Some.ensures.steps.0
    c.loop-given.invariant.left in
    record {
      idle = c.take_in.ensures.idle;
      left = All-tail (λ w. IsIdle c.args.semaphore.now w.0) (c.in-Some.given, c.in-Some.times) _ left;
    }
