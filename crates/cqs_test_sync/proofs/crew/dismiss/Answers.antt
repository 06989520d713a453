use Rattle.std.proofs.Common.{◌≡◌, rules, arith, All, subst, sym}
use Rattle.std.proofs.lemmas.List.Elements.{All-tail}
use Rattle.std.specs.Vec.Iter.{into_iter_items}
use Rattle.cqs_sync_semaphore.specs.Callers.{IsAtRest}
use Rattle.cqs_test_sync.proofs.crew.dismiss.Goals as goal

pub loop-given-init : goal.loop-given-init
loop-given-init c =
    let all : into_iter_items c.into_iter-given-iterator.result ≡ c.args.worked.items = search rules in record {
      rest = c.requires.rest;
      left = subst (All (λ one. IsAtRest c.args.semaphore.now 0 one.0)) (sym all) c.requires.worked;
    }

-- the pass that comes next is one of them
pub take_in-requires-clause-given : goal.take_in-requires-clause-given
take_in-requires-clause-given c =
    subst (All (λ one. IsAtRest c.args.semaphore.now 0 one.0)) c.in-Some.ensures.steps.0 c.loop-given.invariant.left
    0 (c.in-Some.given, c.in-Some.counted) (omega arith)

pub loop-given-preserved : goal.loop-given-preserved
loop-given-preserved c =
    let left = subst (All (λ one. IsAtRest c.args.semaphore.now 0 one.0)) c.in-Some.ensures.steps.0
    c.loop-given.invariant.left in
    record {
      rest = c.take_in.ensures.rest;
      left = All-tail (λ one. IsAtRest c.args.semaphore.now 0 one.0) (c.in-Some.given, c.in-Some.counted) _ left;
    }
