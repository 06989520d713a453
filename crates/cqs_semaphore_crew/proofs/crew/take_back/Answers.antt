use Rattle.std.proofs.Common.{◌≡◌, length, rules, arith, All, refl, subst, sym, ap, ◌∙◌}
use Rattle.std.proofs.lemmas.List.{length_push}
use Rattle.std.proofs.lemmas.List.Elements.{All-tail}
use Rattle.std.specs.Vec.Iter.{into_iter_items}
use Rattle.cqs_semaphore_crew.specs.Workers.{IsHired}
use Rattle.cqs_semaphore_crew.proofs.Meeting.{met-none, met-then, course-none}
use Rattle.cqs_semaphore_crew.proofs.crew.take_back.Goals as goal

pub loop-given-init : goal.loop-given-init
loop-given-init c =
    let all : into_iter_items c.into_iter-given-iterator.result ≡ c.args.passes.items = search rules in record {
      rest = c.requires.rest;
      made_none = refl;
      met = met-none _ _ (course-none _ c.requires.rest.belongs.live.legal) refl;
      left = subst (All (IsHired c.args.semaphore.now)) (sym all) c.requires.hired;
      all = let same = ap (λ l. length l) all in omega arith;
    }

-- the pass that comes next is one of them
pub take_in-requires-clause-given : goal.take_in-requires-clause-given
take_in-requires-clause-given c =
    subst (All (IsHired c.args.semaphore.now)) c.in-Some.ensures.steps.0 c.loop-given.invariant.left
    0 c.in-Some.given (omega arith)

pub loop-given-preserved : goal.loop-given-preserved
loop-given-preserved c =
    let rest = c.take_in.ensures.rest in
    let so_far = c.loop-given.invariant in
    let left = subst (All (IsHired c.args.semaphore.now)) c.in-Some.ensures.steps.0 so_far.left in
    let less = ap (λ l. length l) c.in-Some.ensures.steps.0 in
    record {
      rest = record {
        belongs = rest.belongs;
        ready = rest.ready;
        held_is = rest.held_is ∙ so_far.rest.held_is;
        waits_are = rest.waits_are;
      };
      made_none = c.take_in.ensures.made_none ∙ so_far.made_none;
      met = rw length_push (met-then (length c.loop-given.yielded) 1 _ _ _ so_far.met c.take_in.ensures.met);
      left = All-tail (IsHired c.args.semaphore.now) c.in-Some.given _ left;
      all = rw length_push (let all = so_far.all in omega arith);
    }
