use Rattle.std.proofs.Common.{◌≡◌, ◌+◌, ◌≤◌, length, rules, arith, All, refl, subst, sym, ap, ◌∙◌}
use Rattle.std.proofs.Math.Nat.{zero-mul}
use Rattle.std.proofs.lemmas.List.{length_push}
use Rattle.std.proofs.lemmas.List.Elements.{All-tail}
use Rattle.std.specs.Vec.Iter.{into_iter_items}
use Rattle.cqs_rule.specs.Passes.{pass_view}
use Rattle.cqs_semaphore_crew.specs.Workers.{HasCounted, HasToldAll, IsHired}
use Rattle.cqs_semaphore_crew.specs.Sums.{CountsRounds}
use Rattle.cqs_semaphore_crew.proofs.Calls.{rounds-with}
use Rattle.cqs_semaphore_crew.proofs.Meeting.{met-none, met-then, course-none, counted-none, counted-more}
use Rattle.cqs_semaphore_crew.proofs.crew.dismiss.Goals as goal

pub loop-given-init : goal.loop-given-init
loop-given-init c =
    let all : into_iter_items c.into_iter-given-iterator.result ≡ c.args.worked.items = search rules in record {
      rest = c.requires.rest;
      made_none = refl;
      met = met-none _ _ (course-none _ c.requires.rest.belongs.live.legal) refl;
      left = subst (All (λ w. IsHired c.args.semaphore.now w.0)) (sym all) c.requires.worked;
      told = subst (All (λ w. HasToldAll w.0 w.1)) (sym all) c.requires.told;
      counted = counted-none c.args._rounds _ _ c.none_yet-counts.ensures.is;
      made = subst (All (λ w. CountsRounds c.args._rounds w.1)) (sym all) c.requires.made;
      rounds = subst (λ n. CountsRounds n c.none_yet-counts.result) (sym (zero-mul c.args._rounds))
          c.none_yet-counts.ensures.none;
      all = let same = ap (λ l. length l) all in omega arith;
    }

-- the pass that comes next is one of them
pub take_in-requires-clause-given : goal.take_in-requires-clause-given
take_in-requires-clause-given c =
    subst (All (λ w. IsHired c.args.semaphore.now w.0)) c.in-Some.ensures.steps.0 c.loop-given.invariant.left
    0 (c.in-Some.given, c.in-Some.counted) (omega arith)

pub loop-given-preserved : goal.loop-given-preserved
loop-given-preserved c =
    let rest = c.take_in.ensures.rest in
    let so_far = c.loop-given.invariant in
    let left = subst (All (λ w. IsHired c.args.semaphore.now w.0)) c.in-Some.ensures.steps.0 so_far.left in
    let told = subst (All (λ w. HasToldAll w.0 w.1)) c.in-Some.ensures.steps.0 so_far.told in
    let made = subst (All (λ w. CountsRounds c.args._rounds w.1)) c.in-Some.ensures.steps.0 so_far.made in
    let less = ap (λ l. length l) c.in-Some.ensures.steps.0 in
    let few : length c.loop-given.yielded + 1 ≤ 4294967295 = let all = so_far.all in omega (arith, c.requires.few) in
    record {
      rest = record {
        belongs = rest.belongs;
        ready = rest.ready;
        held_is = rest.held_is ∙ so_far.rest.held_is;
        waits_are = rest.waits_are;
      };
      made_none = c.take_in.ensures.made_none ∙ so_far.made_none;
      met = rw length_push (met-then (length c.loop-given.yielded) 1 _ _ _ so_far.met c.take_in.ensures.met);
      left = All-tail (λ w. IsHired c.args.semaphore.now w.0) (c.in-Some.given, c.in-Some.counted) _ left;
      told = All-tail (λ w. HasToldAll w.0 w.1) (c.in-Some.given, c.in-Some.counted) _ told;
      counted = subst (HasCounted c.args._rounds (pass_view c.args.pass.now) (pass_view c.take_in.new.pass))
          (sym c.with-counts.ensures)
          (counted-more c.args._rounds _ _ _ _ _ _ so_far.counted c.take_in.ensures.taken
          (told 0 (c.in-Some.given, c.in-Some.counted) (omega arith))
          (made 0 (c.in-Some.given, c.in-Some.counted) (omega arith)));
      made = All-tail (λ w. CountsRounds c.args._rounds w.1) (c.in-Some.given, c.in-Some.counted) _ made;
      rounds = rw length_push (subst (CountsRounds _) (sym c.with-counts.ensures)
          (rounds-with (length c.loop-given.yielded) c.args._rounds _ _ so_far.rounds
          (made 0 (c.in-Some.given, c.in-Some.counted) (omega arith)) few (omega (arith, c.ranges._rounds.fits))));
      all = rw length_push (let all = so_far.all in omega arith);
    }
