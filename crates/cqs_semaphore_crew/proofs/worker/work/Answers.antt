use Rattle.std.proofs.Common.{[], ◌∙◌, arith}
use Rattle.cqs_semaphore_crew.proofs.Calls.{calls-then}
use Rattle.cqs_semaphore_crew.proofs.Telling.{adds-none, adds-then}
use Rattle.cqs_semaphore_crew.proofs.worker.work.Goals as goal

pub loop-round-init : goal.loop-round-init
loop-round-init g c = record {
  rest = c.requires.rest;
  adds = adds-none 0 _ _ c.requires.rest.belongs.live.legal;
  calls = c.none_yet-counts.ensures.none;
}

pub loop-round-preserved : goal.loop-round-preserved
loop-round-preserved g c =
    let so_far = c.loop-round.invariant in
    let rest = c.try_once.ensures.rest in
    let both = calls-then 1 0 0 1 _ _ _ c.acquire_once.ensures.calls c.try_once.ensures.calls in
    let acquires = so_far.calls.acquires in
    let tries = so_far.calls.tries in
    let few = c.ranges.rounds.fits in
    record {
      rest = record {
        belongs = rest.belongs;
        ready = rest.ready;
        held_is = rest.held_is ∙ (c.acquire_once.ensures.rest.held_is ∙ so_far.rest.held_is);
        waits_are = rest.waits_are;
      };
      adds = adds-then 0 0 0 _ _ _ _ _ _ so_far.adds
          (adds-then 0 0 0 _ _ _ _ _ _ c.acquire_once.ensures.adds c.try_once.ensures.adds);
      calls = record {
        acquires = let more = both.acquires_are (omega (arith, acquires, few)) in omega (arith, more, acquires);
        tries = let more = both.tries_are (omega (arith, tries, few)) in omega (arith, more, tries);
      };
    }

pub returns-clause-worked : goal.returns-clause-worked
returns-clause-worked g c =
    let adds = c.loop-round.invariant.adds in record {
      own = adds.own;
      course = adds.course;
      named = adds.named;
      same = adds.same;
      tells = adds.tells [] c.none_yet-counts.ensures.tells;
    }
