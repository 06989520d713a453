use Rattle.std.proofs.Common.{[], ◌∷◌, ◌+◌, refl, ap, sym, ◌∙◌}
use Rattle.cqs_rule_laws.specs.declared.config.Place.{Place}
use Rattle.cqs_rule_laws.specs.Lists.{without}
use Rattle.cqs_rule.specs.Waits.{place_of}
use Rattle.cqs_semaphore_crew.proofs.Ends.{without-one}
use Rattle.cqs_semaphore_crew.proofs.Telling.{adds-none, adds-granted, adds-pending, adds-then}
use Rattle.cqs_semaphore_crew.proofs.Waits.{looks-none, looks-more, looks-granted}
use Rattle.cqs_semaphore_crew.proofs.waiting.look_on.Goals as goal

pub loop-init : goal.loop-init
loop-init c = record {
  waits = c.requires.waits;
  adds = adds-none 0 _ _ c.requires.waits.0.belongs.live.legal;
  keeps = record { acquires = refl; tries = refl };
  looks = looks-none _ _ c.requires.waits.0.belongs.live.legal;
  place = refl;
}

pub loop-preserved : goal.loop-preserved
loop-preserved c =
    let waits = c.loop.invariant.waits.0 in
    let polled = rw c.in-Pending.is at c.poll.ensures.polled in
    record {
      waits = (
        record {
          belongs = c.poll.ensures.belongs;
          ready = c.poll.ensures.ready;
          held_is = polled.3.held_is ∙ waits.held_is;
          waits_are = polled.3.waits_are ∙ (waits.waits_are ∙ ap (λ (p : Place). p.index ∷ []) (sym polled.0));
        },
        polled.1,
      );
      adds = adds-then 0 0 0 _ _ _ _ _ _ c.loop.invariant.adds
          (adds-pending _ _ _ _ _ (rw c.in-Pending.is at c.poll.ensures.called) c.count-in-Pending.ensures);
      keeps = record { acquires = c.loop.invariant.keeps.acquires; tries = c.loop.invariant.keeps.tries };
      looks = looks-more _ _ _ _ _ _ c.loop.invariant.looks (rw c.in-Pending.is at c.poll.ensures.called)
          c.loop.invariant.place;
      place = ap (λ (p : Place). p.index) polled.0 ∙ c.loop.invariant.place;
    }

-- the one wait was served
pub returns-in-Granted-clause-looked : goal.returns-in-Granted-clause-looked
returns-in-Granted-clause-looked c =
    let k = (place_of c.loop.wait).index in
    let waits = c.loop.invariant.waits.0 in
    let polled = rw c.in-Granted.is at c.poll.ensures.polled in
    record {
      belongs = c.poll.ensures.belongs;
      ready = c.poll.ensures.ready;
      held_is = polled.2.held_is ∙ ap (λ n. n + 1) waits.held_is;
      waits_are = polled.2.waits_are ∙ (ap (without k) waits.waits_are ∙ without-one k);
    }

pub returns-in-Granted-clause-adds : goal.returns-in-Granted-clause-adds
returns-in-Granted-clause-adds c =
    adds-then 0 0 0 _ _ _ _ _ _ c.loop.invariant.adds
    (adds-granted _ _ _ _ _ (rw c.in-Granted.is at c.poll.ensures.called) c.count.ensures)

pub returns-in-Granted-clause-looks : goal.returns-in-Granted-clause-looks
returns-in-Granted-clause-looks c =
    looks-granted _ _ _ _ _ _ c.loop.invariant.looks (rw c.in-Granted.is at c.poll.ensures.called)
    c.loop.invariant.place

pub returns-in-Granted-clause-keeps : goal.returns-in-Granted-clause-keeps
returns-in-Granted-clause-keeps c =
    record { acquires = c.loop.invariant.keeps.acquires; tries = c.loop.invariant.keeps.tries }
