use Rattle.std.proofs.Common.{◌∙◌, ap, refl, arith}
use Rattle.cqs_rule_laws.specs.declared.view.Facts.{Facts}
use Rattle.cqs_semaphore_crew.proofs.Telling.{adds-none, adds-freed, adds-sent, adds-left, adds-void, adds-sending, adds-silent, adds-then}
use Rattle.cqs_semaphore_crew.proofs.giving.give_back.Goals as goal

pub loop-init : goal.loop-init
loop-init g c = record {
  rest = c.requires.rest;
  adds = adds-none 0 _ _ c.requires.rest.belongs.live.legal;
  keeps = record { acquires = refl; tries = refl };
}

-- a release that was refused changed nothing of what the pass holds
pub loop-preserved : goal.loop-preserved
loop-preserved g c =
    let rest = c.loop.invariant.rest in
    let same = c.in-Err.ensures.crowded.facts_are in
    record {
      rest = record {
        belongs = c.release.ensures.belongs;
        ready = c.in-Err.ensures.ready;
        held_is = ap (λ (f : Facts). f.has.held) same ∙ rest.held_is;
        waits_are = ap (λ (f : Facts). f.waits) same ∙ rest.waits_are;
      };
      adds = adds-then 0 0 0 _ _ _ _ _ _ c.loop.invariant.adds
          (adds-silent 0 _ _ _ _ (rw c.in-Err.is at c.release.ensures.called));
      keeps = c.loop.invariant.keeps;
    }

pub returns-in-Ok-Freed-clause-adds : goal.returns-in-Ok-Freed-clause-adds
returns-in-Ok-Freed-clause-adds g c =
    adds-then 0 0 0 _ _ _ _ _ _ c.loop.invariant.adds
    (adds-freed _ _ _ _ (rw c.in-Ok-Freed.field-0-is at c.in-Ok-Freed.ensures.called) c.count.ensures)

pub returns-in-Ok-Sent-clause-adds : goal.returns-in-Ok-Sent-clause-adds
returns-in-Ok-Sent-clause-adds g c =
    adds-then 0 0 0 _ _ _ _ _ _ c.loop.invariant.adds
    (adds-sent _ _ _ _ _ (rw c.in-Ok-Sent.field-0-is at c.in-Ok-Sent.ensures.called) c.count-in-Ok-Sent.ensures)

pub returns-in-Ok-Left-clause-adds : goal.returns-in-Ok-Left-clause-adds
returns-in-Ok-Left-clause-adds g c =
    adds-then 0 0 0 _ _ _ _ _ _ c.loop.invariant.adds
    (adds-left _ _ _ _ (rw c.in-Ok-Left.field-0-is at c.in-Ok-Left.ensures.called) c.count-in-Ok-Left.ensures)

pub returns-in-Ok-Void-clause-adds : goal.returns-in-Ok-Void-clause-adds
returns-in-Ok-Void-clause-adds g c =
    adds-then 0 0 0 _ _ _ _ _ _ c.loop.invariant.adds
    (adds-void _ _ _ _ (rw c.in-Ok-Void.field-0-is at c.in-Ok-Void.ensures.called) c.count-in-Ok-Void.ensures)

pub returns-in-Ok-Under-clause-adds : goal.returns-in-Ok-Under-clause-adds
returns-in-Ok-Under-clause-adds g c =
    adds-then 0 0 0 _ _ _ _ _ _ c.loop.invariant.adds
    (adds-then 0 1 0 _ _ _ _ _ _ (adds-sending _ _ _ (rw c.in-Ok-Under.field-0-is at c.in-Ok-Under.ensures.called))
    c.finish_all.ensures.adds)
