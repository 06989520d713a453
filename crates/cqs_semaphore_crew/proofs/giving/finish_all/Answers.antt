use Rattle.std.proofs.Common.{◌∙◌, refl, []}
use Rattle.cqs_semaphore_client.specs.Semaphore.{semaphore_object}
use Rattle.cqs_rule_laws.proofs.Courses.{course-call, course-then}
use Rattle.cqs_semaphore_crew.proofs.Meeting.{course-none}
use Rattle.cqs_semaphore_crew.proofs.Telling.{adds-none, adds-under, adds-silent, adds-then_sent, adds-then_left, adds-then_void, adds-then}
use Rattle.cqs_semaphore_crew.proofs.giving.finish_all.Goals as goal

pub loop-init : goal.loop-init
loop-init g c = record {
  owing = c.requires.owes;
  adds = adds-none 1 _ _ c.requires.owes.belongs.live.legal;
  keeps = record { acquires = refl; tries = refl };
  silent = course-none _ c.requires.owes.belongs.live.legal;
}

pub loop-preserved : goal.loop-preserved
loop-preserved g c =
    let owing = c.loop.invariant.owing in
    let ends = rw c.in-Under.is at c.finish.ensures.ends in
    record {
      owing = record {
        belongs = c.finish.ensures.belongs;
        owes = ends.owes;
        further = ends.further;
        held_is = ends.held_is ∙ owing.held_is;
        waits_are = ends.waits_are ∙ owing.waits_are;
      };
      adds = adds-then 1 1 1 _ _ _ _ _ _ (adds-under _ _ _ _ _ c.loop.invariant.adds)
          (adds-silent 1 _ _ _ _ (rw c.in-Under.is at c.finish.ensures.called));
      keeps = record { acquires = c.loop.invariant.keeps.acquires; tries = c.loop.invariant.keeps.tries };
      silent = course-then semaphore_object _ _ _ [] [] c.loop.invariant.silent
          (course-call semaphore_object _ _ [] _ _ c.finish.ensures.called);
    }

pub returns-in-Sent-clause-adds : goal.returns-in-Sent-clause-adds
returns-in-Sent-clause-adds g c =
    adds-then 1 1 0 _ _ _ _ _ _ (adds-under _ _ _ _ _ c.loop.invariant.adds)
    (adds-then_sent _ _ _ _ _ (rw c.in-Sent.is at c.finish.ensures.called) c.count-in-Sent.ensures)

pub returns-in-Left-clause-adds : goal.returns-in-Left-clause-adds
returns-in-Left-clause-adds g c =
    adds-then 1 1 0 _ _ _ _ _ _ (adds-under _ _ _ _ _ c.loop.invariant.adds)
    (adds-then_left _ _ _ _ (rw c.in-Left.is at c.finish.ensures.called) c.count-in-Left.ensures)

pub returns-in-Void-clause-adds : goal.returns-in-Void-clause-adds
returns-in-Void-clause-adds g c =
    adds-then 1 1 0 _ _ _ _ _ _ (adds-under _ _ _ _ _ c.loop.invariant.adds)
    (adds-then_void _ _ _ _ (rw c.in-Void.is at c.finish.ensures.called) c.count-in-Void.ensures)

pub returns-in-Sent-clause-silent : goal.returns-in-Sent-clause-silent
returns-in-Sent-clause-silent g c =
    course-then semaphore_object _ _ _ [] [] c.loop.invariant.silent
    (course-call semaphore_object _ _ [] _ _ c.finish.ensures.called)

pub returns-in-Left-clause-silent : goal.returns-in-Left-clause-silent
returns-in-Left-clause-silent g c =
    course-then semaphore_object _ _ _ [] [] c.loop.invariant.silent
    (course-call semaphore_object _ _ [] _ _ c.finish.ensures.called)

pub returns-in-Void-clause-silent : goal.returns-in-Void-clause-silent
returns-in-Void-clause-silent g c =
    course-then semaphore_object _ _ _ [] [] c.loop.invariant.silent
    (course-call semaphore_object _ _ [] _ _ c.finish.ensures.called)

pub returns-in-Sent-clause-keeps : goal.returns-in-Sent-clause-keeps
returns-in-Sent-clause-keeps g c =
    record { acquires = c.loop.invariant.keeps.acquires; tries = c.loop.invariant.keeps.tries }

pub returns-in-Left-clause-keeps : goal.returns-in-Left-clause-keeps
returns-in-Left-clause-keeps g c =
    record { acquires = c.loop.invariant.keeps.acquires; tries = c.loop.invariant.keeps.tries }

pub returns-in-Void-clause-keeps : goal.returns-in-Void-clause-keeps
returns-in-Void-clause-keeps g c =
    record { acquires = c.loop.invariant.keeps.acquires; tries = c.loop.invariant.keeps.tries }
