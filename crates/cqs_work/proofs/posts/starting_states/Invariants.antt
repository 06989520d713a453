use Rattle.cqs_work.specs.Opening.{AreStarting}
use Rattle.cqs_work.proofs.posts.starting_states.Given as goal

abbrev pub invariant-loop-place : goal.invariant-loop-place
invariant-loop-place l = AreStarting l.place l.workers l.worker l.states.items
