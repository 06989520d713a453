use Rattle.cqs_rule.specs.Passes.{pass_view}
use Rattle.cqs_rule.proofs.Places.{knows-saw}
use Rattle.cqs_semaphore_client.specs.Semaphore.{semaphore_object}
use Rattle.cqs_test_queue.proofs.synchronous.end_leaving.Goals as goal

-- the pass knows the places that it knew before it asked
pub settle-requires-clause-place : goal.settle-requires-clause-place
settle-requires-clause-place g c =
    knows-saw semaphore_object (pass_view c.args.pass.now) (pass_view c.on_cancellation.new.pass) _ _ c.args.at
    c.on_cancellation.ensures.answered.moved.saw c.requires.place
