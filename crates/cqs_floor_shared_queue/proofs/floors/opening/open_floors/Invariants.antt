use Rattle.cqs_floor_shared_queue.proofs.OpenNext.{Ready}
use Rattle.cqs_floor_shared_queue.proofs.floors.opening.open_floors.Given as goal

-- the floors of the workers before this one are made, and the resources are ready for it
abbrev pub invariant-loop-worker : goal.invariant-loop-worker
invariant-loop-worker g l =
    Ready g.X.SharedResource.share l.plan l.workers l.worker l.shares.items l.floors.items
