use Rattle.cqs_floor_common.proofs.Counting.{runnable-countable}
use Rattle.cqs_floor_shared_queue.proofs.floors.opening.make_desk.Goals as goal

pub count_room-requires-clause-countable : goal.count_room-requires-clause-countable
count_room-requires-clause-countable g c =
    rw (c.as_slice-resources.ensures, c.as_slice-jobs.ensures) (runnable-countable c.args.plan.now c.requires.runnable)
