use Rattle.cqs_floor_alone_kinds.specs.SoleRunning.{store_running}
use Rattle.cqs_floor_alone.proofs.Opened.{kept-opened, plain-opened}
use Rattle.cqs_floor_alone.proofs.queue_floor.QueueFloor.new.Goals as goal

pub invariant_of-result : goal.invariant_of-result
invariant_of-result c =
    kept-opened store_running c.args.plan.now c.in_ok-desk.desk c.in_ok-desk.ensures
    c.requires.sized

pub returns : goal.returns
returns c = plain-opened store_running c.args.plan.now c.in_ok-desk.desk c.in_ok-desk.ensures
