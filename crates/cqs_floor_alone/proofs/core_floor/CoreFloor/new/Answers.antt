use Rattle.cqs_floor_alone_kinds.specs.SoleCore.{store_core}
use Rattle.cqs_floor_alone.proofs.Opened.{kept-opened, plain-opened}
use Rattle.cqs_floor_alone.proofs.core_floor.CoreFloor.new.Goals as goal

pub invariant_of-result : goal.invariant_of-result
invariant_of-result c =
    kept-opened store_core c.args.plan.now c.in_ok-desk.desk c.in_ok-desk.ensures
    c.requires.sized

pub returns : goal.returns
returns c = plain-opened store_core c.args.plan.now c.in_ok-desk.desk c.in_ok-desk.ensures
