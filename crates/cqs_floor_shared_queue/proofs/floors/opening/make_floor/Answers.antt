use Rattle.std.proofs.Common.{map, ap}
use Rattle.cqs_floor_shared_queue.proofs.FloorOpens.{kept-desk, name-desk, opens-desk}
use Rattle.cqs_floor_shared_queue.proofs.floors.opening.make_floor.Goals as goal

pub invariant_of-result : goal.invariant_of-result
invariant_of-result g c =
    kept-desk g.X.SharedResource.share c.args.plan.now c.args.workers c.args.worker c.args.shares.items
    c.requires.fresh c.requires.sized c.requires.worker c.requires.few c.in_ok-desk.desk c.in_ok-desk.ensures

pub returns-clause-opens : goal.returns-clause-opens
returns-clause-opens g c =
    opens-desk g.X.SharedResource.share c.args.plan.now c.args.workers c.args.worker c.args.shares.items
    c.requires.fresh c.requires.sized c.requires.worker c.requires.few c.in_ok-desk.desk c.in_ok-desk.ensures
    c.law.ensures c.requires.runnable

pub returns-clause-number : goal.returns-clause-number
returns-clause-number g c = c.in_ok-desk.ensures.number

pub returns-clause-family : goal.returns-clause-family
returns-clause-family g c =
    name-desk g.X.SharedResource.share c.args.plan.now c.args.workers c.args.worker c.args.shares.items
    c.requires.fresh c.requires.sized c.requires.worker c.requires.few c.in_ok-desk.desk c.in_ok-desk.ensures

pub returns-clause-limits : goal.returns-clause-limits
returns-clause-limits g c = ap (map g.X.SharedResource.share.limit) c.in_ok-desk.ensures.shares
