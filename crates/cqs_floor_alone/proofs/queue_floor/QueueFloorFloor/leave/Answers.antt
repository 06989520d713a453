use Rattle.std.proofs.Common.{ap, refl}
use Rattle.cqs_floor_alone.specs.Ledger.{plain_floor}
use Rattle.cqs_floor_alone_kinds.specs.SoleRunning.{store_running}
use Rattle.cqs_floor_alone_kinds.proofs.AnySoles.{running-lawful}
use Rattle.cqs_floor_alone.proofs.Arrivals.{arrive-own}
use Rattle.cqs_floor_alone.proofs.Looks.{end-can, end-each, end-spare, leave-floor}
use Rattle.cqs_floor_alone.proofs.LegalFloors.{legal-floor}
use Rattle.cqs_floor_alone.proofs.queue_floor.QueueFloorFloor.leave.Goals as goal

pub leave-requires-clause-wait : goal.leave-requires-clause-wait
leave-requires-clause-wait c =
    end-can store_running _ _ _ (ap (plain_floor store_running) c.self.view_is) c.self.invariant c.requires.job
    c.requires.waits

pub leave-requires-clause-spare : goal.leave-requires-clause-spare
leave-requires-clause-spare c =
    end-spare store_running _ _ _ (ap (plain_floor store_running) c.self.view_is) c.self.invariant c.requires.waits

pub leave-requires-clause-own : goal.leave-requires-clause-own
leave-requires-clause-own c =
    let view = ap (plain_floor store_running) c.self.view_is in
    arrive-own store_running c.before.self.inside.desk _ _ view c.requires.job

pub leave-requires-clause-each : goal.leave-requires-clause-each
leave-requires-clause-each c =
    let view = ap (plain_floor store_running) c.self.view_is in
    end-each store_running c.before.self.inside.desk _ _ view c.requires.job

pub invariant_of-self : goal.invariant_of-self
invariant_of-self c =
    (leave-floor store_running _ _ _ _ _ (ap (plain_floor store_running) c.self.view_is) c.self.invariant
    c.requires.job c.leave.ensures).kept

pub returns-clause-answer : goal.returns-clause-answer
returns-clause-answer c =
    (leave-floor store_running _ _ _ _ _ (ap (plain_floor store_running) c.self.view_is) c.self.invariant
    c.requires.job c.leave.ensures).answers

pub returns-clause-after : goal.returns-clause-after
returns-clause-after c =
    (leave-floor store_running _ _ _ _ _ (ap (plain_floor store_running) c.self.view_is) c.self.invariant
    c.requires.job c.leave.ensures).leaves

pub returns-clause-legal : goal.returns-clause-legal
returns-clause-legal c =
    legal-floor store_running running-lawful _ _ refl
    (leave-floor store_running _ _ _ _ _ (ap (plain_floor store_running) c.self.view_is) c.self.invariant
    c.requires.job c.leave.ensures).kept
