use Rattle.std.proofs.Common.{ap, refl}
use Rattle.cqs_floor_alone.specs.Ledger.{plain_floor}
use Rattle.cqs_floor_alone_kinds.specs.SoleRunning.{store_running}
use Rattle.cqs_floor_alone_kinds.proofs.AnySoles.{running-lawful}
use Rattle.cqs_floor_alone.proofs.Arrivals.{arrive-can, arrive-each, arrive-few, arrive-floor, arrive-own}
use Rattle.cqs_floor_alone.proofs.LegalFloors.{legal-floor}
use Rattle.cqs_floor_alone.proofs.queue_floor.QueueFloorFloor.arrive.Goals as goal

pub arrive-requires-clause-sole : goal.arrive-requires-clause-sole
arrive-requires-clause-sole c =
    let view = ap (plain_floor store_running) c.self.view_is in
    arrive-can store_running _ _ _ _ view c.self.invariant c.requires.resource c.requires.job c.requires.room
    c.requires.to_come

pub arrive-requires-clause-own : goal.arrive-requires-clause-own
arrive-requires-clause-own c =
    let view = ap (plain_floor store_running) c.self.view_is in
    arrive-own store_running c.before.self.inside.desk _ _ view c.requires.job

pub arrive-requires-clause-each : goal.arrive-requires-clause-each
arrive-requires-clause-each c =
    let view = ap (plain_floor store_running) c.self.view_is in
    arrive-each store_running c.before.self.inside.desk _ _ _ view c.requires.job c.requires.resource

pub arrive-requires-clause-few : goal.arrive-requires-clause-few
arrive-requires-clause-few c =
    let view = ap (plain_floor store_running) c.self.view_is in
    arrive-few store_running c.before.self.inside.desk _ _ _ view c.self.invariant c.requires.resource

pub invariant_of-self : goal.invariant_of-self
invariant_of-self c =
    let view = ap (plain_floor store_running) c.self.view_is in
    (arrive-floor store_running running-lawful _ _ _ _ _ _ view c.self.invariant c.requires.resource c.requires.job
    c.requires.idle c.requires.room c.arrive.ensures).kept

pub returns-clause-answer : goal.returns-clause-answer
returns-clause-answer c =
    let view = ap (plain_floor store_running) c.self.view_is in
    (arrive-floor store_running running-lawful _ _ _ _ _ _ view c.self.invariant c.requires.resource c.requires.job
    c.requires.idle c.requires.room c.arrive.ensures).answers

pub returns-clause-after : goal.returns-clause-after
returns-clause-after c =
    let view = ap (plain_floor store_running) c.self.view_is in
    (arrive-floor store_running running-lawful _ _ _ _ _ _ view c.self.invariant c.requires.resource c.requires.job
    c.requires.idle c.requires.room c.arrive.ensures).leaves

pub returns-clause-legal : goal.returns-clause-legal
returns-clause-legal c =
    let view = ap (plain_floor store_running) c.self.view_is in
    legal-floor store_running running-lawful _ _ refl
    (arrive-floor store_running running-lawful _ _ _ _ _ _ view c.self.invariant c.requires.resource c.requires.job
    c.requires.idle c.requires.room c.arrive.ensures).kept
