use Rattle.std.proofs.Common.{ap, refl}
use Rattle.cqs_floor_alone.specs.Ledger.{plain_floor}
use Rattle.cqs_floor_alone_kinds.specs.SoleRunning.{store_running}
use Rattle.cqs_floor_alone_kinds.proofs.AnySoles.{running-lawful}
use Rattle.cqs_floor_alone.proofs.Takes.{take-can, take-floor}
use Rattle.cqs_floor_alone.proofs.LegalFloors.{legal-floor}
use Rattle.cqs_floor_alone.proofs.queue_floor.QueueFloorFloor.take.Goals as goal

pub take-requires-clause-sole : goal.take-requires-clause-sole
take-requires-clause-sole c =
    take-can store_running _ _ _ _
    (ap (plain_floor store_running) c.self.view_is) c.self.invariant c.requires.resource c.requires.job
    c.requires.room

pub invariant_of-self : goal.invariant_of-self
invariant_of-self c =
    (take-floor store_running running-lawful _ _ _ _ _ _
    (ap (plain_floor store_running) c.self.view_is) c.self.invariant c.requires.resource c.requires.job
    c.requires.idle c.requires.room c.take.ensures).kept

pub returns-clause-answer : goal.returns-clause-answer
returns-clause-answer c =
    (take-floor store_running running-lawful _ _ _ _ _ _
    (ap (plain_floor store_running) c.self.view_is) c.self.invariant c.requires.resource c.requires.job
    c.requires.idle c.requires.room c.take.ensures).answers

pub returns-clause-after : goal.returns-clause-after
returns-clause-after c =
    (take-floor store_running running-lawful _ _ _ _ _ _
    (ap (plain_floor store_running) c.self.view_is) c.self.invariant c.requires.resource c.requires.job
    c.requires.idle c.requires.room c.take.ensures).leaves

pub returns-clause-legal : goal.returns-clause-legal
returns-clause-legal c =
    legal-floor store_running running-lawful _ _ refl
    (take-floor store_running running-lawful _ _ _ _ _ _
    (ap (plain_floor store_running) c.self.view_is) c.self.invariant c.requires.resource c.requires.job
    c.requires.idle c.requires.room c.take.ensures).kept
