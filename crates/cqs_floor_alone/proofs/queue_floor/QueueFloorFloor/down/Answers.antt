use Rattle.std.proofs.Common.{ap, refl}
use Rattle.cqs_floor_alone.specs.Ledger.{plain_floor}
use Rattle.cqs_floor_alone_kinds.specs.SoleRunning.{store_running}
use Rattle.cqs_floor_alone_kinds.proofs.AnySoles.{running-lawful}
use Rattle.cqs_floor_alone.proofs.Latches.{down-can, down-floor}
use Rattle.cqs_floor_alone.proofs.LegalFloors.{legal-floor}
use Rattle.cqs_floor_alone.proofs.queue_floor.QueueFloorFloor.down.Goals as goal

pub down-requires : goal.down-requires
down-requires c =
    let view = ap (plain_floor store_running) c.self.view_is in
    record { sole = down-can store_running _ _ _ view c.self.invariant c.requires.resource }

pub invariant_of-self : goal.invariant_of-self
invariant_of-self c =
    let view = ap (plain_floor store_running) c.self.view_is in
    (down-floor store_running _ _ _ _ _ view c.self.invariant c.down.ensures).kept

pub returns-clause-answer : goal.returns-clause-answer
returns-clause-answer c =
    let view = ap (plain_floor store_running) c.self.view_is in
    (down-floor store_running _ _ _ _ _ view c.self.invariant c.down.ensures).answers

pub returns-clause-after : goal.returns-clause-after
returns-clause-after c =
    let view = ap (plain_floor store_running) c.self.view_is in
    (down-floor store_running _ _ _ _ _ view c.self.invariant c.down.ensures).leaves

pub returns-clause-legal : goal.returns-clause-legal
returns-clause-legal c =
    let view = ap (plain_floor store_running) c.self.view_is in
    legal-floor store_running running-lawful _ _ refl
    (down-floor store_running _ _ _ _ _ view c.self.invariant c.down.ensures).kept
