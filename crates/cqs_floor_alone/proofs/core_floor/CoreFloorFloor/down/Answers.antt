use Rattle.std.proofs.Common.{refl}
use Rattle.cqs_floor_alone_kinds.specs.SoleCore.{store_core}
use Rattle.cqs_floor_alone_kinds.proofs.AnySoles.{core-lawful}
use Rattle.cqs_floor_alone.proofs.Latches.{down-can, down-floor}
use Rattle.cqs_floor_alone.proofs.LegalFloors.{legal-floor}
use Rattle.cqs_floor_alone.proofs.core_floor.CoreFloorFloor.down.Goals as goal

pub down-requires : goal.down-requires
down-requires c =
    let view = c.self.view_is in
    record { sole = down-can store_core _ _ _ view c.self.invariant c.requires.resource }

pub invariant_of-self : goal.invariant_of-self
invariant_of-self c =
    let view = c.self.view_is in
    (down-floor store_core _ _ _ _ _ view c.self.invariant c.down.ensures).kept

pub returns-clause-answer : goal.returns-clause-answer
returns-clause-answer c =
    let view = c.self.view_is in
    (down-floor store_core _ _ _ _ _ view c.self.invariant c.down.ensures).answers

pub returns-clause-after : goal.returns-clause-after
returns-clause-after c =
    let view = c.self.view_is in
    (down-floor store_core _ _ _ _ _ view c.self.invariant c.down.ensures).leaves

pub returns-clause-legal : goal.returns-clause-legal
returns-clause-legal c =
    let view = c.self.view_is in
    legal-floor store_core core-lawful _ _ refl
    (down-floor store_core _ _ _ _ _ view c.self.invariant c.down.ensures).kept
