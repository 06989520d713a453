use Rattle.std.proofs.Common.{refl}
use Rattle.cqs_floor_alone_kinds.specs.SoleCore.{store_core}
use Rattle.cqs_floor_alone_kinds.proofs.AnySoles.{core-lawful}
use Rattle.cqs_floor_alone.proofs.Latches.{wait-can, wait-floor}
use Rattle.cqs_floor_alone.proofs.LegalFloors.{legal-floor}
use Rattle.cqs_floor_alone.proofs.core_floor.CoreFloorFloor.wait.Goals as goal

pub wait-requires-clause-sole : goal.wait-requires-clause-sole
wait-requires-clause-sole c =
    let view = c.self.view_is in
    wait-can store_core _ _ _ _ view c.self.invariant c.requires.resource c.requires.job c.requires.room

pub invariant_of-self : goal.invariant_of-self
invariant_of-self c =
    let view = c.self.view_is in
    (wait-floor store_core core-lawful _ _ _ _ _ _ view c.self.invariant c.requires.resource c.requires.job
    c.requires.idle c.requires.room c.wait.ensures).kept

pub returns-clause-answer : goal.returns-clause-answer
returns-clause-answer c =
    let view = c.self.view_is in
    (wait-floor store_core core-lawful _ _ _ _ _ _ view c.self.invariant c.requires.resource c.requires.job
    c.requires.idle c.requires.room c.wait.ensures).answers

pub returns-clause-after : goal.returns-clause-after
returns-clause-after c =
    let view = c.self.view_is in
    (wait-floor store_core core-lawful _ _ _ _ _ _ view c.self.invariant c.requires.resource c.requires.job
    c.requires.idle c.requires.room c.wait.ensures).leaves

pub returns-clause-legal : goal.returns-clause-legal
returns-clause-legal c =
    let view = c.self.view_is in
    legal-floor store_core core-lawful _ _ refl
    (wait-floor store_core core-lawful _ _ _ _ _ _ view c.self.invariant c.requires.resource c.requires.job
    c.requires.idle c.requires.room c.wait.ensures).kept
