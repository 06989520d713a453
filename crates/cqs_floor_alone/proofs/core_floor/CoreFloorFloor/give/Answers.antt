use Rattle.std.proofs.Common.{refl}
use Rattle.cqs_floor_alone_kinds.specs.SoleCore.{store_core}
use Rattle.cqs_floor_alone_kinds.proofs.AnySoles.{core-lawful}
use Rattle.cqs_floor_alone.proofs.Gives.{give-can, give-floor}
use Rattle.cqs_floor_alone.proofs.LegalFloors.{legal-floor}
use Rattle.cqs_floor_alone.proofs.core_floor.CoreFloorFloor.give.Goals as goal

pub give-requires-clause-sole : goal.give-requires-clause-sole
give-requires-clause-sole c =
    give-can store_core _ _ _ _ c.self.view_is c.self.invariant c.requires.resource c.requires.holds

pub invariant_of-self : goal.invariant_of-self
invariant_of-self c =
    (give-floor store_core _ _ _ _ _ _ c.self.view_is c.self.invariant c.requires.job c.requires.holds
    c.give.ensures).kept

pub returns-clause-answer : goal.returns-clause-answer
returns-clause-answer c =
    (give-floor store_core _ _ _ _ _ _ c.self.view_is c.self.invariant c.requires.job c.requires.holds
    c.give.ensures).answers

pub returns-clause-after : goal.returns-clause-after
returns-clause-after c =
    (give-floor store_core _ _ _ _ _ _ c.self.view_is c.self.invariant c.requires.job c.requires.holds
    c.give.ensures).leaves

pub returns-clause-legal : goal.returns-clause-legal
returns-clause-legal c =
    legal-floor store_core core-lawful _ _ refl
    (give-floor store_core _ _ _ _ _ _ c.self.view_is c.self.invariant c.requires.job c.requires.holds
    c.give.ensures).kept
