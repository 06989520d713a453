use Rattle.std.proofs.Common.{refl}
use Rattle.cqs_floor_alone_kinds.specs.SoleCore.{store_core}
use Rattle.cqs_floor_alone_kinds.proofs.AnySoles.{core-lawful}
use Rattle.cqs_floor_alone.proofs.Ends.{end-can, end-floor}
use Rattle.cqs_floor_alone.proofs.LegalFloors.{legal-floor}
use Rattle.cqs_floor_alone.proofs.core_floor.CoreFloorFloor.end.Goals as goal

pub end-requires : goal.end-requires
end-requires c = end-can store_core _ _ _ c.self.view_is c.self.invariant c.requires

pub invariant_of-self : goal.invariant_of-self
invariant_of-self c = (end-floor store_core _ _ _ _ _ c.self.view_is c.self.invariant c.end.ensures).kept

pub returns-clause-answer : goal.returns-clause-answer
returns-clause-answer c = (end-floor store_core _ _ _ _ _ c.self.view_is c.self.invariant c.end.ensures).answers

pub returns-clause-same : goal.returns-clause-same
returns-clause-same c = (end-floor store_core _ _ _ _ _ c.self.view_is c.self.invariant c.end.ensures).same

pub returns-clause-legal : goal.returns-clause-legal
returns-clause-legal c =
    legal-floor store_core core-lawful _ _ refl
    (end-floor store_core _ _ _ _ _ c.self.view_is c.self.invariant c.end.ensures).kept
