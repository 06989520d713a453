use Rattle.std.proofs.Common.{refl}
use Rattle.cqs_floor_alone_kinds.specs.SoleCore.{store_core}
use Rattle.cqs_floor_alone_kinds.proofs.AnySoles.{core-lawful}
use Rattle.cqs_floor_alone.proofs.Arrivals.{arrive-own}
use Rattle.cqs_floor_alone.proofs.Looks.{end-can, end-each, end-spare, leave-floor}
use Rattle.cqs_floor_alone.proofs.LegalFloors.{legal-floor}
use Rattle.cqs_floor_alone.proofs.core_floor.CoreFloorFloor.leave.Goals as goal

pub leave-requires-clause-wait : goal.leave-requires-clause-wait
leave-requires-clause-wait c = end-can store_core _ _ _ c.self.view_is c.self.invariant c.requires.job c.requires.waits

pub leave-requires-clause-spare : goal.leave-requires-clause-spare
leave-requires-clause-spare c = end-spare store_core _ _ _ c.self.view_is c.self.invariant c.requires.waits

pub leave-requires-clause-own : goal.leave-requires-clause-own
leave-requires-clause-own c =
    arrive-own store_core c.before.self.inside.desk _ _ c.self.view_is c.requires.job

pub leave-requires-clause-each : goal.leave-requires-clause-each
leave-requires-clause-each c =
    end-each store_core c.before.self.inside.desk _ _ c.self.view_is c.requires.job

pub invariant_of-self : goal.invariant_of-self
invariant_of-self c =
    (leave-floor store_core _ _ _ _ _ c.self.view_is c.self.invariant c.requires.job c.leave.ensures).kept

pub returns-clause-answer : goal.returns-clause-answer
returns-clause-answer c =
    (leave-floor store_core _ _ _ _ _ c.self.view_is c.self.invariant c.requires.job c.leave.ensures).answers

pub returns-clause-after : goal.returns-clause-after
returns-clause-after c =
    (leave-floor store_core _ _ _ _ _ c.self.view_is c.self.invariant c.requires.job c.leave.ensures).leaves

pub returns-clause-legal : goal.returns-clause-legal
returns-clause-legal c =
    legal-floor store_core core-lawful _ _ refl
    (leave-floor store_core _ _ _ _ _ c.self.view_is c.self.invariant c.requires.job c.leave.ensures).kept
