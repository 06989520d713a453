use Rattle.std.proofs.Common.{ap, refl}
use Rattle.cqs_floor_alone.specs.Ledger.{plain_floor}
use Rattle.cqs_floor_alone_kinds.specs.SoleRunning.{store_running}
use Rattle.cqs_floor_alone_kinds.proofs.AnySoles.{running-lawful}
use Rattle.cqs_floor_alone.proofs.Gives.{give-can, give-floor}
use Rattle.cqs_floor_alone.proofs.LegalFloors.{legal-floor}
use Rattle.cqs_floor_alone.proofs.queue_floor.QueueFloorFloor.give.Goals as goal

pub give-requires-clause-sole : goal.give-requires-clause-sole
give-requires-clause-sole c =
    give-can store_running _ _ _ _
    (ap (plain_floor store_running) c.self.view_is) c.self.invariant c.requires.resource c.requires.holds

pub invariant_of-self : goal.invariant_of-self
invariant_of-self c =
    (give-floor store_running _ _ _ _ _ _
    (ap (plain_floor store_running) c.self.view_is) c.self.invariant c.requires.job c.requires.holds
    c.give.ensures).kept

pub returns-clause-answer : goal.returns-clause-answer
returns-clause-answer c =
    (give-floor store_running _ _ _ _ _ _
    (ap (plain_floor store_running) c.self.view_is) c.self.invariant c.requires.job c.requires.holds
    c.give.ensures).answers

pub returns-clause-after : goal.returns-clause-after
returns-clause-after c =
    (give-floor store_running _ _ _ _ _ _
    (ap (plain_floor store_running) c.self.view_is) c.self.invariant c.requires.job c.requires.holds
    c.give.ensures).leaves

pub returns-clause-legal : goal.returns-clause-legal
returns-clause-legal c =
    legal-floor store_running running-lawful _ _ refl
    (give-floor store_running _ _ _ _ _ _
    (ap (plain_floor store_running) c.self.view_is) c.self.invariant c.requires.job c.requires.holds
    c.give.ensures).kept
