use Rattle.std.proofs.Common.{ap, refl}
use Rattle.cqs_floor_alone.specs.Ledger.{plain_floor}
use Rattle.cqs_floor_alone_kinds.specs.SoleRunning.{store_running}
use Rattle.cqs_floor_alone_kinds.proofs.AnySoles.{running-lawful}
use Rattle.cqs_floor_alone.proofs.Ends.{end-can, end-floor}
use Rattle.cqs_floor_alone.proofs.LegalFloors.{legal-floor}
use Rattle.cqs_floor_alone.proofs.queue_floor.QueueFloorFloor.end.Goals as goal

pub end-requires : goal.end-requires
end-requires c = end-can store_running _ _ _
    (ap (plain_floor store_running) c.self.view_is) c.self.invariant c.requires

pub invariant_of-self : goal.invariant_of-self
invariant_of-self c = (end-floor store_running _ _ _ _ _
    (ap (plain_floor store_running) c.self.view_is) c.self.invariant c.end.ensures).kept

pub returns-clause-answer : goal.returns-clause-answer
returns-clause-answer c = (end-floor store_running _ _ _ _ _
    (ap (plain_floor store_running) c.self.view_is) c.self.invariant c.end.ensures).answers

pub returns-clause-same : goal.returns-clause-same
returns-clause-same c = (end-floor store_running _ _ _ _ _
    (ap (plain_floor store_running) c.self.view_is) c.self.invariant c.end.ensures).same

pub returns-clause-legal : goal.returns-clause-legal
returns-clause-legal c =
    legal-floor store_running running-lawful _ _ refl
    (end-floor store_running _ _ _ _ _
    (ap (plain_floor store_running) c.self.view_is) c.self.invariant c.end.ensures).kept
