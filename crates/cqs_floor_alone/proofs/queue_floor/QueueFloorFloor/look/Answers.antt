use Rattle.std.proofs.Common.{ap, refl}
use Rattle.cqs_floor_alone.specs.Ledger.{plain_floor}
use Rattle.cqs_floor_alone_kinds.specs.SoleRunning.{store_running}
use Rattle.cqs_floor_alone_kinds.proofs.AnySoles.{running-lawful}
use Rattle.cqs_floor_alone.proofs.Looks.{end-can, end-spare, look-floor}
use Rattle.cqs_floor_alone.proofs.LegalFloors.{legal-floor}
use Rattle.cqs_floor_alone.proofs.queue_floor.QueueFloorFloor.look.Goals as goal

pub look-requires-clause-wait : goal.look-requires-clause-wait
look-requires-clause-wait c =
    end-can store_running _ _ _ (ap (plain_floor store_running) c.self.view_is) c.self.invariant c.requires.job
    c.requires.waits

pub look-requires-clause-spare : goal.look-requires-clause-spare
look-requires-clause-spare c =
    end-spare store_running _ _ _ (ap (plain_floor store_running) c.self.view_is) c.self.invariant c.requires.waits

pub invariant_of-self : goal.invariant_of-self
invariant_of-self c =
    (look-floor store_running _ _ _ _ _ (ap (plain_floor store_running) c.self.view_is) c.self.invariant
    c.requires.job c.look.ensures).kept

pub returns-clause-answer : goal.returns-clause-answer
returns-clause-answer c =
    (look-floor store_running _ _ _ _ _ (ap (plain_floor store_running) c.self.view_is) c.self.invariant
    c.requires.job c.look.ensures).answers

pub returns-clause-after : goal.returns-clause-after
returns-clause-after c =
    (look-floor store_running _ _ _ _ _ (ap (plain_floor store_running) c.self.view_is) c.self.invariant
    c.requires.job c.look.ensures).leaves

pub returns-clause-legal : goal.returns-clause-legal
returns-clause-legal c =
    legal-floor store_running running-lawful _ _ refl
    (look-floor store_running _ _ _ _ _ (ap (plain_floor store_running) c.self.view_is) c.self.invariant
    c.requires.job c.look.ensures).kept
