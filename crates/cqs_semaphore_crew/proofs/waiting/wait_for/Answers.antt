use Rattle.std.proofs.Common.{inl, refl}
use Rattle.cqs_semaphore_crew.proofs.Calls.{keeps-then}
use Rattle.cqs_semaphore_crew.proofs.Telling.{adds-then}
use Rattle.cqs_semaphore_crew.proofs.Waits.{ends-given, looks-given}
use Rattle.cqs_semaphore_crew.proofs.waiting.wait_for.Goals as goal

pub returns-in-Pending-clause-adds : goal.returns-in-Pending-clause-adds
returns-in-Pending-clause-adds g c = adds-then 0 0 0 _ _ _ _ _ _ c.look_on.ensures.adds c.give_up.ensures.adds

pub returns-in-Granted-clause-by : goal.returns-in-Granted-clause-by
returns-in-Granted-clause-by g c = (_, inl refl, rw c.in-Granted.is at c.look_on.ensures.looks)

pub returns-in-Pending-clause-by : goal.returns-in-Pending-clause-by
returns-in-Pending-clause-by g c =
    let looks = rw c.in-Pending.is at c.look_on.ensures.looks in
    (_, ends-given _ _ _, looks-given _ _ _ _ _ _ looks.0 c.give_up.ensures.by looks.1)

pub returns-in-Pending-clause-keeps : goal.returns-in-Pending-clause-keeps
returns-in-Pending-clause-keeps g c = keeps-then _ _ _ c.look_on.ensures.keeps c.give_up.ensures.keeps
