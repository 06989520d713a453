use Rattle.cqs_semaphore_crew.proofs.Calls.{calls-crowded, calls-kept, calls-now, calls-waited, calls-worn}
use Rattle.cqs_semaphore_crew.proofs.Telling.{adds-crowded, adds-now, adds-waited, adds-worn, adds-then}
use Rattle.cqs_semaphore_crew.proofs.worker.seek.Goals as goal

pub returns-in-Ok-Now-clause-adds : goal.returns-in-Ok-Now-clause-adds
returns-in-Ok-Now-clause-adds g c =
    adds-now _ _ _ _ _ (rw c.in-Ok-Now.field-0-is at c.in-Ok-Now.ensures.called) c.count_now.ensures

pub returns-then-hasty-clause-adds : goal.returns-then-hasty-clause-adds
returns-then-hasty-clause-adds g c =
    adds-then 0 0 0 _ _ _ _ _ _
    (adds-waited _ _ _ _ _ (rw c.in-Ok-Later.field-0-is at c.in-Ok-Later.ensures.called) c.count.ensures)
    c.give_up.ensures.adds

pub returns-else-hasty-clause-adds : goal.returns-else-hasty-clause-adds
returns-else-hasty-clause-adds g c =
    adds-then 0 0 0 _ _ _ _ _ _
    (adds-waited _ _ _ _ _ (rw c.in-Ok-Later.field-0-is at c.in-Ok-Later.ensures.called) c.count.ensures)
    c.wait_for.ensures.adds

pub returns-in-Err-Worn-clause-adds : goal.returns-in-Err-Worn-clause-adds
returns-in-Err-Worn-clause-adds g c = adds-worn _ _ _ _ c.in-Err-Worn.ensures.called

pub returns-in-Err-Crowded-clause-adds : goal.returns-in-Err-Crowded-clause-adds
returns-in-Err-Crowded-clause-adds g c = adds-crowded _ _ _ _ c.in-Err-Crowded.ensures.called

pub returns-in-Ok-Now-clause-calls : goal.returns-in-Ok-Now-clause-calls
returns-in-Ok-Now-clause-calls g c = calls-now _ _ _ c.count_now.ensures

pub returns-then-hasty-clause-calls : goal.returns-then-hasty-clause-calls
returns-then-hasty-clause-calls g c = calls-kept 1 0 _ _ _ (calls-waited _ _ c.count.ensures) c.give_up.ensures.keeps

pub returns-else-hasty-clause-calls : goal.returns-else-hasty-clause-calls
returns-else-hasty-clause-calls g c = calls-kept 1 0 _ _ _ (calls-waited _ _ c.count.ensures) c.wait_for.ensures.keeps

pub returns-in-Err-Worn-clause-calls : goal.returns-in-Err-Worn-clause-calls
returns-in-Err-Worn-clause-calls g c = calls-worn _ _ c.count-in-Err-Worn.ensures

pub returns-in-Err-Crowded-clause-calls : goal.returns-in-Err-Crowded-clause-calls
returns-in-Err-Crowded-clause-calls g c = calls-crowded _ _ c.count-in-Err-Crowded.ensures
