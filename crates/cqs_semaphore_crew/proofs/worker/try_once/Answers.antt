use Rattle.cqs_semaphore_crew.proofs.Calls.{calls-busy, calls-contended, calls-got, calls-kept}
use Rattle.cqs_semaphore_crew.proofs.Telling.{adds-got, adds-busy, adds-contended, adds-then}
use Rattle.cqs_semaphore_crew.proofs.worker.try_once.Goals as goal

pub returns-in-Got-clause-adds : goal.returns-in-Got-clause-adds
returns-in-Got-clause-adds g c =
    adds-then 0 0 0 _ _ _ _ _ _ (adds-got _ _ _ _ (rw c.in-Got.is at c.try_acquire.ensures.called) c.count.ensures)
    c.give_back.ensures.adds

pub returns-in-Busy-clause-adds : goal.returns-in-Busy-clause-adds
returns-in-Busy-clause-adds g c =
    adds-busy _ _ _ _ (rw c.in-Busy.is at c.try_acquire.ensures.called) c.count-in-Busy.ensures

pub returns-in-Contended-clause-adds : goal.returns-in-Contended-clause-adds
returns-in-Contended-clause-adds g c =
    adds-contended _ _ _ _ (rw c.in-Contended.is at c.try_acquire.ensures.called)

pub returns-in-Got-clause-calls : goal.returns-in-Got-clause-calls
returns-in-Got-clause-calls g c = calls-kept 0 1 _ _ _ (calls-got _ _ c.count.ensures) c.give_back.ensures.keeps

pub returns-in-Busy-clause-calls : goal.returns-in-Busy-clause-calls
returns-in-Busy-clause-calls g c = calls-busy _ _ c.count-in-Busy.ensures

pub returns-in-Contended-clause-calls : goal.returns-in-Contended-clause-calls
returns-in-Contended-clause-calls g c = calls-contended _ _ c.count-in-Contended.ensures
