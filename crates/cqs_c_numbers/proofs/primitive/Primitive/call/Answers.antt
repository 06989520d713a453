use Rattle.std.proofs.Common.{◌∙◌, ap, sym}
use Rattle.cqs_c_numbers.specs.Callers.{pass_number}
use Rattle.cqs_c_numbers.proofs.BarrierNumber.{barrier-number}
use Rattle.cqs_c_numbers.proofs.CallNumbers.{latch-number, pool-number, semaphore-number}
use Rattle.cqs_c_numbers.proofs.SyncNumber.{sync-number}
use Rattle.cqs_c_numbers.proofs.primitive.Primitive.call.Goals as goal

pub returns-in-Semaphore-caller-clause-number : goal.returns-in-Semaphore-caller-clause-number
returns-in-Semaphore-caller-clause-number c =
    semaphore-number _ _ _ _ _ c.call.ensures.answered ∙ sym (ap pass_number c.in-Semaphore-caller.is)

pub returns-in-Pool-caller-2-clause-number : goal.returns-in-Pool-caller-2-clause-number
returns-in-Pool-caller-2-clause-number c =
    pool-number _ _ _ _ _ c.call-in-Pool-caller-2.ensures.answered ∙ sym (ap pass_number c.in-Pool-caller-2.is)

pub returns-in-Latch-caller-clause-number : goal.returns-in-Latch-caller-clause-number
returns-in-Latch-caller-clause-number c =
    latch-number c.in-Latch.latch _ _ _ _ _ c.call-in-Latch-caller.ensures.answered
    ∙ sym (ap pass_number c.in-Latch-caller.is)

pub returns-in-Barrier-caller-clause-number : goal.returns-in-Barrier-caller-clause-number
returns-in-Barrier-caller-clause-number c =
    barrier-number _ _ _ _ _ c.call-in-Barrier-caller.ensures.answered ∙ sym (ap pass_number c.in-Barrier-caller.is)

pub returns-in-SyncSemaphore-caller-clause-number : goal.returns-in-SyncSemaphore-caller-clause-number
returns-in-SyncSemaphore-caller-clause-number c =
    sync-number _ _ _ _ _ c.call-in-SyncSemaphore-caller.ensures.answered
    ∙ sym (ap pass_number c.in-SyncSemaphore-caller.is)
