-- A lawful history of a semaphore that isn't synchronous is a plain one.
use Rattle.std.proofs.Common.{◌≡◌, ℕ, Bool, false, List}
use Rattle.cqs_core.specs.declared.entries.Entry.{Entry}
use Rattle.cqs_semaphore_client.specs.PlainHistories.{IsPlainHistory}
use Rattle.cqs_semaphore_client.specs.SemaphoreHistories.{IsLawful}

pub plain-history : (sync : Bool) (permits : ℕ) (history : List Entry) → IsLawful sync permits history → sync ≡ false
    → IsPlainHistory permits history
plain-history sync permits history lawful plain =
    record { legal = lawful.legal; unbroken = lawful.unbroken plain }
