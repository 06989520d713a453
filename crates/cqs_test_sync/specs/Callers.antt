-- What a worker's pass is at.
use Rattle.std.specs.Prelude.{ℕ, ◌+◌, Option, Some, None, Result, Ok, Err}
use Rattle.cqs_core.specs.declared.entries.Entry.{Entry}
use Rattle.cqs_rule_laws.specs.declared.client.ClientWords.{Ghosts}
use Rattle.cqs_rule.specs.declared.queue.Pass.{Pass}
use Rattle.cqs_rule.specs.Passes.{pass_view}
use Rattle.cqs_semaphore.specs.declared.answers.Permit.{Permit}
use Rattle.cqs_semaphore_client.specs.declared.semaphore.SemClient.{SemClient}
use Rattle.cqs_sync_semaphore.specs.Callers.{IsAtRest}
use Rattle.cqs_sync_semaphore.specs.declared.answers.SyncReleased.{SyncReleased}
use Rattle.cqs_sync_semaphore.specs.declared.answers.SyncReleased.TheVariants.{Freed, Sent, Void, Broke, Handling, Under}
use Rattle.cqs_sync_semaphore.specs.declared.answers.Under as owed
use Rattle.cqs_sync_semaphore.specs.declared.sync_semaphore.SyncSemaphore.{SyncSemaphore}

-- a permit that was given away is gone, or came back, or is still to be passed on
abbrev pub end_of : SyncReleased → Result (Option Permit) owed.Under
end_of Freed = Ok None
end_of (Sent k) = Ok None
end_of (Void k) = Ok None
end_of (Broke k permit) = Ok (Some permit)
end_of (Handling k under) = Err under
end_of (Under under) = Err under

module _ {g : Ghosts (SemClient (Unit {0})) (Unit {0}) Entry} where
  -- how many permits the pass holds
  abbrev pub held_by : Pass (SemClient (Unit {0})) (Unit {0}) Entry g → ℕ
  held_by p = (pass_view p).facts.has.held

  -- a permit is gone, or is there
  abbrev pub HasPassed : SyncSemaphore (Unit {0}) → ℕ → Option Permit
      → Pass (SemClient (Unit {0})) (Unit {0}) Entry g → Type 0
  HasPassed s held None p = IsAtRest s held p
  HasPassed s held (Some permit) p = IsAtRest s (held + 1) p
