-- What contracts see of a synchronous semaphore and of its passes.
use Rattle.std.specs.Prelude.{ℕ}
use Rattle.cqs_core.specs.declared.entries.Entry.{Entry}
use Rattle.cqs_rule_laws.specs.declared.client.ClientWords.{Ghosts}
use Rattle.cqs_rule.specs.declared.queue.Pass.{Pass}
use Rattle.cqs_rule.specs.Passes.{client_of, IsOf}
use Rattle.cqs_semaphore_client.specs.SemaphoreMade.{permits_of}
use Rattle.cqs_semaphore_client.specs.declared.semaphore.SemClient.{SemClient}
use Rattle.cqs_sync_semaphore.specs.declared.sync_semaphore.SyncSemaphore.{SyncSemaphore}

module _ {T : Type 0} where
  -- the permits that the semaphore was made with
  abbrev pub permits_in : SyncSemaphore T → ℕ
  permits_in s = permits_of (client_of s.queue)

  -- the pass is one of this semaphore
  abbrev pub IsMine : {g : Ghosts (SemClient T) T Entry} → SyncSemaphore T
      → Pass (SemClient T) T Entry g → Type 0
  IsMine s p = IsOf s.queue p
