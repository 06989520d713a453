-- A pass of a synchronous semaphore is one of a synchronous queue.
use Rattle.std.proofs.Common.{◌≡◌, true, ap, ◌∙◌}
use Rattle.cqs_core.specs.declared.entries.Entry.{Entry}
use Rattle.cqs_rule_laws.specs.declared.client.ClientWords.{Ghosts}
use Rattle.cqs_rule_laws.specs.declared.view.Opening.{Opening}
use Rattle.cqs_rule.specs.declared.queue.Pass.{Pass}
use Rattle.cqs_rule.specs.Passes.{client_of, pass_view}
use Rattle.cqs_semaphore_client.specs.SemaphoreMade.{sync_of}
use Rattle.cqs_semaphore_client.specs.declared.semaphore.SemClient.{SemClient}
use Rattle.cqs_sync_semaphore.specs.Calls.{IsMine}
use Rattle.cqs_sync_semaphore.specs.declared.sync_semaphore.SyncSemaphore.{SyncSemaphore}

module _ {T : Type 0} {g : Ghosts (SemClient T) T Entry} {p : Pass (SemClient T) T Entry g} (s : SyncSemaphore T)
    (mine : IsMine s p) (told : (x : SemClient T) → (g.primitive x).opening.sync ≡ sync_of x) where
  pub sync-opening : (pass_view p).opening.sync ≡ true
  sync-opening = ap (λ (o : Opening). o.sync) mine.opening ∙ (told (client_of s.queue) ∙ s.sync)
