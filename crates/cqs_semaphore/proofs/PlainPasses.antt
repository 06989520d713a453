-- The passes of a semaphore are those of one that isn't synchronous: no number is broken in what they have seen.
use Rattle.std.proofs.Common.{◌≡◌, false, ap, sym, ◌∙◌}
use Rattle.cqs_core.specs.declared.entries.Entry.{Entry}
use Rattle.cqs_rule_laws.specs.declared.client.ClientWords.{Ghosts}
use Rattle.cqs_rule_laws.specs.declared.view.Opening.{Opening}
use Rattle.cqs_rule.specs.declared.queue.Pass.{Pass}
use Rattle.cqs_rule.specs.Passes.{client_of, pass_view}
use Rattle.cqs_semaphore_client.specs.declared.semaphore.SemClient.{SemClient}
use Rattle.cqs_semaphore_client.specs.PlainHistories.{IsPlainHistory}
use Rattle.cqs_semaphore_client.proofs.LawfulHistories.{plain-history}
use Rattle.cqs_semaphore.specs.declared.semaphore.Semaphore.{Semaphore}
use Rattle.cqs_semaphore.specs.Calls.{IsMine, permits_in}
use Rattle.cqs_semaphore_client.specs.SemaphoreHistories.{IsLawful}
use Rattle.cqs_semaphore_client.specs.SemaphoreMade.{primitive_of, sync_of}
use Rattle.cqs_rule_laws.specs.declared.config.CancelMode.TheVariants.{Smart}

-- semaphores of as many permits open alike
pub opens-alike : {T : Type 0} (s t : Semaphore T) → permits_in s ≡ permits_in t
    → (primitive_of (client_of s.queue)).opening ≡ (primitive_of (client_of t.queue)).opening
opens-alike s t same = λ i. record {
  size = same i;
  mode = Smart;
  sync = (s.plain ∙ sym t.plain) i;
  looks = (s.unlooked ∙ sym t.unlooked) i;
}

module _ {T : Type 0} {g : Ghosts (SemClient T) T Entry} {p : Pass (SemClient T) T Entry g} (s : Semaphore T)
    (mine : IsMine s p) (told : (x : SemClient T) → (g.primitive x).opening.sync ≡ sync_of x) where
  pub plain-opening : (pass_view p).opening.sync ≡ false
  plain-opening = ap (λ (o : Opening). o.sync) mine.opening ∙ (told (client_of s.queue) ∙ s.plain)

  pub plain-seen : IsLawful (pass_view p).opening.sync (pass_view p).opening.size (pass_view p).seen
      → IsPlainHistory (pass_view p).opening.size (pass_view p).seen
  plain-seen lawful = plain-history _ _ _ lawful plain-opening
