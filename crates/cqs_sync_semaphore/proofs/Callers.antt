-- What a call leaves of its caller's pass, where the pass has no other wait.
use Rattle.std.proofs.Common.{◌≡◌, ℕ, ◌-◌, ◌+◌, List, [], Option, ◌∙◌}
use Rattle.cqs_core.specs.declared.entries.Entry.{Entry}
use Rattle.cqs_rule_laws.specs.declared.client.ClientWords.{Ghosts}
use Rattle.cqs_rule.specs.declared.queue.Pass.{Pass}
use Rattle.cqs_rule.specs.Passes.{pass_view}
use Rattle.cqs_semaphore_client.specs.declared.semaphore.SemClient.{SemClient}
use Rattle.cqs_semaphore.specs.Calls.{Rests}
use Rattle.cqs_sync_semaphore.specs.Answers.{Ends, Releases}
use Rattle.cqs_sync_semaphore.specs.Calls.{IsMine}
use Rattle.cqs_sync_semaphore.specs.Callers.{HasGiven, IsAtRest}
use Rattle.cqs_sync_semaphore.specs.declared.answers.SyncReleased.{SyncReleased}
use Rattle.cqs_sync_semaphore.specs.declared.answers.SyncReleased.TheVariants.{Freed, Sent, Void, Broke, Handling, Under}
use Rattle.cqs_sync_semaphore.specs.declared.sync_semaphore.SyncSemaphore.{SyncSemaphore}

module _ {T : Type 0} {g : Ghosts (SemClient T) T Entry} (s : SyncSemaphore T) (p q : Pass (SemClient T) T Entry g)
    (belongs : IsMine s q) where
  pub at-rest : (held : ℕ) (waits : List ℕ) → waits ≡ [] → Rests (pass_view p) held waits (pass_view q)
      → IsAtRest s held q
  at-rest held waits none r = record {
    belongs = belongs;
    ready = r.ready;
    held_is = r.held_is;
    waits_are = r.waits_are ∙ none;
  }

  pub given-ends : (own : List Entry) (held : ℕ) (waits : List ℕ) (number : Option ℕ) (a : SyncReleased) → waits ≡ []
      → Ends own held waits number (pass_view p) a (pass_view q) → HasGiven s held a q
  given-ends own held waits number Freed none e = absurd e
  given-ends own held waits number (Sent k) none e = at-rest held waits none e.1
  given-ends own held waits number (Void k) none e = at-rest held waits none e.2
  given-ends own held waits number (Broke k permit) none e = at-rest (held + 1) waits none e.2
  given-ends own held waits number (Handling k under) none e = let o = e.5 in record {
    belongs = belongs;
    owes = o.owes;
    further = o.further;
    held_is = o.held_is;
    waits_are = o.waits_are ∙ none;
  }
  given-ends own held waits number (Under under) none e = let o = e.1 in record {
    belongs = belongs;
    owes = o.owes;
    further = o.further;
    held_is = o.held_is;
    waits_are = o.waits_are ∙ none;
  }

  pub given-released : (number : Option ℕ) (a : SyncReleased) → (pass_view p).facts.waits ≡ []
      → Releases number (pass_view p) a (pass_view q) → HasGiven s ((pass_view p).facts.has.held - 1) a q
  given-released number Freed none r = at-rest _ _ none r.1.rests
  given-released number (Sent k) none r = given-ends _ _ _ number (Sent k) none r.1
  given-released number (Void k) none r = given-ends _ _ _ number (Void k) none r.1
  given-released number (Broke k permit) none r = given-ends _ _ _ number (Broke k permit) none r.1
  given-released number (Handling k under) none r = given-ends _ _ _ number (Handling k under) none r.1
  given-released number (Under under) none r = given-ends _ _ _ number (Under under) none r.1
