-- What every call of a semaphore leaves of its pass.
use Rattle.std.specs.Prelude.{ℕ, List}
use Rattle.cqs_core.specs.declared.entries.Entry.{Entry}
use Rattle.cqs_core.specs.SemaphoreEntries.{object_after}
use Rattle.cqs_core.specs.SemaphoreObject as plain
use Rattle.cqs_rule_laws.specs.declared.client.ClientWords.{Ghosts}
use Rattle.cqs_rule.specs.declared.queue.Pass.{Pass}
use Rattle.cqs_semaphore_client.specs.declared.semaphore.SemClient.{SemClient}
use Rattle.cqs_rule_laws.specs.declared.view.View.{View}
use Rattle.cqs_rule_laws.specs.CallRule as laws
use Rattle.cqs_rule.specs.Passes.{client_of, IsOf}
use Rattle.cqs_semaphore_client.specs.Semaphore.{semaphore_object}
use Rattle.cqs_semaphore_client.specs.SemaphoreMade.{permits_of}
use Rattle.cqs_semaphore.specs.declared.semaphore.Semaphore.{Semaphore}

module _ {T : Type 0} where
  -- the permits that the semaphore was made with
  abbrev pub permits_in : Semaphore T → ℕ
  permits_in s = permits_of (client_of s.queue)

  -- the pass is one of this semaphore
  abbrev pub IsMine : {g : Ghosts (SemClient T) T Entry} → Semaphore T
      → Pass (SemClient T) T Entry g → Type 0
  IsMine s p = IsOf s.queue p

  -- the plain semaphore, after all that the pass has seen
  abbrev pub plain_after : View Entry T → plain.Semaphore
  plain_after v = object_after v.opening.size v.seen

  -- the call rule, a course of calls, and how a pass rests after a call, at a semaphore
  abbrev pub CallRule : View Entry T → List Entry → List Entry → View Entry T → Type 0
  CallRule v own further w = laws.CallRule semaphore_object v own further w

  abbrev pub Course : View Entry T → List Entry → View Entry T → Type 0
  Course v own w = laws.Course semaphore_object v own w

  abbrev pub Rests : View Entry T → ℕ → List ℕ → View Entry T → Type 0
  Rests v held waits w = laws.RestsHolding held waits w
