-- What a pass is at between the calls of its thread, and what it has that came for the mutex.
use Rattle.std.specs.Prelude.{◌<◌, Option, Some, None}
use Rattle.cqs_core.specs.declared.entries.Entry.{Entry}
use Rattle.cqs_rule_laws.specs.declared.client.ClientWords.{Ghosts}
use Rattle.cqs_rule.specs.declared.queue.Pass.{Pass}
use Rattle.cqs_semaphore_client.specs.declared.semaphore.SemClient.{SemClient}
use Rattle.cqs_rule_laws.specs.declared.carries.Kept.{Kept}
use Rattle.cqs_rule.specs.Passes.{pass_view}
use Rattle.cqs_rule_laws.specs.CallRule.{IsReady}
use Rattle.cqs_mutex.specs.declared.guard.Guard.{Guard}
use Rattle.cqs_mutex.specs.declared.mutex.Mutex.{Mutex}
use Rattle.cqs_mutex.specs.Mutexes.{Belongs}

module _ {T : Type 0} {g : Ghosts (SemClient (Kept T)) (Kept T) Entry} where
  -- the pass is one of this mutex, between two calls
  pub record IsAtRest (m : Mutex T) (p : Pass (SemClient (Kept T)) (Kept T) Entry g) : Type 0 where
    pub belongs : Belongs m p
    pub ready : IsReady (pass_view p).facts

  -- so are two passes
  abbrev pub AreAtRest : Mutex T
      → Pass (SemClient (Kept T)) (Kept T) Entry g × Pass (SemClient (Kept T)) (Kept T) Entry g
      → Type 0
  AreAtRest m two = IsAtRest m two.0 × IsAtRest m two.1

  -- and two that come back from their threads
  abbrev pub HaveAdded : {A B : Type 0} → Mutex T
      → (Pass (SemClient (Kept T)) (Kept T) Entry g × A)
      × (Pass (SemClient (Kept T)) (Kept T) Entry g × B)
      → Type 0
  HaveAdded m two = IsAtRest m two.0.0 × IsAtRest m two.1.0

  -- with a guard it holds the mutex
  abbrev pub HoldsWith : Option (Guard T) → Pass (SemClient (Kept T)) (Kept T) Entry g → Type 0
  HoldsWith (Some guard) p = 0 < (pass_view p).facts.has.held
  HoldsWith None p = Unit {0}
