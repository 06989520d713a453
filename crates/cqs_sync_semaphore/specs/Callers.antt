-- What the pass of a caller of a synchronous semaphore is at between its calls.
use Rattle.std.specs.Prelude.{◌≡◌, ℕ, ◌+◌, ◌<◌, List, [], ◌∷◌}
use Rattle.cqs_core.specs.declared.entries.Entry.{Entry}
use Rattle.cqs_rule_laws.specs.declared.client.ClientWords.{Ghosts}
use Rattle.cqs_rule_laws.specs.CallRule.{IsReady}
use Rattle.cqs_rule.specs.declared.queue.Pass.{Pass}
use Rattle.cqs_rule.specs.declared.queue.tokens.Wait.{Wait}
use Rattle.cqs_rule.specs.Owed.{HasUnder}
use Rattle.cqs_rule.specs.Passes.{pass_view}
use Rattle.cqs_rule.specs.Waits.{place_of, HasWait}
use Rattle.cqs_semaphore_client.specs.declared.semaphore.SemClient.{SemClient}
use Rattle.cqs_sync_semaphore.specs.Calls.{IsMine}
use Rattle.cqs_sync_semaphore.specs.Owed.{token_of}
use Rattle.cqs_sync_semaphore.specs.declared.answers.SyncReleased.{SyncReleased}
use Rattle.cqs_sync_semaphore.specs.declared.answers.SyncReleased.TheVariants.{Freed, Sent, Void, Broke, Handling, Under}
use Rattle.cqs_sync_semaphore.specs.declared.answers.Under as owed
use Rattle.cqs_sync_semaphore.specs.declared.sync_semaphore.SyncSemaphore.{SyncSemaphore}

module _ {T : Type 0} {g : Ghosts (SemClient T) T Entry} where
  -- the pass is one of the semaphore, and owes nothing
  pub record IsIdle (s : SyncSemaphore T) (p : Pass (SemClient T) T Entry g)
      : Type 0 where
    pub belongs : IsMine s p
    pub ready : IsReady (pass_view p).facts

  -- it also holds a permit
  pub record IsHolder (s : SyncSemaphore T) (p : Pass (SemClient T) T Entry g)
      : Type 0 where
    pub idle : IsIdle s p
    pub holds : 0 < (pass_view p).facts.has.held

  -- the pass is one of this semaphore, between two calls; it has these waits, and holds so many
  -- permits
  pub record Stays (s : SyncSemaphore T) (held : ℕ) (waits : List ℕ)
      (p : Pass (SemClient T) T Entry g) : Type 0 where
    pub belongs : IsMine s p
    pub ready : IsReady (pass_view p).facts
    pub held_is : (pass_view p).facts.has.held ≡ held
    pub waits_are : (pass_view p).facts.waits ≡ waits

  -- it waits for nothing
  abbrev pub IsAtRest : SyncSemaphore T → ℕ → Pass (SemClient T) T Entry g → Type 0
  IsAtRest s held p = Stays s held [] p

  -- it has this wait, and no other
  abbrev pub IsWaiting : SyncSemaphore T → ℕ → Wait
      → Pass (SemClient T) T Entry g → Type 0
  IsWaiting s held wait p = Stays s held ((place_of wait).index ∷ []) p × HasWait (pass_view p) wait

  -- it owes the resumption of this token, and waits for nothing
  pub record IsOwing (s : SyncSemaphore T) (held : ℕ) (under : owed.Under)
      (p : Pass (SemClient T) T Entry g) : Type 0 where
    pub belongs : IsMine s p
    pub owes : HasUnder (pass_view p).facts (token_of under)
    pub further : (pass_view p).facts.has.further ≡ 0
    pub held_is : (pass_view p).facts.has.held ≡ held
    pub waits_are : (pass_view p).facts.waits ≡ []

  -- a permit that was given away is gone, or came back, or is still to be passed on
  abbrev pub HasGiven : SyncSemaphore T → ℕ → SyncReleased
      → Pass (SemClient T) T Entry g → Type 0
  HasGiven s held Freed p = IsAtRest s held p
  HasGiven s held (Sent k) p = IsAtRest s held p
  HasGiven s held (Void k) p = IsAtRest s held p
  HasGiven s held (Broke k permit) p = IsAtRest s (held + 1) p
  HasGiven s held (Handling k under) p = IsOwing s held under p
  HasGiven s held (Under under) p = IsOwing s held under p
