-- What the pass of a caller is at between its calls.
use Rattle.std.specs.Prelude.{◌≡◌, ℕ, ◌+◌, ◌<◌, List, [], ◌∷◌, Option, Some, None}
use Rattle.cqs_core.specs.declared.entries.Entry.{Entry}
use Rattle.cqs_rule_laws.specs.declared.client.ClientWords.{Ghosts}
use Rattle.cqs_rule_laws.specs.CallRule.{IsReady}
use Rattle.cqs_rule.specs.declared.queue.Pass.{Pass}
use Rattle.cqs_rule.specs.declared.queue.tokens.Under as token
use Rattle.cqs_rule.specs.declared.queue.tokens.Wait.{Wait}
use Rattle.cqs_rule.specs.Owed.{HasUnder}
use Rattle.cqs_rule.specs.Passes.{pass_view}
use Rattle.cqs_rule.specs.Waits.{place_of, HasWait}
use Rattle.cqs_semaphore_client.specs.declared.semaphore.SemClient.{SemClient}
use Rattle.cqs_semaphore.specs.declared.answers.Permit.{Permit}
use Rattle.cqs_semaphore.specs.declared.answers.Polled.{Polled}
use Rattle.cqs_semaphore.specs.declared.answers.Polled.TheVariants.{Granted, Pending}
use Rattle.cqs_semaphore.specs.declared.semaphore.Semaphore.{Semaphore}
use Rattle.cqs_semaphore.specs.Calls.{IsMine}

module _ {T : Type 0} {g : Ghosts (SemClient T) T Entry} where
  -- the pass is one of the semaphore, and owes nothing
  pub record IsIdle (s : Semaphore T) (p : Pass (SemClient T) T Entry g) : Type 0 where
    pub belongs : IsMine s p
    pub ready : IsReady (pass_view p).facts

  -- it also holds a permit
  pub record IsHolder (s : Semaphore T) (p : Pass (SemClient T) T Entry g) : Type 0 where
    pub idle : IsIdle s p
    pub holds : 0 < (pass_view p).facts.has.held

  -- how many permits the pass holds
  abbrev pub held_by : Pass (SemClient T) T Entry g → ℕ
  held_by p = (pass_view p).facts.has.held

  -- the pass is one of this semaphore, between two calls; it has these waits, and holds so many
  -- permits
  pub record Stays (s : Semaphore T) (held : ℕ) (waits : List ℕ) (p : Pass (SemClient T) T Entry g)
      : Type 0 where
    pub belongs : IsMine s p
    pub ready : IsReady (pass_view p).facts
    pub held_is : (pass_view p).facts.has.held ≡ held
    pub waits_are : (pass_view p).facts.waits ≡ waits

  -- it waits for nothing
  abbrev pub IsAtRest : Semaphore T → ℕ → Pass (SemClient T) T Entry g → Type 0
  IsAtRest s held p = Stays s held [] p

  -- it has this wait, and no other
  abbrev pub IsWaiting : Semaphore T → ℕ → Wait → Pass (SemClient T) T Entry g → Type 0
  IsWaiting s held wait p = Stays s held ((place_of wait).index ∷ []) p × HasWait (pass_view p) wait

  -- it owes the resumption of this token
  pub record IsOwing (s : Semaphore T) (held : ℕ) (under : token.Under)
      (p : Pass (SemClient T) T Entry g) : Type 0 where
    pub belongs : IsMine s p
    pub owes : HasUnder (pass_view p).facts under
    pub further : (pass_view p).facts.has.further ≡ 0
    pub held_is : (pass_view p).facts.has.held ≡ held
    pub waits_are : (pass_view p).facts.waits ≡ []

  -- a wait was looked at: it was served, or goes on
  abbrev pub HasLooked : Semaphore T → ℕ → Polled → Pass (SemClient T) T Entry g → Type 0
  HasLooked s held (Granted permit) p = IsAtRest s (held + 1) p
  HasLooked s held (Pending wait) p = IsWaiting s held wait p

  -- a wait has ended, with a permit or with none
  abbrev pub HasEnded : Semaphore T → ℕ → Option Permit → Pass (SemClient T) T Entry g → Type 0
  HasEnded s held (Some permit) p = IsAtRest s (held + 1) p
  HasEnded s held None p = IsAtRest s held p
