-- What a split and a meet by number have done: each is refused, for a cause that is the callers';
-- or it was the semaphore's own, of whose contract those clauses hold that stand here.
use Rattle.std.specs.Prelude.{◌≡◌, ◌+◌, ◌<◌, ◌≤◌, true, [], None, IsSome}
use Rattle.cqs_rule_laws.specs.declared.carries.Unparked.{Unparked}
use Rattle.cqs_rule_laws.specs.Crew.{Came}
use Rattle.cqs_rule.specs.Passes.{pass_view, passes_of}
use Rattle.cqs_rule.specs.Seats.{IsBusy, HasMet}
use Rattle.cqs_semaphore_client.specs.Semaphore.{semaphore_object}
use Rattle.cqs_rule_laws.specs.Views.{made_in}
use Rattle.cqs_sync_semaphore.specs.declared.sync_semaphore.SyncSemaphore.{SyncSemaphore}
use Rattle.cqs_semaphore.specs.Calls.{Course}
use Rattle.cqs_semaphore.specs.Seats.{LookedOn}
use Rattle.cqs_c_callers.specs.declared.answers.Answer.{Answer}
use Rattle.cqs_c_callers.specs.declared.answers.Answer.TheVariants as answer
use Rattle.cqs_c_sync_callers.specs.declared.sync_semaphore_caller.SyncSemaphoreCaller.{SyncSemaphoreCaller}

-- the caller has the waits that it had, and owes what it owed
pub record Keeps (c d : SyncSemaphoreCaller) : Type 0 where
  pub waits : d.waits ≡ c.waits
  pub under : d.under ≡ c.under

-- As many passes were made as the semaphore was made for, as its own split found: the pass has only
-- seen more.
pub record IsCrowded (s : SyncSemaphore Unparked) (c d : SyncSemaphoreCaller) : Type 0 where
  pub full : passes_of s.queue ≤ made_in (pass_view d.pass).crew
  pub looked : LookedOn (pass_view c.pass) (pass_view d.pass)
  pub kept : (pass_view c.pass).alone ≡ true → (pass_view d.pass).alone ≡ true
  pub keeps : Keeps c d

-- why a split is refused, and what it leaves
abbrev pub RefusesSplit : SyncSemaphore Unparked → SyncSemaphoreCaller → SyncSemaphoreCaller
    → Answer → Type 0
RefusesSplit s c d answer.Owes = IsSome c.under × (d ≡ c)
RefusesSplit s c d answer.Crowd = IsCrowded s c d
RefusesSplit s c d a = ⊥

-- the semaphore's own split made the pass of this new caller, who waits for nothing
pub record HasSplit (s : SyncSemaphore Unparked) (c d made : SyncSemaphoreCaller) : Type 0 where
  pub fewer : made_in (pass_view d.pass).crew < passes_of s.queue
  pub looked : LookedOn (pass_view c.pass) (pass_view d.pass)
  pub came : Came semaphore_object (pass_view d.pass) (pass_view made.pass)
  pub keeps : Keeps c d
  pub no_waits : made.waits.items ≡ []
  pub owes_nothing : made.under ≡ None

-- why a meet is refused: the pass owes something, or the given one waits or owes something
abbrev pub RefusesMeet : SyncSemaphoreCaller → SyncSemaphoreCaller → Answer → Type 0
RefusesMeet c given answer.Owes = IsSome c.under
RefusesMeet c given answer.Busy = IsBusy (pass_view given.pass).facts
RefusesMeet c given a = ⊥

-- the semaphore's own meet took the given pass in
pub record TakesIn (c given d : SyncSemaphoreCaller) : Type 0 where
  pub free : IsBusy (pass_view given.pass).facts → ⊥
  pub met : HasMet c.pass given.pass d.pass
  pub course : Course (pass_view c.pass) [] (pass_view d.pass)
  pub held : (pass_view d.pass).facts.has.held
      ≡ (pass_view c.pass).facts.has.held + (pass_view given.pass).facts.has.held
  pub keeps : Keeps c d
