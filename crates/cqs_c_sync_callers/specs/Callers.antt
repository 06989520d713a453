-- How a caller stands between two calls.
use Rattle.std.specs.Prelude.{◌≡◌, ℕ, All, Option, Some, None, length}
use Rattle.cqs_rule.specs.declared.queue.tokens.Wait.{Wait}
use Rattle.cqs_rule.specs.Owed.{HasUnder}
use Rattle.cqs_rule.specs.Passes.{pass_view}
use Rattle.cqs_rule.specs.Waits.{HasWait, place_of}
use Rattle.cqs_rule_laws.specs.declared.carries.Unparked.{Unparked}
use Rattle.cqs_rule_laws.specs.declared.view.Facts.{Facts}
use Rattle.cqs_rule_laws.specs.CallRule.{IsReady}
use Rattle.cqs_sync_semaphore.specs.declared.answers.SyncReleased.{SyncReleased}
use Rattle.cqs_sync_semaphore.specs.declared.answers.SyncReleased.TheVariants.{Freed, Sent, Void, Broke, Handling, Under}
use Rattle.cqs_sync_semaphore.specs.declared.answers.Under as owed
use Rattle.cqs_sync_semaphore.specs.declared.sync_semaphore.SyncSemaphore.{SyncSemaphore}
use Rattle.cqs_sync_semaphore.specs.Calls.{IsMine}
use Rattle.cqs_sync_semaphore.specs.Owed.{number_under, token_of}
use Rattle.cqs_c_callers.specs.Waits.{HasAt, Apart, IsAt}
use Rattle.cqs_c_sync_callers.specs.declared.sync_semaphore_caller.SyncSemaphoreCaller.{SyncSemaphoreCaller}

-- what is still owed after a release, or after the end of one that was handed back
abbrev pub owed_after : SyncReleased → Option owed.Under
owed_after Freed = None
owed_after (Sent k) = None
owed_after (Void k) = None
owed_after (Broke k permit) = None
owed_after (Handling k under) = Some under
owed_after (Under under) = Some under

-- The pass is ready, or owes just the resumption of this token, with a permit that has no number:
-- no permit by number has one.
abbrev pub OwesJust : Facts → Option owed.Under → Type 0
OwesJust f None = IsReady f
OwesJust f (Some under) =
    HasUnder f (token_of under) × (f.has.further ≡ 0) × (number_under under ≡ None)

-- The pass is one of the semaphore, and owes just what the caller has the token of; each of the
-- caller's waits is the pass's own, no two are the same, and there are as many as the pass has: so
-- each that the pass has is kept.
pub record StandsAt (s : SyncSemaphore Unparked) (c : SyncSemaphoreCaller) : Type 0 where
  pub belongs : IsMine s c.pass
  pub owes : OwesJust (pass_view c.pass).facts c.under
  pub waits : All (HasAt (pass_view c.pass)) c.waits.items
  pub apart : Apart c.waits.items
  pub every : length c.waits.items ≡ length (pass_view c.pass).facts.waits

-- the token is that of the caller's wait of this number, which stands at i
pub record IsToken (number : ℕ) (c : SyncSemaphoreCaller) (i : ℕ) (wait : Wait) : Type 0 where
  pub at : IsAt number c.waits.items i
  pub has : HasWait (pass_view c.pass) wait
  pub number_is : (place_of wait).index ≡ number
