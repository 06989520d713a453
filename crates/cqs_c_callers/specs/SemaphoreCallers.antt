-- How a caller stands between two calls.
use Rattle.std.specs.Prelude.{◌≡◌, ℕ, All, Option, Some, None, length}
use Rattle.cqs_rule.specs.declared.queue.tokens.Under.{Under}
use Rattle.cqs_rule_laws.specs.declared.carries.Unparked.{Unparked}
use Rattle.cqs_rule_laws.specs.declared.view.Facts.{Facts}
use Rattle.cqs_rule.specs.Owed.{HasUnder}
use Rattle.cqs_rule.specs.declared.queue.tokens.Wait.{Wait}
use Rattle.cqs_rule.specs.Passes.{pass_view}
use Rattle.cqs_rule.specs.Waits.{HasWait, place_of}
use Rattle.cqs_semaphore.specs.declared.semaphore.Semaphore.{Semaphore}
use Rattle.cqs_rule_laws.specs.CallRule.{IsReady}
use Rattle.cqs_semaphore.specs.Calls.{IsMine}
use Rattle.cqs_c_callers.specs.declared.semaphore_caller.SemaphoreCaller.{SemaphoreCaller}
use Rattle.cqs_c_callers.specs.Waits.{HasAt, Apart, IsAt}

-- the pass is ready, or owes just the resumption of this token
abbrev pub OwesJust : Facts → Option Under → Type 0
OwesJust f None = IsReady f
OwesJust f (Some under) = HasUnder f under × (f.has.further ≡ 0)

-- The pass is one of the semaphore, and owes just what the caller has the token of; each of the
-- caller's waits is the pass's own, no two are the same, and there are as many as the pass has: so
-- each that the pass has is kept.
pub record StandsAt (s : Semaphore Unparked) (c : SemaphoreCaller) : Type 0 where
  pub belongs : IsMine s c.pass
  pub owes : OwesJust (pass_view c.pass).facts c.under
  pub waits : All (HasAt (pass_view c.pass)) c.waits.items
  pub apart : Apart c.waits.items
  pub every : length c.waits.items ≡ length (pass_view c.pass).facts.waits

-- the token is that of the caller's wait of this number, which stands at i
pub record IsToken (number : ℕ) (c : SemaphoreCaller) (i : ℕ) (wait : Wait) : Type 0 where
  pub at : IsAt number c.waits.items i
  pub has : HasWait (pass_view c.pass) wait
  pub number_is : (place_of wait).index ≡ number
