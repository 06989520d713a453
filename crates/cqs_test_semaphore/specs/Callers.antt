-- How a caller stands between two calls.
use Rattle.std.specs.Prelude.{◌≡◌, ◌≢◌, ℕ, All, Option, Some, None}
use Rattle.cqs_rule.specs.declared.queue.tokens.Under.{Under}
use Rattle.cqs_rule.specs.declared.queue.tokens.Wait.{Wait}
use Rattle.cqs_rule_laws.specs.declared.view.Facts.{Facts}
use Rattle.cqs_rule.specs.Owed.{HasUnder}
use Rattle.cqs_rule.specs.Passes.{pass_view}
use Rattle.cqs_rule.specs.Waits.{HasWait, place_of}
use Rattle.cqs_rule_laws.specs.CallRule.{IsReady}
use Rattle.cqs_semaphore.specs.Calls.{IsMine}
use Rattle.cqs_test_semaphore.specs.declared.caller.Caller.{Caller}

-- the pass is ready, or owes just the resumption of this token
abbrev pub OwesJust : Facts → Option Under → Type 0
OwesJust f None = IsReady f
OwesJust f (Some under) = HasUnder f under × (f.has.further ≡ 0)

-- The pass is one of the semaphore, and owes just what the caller has the token of; and each of the
-- caller's waits is the pass's own.
pub record Stands (c : Caller) : Type 0 where
  pub belongs : IsMine c.semaphore c.pass
  pub owes : OwesJust (pass_view c.pass).facts c.under
  pub waits : All (HasWait (pass_view c.pass)) c.waits.items

-- The caller owes nothing, and has parted from its waits of this number, if there were any: each of
-- the others is the pass's own.
pub record HasParted (number : ℕ) (c : Caller) : Type 0 where
  pub belongs : IsMine c.semaphore c.pass
  pub free : c.under ≡ None
  pub ready : IsReady (pass_view c.pass).facts
  pub others : All (λ w. HasWait (pass_view c.pass) w × ((place_of w).index ≢ number)) c.waits.items

-- the wait that was taken, if there was one, has this number, and is the pass's own
abbrev pub IsTaken : ℕ → Caller → Option Wait → Type 0
IsTaken number c None = Unit {0}
IsTaken number c (Some w) = HasWait (pass_view c.pass) w × ((place_of w).index ≡ number)
