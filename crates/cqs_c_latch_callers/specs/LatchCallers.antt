-- How a caller of a latch stands between two calls.
use Rattle.std.specs.Prelude.{◌≡◌, Option, Some, None, length}
use Rattle.cqs_rule_laws.specs.declared.carries.Unparked.{Unparked}
use Rattle.cqs_rule_laws.specs.declared.view.Facts.{Facts}
use Rattle.cqs_rule.specs.Passes.{pass_view}
use Rattle.cqs_latch.specs.declared.answers.Owed.{Owed}
use Rattle.cqs_latch.specs.declared.latch.Latch.{Latch}
use Rattle.cqs_rule_laws.specs.CallRule.{IsReady}
use Rattle.cqs_latch.specs.Calls.{IsMine}
use Rattle.cqs_latch.specs.Owed.{HasOwed}
use Rattle.cqs_c_latch_callers.specs.declared.latch_caller.LatchCaller.{LatchCaller}
use Rattle.cqs_c_callers.specs.Tokens.{HasTokens}

-- the pass is ready, or owes just these resumptions
abbrev pub OwesJust : Facts → Option Owed → Type 0
OwesJust f None = IsReady f
OwesJust f (Some owed) = HasOwed f owed

-- The pass is one of the latch, and owes just what the caller has the token of; and the caller has
-- tokens of waits of the pass, as many as it has.
pub record StandsAt (l : Latch Unparked) (c : LatchCaller) : Type 0 where
  pub belongs : IsMine l c.pass
  pub owes : OwesJust (pass_view c.pass).facts c.owed
  pub waits : HasTokens (λ wait. wait) (pass_view c.pass) c.waits.items
  pub every : length c.waits.items ≡ length (pass_view c.pass).facts.waits
