-- How a caller of a pool stands between two calls.
use Rattle.std.specs.Prelude.{◌≡◌, List, All, Option, Some, None, length}
use Rattle.cqs_rule.specs.declared.queue.tokens.Under.{Under}
use Rattle.cqs_rule_laws.specs.declared.carries.Unparked.{Unparked}
use Rattle.cqs_rule_laws.specs.declared.view.Facts.{Facts}
use Rattle.cqs_rule.specs.Owed.{HasUnder}
use Rattle.cqs_rule.specs.Passes.{pass_view}
use Rattle.cqs_pool.specs.declared.element.Element.{Element}
use Rattle.cqs_pool.specs.declared.pool.Pool.{Pool}
use Rattle.cqs_pool.specs.Answers.{IsInHand}
use Rattle.cqs_rule_laws.specs.CallRule.{IsReady}
use Rattle.cqs_pool.specs.Calls.{IsMine}
use Rattle.cqs_pool.specs.Elements.{number_of}
use Rattle.cqs_c_callers.specs.declared.pool_caller.PoolCaller.{PoolCaller}
use Rattle.cqs_c_callers.specs.Tokens.{Apart, HasTokens}

-- the pass is ready, or owes just the resumption of this token
abbrev pub OwesJust : Facts → Option Under → Type 0
OwesJust f None = IsReady f
OwesJust f (Some under) = HasUnder f under × (f.has.further ≡ 0)

-- the pass has each of these elements in hand, no two are the same, and there are as many as it has
-- in hand
pub record HasElements (f : Facts) (xs : List Element) : Type 0 where
  pub has : All (λ x. IsInHand (number_of x) f) xs
  pub apart : Apart number_of xs
  pub every : length xs ≡ length f.has.slots

-- The pass is one of the pool, and owes just what the caller has the token of; and the caller has
-- tokens of waits of the pass, as many as it has, and the elements that it has in hand.
pub record StandsAt (p : Pool Unparked) (c : PoolCaller) : Type 0 where
  pub belongs : IsMine p c.pass
  pub owes : OwesJust (pass_view c.pass).facts c.under
  pub waits : HasTokens (λ wait. wait) (pass_view c.pass) c.waits.items
  pub every : length c.waits.items ≡ length (pass_view c.pass).facts.waits
  pub elements : HasElements (pass_view c.pass).facts c.elements.items
