-- What contracts see of a resumption that a pass owes, and of its token.
use Rattle.std.specs.Prelude.{◌≡◌, ℕ, Option, Some, None}
use Rattle.cqs_core.specs.declared.doings.Doing.{Doing}
use Rattle.cqs_core.specs.declared.doings.Doing.TheVariants as doing
use Rattle.cqs_rule.specs.declared.queue.tokens.Under.{Under}
use Rattle.cqs_rule_laws.specs.declared.view.Facts.{Facts}

-- what a pass is at that owes a resumption, with this ticket open or with none
abbrev pub owes_at : Option ℕ → Doing
owes_at None = doing.Owes
owes_at (Some k) = doing.Ticket k

-- the pass owes the resumption of this payload, with this ticket open or with none
pub record OwesWith (facts : Facts) (payload : ℕ) (ticket : Option ℕ) : Type 0 where
  pub doing : facts.doing ≡ owes_at ticket
  pub owed : facts.has.payload ≡ payload

-- the payload of a token, its open ticket, and the last number drawn for it
abbrev pub under_payload : Under → ℕ
under_payload u = u.payload

abbrev pub under_ticket : Under → Option ℕ
under_ticket u = u.ticket

abbrev pub under_reached : Under → ℕ
under_reached u = u.reached

-- the token is that of the resumption which the pass owes
pub record HasUnder (facts : Facts) (under : Under) : Type 0 where
  pub owes : OwesWith facts under.payload under.ticket
  pub reached : under.reached ≡ facts.reached
