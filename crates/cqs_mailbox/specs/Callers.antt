-- What a post is between two of its calls.
use Rattle.std.specs.Prelude.{◌≡◌}
use Rattle.cqs_rule.specs.declared.queue.tokens.Under as token
use Rattle.cqs_rule.specs.declared.queue.tokens.Wait.{Wait}
use Rattle.cqs_rule_laws.specs.CallRule.{IsReady}
use Rattle.cqs_rule.specs.Owed.{HasUnder}
use Rattle.cqs_rule.specs.Waits.{HasWait}
use Rattle.cqs_pool.specs.declared.element.Element.{Element}
use Rattle.cqs_pool.specs.Elements.{number_of}
use Rattle.cqs_mailbox.specs.declared.mailbox.Mailbox.{Mailbox}
use Rattle.cqs_mailbox.specs.declared.mailbox.Post.{Post}
use Rattle.cqs_mailbox.specs.Mailboxes.{IsPostOf, IsSpare, line_view}

-- it owes nothing
pub record IsAtRest (m : Mailbox) (p : Post) : Type 0 where
  pub belongs : IsPostOf m p
  pub ready : IsReady (line_view p).facts

-- and has this wait, or this envelope to spare
pub record IsWaiting (m : Mailbox) (wait : Wait) (p : Post) : Type 0 where
  pub rest : IsAtRest m p
  pub has : HasWait (line_view p) wait

pub record HasSpare (m : Mailbox) (envelope : Element) (p : Post) : Type 0 where
  pub rest : IsAtRest m p
  pub spare : IsSpare (number_of envelope) p

-- it owes the resumption of an envelope
pub record IsOwing (m : Mailbox) (under : token.Under) (p : Post) : Type 0 where
  pub belongs : IsPostOf m p
  pub owes : HasUnder (line_view p).facts under
  pub further : (line_view p).facts.has.further ≡ 0
