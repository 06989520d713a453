-- What an event leads to is no ticket, and no number to suspend at or to watch.
use Rattle.std.proofs.Common.{◌≡◌, inr, ℕ, Bool, true, false, sym, subst, if◌then◌else◌}
use Rattle.cqs_core.specs.declared.doings.Doing.{Doing}
use Rattle.cqs_core.specs.declared.doings.Doing.TheVariants as doing
use Rattle.cqs_rule_laws.specs.Events.{IsAway, StaysAway}

abbrev pub IsTicketless : Doing → Type 0
IsTicketless doing.Idle = Unit {0}
IsTicketless doing.Door = Unit {0}
IsTicketless (doing.Drawn k) = Unit {0}
IsTicketless doing.Owes = Unit {0}
IsTicketless (doing.Ticket k) = ⊥
IsTicketless (doing.TryAt v) = Unit {0}
IsTicketless (doing.Leaving k) = Unit {0}
IsTicketless (doing.Watching k) = Unit {0}
IsTicketless (doing.Decided k on) = Unit {0}

pub no-ticket : (at : Doing) → IsTicketless at → (k : ℕ) → at ≡ doing.Ticket k → ⊥
no-ticket at none k is = subst IsTicketless is none

-- nor in either of two cases
pub if-ticketless : (b : Bool) (x y : Doing) → IsTicketless x → IsTicketless y → IsTicketless (if b then x else y)
if-ticketless true x y none none' = none
if-ticketless false x y none none' = none'

-- where it leads to one, the pass has it already
pub same-ticket : (b : Bool) (x at : Doing) → IsTicketless x → (k : ℕ) → (if b then x else at) ≡ doing.Ticket k
    → at ≡ doing.Ticket k
same-ticket true x at none k is = absurd (no-ticket x none k is)
same-ticket false x at none k is = is

-- in either of two cases it is at no such number
pub if-away : (b : Bool) (x y : Doing) → IsAway x → IsAway y → IsAway (if b then x else y)
if-away true x y away away' = away
if-away false x y away away' = away'

-- from this it leads there: the pass is at no such number before and after
pub away-from : (at from to : Doing) → from ≡ at → IsAway at → IsAway to → StaysAway from to
away-from at from to is away away' = inr (subst IsAway (sym is) away, away')

-- it leads there, or the pass goes on with what it does
pub stays-or : (b : Bool) (x at from : Doing) → from ≡ at → IsAway at → IsAway x
    → StaysAway from (if b then x else from)
stays-or b x at from is away away' =
    away-from at from (if b then x else from) is away (if-away b x from away' (subst IsAway (sym is) away))
