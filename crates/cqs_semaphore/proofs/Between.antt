-- After a resumption that ended its pass is idle, and after one that was handed back it owes: it is between two calls.
use Rattle.std.proofs.Common.{◌≡◌, ℕ, true, List, Option, Some, None, refl, ap, ◌∙◌, inl, inr}
use Rattle.cqs_core.specs.declared.entries.Entry.{Entry}
use Rattle.cqs_rule.specs.declared.queue.tokens.Under as token
use Rattle.cqs_rule_laws.specs.declared.view.Facts.{Facts}
use Rattle.cqs_rule_laws.specs.declared.view.View.{View}
use Rattle.cqs_rule_laws.specs.Crew.{IsBetween}
use Rattle.cqs_rule_laws.specs.Facts.{is_owing}
use Rattle.cqs_rule.specs.Owed.{HasUnder, owes_at}
use Rattle.cqs_semaphore.specs.declared.answers.Released.{Released}
use Rattle.cqs_semaphore.specs.declared.answers.Released.TheVariants.{Freed, Left, Sent, Under, Void}
use Rattle.cqs_semaphore.specs.Answers.{Ends, PassesOn}

owing-at : (ticket : Option ℕ) → is_owing (owes_at ticket) ≡ true
owing-at None = refl
owing-at (Some k) = refl

pub under-between : (f : Facts) (under : token.Under) → HasUnder f under → IsBetween f
under-between f under has = inr (ap is_owing has.owes.doing ∙ owing-at under.ticket)

module _ {T : Type 0} where
  pub ends-between : (v w : View Entry T) (held : ℕ) (waits : List ℕ) (released : Released)
      → Ends v held waits released w → IsBetween w.facts
  ends-between v w held waits Freed ends = absurd ends
  ends-between v w held waits (Sent k) ends = inl ends.1.ready.idle
  ends-between v w held waits (Left k) ends = inl ends.1.ready.idle
  ends-between v w held waits (Void k) ends = inl ends.1.ready.idle
  ends-between v w held waits (Under under) ends = under-between w.facts under ends.owes

  pub passed-between : (k : ℕ) (v w : View Entry T) (under : Option token.Under) (passed : Option Released)
      → PassesOn k v under passed w → IsBetween w.facts
  passed-between k v w under None passes = inl passes.1.ready.idle
  passed-between k v w under (Some released) passes = ends-between v w _ _ released passes.2
