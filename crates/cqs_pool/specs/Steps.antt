-- The parts of the calls: what a resumption means for the element that it brings.
use Rattle.std.specs.Prelude.{◌≡◌, ℕ, ◌<◌, Option, None}
use Rattle.cqs_pool_object.specs.declared.entries.PoolEntry.{PoolEntry}
use Rattle.cqs_rule_laws.specs.declared.view.View.{View}
use Rattle.cqs_rule.specs.Owed.{under_reached, under_ticket}
use Rattle.cqs_rule.specs.declared.queue.tokens.Under as token
use Rattle.cqs_resume.specs.declared.resumed.Resumed as resume
use Rattle.cqs_resume.specs.Resumes.{GoesOn}
use Rattle.cqs_pool.specs.declared.answers.Placed.{Placed}
use Rattle.cqs_pool.specs.declared.answers.Placed.TheVariants.{Sent, Left, Under}
use Rattle.cqs_pool.specs.declared.answers.PoolLeft.{PoolLeft}
use Rattle.cqs_pool.specs.Answers.{Cancels, most_passed_over}
use Rattle.cqs_pool.specs.Calls.{CallRule}
use Rattle.cqs_pool.specs.Causes.{primitive_of}
use Rattle.cqs_pool.specs.Entries.{cancelled_entries, passed_further}
use Rattle.cqs_pool.specs.Owed.{IsPlacedAs, owed_after}
use Rattle.cqs_pool.specs.Pool.{pool_object}

-- where the resumption was handed back, the last number that was drawn for it is greater than this
abbrev pub IsFurther : ℕ → Placed → Type 0
IsFurther reached (Sent k) = Unit {0}
IsFurther reached (Left k) = Unit {0}
IsFurther reached (Under under) = reached < under_reached under

-- the same where it was handed back with no ticket open
abbrev pub HasDrawnPast : ℕ → Placed → Type 0
HasDrawnPast reached (Sent k) = Unit {0}
HasDrawnPast reached (Left k) = Unit {0}
HasDrawnPast reached (Under under) =
    under_ticket under ≡ None → reached < under_reached under

module _ {T : Type 0} where
  -- a resumption of this element went on, and ended or was handed back: after so many numbers, or
  -- for want of a slot
  abbrev pub HasEnded : ℕ → Option ℕ → ℕ → View PoolEntry T → Placed → View PoolEntry T → Type 0
  HasEnded most ticket e v placed w =
      (ended : resume.Resumed) × IsPlacedAs ended placed
      × GoesOn pool_object primitive_of most ticket e v ended w

  -- the same by what is still owed
  abbrev pub PassedOn : ℕ → View PoolEntry T → Option token.Under → View PoolEntry T → Type 0
  PassedOn e v under w =
      (placed : Placed) × (under ≡ owed_after placed)
      × HasEnded most_passed_over None e v placed w

  -- A cancel of the wait k: what became of the element that was on its way to it, if one was, the
  -- call rule, and why.
  abbrev pub HasCancelled : ℕ → View PoolEntry T → PoolLeft → View PoolEntry T → Type 0
  HasCancelled k v answer w =
      (e : ℕ) × (passed : Option Placed)
      × CallRule v (cancelled_entries v.number k answer) (passed_further e passed) w
      × Cancels k v answer e passed w
