-- What the resumptions of a barrier's last party leave of its pass: each that it owes is begun, one
-- after the other, and ends at a cell or is handed back.
use Rattle.std.specs.Prelude.{◌≡◌, ◌⊎◌, ℕ, ◌+◌, ◌<◌, ◌≤◌, true, List, [], ◌++◌, length, Option, Some, None}
use Rattle.cqs_core.specs.declared.doings.Doing.TheVariants as doing
use Rattle.cqs_barrier_object.specs.declared.entries.BarrierEntry.{BarrierEntry}
use Rattle.cqs_barrier_object.specs.SoleCaller.{delivers}
use Rattle.cqs_rule.specs.declared.queue.tokens.Under.{Under}
use Rattle.cqs_rule_laws.specs.declared.view.Facts.{Facts}
use Rattle.cqs_rule_laws.specs.declared.view.View.{View}
use Rattle.cqs_rule_laws.specs.Called.{Called}
use Rattle.cqs_rule_laws.specs.Causes.{PassedOver}
use Rattle.cqs_rule_laws.specs.Lists.{IsPrefix}
use Rattle.cqs_rule.specs.Claims.{WantsSlot}
use Rattle.cqs_rule.specs.Owed.{HasUnder, under_payload, under_reached, under_ticket}
use Rattle.cqs_barrier.specs.declared.answers.Owing.{Owing}
use Rattle.cqs_barrier.specs.Barrier.{barrier_object}
use Rattle.cqs_barrier.specs.Calls.{waiting_in}
use Rattle.cqs_barrier.specs.Endings.{Served, owed_by}

-- how many numbers one call passes over before it hands a resumption back
abbrev pub most_passed_over : ℕ
most_passed_over = 64

-- the resumption that was handed back, how many more there are behind it, and the last number that
-- was drawn for it
abbrev pub owing_under : Owing → Under
owing_under o = o.under

abbrev pub owing_left : Owing → ℕ
owing_left o = o.left

abbrev pub owing_reached : Owing → ℕ
owing_reached o = under_reached o.under

-- the pass is between two calls, and owes so many resumptions
pub record OwesMore (n : ℕ) (f : Facts) : Type 0 where
  pub idle : f.doing ≡ doing.Idle
  pub further : f.has.further ≡ n
  pub payload : f.has.payload ≡ 0

-- the pass owes the resumption that was handed back, and those behind it
pub record HasOwing (f : Facts) (owing : Owing) : Type 0 where
  pub owes : HasUnder f (owing_under owing)
  pub further : f.has.further ≡ owing_left owing
  pub payload : under_payload (owing_under owing) ≡ 0

-- The resumption that was handed back has no open ticket: the number that was drawn last for it was
-- passed over.
abbrev pub HasNoTicket : Under → Type 0
HasNoTicket under = under_ticket under ≡ None

-- The number that was drawn last for a resumption was this one or an earlier one; it was earlier
-- where the resumption has no open ticket.
pub record IsFurther (reached : ℕ) (under : Under) : Type 0 where
  pub before : reached ≤ under_reached under
  pub further : HasNoTicket under → reached < under_reached under

-- The number that was drawn last for the resumptions of a pass, at first this, never falls; and
-- where one is handed back that has no open ticket, it has grown.
abbrev pub HasGrown : {T : Type 0} → ℕ → Option Under → View BarrierEntry T → Type 0
HasGrown reached None w = reached ≤ w.facts.reached
HasGrown reached (Some under) w = IsFurther reached under

module _ {T : Type 0} where
  -- The pass made no step but those of its resumptions, which served these waits, each with its
  -- cell; all that it owes no more have ended. It holds and waits for what it did before. Where it
  -- is alone the waits are the first of the line, in order.
  pub record Ran (ks : List ℕ) (v w : View BarrierEntry T) : Type 0 where
    pub called : Called barrier_object v (delivers ks) [] w
    pub held : w.facts.has.held ≡ v.facts.has.held
    pub waits : w.facts.waits ≡ v.facts.waits
    pub heads : IsPrefix v.facts.heads w.facts.heads
    pub in_order : v.alone ≡ true → waiting_in v ≡ ks ++ waiting_in w
    pub served : Served ks v w
    pub many : length served.ends + owed_by w.facts ≡ owed_by v.facts

  -- it passed over these numbers
  abbrev pub HasPassedOver : List ℕ → View BarrierEntry T → View BarrierEntry T → Type 0
  HasPassedOver over v w = w.facts.passed ≡ v.facts.passed ++ over

  -- A resumption was handed back by a call: it has no open ticket, and the call passed over 64
  -- numbers; or there was no slot for the segment of its number.
  abbrev pub IsHandedBack : Under → View BarrierEntry T → View BarrierEntry T → Type 0
  IsHandedBack under v w =
      (HasNoTicket under × PassedOver most_passed_over v w) ⊎ WantsSlot under v w

  -- one resumption ended, or was handed back
  abbrev pub RanNext : ℕ → View BarrierEntry T → Option Under → View BarrierEntry T → Type 0
  RanNext left v None w =
      (ks : List ℕ) × (over : List ℕ) × Ran ks v w × HasPassedOver over v w × OwesMore left w.facts
  RanNext left v (Some under) w =
      Ran [] v w × IsHandedBack under v w
      × HasUnder w.facts under × (w.facts.has.further ≡ left) × (under_payload under ≡ 0)

  -- all that were owed ended, or one was handed back
  abbrev pub RanAll : View BarrierEntry T → Option Owing → View BarrierEntry T → Type 0
  RanAll v None w =
      (ks : List ℕ) × (over : List ℕ) × Ran ks v w × HasPassedOver over v w × OwesMore 0 w.facts
  RanAll v (Some owing) w =
      (ks : List ℕ) × Ran ks v w × IsHandedBack (owing_under owing) v w × HasOwing w.facts owing
