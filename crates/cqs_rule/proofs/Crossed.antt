-- What a pass keeps after an exchange on a cell.
use Rattle.std.proofs.Common.{◌≡◌, ◌≢◌, ℕ, ◌∙◌, ap, sym}
use Rattle.cqs_core.specs.declared.doings.Doing.TheVariants as doing
use Rattle.cqs_core.specs.QueueSteps.{QueueStep, StepRow, at_counter, at_cell, row_of}
use Rattle.cqs_rule_laws.specs.declared.view.Facts.{Facts}
use Rattle.cqs_rule_laws.specs.declared.view.View.{View}
use Rattle.cqs_rule_laws.specs.Exchanges.{CrossedBy}
use Rattle.cqs_rule_laws.specs.Object.{Object, Primitive}
use Rattle.cqs_rule_laws.specs.Views.{IsSame}
use Rattle.cqs_rule_laws.proofs.Settled.{NoTicket, no-ticket-after}

-- what a pass counts is as it was
pub record Stays {E S : Type 0} (v w : View E S) : Type 0 where
  pub same : IsSame v w
  pub doing : w.facts.doing ≡ v.facts.doing
  pub has : w.facts.has ≡ v.facts.has
  pub waits : w.facts.waits ≡ v.facts.waits
  pub open_slot : w.facts.open_slot ≡ v.facts.open_slot
  pub spare_slots : w.facts.spare_slots ≡ v.facts.spare_slots
  pub duties : w.facts.duties ≡ v.facts.duties
  pub to_retire : w.facts.to_retire ≡ v.facts.to_retire

module _ {C E S : Type 0} (object : Object E) (primitive : C → Primitive E S) where
  pub same-made : (s : QueueStep) (row : StepRow) (k expected : ℕ) (v : View E S) (n : ℕ) (w : View E S)
      → CrossedBy object primitive s row k expected v n w → n ≡ expected → IsSame v w
  same-made s (at_cell row) k expected v n w crossed is = (crossed.made is).0.same
  same-made s (at_counter row) k expected v n w crossed is = absurd crossed

  -- no exchange that is made gives its pass a ticket
  pub ticketless : (s : QueueStep) (k expected : ℕ) (v : View E S) (n : ℕ) (w : View E S)
      → CrossedBy object primitive s (row_of s) k expected v n w → n ≡ expected
      → (j : ℕ) → w.facts.doing ≡ doing.Ticket j → ⊥
  ticketless s k expected v n w crossed is = by (row_of s) (no-ticket-after s) crossed
    where
      by : (row : StepRow) → NoTicket row → CrossedBy object primitive s row k expected v n w → (j : ℕ)
          → w.facts.doing ≡ doing.Ticket j → ⊥
      by (at_cell row) none made j e =
          none _ j (sym (ap (λ (f : Facts). f.doing) (made.made is).0.facts_are) ∙ e)
      by (at_counter row) none made j e = absurd made

  pub stays-missed : (s : QueueStep) (row : StepRow) (k expected : ℕ) (v : View E S) (n : ℕ) (w : View E S)
      → CrossedBy object primitive s row k expected v n w → n ≢ expected → Stays v w
  stays-missed s (at_cell row) k expected v n w crossed other =
      let saw = (crossed.missed other).0 in record {
        same = saw.same;
        doing = ap (λ (f : Facts). f.doing) saw.facts_are;
        has = ap (λ (f : Facts). f.has) saw.facts_are;
        waits = ap (λ (f : Facts). f.waits) saw.facts_are;
        open_slot = ap (λ (f : Facts). f.open_slot) saw.facts_are;
        spare_slots = ap (λ (f : Facts). f.spare_slots) saw.facts_are;
        duties = ap (λ (f : Facts). f.duties) saw.facts_are;
        to_retire = ap (λ (f : Facts). f.to_retire) saw.facts_are;
      }
  stays-missed s (at_counter row) k expected v n w crossed other = absurd crossed
