-- What a pass keeps after it drew a number.
use Rattle.std.proofs.Common.{◌≡◌, ℕ, ◌∙◌, ap, sym, length, arith}
use Rattle.cqs_core.specs.declared.doings.Doing.TheVariants as doing
use Rattle.cqs_core.specs.QueueStages as stage
use Rattle.cqs_core.specs.QueueStages.{Stage, doing_at}
use Rattle.cqs_core.specs.QueueSteps.{QueueStep, StepRow, at_counter, at_cell, stage_counted}
use Rattle.cqs_rule_laws.specs.declared.view.View.{View}
use Rattle.cqs_rule_laws.specs.Counts.{DrewBy}
use Rattle.cqs_rule_laws.specs.Kinds.{Carries}
use Rattle.cqs_rule_laws.specs.Loads.{IsTicketOf}
use Rattle.cqs_rule_laws.specs.Ruled.{number_at}
use Rattle.cqs_rule_laws.specs.declared.view.Facts.{Facts}
use Rattle.cqs_rule_laws.specs.Object.{Object}
use Rattle.cqs_rule_laws.specs.Views.{IsSame}

-- it holds as much as it did, has as many waits, and if it has a ticket, then that of this number
pub record Draws {E S : Type 0} (n : ℕ) (v w : View E S) : Type 0 where
  pub same : IsSame v w
  pub held : w.facts.has.held ≡ v.facts.has.held
  pub waits : length w.facts.waits ≡ length v.facts.waits
  pub ticket : IsTicketOf w.facts.doing n
  pub duties : w.facts.duties ≡ v.facts.duties
  pub to_retire : w.facts.to_retire ≡ v.facts.to_retire

-- a pass that has a ticket at this stage has that of the number at which it is
ticket-of : (at : Stage) (n k : ℕ) → doing_at at n ≡ doing.Ticket k → n ≡ k
ticket-of stage.ticket n k e = ap number_at e
ticket-of stage.idle n k e = absurd (cc)
ticket-of stage.door n k e = absurd (cc)
ticket-of stage.owes n k e = absurd (cc)
ticket-of stage.drawn n k e = absurd (cc)
ticket-of stage.watching n k e = absurd (cc)
ticket-of stage.leaving n k e = absurd (cc)
ticket-of (stage.decided on) n k e = absurd (cc)

pub drawn-ticket : {E S : Type 0} (object : Object E) (s : QueueStep) (row : StepRow) (payload : ℕ) (v : View E S)
    (n : ℕ)
    (w : View E S) → DrewBy object s row payload v n w → IsTicketOf w.facts.doing n
drawn-ticket object s (at_counter row) payload v n w drew = λ k e.
    ticket-of (stage_counted row.counter) n k (sym (ap (λ (f : Facts). f.doing) drew.facts_are) ∙ e)
drawn-ticket object s (at_cell row) payload v n w drew = absurd drew

pub draws : {E S : Type 0} (object : Object E) (s : QueueStep) (row : StepRow) (payload : ℕ) (v : View E S) (n : ℕ)
    (w : View E S) → DrewBy object s row payload v n w → Carries object.gains.held row v.facts w.facts → Draws n v w
draws object s (at_counter row) payload v n w drew carries =
    let waits = carries.waits in record {
      same = drew.same;
      held = carries.held;
      waits = omega arith;
      ticket = drawn-ticket object s (at_counter row) payload v n w drew;
      duties = ap (λ (f : Facts). f.duties) drew.facts_are;
      to_retire = ap (λ (f : Facts). f.to_retire) drew.facts_are;
    }
draws object s (at_cell row) payload v n w drew carries = absurd drew
