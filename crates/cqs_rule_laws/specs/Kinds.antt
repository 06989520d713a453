-- What a step of the queue changes of what a pass counts where the program runs, read off its row.
use Rattle.std.specs.Prelude.{◌≡◌, ℕ, ◌+◌, ◌-◌, Bool, true, false, length, if◌then◌else◌}
use Rattle.cqs_core.specs.QueueStages as stage
use Rattle.cqs_core.specs.QueueStages.{Stage}
use Rattle.cqs_rule_laws.specs.declared.change.Change.{Change}
use Rattle.cqs_rule_laws.specs.declared.change.Waits.{Waits}
use Rattle.cqs_rule_laws.specs.declared.change.Waits.TheVariants as waits
use Rattle.cqs_rule_laws.specs.declared.view.Facts.{Facts}
use Rattle.cqs_rule_laws.specs.Facts.{is_owing}
use Rattle.cqs_rule_laws.specs.Settling.{settles_row}
use Rattle.cqs_core.specs.QueueSteps.{QueueStep, row_of, StepRow, at_counter, at_cell, stage_counted, Cost, no_cost, one_owed, one_element, Gain, nothing, its_own, a_debt, WaitChange, wait_stays, wait_opens, wait_closes}

-- what a pass that held this much holds after the change
abbrev pub held_then : (ℕ → ℕ) → Change → ℕ → ℕ
held_then gains change held = if change.gains then gains held else held

-- how many further resumptions it owes then that owed this many
abbrev pub further_then : Change → ℕ → ℕ
further_then change further = if change.pays then further - 1 else further

-- how many waits it opens and closes
abbrev pub opened : Waits → ℕ
opened waits.Stay = 0
opened waits.Open = 1
opened waits.Close = 0

abbrev pub closed : Waits → ℕ
closed waits.Stay = 0
closed waits.Open = 0
closed waits.Close = 1

-- whether what it waited for is its own by this gain
abbrev pub gains_own : Gain → Bool
gains_own nothing = false
gains_own its_own = true
gains_own a_debt = false

-- whether one of the further resumptions pays this cost
abbrev pub pays_owed : Cost → Bool
pays_owed no_cost = false
pays_owed one_owed = true
pays_owed one_element = false

-- whether a pass at this stage owes
abbrev pub owes_at_stage : Stage → Bool
owes_at_stage stage.idle = false
owes_at_stage stage.door = false
owes_at_stage stage.owes = true
owes_at_stage stage.drawn = false
owes_at_stage stage.ticket = true
owes_at_stage stage.watching = true
owes_at_stage stage.leaving = true
owes_at_stage (stage.decided on) = true

-- what becomes of its waits
abbrev pub waits_by : WaitChange → Waits
waits_by wait_stays = waits.Stay
waits_by wait_opens = waits.Open
waits_by wait_closes = waits.Close

-- what a step of this row changes
abbrev pub change_by : StepRow → Change
change_by (at_counter row) = record {
  gains = false;
  owes = owes_at_stage (stage_counted row.counter);
  pays = pays_owed row.cost;
  waits = waits.Stay;
  settles = false;
}
change_by (at_cell row) = record {
  gains = gains_own row.gain;
  owes = owes_at_stage row.goes_to;
  pays = false;
  waits = waits_by row.wait;
  settles = settles_row row;
}

abbrev pub change_of : QueueStep → Change
change_of s = change_by (row_of s)

-- what a pass that was at the facts f counts after a step that left it at g
pub record Carries (gains : ℕ → ℕ) (row : StepRow) (f g : Facts) : Type 0 where
  pub held : g.has.held ≡ held_then gains (change_by row) f.has.held
  pub owes : is_owing g.doing ≡ (change_by row).owes
  pub waits : length g.waits + closed (change_by row).waits
      ≡ length f.waits + opened (change_by row).waits
  pub further : g.has.further ≡ further_then (change_by row) f.has.further
  pub spares : g.spare_slots ≡ f.spare_slots
  pub open_slot : g.open_slot ≡ f.open_slot
