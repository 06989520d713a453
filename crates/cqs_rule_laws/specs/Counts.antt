-- The numbers that are drawn from the two counters: where a pass may draw one, and what it tells.
use Rattle.std.specs.Prelude.{◌≡◌, ℕ, ◌<◌, ◌^◌, true, Option, ℤ, pos}
use Rattle.atomic_table.specs.Table.{Me, Step}
use Rattle.cqs_core.specs.QueueStages as stage
use Rattle.cqs_core.specs.QueueStages.{Stage, doing_at}
use Rattle.cqs_core.specs.QueueSteps.{QueueStep, row_of, CounterRow, StepRow, at_counter, at_cell, Counter, to_suspend, to_resume, Cost, no_cost, one_owed, one_element}
use Rattle.cqs_rule_laws.specs.declared.view.View.{View}
use Rattle.cqs_rule_laws.specs.declared.view.Facts.{Facts}
use Rattle.cqs_rule_laws.specs.Client.{IsPaid}
use Rattle.cqs_rule_laws.specs.Facts.{counter_place, facts_counted_by, IsBehind}
use Rattle.cqs_rule_laws.specs.Kinds.{Carries}
use Rattle.cqs_rule_laws.specs.Object.{Object}
use Rattle.cqs_rule_laws.specs.Saw.{Saw, IsLive}

-- who draws a number to suspend at has seen the counter below the limit: at the door that is known
abbrev pub HasSeenRoom : Stage → Facts → Type 0
HasSeenRoom stage.door facts = Unit {0}
HasSeenRoom stage.idle facts = facts.may_draw ≡ true
HasSeenRoom stage.owes facts = facts.may_draw ≡ true
HasSeenRoom stage.drawn facts = facts.may_draw ≡ true
HasSeenRoom stage.ticket facts = facts.may_draw ≡ true
HasSeenRoom stage.watching facts = facts.may_draw ≡ true
HasSeenRoom stage.leaving facts = facts.may_draw ≡ true
HasSeenRoom (stage.decided on) facts = facts.may_draw ≡ true

abbrev pub MayCount : Counter → Stage → Facts → Type 0
MayCount to_suspend at facts = HasSeenRoom at facts
MayCount to_resume at facts = Unit {0}

-- A number that a pass at these facts may draw, for which it pays with this payload.
pub record Counts (row : CounterRow) (facts : Facts) (payload word : ℕ) (by : ℤ) : Type 0 where
  pub works : facts.doing ≡ doing_at row.works_at 0
  pub may : MayCount row.counter row.works_at facts
  pub paid : IsPaid row.cost facts.has payload
  pub fits : payload < 2 ^ 20
  pub word_is : word ≡ counter_place row.counter
  pub one : by ≡ pos 1

abbrev pub IsSlotless : Cost → Type 0
IsSlotless no_cost = Unit {0}
IsSlotless one_owed = Unit {0}
IsSlotless one_element = ⊥

-- a number that isn't paid for with an element: those are put by a step of their own, which gives a
-- slot away
abbrev pub PaysNoElement : StepRow → Type 0
PaysNoElement (at_counter row) = IsSlotless row.cost
PaysNoElement (at_cell row) = Unit {0}

abbrev pub IsCountBy : StepRow → Facts → ℕ → ℤ → Type 0
IsCountBy (at_counter row) facts word by =
    Counts row facts facts.has.payload word by
IsCountBy (at_cell row) facts word by = ⊥

abbrev pub IsCount : QueueStep → Facts → ℕ → ℤ → Type 0
IsCount s facts word by = IsCountBy (row_of s) facts word by

-- where the number n was drawn by a pass at these facts: one to resume at comes after those that it
-- drew before
abbrev pub IsDrawnFrom : Counter → Facts → ℕ → Type 0
IsDrawnFrom to_suspend facts n = Unit {0}
IsDrawnFrom to_resume facts n = IsBehind n facts

abbrev pub IsDrawnBy : StepRow → Facts → ℕ → Type 0
IsDrawnBy (at_counter row) facts n = IsDrawnFrom row.counter facts n
IsDrawnBy (at_cell row) facts n = ⊥

abbrev pub IsDrawnAt : QueueStep → Facts → ℕ → Type 0
IsDrawnAt s facts n = IsDrawnBy (row_of s) facts n

module _ {E : Type 0} (object : Object E) where
  module _ {S : Type 0} where
    -- the number n was drawn, with this payload
    abbrev pub DrewBy : QueueStep → StepRow → ℕ → View E S → ℕ → View E S → Type 0
    DrewBy s (at_counter row) payload v n w =
        Saw object v (facts_counted_by row n payload v.facts) (object.entries s v.number n payload)
        w
    DrewBy s (at_cell row) payload v n w = ⊥

    -- the pass resumes with what it owes
    abbrev pub Drew : QueueStep → View E S → ℕ → View E S → Type 0
    Drew s v n w = DrewBy s (row_of s) v.facts.has.payload v n w

    abbrev pub drew : QueueStep → Step (Option S) → Me (Option S) (View E S) → ℕ
        → Me (Option S) (View E S) → Type 0
    drew s st me n me' =
        Drew s me.0 n me'.0 × (me'.1 ≡ me.1) × IsLive object me'.0
        × Carries object.gains.held (row_of s) me.0.facts me'.0.facts × IsDrawnAt s me.0.facts n
