-- What the words and the passes of a table stand for, and what each step makes of it.
use Rattle.std.specs.Prelude.{◌+◌, [], ℕ, zero, suc, ◌-◌, Bool, false, List, ◌++◌, Option, Some, None, slice_get, slice_set}
use Rattle.cqs_core.specs.declared.cells.CoreCell.{CoreCell}
use Rattle.cqs_core.specs.declared.cells.CoreState.{CoreState}
use Rattle.cqs_core.specs.declared.cells.CoreState.TheVariants as state
use Rattle.cqs_core.specs.declared.doings.Doing.{Doing}
use Rattle.cqs_core.specs.QueueState.{Queue}
use Rattle.cqs_core.specs.QueueSteps.{QueueStep, row_of, StepRow, at_counter, at_cell, Counter, to_suspend, to_resume, Cost, no_cost, one_owed, one_element, Gain, nothing, its_own, a_debt, row_after, payloads_after}
use Rattle.cqs_rule_laws.specs.declared.view.Has.{Has}
use Rattle.cqs_rule_laws.specs.Lists.{without}

-- the queue part of a core, what each pass has of its own, who may draw a number to suspend at, and
-- what is left in the cells
pub record Hidden : Type 0 where
  pub queue : Queue
  pub has : List Has
  pub may_draw : List Bool
  pub payloads : ℕ → ℕ

-- What a pass gains that has what it waited for, where this payload came with it: how its count
-- grows, and the value slots that it has then.
pub record Gains : Type 0 where
  pub held : ℕ → ℕ
  pub slots : ℕ → List ℕ

-- what a pass has that paid for the number which it drew to resume at, the element being this
abbrev pub has_paid : Cost → ℕ → Has → Has
has_paid no_cost payload h = h
has_paid one_owed payload h = record h { further = h.further - 1 }
has_paid one_element payload h = record h { payload = payload; slots = without payload h.slots }

-- what a pass has that had this payload from a cell
abbrev pub has_gained : Gains → Gain → ℕ → Has → Has
has_gained gains nothing payload h = h
has_gained gains its_own payload h = record h
    { held = gains.held h.held; slots = gains.slots payload ++ h.slots }
has_gained gains a_debt payload h = record h { payload = payload }

-- what a pass has after a step of the queue
abbrev pub has_after : Gains → StepRow → ℕ → Has → Has
has_after gains (at_counter row) payload h = has_paid row.cost payload h
has_after gains (at_cell row) payload h = has_gained gains row.gain payload h

-- a pass that draws a number to suspend at must see the counter again before it draws the next one
abbrev pub drawn_from : Counter → List Bool → ℕ → List Bool
drawn_from to_suspend may p = slice_set may p false
drawn_from to_resume may p = may

abbrev pub may_draw_after : StepRow → List Bool → ℕ → List Bool
may_draw_after (at_counter row) may p = drawn_from row.counter may p
may_draw_after (at_cell row) may p = may

-- what is left in the cells after a step at the number k
abbrev pub left_after : StepRow → (ℕ → ℕ) → ℕ → ℕ → ℕ → ℕ
left_after (at_counter row) payloads k payload = payloads
left_after (at_cell row) payloads k payload = payloads_after row payloads k payload

-- what a step of this row makes, by the pass p, which has this, at the number k
abbrev pub happened_by : Gains → Hidden → StepRow → ℕ → ℕ → Option CoreCell → Has → ℕ → Hidden
happened_by gains c row p k found has payload = record {
  queue = row_after row c.queue p k found;
  has = slice_set c.has p (has_after gains row payload has);
  may_draw = may_draw_after row c.may_draw p;
  payloads = left_after row c.payloads k payload;
}

-- what a step of the queue makes
abbrev pub hidden_after : Gains → Hidden → QueueStep → ℕ → ℕ → Option CoreCell → Has → ℕ → Hidden
hidden_after gains c s p k found has payload = happened_by gains c (row_of s) p k found has payload

-- a pass is now at this, and has this
abbrev pub stands_at : Hidden → ℕ → Doing → Has → Hidden
stands_at c p d has = record {
  queue = record {
    suspends = c.queue.suspends;
    resumes = c.queue.resumes;
    cells = c.queue.cells;
    doing = slice_set c.queue.doing p d;
  };
  has = slice_set c.has p has;
  may_draw = c.may_draw;
  payloads = c.payloads;
}

-- a pass has seen the suspend counter below the limit
abbrev pub now_may_draw : Hidden → ℕ → Bool → Hidden
now_may_draw c p may = record {
  queue = c.queue;
  has = c.has;
  may_draw = slice_set c.may_draw p may;
  payloads = c.payloads;
}

-- what a pass has that got what another held and had in hand, and that other one
abbrev pub has_both : Has → Has → Has
has_both mine theirs = record mine {
  held = mine.held + theirs.held;
  slots = mine.slots ++ theirs.slots;
}

abbrev pub has_none : Has → Has
has_none theirs = record theirs { held = 0; slots = [] }

-- what a pass has that gave so much of what it held: where it gave nothing, what it had
abbrev pub has_less : ℕ → Has → Has
has_less zero mine = mine
has_less (suc n) mine = record mine { held = mine.held - suc n }

-- what one pass has, or some of it, becomes another's: they have this now
abbrev pub hands_over : Hidden → ℕ → Has → ℕ → Has → Hidden
hands_over c from gave to got = record {
  queue = c.queue;
  has = slice_set (slice_set c.has from gave) to got;
  may_draw = c.may_draw;
  payloads = c.payloads;
}

-- a cell that no counter has passed yet is empty
abbrev pub state_in : Option CoreCell → CoreState
state_in None = state.Empty
state_in (Some cell) = cell.state

abbrev pub state_at : Queue → ℕ → CoreState
state_at q k = state_in (slice_get q.cells k)
