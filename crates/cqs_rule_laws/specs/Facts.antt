-- What a pass is at after a step of its own, by what it was at.
use Rattle.std.specs.Prelude.{ℕ, ◌+◌, Bool, true, false, List, [], ◌∷◌, ◌++◌, nat_lt, Some, None, if◌then◌else◌, ◌<◌, ◌≤◌}
use Rattle.cqs_core.specs.declared.doings.Doing.{Doing}
use Rattle.cqs_core.specs.declared.doings.Doing.TheVariants as doing
use Rattle.cqs_core.specs.QueueStages as stage
use Rattle.cqs_core.specs.QueueStages.{Stage, doing_at}
use Rattle.cqs_core.specs.QueueSteps.{CellRow, CounterRow, StepRow, at_counter, at_cell, Counter, to_suspend, to_resume, stage_counted, WaitChange, wait_stays, wait_opens, wait_closes, Gain, nothing, its_own, a_debt}
use Rattle.cqs_rule_laws.specs.declared.view.Facts.{Facts}
use Rattle.cqs_rule_laws.specs.declared.view.Glimpse.{Glimpse}
use Rattle.cqs_rule_laws.specs.declared.view.Sighting.TheVariants.{Cell, Word}
use Rattle.cqs_rule_laws.specs.Hidden.{Gains, has_paid, has_gained}
use Rattle.cqs_rule_laws.specs.Layout.{suspends_place, resumes_place}
use Rattle.cqs_rule_laws.specs.Lists.{Has, without}
use Rattle.cqs_rule_laws.specs.Settling.{duties_then, settles_row}

-- whether a pass that is at this owes something: a resumption, or the end of a cancellation that it
-- began
abbrev pub is_owing : Doing → Bool
is_owing doing.Owes = true
is_owing (doing.Ticket k) = true
is_owing (doing.Leaving k) = true
is_owing (doing.Watching k) = true
is_owing (doing.Decided k on) = true
is_owing doing.Idle = false
is_owing doing.Door = false
is_owing (doing.TryAt v) = false
is_owing (doing.Drawn k) = false

-- whether it owes anything: what it is in the middle of, or a further resumption
abbrev pub owes_any : Facts → Bool
owes_any f = if is_owing f.doing then true else nat_lt 0 f.has.further

-- the counter's word
abbrev pub counter_place : Counter → ℕ
counter_place to_suspend = suspends_place
counter_place to_resume = resumes_place

-- a pass that drew a number to suspend at may not draw the next one yet
abbrev pub may_then : Counter → Bool → Bool
may_then to_suspend may = false
may_then to_resume may = may

-- the last number drawn for the resumption that the pass owes: a number that it draws to resume at,
-- and none where it comes to owe what was left to it
abbrev pub reached_by : Counter → ℕ → ℕ → ℕ
reached_by to_suspend n reached = reached
reached_by to_resume n reached = n

abbrev pub reached_with : Gain → ℕ → ℕ
reached_with nothing reached = reached
reached_with its_own reached = reached
reached_with a_debt reached = 0

-- a resumption that goes on from the ticket of k to draw another number has passed over k
abbrev pub passed_from : Stage → Stage → ℕ → List ℕ → List ℕ
passed_from stage.ticket stage.owes k passed = passed ++ k ∷ []
passed_from stage.ticket stage.idle k passed = passed
passed_from stage.ticket stage.door k passed = passed
passed_from stage.ticket stage.drawn k passed = passed
passed_from stage.ticket stage.ticket k passed = passed
passed_from stage.ticket stage.watching k passed = passed
passed_from stage.ticket stage.leaving k passed = passed
passed_from stage.ticket (stage.decided on) k passed = passed
passed_from stage.idle to k passed = passed
passed_from stage.door to k passed = passed
passed_from stage.owes to k passed = passed
passed_from stage.drawn to k passed = passed
passed_from stage.watching to k passed = passed
passed_from stage.leaving to k passed = passed
passed_from (stage.decided on) to k passed = passed

-- How often the pass found the value there that it left last and watches: not yet where it leaves
-- it, and once more where it finds it.
abbrev pub looked_again : Stage → ℕ → ℕ
looked_again stage.watching looked = looked + 1
looked_again stage.idle looked = 0
looked_again stage.door looked = 0
looked_again stage.owes looked = 0
looked_again stage.drawn looked = 0
looked_again stage.ticket looked = 0
looked_again stage.leaving looked = 0
looked_again (stage.decided on) looked = 0

abbrev pub looked_then : Stage → Stage → ℕ → ℕ
looked_then from stage.watching looked = looked_again from looked
looked_then from stage.idle looked = looked
looked_then from stage.door looked = looked
looked_then from stage.owes looked = looked
looked_then from stage.drawn looked = looked
looked_then from stage.ticket looked = looked
looked_then from stage.leaving looked = looked
looked_then from (stage.decided on) looked = looked

-- The number n comes after those that the pass drew to resume at and passed over, and not before
-- the last one that it drew for the resumption which it owes.
pub record IsBehind (n : ℕ) (f : Facts) : Type 0 where
  pub reached : f.reached ≤ n
  pub passed : (k : ℕ) → Has k f.passed → k < n

-- the pass's waits after a step at the number k
abbrev pub waits_then : WaitChange → ℕ → List ℕ → List ℕ
waits_then wait_stays k waits = waits
waits_then wait_opens k waits = waits ++ k ∷ []
waits_then wait_closes k waits = without k waits

-- the number n was drawn from a counter
abbrev pub facts_counted_by : CounterRow → ℕ → ℕ → Facts → Facts
facts_counted_by row n payload f = record f {
  doing = doing_at (stage_counted row.counter) n;
  has = has_paid row.cost payload f.has;
  may_draw = may_then row.counter f.may_draw;
  last = None;
  reached = reached_by row.counter n f.reached;
  found = f.found ++ Word (counter_place row.counter) n ∷ [];
}

-- a step was made at the cell of the number k, where the word n and this payload were found
abbrev pub facts_worked : Gains → CellRow → ℕ → ℕ → ℕ → Facts → Facts
facts_worked gains row k n payload f = record f {
  doing = doing_at row.goes_to k;
  has = has_gained gains row.gain payload f.has;
  last = None;
  waits = waits_then row.wait k f.waits;
  reached = reached_with row.gain f.reached;
  looked = looked_then row.works_at row.goes_to f.looked;
  passed = passed_from row.works_at row.goes_to k f.passed;
  duties = duties_then (settles_row row) k f.duties;
  found = f.found ++ Cell k n ∷ [];
}

-- what a step of the queue at the number k leaves the pass at; it found the word n, and its payload
-- is this
abbrev pub facts_after : Gains → StepRow → ℕ → ℕ → ℕ → Facts → Facts
facts_after gains (at_counter row) k n payload f = facts_counted_by row n payload f
facts_after gains (at_cell row) k n payload f = facts_worked gains row k n payload f

-- an exchange on the cell of this glimpse wasn't made: the word n was found
abbrev pub facts_missed : ℕ → Glimpse → Facts → Facts
facts_missed n g f = record f { last = Some g; found = f.found ++ Cell g.number n ∷ [] }

-- the cell of the number k was loaded, with no event
abbrev pub facts_watched : ℕ → ℕ → Facts → Facts
facts_watched k n f = record f { found = f.found ++ Cell k n ∷ [] }

-- the suspend counter was found at n
abbrev pub facts_counted : ℕ → ℕ → Facts → Facts
facts_counted limit n f =
    record f {
      may_draw = (if nat_lt n limit then true else f.may_draw);
      found =
          f.found ++ Word suspends_place n ∷ [];
    }
