-- The events of a latch: what each step on its words shows, by the word that it finds.
use Rattle.std.specs.Prelude.{◌%◌, ◌^◌, not, List, [], ◌∷◌}
use Rattle.cqs_core.specs.declared.doings.Doing.{Doing}
use Rattle.cqs_core.specs.declared.doings.Doing.TheVariants as doing
use Rattle.cqs_latch_object.specs.declared.entries.LatchEntry.{LatchEntry}
use Rattle.cqs_latch_object.specs.declared.entries.LatchEntry.TheVariants as entry
use Rattle.cqs_latch_object.specs.LatchWords.{loaded_entries, loaded_doing, counted_entry, counted_doing, come_entry, come_doing}
use Rattle.cqs_rule_laws.specs.Events.{Moment, Event}
use Rattle.cqs_rule_laws.specs.Ruled.{number_at}
use Rattle.cqs_words.specs.State.{count_in}
use Rattle.cqs_words.specs.Waiters.{waiters_in, is_done}

-- an event that changes nothing of what the pass has
abbrev pub event_of : (Moment → List LatchEntry) → (Moment → Doing) → Event LatchEntry
event_of entries doing = record {
  entries = entries;
  doing = doing;
  holds = λ m. m.facts.has.held;
  payload = λ m. m.facts.has.payload;
  further = λ m. m.facts.has.further;
  slots = λ m. m.facts.has.slots;
}

-- who counts down loads the count: it is used up, or the pass is about to take one from it
abbrev pub loads_to_count : Event LatchEntry
loads_to_count = event_of
    (λ m. loaded_entries (entry.DownAlready m.pass) (count_in m.found))
    (λ m. loaded_doing (count_in m.found))

-- one is taken from the count: some are left; it was the last one, and the pass is to open the
-- latch; or it was used up between
abbrev pub counts_down : Event LatchEntry
counts_down = event_of
    (λ m. counted_entry m.pass (count_in m.found) ∷ [])
    (λ m. counted_doing (count_in m.found))

-- who waits loads the count: it is used up, and the pass is through, or it is about to come
abbrev pub loads_to_wait : Event LatchEntry
loads_to_wait = event_of
    (λ m. loaded_entries (entry.Passed m.pass) (count_in m.found))
    (λ m. loaded_doing (count_in m.found))

-- one is added to the waiters: the latch is open by now, or the pass is at the door
abbrev pub comes : Event LatchEntry
comes = event_of
    (λ m. come_entry m.pass (is_done m.found) ∷ [])
    (λ m. come_doing (is_done m.found))

-- a load by which the pass turns back
abbrev pub turns_back : Event LatchEntry
turns_back = event_of (λ m. []) (λ m. doing.Idle)

-- The done bit is set: the pass owes a resumption, of payload 0, for each waiter that was counted.
-- So many fit 32 bits, since they are fewer than the numbers that may be drawn and the passes.
abbrev pub opens : Event LatchEntry
opens = record {
  entries = λ m. entry.Open m.pass ∷ [];
  doing = λ m. doing.Idle;
  holds = λ m. m.facts.has.held;
  payload = λ m. 0;
  further = λ m. waiters_in m.found % 2 ^ 32;
  slots = λ m. m.facts.has.slots;
}

-- A canceller takes one from the waiters: where the latch isn't open its waiter has left the line.
-- Else it is refused, and the resumption that is on its way to it ends at its cell.
abbrev pub leaves : Event LatchEntry
leaves = event_of
    (λ m. entry.Leave m.pass (number_at m.facts.doing) ∷ [])
    (λ m. doing.Decided (number_at m.facts.doing) (not (is_done m.found)))
