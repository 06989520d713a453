-- The barrier as a client of the queue: its one word has the remaining number, and its history is
-- that of the plain barrier.
use Rattle.std.specs.Prelude.{◌≡◌, ℕ, ◌+◌, ◌-◌, map, true, false, List, [], ◌∷◌, slice_index, if◌then◌else◌, None}
use Rattle.cqs_core.specs.declared.doings.Doing.TheVariants as doing
use Rattle.cqs_barrier_object.specs.declared.entries.BarrierEntry.{BarrierEntry}
use Rattle.cqs_barrier_object.specs.declared.entries.BarrierEntry.TheVariants as entry
use Rattle.cqs_barrier_object.specs.BarrierEntries.{IsLegal}
use Rattle.cqs_barrier_object.specs.BarrierNames.{entry_names}
use Rattle.cqs_barrier_object.specs.BarrierShown.{Shape, IsBarrier}
use Rattle.cqs_barrier_object.specs.BarrierSteps.{step_entries}
use Rattle.cqs_rule_laws.specs.declared.view.Has.{Has}
use Rattle.cqs_rule_laws.specs.declared.config.CancelMode.TheVariants.{Smart}
use Rattle.cqs_rule_laws.specs.Configured.{largest_limit}
use Rattle.cqs_rule_laws.specs.Events.{Event}
use Rattle.cqs_rule_laws.specs.Hidden.{Hidden, Gains}
use Rattle.cqs_rule_laws.specs.Manner.{Manner, asks, owed_further}
use Rattle.cqs_rule_laws.specs.Object.{Object, Primitive}
use Rattle.cqs_rule_laws.specs.Ruled.{number_at}
use Rattle.cqs_rule_laws.specs.Held.{held_of}
use Rattle.cqs_barrier.specs.Word.{word_of, parties_in, remaining_in, is_over, is_last}

-- how many further resumptions each pass owes
abbrev pub further_of : List Has → List ℕ
further_of l = map (λ (h : Has). h.further) l

-- what the table of a barrier stands for
abbrev pub barrier_shown : ℕ → Hidden → List ℕ → List BarrierEntry → Shape
barrier_shown parties c words log = record {
  parties = parties;
  remaining = remaining_in (slice_index words 0);
  held = held_of c.has;
  owed = further_of c.has;
  history = log;
  queue = c.queue;
}

pub record ShowsBarrier {T : Type 0} (parties : ℕ) (c : Hidden) (words : List ℕ)
    (log : List BarrierEntry)
    (handed : List (ℕ × T)) : Type 0 where
  pub word : parties_in (slice_index words 0) ≡ parties
  pub barrier : IsBarrier (barrier_shown parties c words log)

-- a pass that has what it waited for holds no party more: its own has gone through
abbrev pub no_more : Gains
no_more = record { held = λ held. held; slots = λ payload. [] }

abbrev pub barrier_object : Object BarrierEntry
barrier_object = record {
  names = entry_names;
  legal = λ opening. IsLegal opening.size;
  entries = λ step p k payload. step_entries step p k;
  gains = no_more;
  gives = λ entry. None;
  most = λ opening. opening.size;
  knows = λ opening has. Unit {0};
}

-- a barrier asks where a wait leaves, its passes come to a door, and the last owes a resumption for
-- each of the others
abbrev pub barrier_manner : Manner
barrier_manner = record
    { leaving = asks; has_door = true; source = owed_further; watches = false }

abbrev pub barrier_primitive : {T : Type 0} → ℕ → Primitive BarrierEntry T
barrier_primitive parties = record {
  opening = record { size = parties; mode = Smart; sync = false; looks = 0 };
  shows = ShowsBarrier parties;
  manner = barrier_manner;
  words = word_of parties parties ∷ [];
  most_limit = largest_limit;
  values = 0;
  held = parties;
  opens = λ has slot. ⊥;
}

-- a party arrives: the remaining number is one less; the last one owes as many further
-- resumptions as there are others
abbrev pub arrives : Event BarrierEntry
arrives = record {
  entries = λ m. if is_last m.found then entry.ArriveLast m.pass
      ∷ [] else entry.ArriveDoor m.pass ∷ [];
  doing = λ m. if is_last m.found then doing.Idle else doing.Door;
  holds = λ m. m.facts.has.held - 1;
  payload = λ m. 0;
  further = λ m. if is_last m.found then parties_in m.found - 1 else m.facts.has.further;
  slots = λ m. m.facts.has.slots;
}

-- a canceller loads the remaining number: where all have arrived its party counts as through, and
-- else it is still leaving
abbrev pub looks_to_leave : Event BarrierEntry
looks_to_leave = record {
  entries = λ m. if is_over m.found then entry.Stay m.pass (number_at m.facts.doing) ∷ [] else [];
  doing = λ m. if is_over m.found then doing.Decided (number_at m.facts.doing)
      false else m.facts.doing;
  holds = λ m. m.facts.has.held;
  payload = λ m. m.facts.has.payload;
  further = λ m. m.facts.has.further;
  slots = λ m. m.facts.has.slots;
}

-- it exchanges the number for one more: its party is the pass's again, or others were first and it
-- is still leaving
abbrev pub withdraws : Event BarrierEntry
withdraws = record {
  entries = λ m. if m.made then entry.Withdraw m.pass (number_at m.facts.doing) ∷ [] else [];
  doing = λ m. if m.made then doing.Decided (number_at m.facts.doing)
      true else m.facts.doing;
  holds = λ m. if m.made then m.facts.has.held + 1 else m.facts.has.held;
  payload = λ m. m.facts.has.payload;
  further = λ m. m.facts.has.further;
  slots = λ m. m.facts.has.slots;
}
