-- The latch as a client: its two words are the count, and the waiters with the done bit; its
-- history is the client's.
use Rattle.std.specs.Prelude.{◌≡◌, ℕ, ◌≤◌, ◌==◌, map, Bool, true, false, List, [], ◌∷◌, length, slice_index, pos, None}
use Rattle.cqs_core.specs.declared.cells.CoreCell.{CoreCell}
use Rattle.cqs_core.specs.Numbered.{EachAt}
use Rattle.cqs_latch_object.specs.declared.entries.LatchEntry.{LatchEntry}
use Rattle.cqs_latch_object.specs.LatchEntries.{IsLegal}
use Rattle.cqs_latch_object.specs.LatchNames.{entry_names}
use Rattle.cqs_latch_object.specs.LatchShown.{LatchShape, IsLatchCore}
use Rattle.cqs_latch_object.specs.LatchSteps.{step_entries}
use Rattle.cqs_resume.specs.AtOnce.{IsPlain}
use Rattle.cqs_rule_laws.specs.declared.view.Has.{Has}
use Rattle.cqs_rule_laws.specs.declared.config.CancelMode.{CancelMode}
use Rattle.cqs_rule_laws.specs.declared.config.CancelMode.TheVariants.{Smart, Simple}
use Rattle.cqs_rule_laws.specs.Client.{no_number}
use Rattle.cqs_rule_laws.specs.Hidden.{Hidden, Gains}
use Rattle.cqs_rule_laws.specs.Manner.{Leaving, Manner, asks, at_once, owed_further}
use Rattle.cqs_rule_laws.specs.Object.{Object, Primitive}
use Rattle.cqs_words.specs.State.{state_word, count_in}
use Rattle.cqs_words.specs.Waiters.{waiters_word, waiters_in, is_done}

abbrev pub is_simple : CancelMode → Bool
is_simple Smart = false
is_simple Simple = true

-- how many resumptions each pass owes and hasn't begun
abbrev pub further_of : List Has → List ℕ
further_of l = map (λ (h : Has). h.further) l

-- the latch that the table of one shows
abbrev pub latch_shown : CancelMode → ℕ → Hidden → List ℕ → List LatchEntry → LatchShape
latch_shown mode size c words log = record {
  simple = is_simple mode;
  size = size;
  count = count_in (slice_index words 0);
  word = waiters_in (slice_index words 1);
  done = is_done (slice_index words 1);
  owed = further_of c.has;
  history = log;
  queue = c.queue;
}

-- a pass of a latch holds nothing
abbrev pub HoldsNothing : ℕ → Has → Type 0
HoldsNothing p has = has.held ≡ 0

-- in simple mode nobody is in the middle of leaving, and nobody is refused to leave
abbrev pub HoldsPlain : CancelMode → ℕ → CoreCell → Type 0
HoldsPlain Smart k cell = Unit {0}
HoldsPlain Simple k cell = IsPlain cell.state

-- the words, the history and what is hidden go together
pub record ShowsLatch (mode : CancelMode) (size : ℕ) (c : Hidden) (words : List ℕ)
    (log : List LatchEntry) : Type 0 where
  pub core : IsLatchCore (latch_shown mode size c words log)
  pub two_words : 2 ≤ length words
  pub few_passes : length c.queue.doing ≤ 32
  pub few_drawn : c.queue.suspends ≤ no_number
  pub none_held : EachAt HoldsNothing c.has
  pub plain : EachAt (HoldsPlain mode) c.queue.cells

-- a pass that has what it waited for has nothing more than before
abbrev pub nothing_more : Gains
nothing_more = record { held = λ held. held; slots = λ payload. [] }

abbrev pub latch_object : Object LatchEntry
latch_object = record {
  names = entry_names;
  legal = λ opening. IsLegal (is_simple opening.mode) opening.size;
  entries = λ step p k payload. step_entries step p k;
  gains = nothing_more;
  gives = λ entry. None;
  most = λ opening. 0;
  knows = λ opening has. Unit {0};
}

-- in smart mode the latch is asked where a wait leaves; in simple mode a wait leaves at once
abbrev pub leaving_in : CancelMode → Leaving
leaving_in Smart = asks
leaving_in Simple = at_once

-- Its passes come to a door, who opens it owes a resumption for each who waits, and its resumes
-- don't watch.
abbrev pub latch_manner : CancelMode → Manner
latch_manner mode = record {
  leaving = leaving_in mode;
  has_door = true;
  source = owed_further;
  watches = false;
}

-- Who opens the latch owes a resumption for each waiter that is counted, and so many have to fit 32
-- bits. In simple mode all who ever came are counted: no more than the numbers drawn and 32 passes.
abbrev pub latch_limit : ℕ
latch_limit = 4294967232

abbrev pub latch_primitive : {T : Type 0} → CancelMode → ℕ → Primitive LatchEntry T
latch_primitive mode size = record {
  opening = record { size = size; mode = mode; sync = false; looks = 0 };
  shows = λ c words log handed. ShowsLatch mode size c words log;
  manner = latch_manner mode;
  words = state_word (pos size) ∷ waiters_word 0 (size == 0) ∷ [];
  most_limit = latch_limit;
  values = 0;
  held = 0;
  opens = λ has slot. ⊥;
}
