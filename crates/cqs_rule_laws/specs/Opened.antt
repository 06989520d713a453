-- How a queue opens.
use Rattle.std.specs.Prelude.{◌≡◌, ℕ, ◌+◌, ◌-◌, ◌*◌, ◌/◌, ◌%◌, ◌<◌, ◌==◌, nat_lt, nat_le, true, false, List, [], ◌∷◌, length, replicate, slice_index, None, if◌then◌else◌}
use Rattle.cqs_core.specs.declared.cells.CoreCell.{CoreCell}
use Rattle.cqs_core.specs.declared.cells.CoreState.TheVariants as state
use Rattle.cqs_core.specs.declared.doings.Doing.TheVariants as doing
use Rattle.cqs_words.specs.Cell.{cell_word}
use Rattle.cqs_words.specs.Crew.{crew_word}
use Rattle.cqs_rule_laws.specs.Hidden.{Hidden}
use Rattle.cqs_rule_laws.specs.Views.{first_has}
use Rattle.cqs_slots.specs.Layout.{tail_place}
use Rattle.cqs_words.specs.Head.{head_word}
use Rattle.cqs_words.specs.Segment.{segment_word}
use Rattle.cqs_rule_laws.specs.Layout.{crew_place, resumes_place, client_place}

-- a cell in which a value stands from the start
abbrev pub value_cell : CoreCell
value_cell = record { state = state.Value; owner = None; collected = false }

-- the values in cells, from the first number on: each is the number of its cell
abbrev pub first_payload : ℕ → ℕ → ℕ
first_payload values k = if nat_lt k values then k else 0

-- what a table stands for as it opens: so many passes, so many values in cells, and what the first
-- pass holds
abbrev pub first_hidden : ℕ → ℕ → ℕ → Hidden
first_hidden passes values held = record {
  queue = record {
    suspends = 0;
    resumes = values;
    cells = replicate values value_cell;
    doing = replicate passes doing.Idle;
  };
  has = first_has held ∷ replicate (passes - 1) (first_has 0);
  may_draw = replicate passes true;
  payloads = first_payload values;
}

-- the client's words, each of which may be missing
abbrev pub four : List ℕ → List ℕ
four words =
    slice_index words 0 ∷ slice_index words 1 ∷ slice_index words 2 ∷ slice_index words 3 ∷ []

abbrev pub first_cell : ℕ → ℕ → ℕ
first_cell values k = if nat_lt k values then cell_word k 2 k else cell_word k 0 0

-- the opening value of each word of a slot: of its head, its link, its number of settled cells and
-- one that is idle, and its cells
abbrev pub first_in_slot : ℕ → ℕ → ℕ → ℕ → ℕ
first_in_slot made values slot i =
    if i == 0 then (if nat_lt slot made then head_word slot 2 else 0)
    else if nat_lt i 16 then 0 else first_cell values (32 * slot + (i - 16))

-- the opening value of each word of a table in which so many segments are made
abbrev pub first_word : ℕ → ℕ → List ℕ → ℕ → ℕ
first_word made values words i =
    if nat_le 128 i then first_in_slot made values ((i - 128) / 48) ((i - 128) % 48)
    else if i == tail_place then segment_word (made - 1) (made - 1)
    else if i == crew_place then crew_word 1 1
    else if i == resumes_place then values
    else if i == client_place 0 then slice_index words 0
    else if i == client_place 1 then slice_index words 1
    else if i == client_place 2 then slice_index words 2
    else if i == client_place 3 then slice_index words 3
    else 0

-- the words of a table as it opens
pub record IsOpening (count made values : ℕ) (words : List ℕ) (items : List ℕ) : Type 0 where
  pub long : length items ≡ count
  pub at : (i : ℕ) → i < count → slice_index items i ≡ first_word made values words i
