-- Which word of a table belongs to which slot. A slot has 48 words: its head, and its link in the
-- same line; 8 words on the number of its settled cells; and from the 16th word on its 32 cells.
use Rattle.std.specs.Prelude.{◌⊎◌, ℕ, ◌+◌, ◌*◌, ◌<◌, ◌≤◌}
use Rattle.cqs_words.specs.Cell.{cell_word}

abbrev pub tail_place : ℕ
tail_place = 112

abbrev pub head_place : ℕ → ℕ
head_place x = 48 * x + 128

abbrev pub link_place : ℕ → ℕ
link_place x = 48 * x + 129

abbrev pub count_place : ℕ → ℕ
count_place x = 48 * x + 136

-- the word of the cell j of the slot x
abbrev pub slot_cell : ℕ → ℕ → ℕ
slot_cell x j = 48 * x + (144 + j)

-- how many words a table of so many slots has
abbrev pub slot_words : ℕ → ℕ
slot_words slots = 48 * slots + 128

-- the word is none of this slot's
abbrev pub IsElse : ℕ → ℕ → Type 0
IsElse i x = (i < 48 * x + 128) ⊎ (48 * x + 176 ≤ i)

-- the word of a cell that nobody has come to
abbrev pub empty_word : ℕ → ℕ
empty_word k = cell_word k 0 0
