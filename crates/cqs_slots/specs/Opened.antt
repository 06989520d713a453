-- How slots open: so many segments are made.
use Rattle.std.specs.Prelude.{◌≡◌, ℕ, zero, suc, ◌+◌, ◌-◌, ◌*◌, ◌<◌, ◌≤◌, nat_lt, List, [], ◌∷◌, length, replicate, slice_index, if◌then◌else◌}
use Rattle.cqs_words.specs.Head.{head_word}
use Rattle.cqs_words.specs.Segment.{segment_word}
use Rattle.cqs_slots.specs.Layout.{tail_place, head_place, link_place, count_place, slot_cell, slot_words}
use Rattle.cqs_slots.specs.Slots.{Segments, Slot, free, live}

-- so many numbers from this one on
abbrev pub numbers_from : ℕ → ℕ → List ℕ
numbers_from k zero = []
numbers_from k (suc m) = k ∷ numbers_from (k + 1) m

abbrev pub first_slot : ℕ → ℕ → Slot
first_slot made x = if nat_lt x made then live x else free 0

-- the segments as a table opens, each in the slot of its number
abbrev pub first_segments : ℕ → Segments
first_segments made = record {
  tail = made - 1;
  homes = numbers_from 0 made;
  kept = replicate made 0;
  outs = [];
  full = [];
  links = [];
  lit = made;
  slots = first_slot made;
  counted = λ s. 0;
}

-- what the words of n slots open with, where m segments are made
pub record OpensWith (n m : ℕ) (c : ℕ → ℕ) (words : List ℕ) : Type 0 where
  pub wide : slot_words n ≤ length words
  pub tail : slice_index words tail_place ≡ segment_word (m - 1) (m - 1)
  pub live_head : (x : ℕ) → x < m → slice_index words (head_place x) ≡ head_word x 2
  pub free_head : (x : ℕ) → m ≤ x → x < n → slice_index words (head_place x) ≡ 0
  pub link : (x : ℕ) → x < n → slice_index words (link_place x) ≡ 0
  pub count : (x : ℕ) → x < m → slice_index words (count_place x) ≡ 0
  pub cells : (x j : ℕ) → x < m → j < 32 → slice_index words (slot_cell x j) ≡ c (32 * x + j)
