-- What the words of a table show of its segments, and what holds of these.
use Rattle.std.specs.Prelude.{◌≡◌, ◌≢◌, ◌⊎◌, ℕ, ◌+◌, ◌*◌, ◌<◌, ◌≤◌, ◌^◌, Bool, List, length, slice_index}
use Rattle.cqs_core.specs.Parts.{Has}
use Rattle.cqs_words.specs.Cell.{index_in}
use Rattle.cqs_words.specs.Segment.{segment_word}
use Rattle.cqs_slots.specs.Layout.{tail_place, head_place, link_place, count_place, slot_cell, slot_words, empty_word}
use Rattle.cqs_slots.specs.Slots.{Segments, Slot, spare, fresh, live, IsHome, IsSegment, slot_head, IsLast, last_id, settled_in, IsLater, IsRaised}

-- The word n in the home of a segment, where its cell k stood: that of this cell, or of one of a
-- later segment there.
pub record IsSince (c : ℕ → ℕ) (k n : ℕ) : Type 0 where
  pub later : k ≤ index_in n
  pub same : index_in n ≡ k → n ≡ c k

-- The link of a slot whose last segment is this one is the word n: it names nothing, or a segment
-- that was made in its slot; and all segments after that last one and before the named one are out.
-- So the named one's id is at most the tail's, and where it isn't above the last one's the link
-- says nothing.
pub record IsLink (homes outs : List ℕ) (last n : ℕ) : Type 0 where
  pub id : ℕ
  pub slot : ℕ
  pub word : n ≡ segment_word id slot
  pub fits : slot < 2 ^ 16
  pub named : IsHome homes id slot ⊎ (id ≡ 0)
  pub passed : (s : ℕ) → last < s → s < id → Has s outs

-- what the words of a slot say
pub record SlotShows (t : Segments) (c : ℕ → ℕ) (words : List ℕ) (x : ℕ) (slot : Slot)
    : Type 0 where
  pub head : slice_index words (head_place x) ≡ slot_head slot
  pub count : (s : ℕ) → IsSegment slot s → slice_index words (count_place x) ≡ t.counted s
  pub cells : (s j : ℕ) → IsSegment slot s → j < 32
      → slice_index words (slot_cell x j) ≡ c (32 * s + j)
  pub since : (s j : ℕ) → IsHome t.homes s x → j < 32
      → IsSince c (32 * s + j) (slice_index words (slot_cell x j))
  pub resets : (i a d j : ℕ) → slot ≡ spare i a d → j + 1 < d → j < 32
      → slice_index words (slot_cell x j) ≡ empty_word (32 * (a + 1) + j)
  pub reset_count : (i a d : ℕ) → slot ≡ spare i a d → 33 < d
      → slice_index words (count_place x) ≡ 0
  pub link : IsLink t.homes t.outs (last_id slot) (slice_index words (link_place x))
  pub raised : (word : ℕ) → IsRaised x word t.links → word ≤ slice_index words (link_place x)

-- what holds of a slot
pub record SlotSound (t : Segments) (x : ℕ) (slot : Slot) : Type 0 where
  pub home : (s : ℕ) → IsSegment slot s → IsHome t.homes s x
  pub young : (s i : ℕ) → slot ≡ fresh s i
      → (s ≡ t.tail) × (t.lit ≡ t.tail) × (i < s) × IsHome t.kept s i
  pub last : (s : ℕ) → IsHome t.homes s x → IsLast slot s
  pub low : last_id slot ≤ t.tail
  pub named : IsHome t.homes (last_id slot) x ⊎ (last_id slot ≡ 0)
  pub out : (s : ℕ) → IsHome t.homes s x
      → IsSegment slot s ⊎ (Has s t.outs × (t.counted s ≡ 32))
  pub gone : (s : ℕ) → IsSegment slot s → Has s t.outs → ⊥

-- the words of n slots, and the tail's
pub record Shows (n : ℕ) (t : Segments) (c : ℕ → ℕ) (words : List ℕ) : Type 0 where
  pub wide : slot_words n ≤ length words
  pub tail : (x : ℕ) → IsHome t.homes t.tail x
      → slice_index words tail_place ≡ segment_word t.tail x
  pub each : (x : ℕ) → x < n → SlotShows t c words x (t.slots x)

-- what holds of the segments of n slots
pub record AreSound (n : ℕ) (t : Segments) : Type 0 where
  pub made : length t.homes ≡ t.tail + 1
  pub kept_made : length t.kept ≡ t.tail + 1
  pub inside : (s x : ℕ) → IsHome t.homes s x → x < n
  pub tail_in : (x : ℕ) → IsHome t.homes t.tail x → IsSegment (t.slots x) t.tail
  pub lit_near : (t.tail ≤ t.lit) × (t.lit ≤ t.tail + 1)
  pub lit_is : (x : ℕ) → t.slots x ≡ live t.tail → x < n → t.lit ≡ t.tail + 1
  pub each : (x : ℕ) → x < n → SlotSound t x (t.slots x)
  pub outs_made : (s : ℕ) → Has s t.outs → s ≤ t.tail
  pub uncounted : (s : ℕ) → t.tail < s → t.counted s ≡ 0
  pub full : (s : ℕ) → t.counted s ≡ 32 → Has s t.full
  pub full_is : (s : ℕ) → Has s t.full → t.counted s ≡ 32
  pub few : n ≤ 65536
  pub short : t.tail < 2 ^ 36

-- each cell's word has its number, and is empty where its segment isn't made
pub record AreCells (c : ℕ → ℕ) (tail : ℕ) : Type 0 where
  pub numbered : (k : ℕ) → index_in (c k) ≡ k
  pub unmade : (k : ℕ) → 32 * tail + 32 ≤ k → c k ≡ empty_word k

-- each settled cell is counted, or is to be counted by one of the duties for its segment
pub record AreCounted (t : Segments) (settled : ℕ → Bool) (duties : ℕ → ℕ) : Type 0 where
  pub counts : (s : ℕ) → settled_in settled s ≡ t.counted s + duties s

-- A step at the slot x made this of the segments, and these words show it: no other slot changed.
pub record Becomes (n x : ℕ) (t u : Segments) (c : ℕ → ℕ) (words : List ℕ) : Type 0 where
  pub shows : Shows n u c words
  pub sound : AreSound n u
  pub later : IsLater t u
  pub others : (y : ℕ) → y ≢ x → u.slots y ≡ t.slots y
