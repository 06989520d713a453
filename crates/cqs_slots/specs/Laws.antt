-- The laws of slots: what each step on their words makes of the segments, what each load tells, and
-- that a segment leaves no sooner than all its cells are settled.
use Rattle.std.specs.Prelude.{◌≡◌, ◌≢◌, ℕ, ◌+◌, ◌*◌, ◌/◌, ◌^◌, ◌<◌, ◌≤◌, max, Bool, true, false, List, [], ◌∷◌, ◌++◌, length, slice_index, slice_set}
use Rattle.cqs_core.specs.Parts.{Has}
use Rattle.cqs_words.specs.Cell.{index_in}
use Rattle.cqs_words.specs.Head.{head_word}
use Rattle.cqs_words.specs.Segment.{segment_word}
use Rattle.cqs_slots.specs.declared.seen.Seen.{Seen}
use Rattle.cqs_slots.specs.Layout.{tail_place, head_place, link_place, count_place, slot_cell, empty_word}
use Rattle.cqs_slots.specs.Lists.{IsDistinct}
use Rattle.cqs_slots.specs.Slots.{Segments, free, spare, fresh, live, IsHome, IsSegment, changed, IsLater}
use Rattle.cqs_slots.specs.Shown.{Shows, AreSound, AreCells, AreCounted, Becomes}
use Rattle.cqs_slots.specs.Steps.{with_slot, with_tail, with_link, with_counted}
use Rattle.cqs_slots.specs.Opened.{first_segments, OpensWith}
use Rattle.cqs_slots.specs.Told.{Knows, all_seen, TailFound, HeadFound, LinkFound, CountFound}

-- the laws begin so: these words show these segments of n slots, which are sound
abbrev OfShown : (ℕ → Segments → (ℕ → ℕ) → List ℕ → Type 0) → Type 0
OfShown P =
    (n : ℕ) (t : Segments) (c : ℕ → ℕ) (words : List ℕ) → Shows n t c words → AreSound n t
    → P n t c words

-- a free slot is claimed, and is a spare then
abbrev pub FreeSlotsAreClaimed : Type 0
FreeSlotsAreClaimed = OfShown (λ n t c words.
    (x : ℕ) → x < n → (id : ℕ) → slice_index words (head_place x) ≡ head_word id 0
    → Becomes n x t (with_slot t x (spare id 0 0) t.outs t.lit) c
    (slice_set words (head_place x) (head_word id 1)))

-- a spare is given back, and is free then
abbrev pub SparesAreGivenBack : Type 0
SparesAreGivenBack = OfShown (λ n t c words.
    (x : ℕ) → x < n → (id after done : ℕ) → t.slots x ≡ spare id after done
    → Becomes n x t (with_slot t x (free id) t.outs t.lit) c
    (slice_set words (head_place x) (head_word id 0)))

-- The reset of a spare begins with no word written, for the segment after any.
abbrev pub ResetsBegin : Type 0
ResetsBegin = OfShown (λ n t c words.
    (x : ℕ) → x < n → (id a d after : ℕ) → t.slots x ≡ spare id a d
    → Becomes n x t (with_slot t x (spare id after 1) t.outs t.lit) c words)

-- The cells are reset in their order, each to its number in the segment after `after`.
abbrev pub CellsAreReset : Type 0
CellsAreReset = OfShown (λ n t c words.
    (x : ℕ) → x < n → (id after j : ℕ) → t.slots x ≡ spare id after (j + 1) → id ≤ after → j < 32
    → Becomes n x t (with_slot t x (spare id after (j + 2)) t.outs t.lit) c
    (slice_set words (slot_cell x j) (empty_word (32 * (after + 1) + j))))

-- and then the number of the settled cells
abbrev pub CountsAreReset : Type 0
CountsAreReset = OfShown (λ n t c words.
    (x : ℕ) → x < n → (id after : ℕ) → t.slots x ≡ spare id after 33
    → Becomes n x t (with_slot t x (spare id after 34) t.outs t.lit) c
    (slice_set words (count_place x) 0))

-- A head that is claimed under an earlier id than that of the segment whose home its slot is: the
-- segment is the last one, and the head is made live.
abbrev pub ClaimedHeadsAreLit : Type 0
ClaimedHeadsAreLit = OfShown (λ n t c words.
    (x s : ℕ) → IsHome t.homes s x → (id : ℕ) → id < s
    → slice_index words (head_place x) ≡ head_word id 1
    → (t.slots x ≡ fresh s id)
    × Becomes n x t (with_slot t x (live s) t.outs (s + 1)) c
    (slice_set words (head_place x) (head_word s 2)))

-- A spare that is reset in whole for the segment after the last becomes the home of that segment,
-- where the last one's head isn't claimed any more.
abbrev pub ResetSparesBecomeTheTail : Type 0
ResetSparesBecomeTheTail = OfShown (λ n t c words.
    AreCells c t.tail → (x id : ℕ) → x < n → id ≤ t.tail → t.slots x ≡ spare id t.tail 34
    → t.lit ≡ t.tail + 1 → t.tail + 1 < 2 ^ 36
    → Becomes n x t (with_tail t x id) c (slice_set words tail_place (segment_word (t.tail + 1) x)))

-- A segment whose cells are all counted leaves, unless it is the last one. Its slot is free then.
abbrev pub FullSegmentsLeave : Type 0
FullSegmentsLeave = OfShown (λ n t c words.
    (x s : ℕ) → IsHome t.homes s x → s < t.tail → Has s t.full
    → slice_index words (head_place x) ≡ head_word s 2
    → Becomes n x t (with_slot t x (free s) (t.outs ++ s ∷ []) t.lit) c
    (slice_set words (head_place x) (head_word s 0)))

-- A link is raised from a segment to one that was made, where all between them are out. The slot is
-- or was the home of the first; what it names is the greater then of this and of what it named.
abbrev pub LinksRise : Type 0
LinksRise = OfShown (λ n t c words.
    (s x m y : ℕ) → IsHome t.homes s x → IsHome t.homes m y
    → ((q : ℕ) → s < q → q < m → Has q t.outs)
    → Becomes n x t (with_link t x (segment_word m y)) c
    (slice_set words (link_place x)
    (max (slice_index words (link_place x)) (segment_word m y))))

-- A cell that is to be counted is counted: its segment stands, and one duty for it is done.
pub record IsCounted (n : ℕ) (t : Segments) (c : ℕ → ℕ) (words : List ℕ) (s x : ℕ) : Type 0 where
  pub found : slice_index words (count_place x) ≡ t.counted s
  pub shows : Shows n (with_counted t s) c (slice_set words (count_place x) (t.counted s + 1))
  pub sound : AreSound n (with_counted t s)
  pub later : IsLater t (with_counted t s)

abbrev pub DutiesAreDone : Type 0
DutiesAreDone = OfShown (λ n t c words.
    (settled : ℕ → Bool) (duties : ℕ → ℕ) (s x : ℕ) → AreCounted t settled duties → 0 < duties s
    → IsHome t.homes s x
    → IsCounted n t c words s x
    × ((fewer : ℕ → ℕ) → fewer s + 1 ≡ duties s → ((q : ℕ) → q ≢ s → fewer q ≡ duties q)
    → AreCounted (with_counted t s) settled fewer))

-- who settles a cell has one duty more
abbrev pub SettledCellsAreDuties : Type 0
SettledCellsAreDuties =
    (t : Segments) (before after : ℕ → Bool) (duties more : ℕ → ℕ) (s j : ℕ)
    → AreCounted t before duties → j < 32 → before (32 * s + j) ≡ false
    → ((k : ℕ) → after k ≡ changed before (32 * s + j) true k)
    → more s ≡ duties s + 1 → ((q : ℕ) → q ≢ s → more q ≡ duties q) → AreCounted t after more

-- all cells of a segment that is out are settled
abbrev pub CellsOfLeftSegmentsAreSettled : Type 0
CellsOfLeftSegmentsAreSettled =
    (n : ℕ) (t : Segments) (settled : ℕ → Bool) (duties : ℕ → ℕ) (s j : ℕ) → AreSound n t
    → AreCounted t settled duties → Has s t.outs → j < 32 → settled (32 * s + j) ≡ true

-- a cell that isn't settled stands in the home of its segment
abbrev pub UnsettledCellsStand : Type 0
UnsettledCellsStand =
    (n : ℕ) (t : Segments) (settled : ℕ → Bool) (duties : ℕ → ℕ) (s x j : ℕ) → AreSound n t
    → AreCounted t settled duties → IsHome t.homes s x → j < 32 → settled (32 * s + j) ≡ false
    → IsSegment (t.slots x) s

-- Of the cells of the segments that are made, and of the next one, few aren't settled: those of the
-- segments that stand, one in each slot, and the 32 of the next.
abbrev pub UnsettledCellsAreFew : Type 0
UnsettledCellsAreFew =
    (n : ℕ) (t : Segments) (settled : ℕ → Bool) (duties : ℕ → ℕ) (cells : List ℕ) → AreSound n t
    → AreCounted t settled duties → IsDistinct cells
    → ((k : ℕ) → Has k cells → (settled k ≡ false) × (k / 32 ≤ t.tail + 1))
    → length cells ≤ 32 * n + 32

-- What is found where a cell of a made segment stood is that cell's word, or that of a later
-- number. So an exchange that expects a word of this number changes no cell of a later segment.
abbrev pub FoundWordsAreLater : Type 0
FoundWordsAreLater = OfShown (λ n t c words.
    (s x j : ℕ) → IsHome t.homes s x → j < 32
    → (32 * s + j ≤ index_in (slice_index words (slot_cell x j)))
    × (index_in (slice_index words (slot_cell x j)) ≡ 32 * s + j
    → slice_index words (slot_cell x j) ≡ c (32 * s + j)))

-- a cell that stands in its home is written: d is c but for it
abbrev pub CellsAreWritten : Type 0
CellsAreWritten = OfShown (λ n t c words.
    (d : ℕ → ℕ) (s x j z : ℕ) → IsHome t.homes s x → j < 32 → IsSegment (t.slots x) s
    → z ≡ d (32 * s + j) → index_in z ≡ 32 * s + j → index_in (c (32 * s + j)) ≡ 32 * s + j
    → ((k : ℕ) → k ≢ 32 * s + j → d k ≡ c k) → Shows n t d (slice_set words (slot_cell x j) z))

-- a step on the words before the tail's leaves all that is shown
abbrev pub WordsBeforeShowNothing : Type 0
WordsBeforeShowNothing = OfShown (λ n t c words.
    (words' : List ℕ) → length words ≤ length words'
    → ((i : ℕ) → tail_place ≤ i → slice_index words' i ≡ slice_index words i) → Shows n t c words')

-- a load of the tail tells of the last segment
abbrev pub TailsTell : Type 0
TailsTell = OfShown (λ n t c words. TailFound n (slice_index words tail_place) (all_seen t))

-- a load of a head tells of the segments whose home its slot is or was
abbrev pub HeadsTell : Type 0
HeadsTell = OfShown (λ n t c words.
    (v : Seen) (x : ℕ) → x < n → Knows t v
    → HeadFound x (slice_index words (head_place x)) v (all_seen t))

-- a load of a link tells which segments it passes by
abbrev pub LinksTell : Type 0
LinksTell = OfShown (λ n t c words.
    (v : Seen) (x : ℕ) → x < n → Knows t v
    → LinkFound n x (slice_index words (link_place x)) v (all_seen t))

-- and a load of a number of settled cells tells where it is that of all
abbrev pub CountsTell : Type 0
CountsTell = OfShown (λ n t c words.
    (settled : ℕ → Bool) (duties : ℕ → ℕ) → AreCounted t settled duties → (v : Seen) (x : ℕ) → x < n
    → Knows t v
    → CountFound x (slice_index words (count_place x)) v (all_seen t))

-- the words that slots open with show the first segments
abbrev pub OpeningWordsShow : Type 0
OpeningWordsShow =
    (n m : ℕ) (c : ℕ → ℕ) → 0 < m → m ≤ n → n ≤ 65536 → (words : List ℕ) → OpensWith n m c words
    → ((k : ℕ) → index_in (c k) ≡ k) → Shows n (first_segments m) c words

-- these are sound, and no cell is settled or counted
abbrev pub FirstSegmentsAreSound : Type 0
FirstSegmentsAreSound =
    (n m : ℕ) → 0 < m → m ≤ n → n ≤ 65536
    → AreSound n (first_segments m) × AreCounted (first_segments m) (λ k. false) (λ s. 0)
