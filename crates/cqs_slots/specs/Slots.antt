-- Segments and their slots, as plain data.
use Rattle.std.specs.Prelude.{◌≡◌, ◌⊎◌, ℕ, zero, suc, ◌+◌, ◌*◌, ◌≤◌, ◌==◌, Bool, List, [], ◌∷◌, slice_get, Some, if◌then◌else◌}
use Rattle.cqs_words.specs.Head.{head_word}
use Rattle.cqs_core.specs.Parts.{IsPrefix}

-- A slot is free; or the spare of one pass, with so many of its words reset for the segment after
-- that one, and one more once that was begun; or the home of a segment, whose head is still claimed
-- or live. A free or claimed head keeps the id of the last segment in its slot.
pub data Slot : Type 0 where
  free : (id : ℕ) → Slot
  spare : (id after done : ℕ) → Slot
  fresh : (segment id : ℕ) → Slot
  live : (segment : ℕ) → Slot

-- What nobody's words show alone. Each list only grows: the home slots of the segments, in order;
-- the ids that the heads of these slots kept as the segments were made; which segments are out;
-- whose cells are all counted; and which links were raised, each slot with the word that its link
-- is no less than since. Each head of a segment below `lit` was made live.
pub record Segments : Type 0 where
  pub tail : ℕ
  pub homes : List ℕ
  pub kept : List ℕ
  pub outs : List ℕ
  pub full : List ℕ
  pub links : List (ℕ × ℕ)
  pub lit : ℕ
  pub slots : ℕ → Slot
  pub counted : ℕ → ℕ

-- the segment was made, and this is its home for good
abbrev pub IsHome : List ℕ → ℕ → ℕ → Type 0
IsHome homes s x = slice_get homes s ≡ Some x

-- the link of the slot x was raised to this word
abbrev pub IsRaised : ℕ → ℕ → List (ℕ × ℕ) → Type 0
IsRaised x word [] = ⊥
IsRaised x word (link ∷ links) = ((link.0 ≡ x) × (link.1 ≡ word)) ⊎ IsRaised x word links

-- the slot is the home of the segment now
abbrev pub IsSegment : Slot → ℕ → Type 0
IsSegment (free i) t = ⊥
IsSegment (spare i a d) t = ⊥
IsSegment (fresh s i) t = s ≡ t
IsSegment (live s) t = s ≡ t

-- the word of a slot's head
abbrev pub slot_head : Slot → ℕ
slot_head (free i) = head_word i 0
slot_head (spare i a d) = head_word i 1
slot_head (fresh s i) = head_word i 1
slot_head (live s) = head_word s 2

-- the last segment that had its home there is this, or one before it
abbrev pub IsLast : Slot → ℕ → Type 0
IsLast (free i) s = s ≤ i
IsLast (spare i a d) s = s ≤ i
IsLast (fresh t i) s = (s ≡ t) ⊎ (s ≤ i)
IsLast (live t) s = s ≤ t

abbrev pub last_id : Slot → ℕ
last_id (free i) = i
last_id (spare i a d) = i
last_id (fresh t i) = t
last_id (live t) = t

-- f with one value changed
abbrev pub changed : {A : Type 0} → (ℕ → A) → ℕ → A → ℕ → A
changed f n x m = if m == n then x else f m

abbrev pub one_if : Bool → ℕ
one_if b = if b then 1 else 0

-- how many of so many numbers from this one on are settled
abbrev pub settled_from : (ℕ → Bool) → ℕ → ℕ → ℕ
settled_from settled k zero = 0
settled_from settled k (suc n) = one_if (settled (k + n)) + settled_from settled k n

-- how many cells of a segment are
abbrev pub settled_in : (ℕ → Bool) → ℕ → ℕ
settled_in settled s = settled_from settled (32 * s) 32

-- what stays of the segments at each step
pub record IsLater (t u : Segments) : Type 0 where
  pub homes : IsPrefix t.homes u.homes
  pub kept : IsPrefix t.kept u.kept
  pub outs : IsPrefix t.outs u.outs
  pub full : IsPrefix t.full u.full
  pub links : IsPrefix t.links u.links
  pub lit : t.lit ≤ u.lit
