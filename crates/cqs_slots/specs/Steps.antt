-- What each step on the words of slots makes of the segments.
use Rattle.std.specs.Prelude.{ℕ, ◌+◌, ◌==◌, List, [], ◌∷◌, ◌++◌, if◌then◌else◌}
use Rattle.cqs_slots.specs.Slots.{Segments, Slot, fresh, changed}

-- One slot becomes this. With it these segments are out, and each below `lit` was made live.
abbrev pub with_slot : Segments → ℕ → Slot → List ℕ → ℕ → Segments
with_slot t x b outs lit = record t { slots = changed t.slots x b; outs = outs; lit = lit }

-- a spare that kept this id becomes the home of one segment more
abbrev pub with_tail : Segments → ℕ → ℕ → Segments
with_tail t x id = record t {
  tail = t.tail + 1;
  homes = t.homes ++ x ∷ [];
  kept = t.kept ++ id ∷ [];
  slots = changed t.slots x (fresh (t.tail + 1) id);
}

-- the link of one slot is raised to this word
abbrev pub with_link : Segments → ℕ → ℕ → Segments
with_link t x word = record t { links = t.links ++ (x, word) ∷ [] }

-- the segments whose cells are all counted, once one cell more of s is, of which m were
abbrev pub fuller : List ℕ → ℕ → ℕ → List ℕ
fuller full m s = full ++ (if m == 31 then s ∷ [] else [])

-- one cell more of this segment is counted
abbrev pub with_counted : Segments → ℕ → Segments
with_counted t s = record t {
  counted = changed t.counted s (t.counted s + 1);
  full = fuller t.full (t.counted s) s;
}
