-- What a pass knows of the segments, and what the words that it finds tell it.
use Rattle.std.specs.Prelude.{◌≡◌, ◌≢◌, ◌⊎◌, ℕ, ◌+◌, ◌^◌, ◌<◌, ◌≤◌, length}
use Rattle.cqs_core.specs.Parts.{Has, IsPrefix}
use Rattle.cqs_words.specs.Head.{head_word}
use Rattle.cqs_words.specs.Segment.{segment_word}
use Rattle.cqs_slots.specs.declared.seen.Seen.{Seen}
use Rattle.cqs_slots.specs.Slots.{Segments, IsHome, IsRaised}

-- what a pass knows is so
pub record Knows (t : Segments) (v : Seen) : Type 0 where
  pub homes : IsPrefix v.homes t.homes
  pub kept : IsPrefix v.kept t.kept
  pub outs : IsPrefix v.outs t.outs
  pub full : IsPrefix v.full t.full
  pub links : IsPrefix v.links t.links
  pub lit : v.lit ≤ t.lit

-- what it knew it knows
pub record SeesMore (v w : Seen) : Type 0 where
  pub homes : IsPrefix v.homes w.homes
  pub kept : IsPrefix v.kept w.kept
  pub outs : IsPrefix v.outs w.outs
  pub full : IsPrefix v.full w.full
  pub links : IsPrefix v.links w.links
  pub lit : v.lit ≤ w.lit

-- all that can be known
abbrev pub all_seen : Segments → Seen
all_seen t = record {
  homes = t.homes;
  kept = t.kept;
  outs = t.outs;
  full = t.full;
  links = t.links;
  lit = t.lit;
}

-- The tail's word was found to be n: it is that of the last segment that the pass knows of.
pub record TailFound (slots n : ℕ) (w : Seen) : Type 0 where
  pub id : ℕ
  pub slot : ℕ
  pub word : n ≡ segment_word id slot
  pub home : IsHome w.homes id slot
  pub last : length w.homes ≡ id + 1
  pub stands : Has id w.outs → ⊥
  pub low : slot < slots
  pub id_fits : id < 2 ^ 36
  pub slot_fits : slot < 2 ^ 16
  pub inside : (s x : ℕ) → IsHome w.homes s x → x < slots

-- the head of the slot x was found to be n
pub record HeadFound (x n : ℕ) (v w : Seen) : Type 0 where
  pub live : (s : ℕ) → n ≡ head_word s 2
      → IsHome w.homes s x × (s < w.lit) × (Has s w.outs → ⊥)
  pub gone : (s : ℕ) → IsHome v.homes s x → s + 1 < length v.homes → n ≢ head_word s 2
      → Has s w.outs
  pub young : (s i : ℕ) → IsHome v.homes s x → n ≡ head_word i 1 → i < s → IsHome w.kept s i
  pub lit : (s : ℕ) → IsHome v.homes s x → ((i : ℕ) → n ≡ head_word i 1 → i < s → ⊥) → s < w.lit
  pub free : (i : ℕ) → n ≡ head_word i 0 → IsHome w.homes i x ⊎ (i ≡ 0)
  pub rising : (s i : ℕ) → IsHome v.homes s x → n ≡ head_word i 0 → s ≤ i

-- The link of the slot x was found to be n, no less than it was raised to: it names nothing, or a
-- segment that was made. Where that one comes after a segment whose home the slot is or was, this
-- one is out, or all between them are.
pub record LinkFound (slots x n : ℕ) (v w : Seen) : Type 0 where
  pub id : ℕ
  pub slot : ℕ
  pub word : n ≡ segment_word id slot
  pub id_fits : id < 2 ^ 36
  pub slot_fits : slot < 2 ^ 16
  pub named : 0 < id → IsHome w.homes id slot × (slot < slots)
  pub passed : (s m : ℕ) → IsHome v.homes s x → s < m → m < id → Has s w.outs ⊎ Has m w.outs
  pub raised : (word : ℕ) → IsRaised x word v.links → word ≤ n

-- The number of settled cells in the slot x was found to be n: no more than 32, where it was the
-- home of a segment.
pub record CountFound (x n : ℕ) (v w : Seen) : Type 0 where
  pub full : (s : ℕ) → IsHome v.homes s x → 32 ≤ n → Has s w.full
  pub early : (s : ℕ) → IsHome v.homes s x → n < 32 → Has s w.full → Has s w.outs
