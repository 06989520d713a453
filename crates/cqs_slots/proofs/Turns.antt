-- A step that changes one slot.
use Rattle.std.proofs.Common.{◌≡◌, ◌≢◌, ◌⊎◌, ℕ, ◌+◌, ◌*◌, ◌<◌, ◌≤◌, List, length, sym, refl, ap, ◌∙◌, subst, ⊎_elim, inr, arith}
use Rattle.std.specs.Prelude.{slice_index, slice_set}
use Rattle.std.proofs.lemmas.List.{length-set}
use Rattle.cqs_core.specs.Parts.{Has, IsPrefix}
use Rattle.cqs_words.specs.Head.{head_word}
use Rattle.cqs_slots.specs.Layout.{head_place, link_place, slot_cell, IsElse}
use Rattle.cqs_slots.specs.Slots.{Segments, Slot, free, spare, fresh, live, IsHome, IsSegment, slot_head, IsLast, last_id}
use Rattle.cqs_slots.specs.Shown.{IsSince, SlotShows, SlotSound, Shows, AreSound, Becomes}
use Rattle.cqs_slots.specs.Steps.{with_slot}
use Rattle.cqs_slots.proofs.Lists.{prefix-same, has_prefix, changed_else, other-word, this-word}
use Rattle.cqs_slots.proofs.Links.{link-stays}
use Rattle.cqs_slots.proofs.Places.{cells-stay}
use Rattle.cqs_slots.proofs.Stays.{slot-shows, slot-sound, since-same}

-- what a step that makes b of the slot x has to show; the words are then these
pub record SlotTurn (n : ℕ) (t : Segments) (c : ℕ → ℕ) (x : ℕ) (b : Slot) (outs : List ℕ) (lit : ℕ)
    (words words' : List ℕ) : Type 0 where
  pub low : x < n
  pub long : length words ≤ length words'
  pub words_stay : (i : ℕ) → IsElse i x → slice_index words' i ≡ slice_index words i
  pub show : SlotShows (with_slot t x b outs lit) c words' x b
  pub sound : SlotSound (with_slot t x b outs lit) x b
  pub outs_grow : IsPrefix t.outs outs
  pub outs_made : (s : ℕ) → Has s outs → s ≤ t.tail
  pub outs_back : (y s : ℕ) → y < n → y ≢ x → IsSegment (t.slots y) s → Has s outs → Has s t.outs
  pub lit_up : t.lit ≤ lit
  pub lit_most : lit ≤ t.tail + 1
  pub lit_is : b ≡ live t.tail → lit ≡ t.tail + 1
  pub young : (y s i : ℕ) → y < n → y ≢ x → t.slots y ≡ fresh s i → lit ≡ t.lit
  pub tail_in : (s : ℕ) → IsHome t.homes s x → s ≡ t.tail → IsSegment b s

pub turn : (n : ℕ) (t : Segments) (c : ℕ → ℕ) (x : ℕ) (b : Slot) (outs : List ℕ) (lit : ℕ) (words words' : List ℕ)
    → Shows n t c words → AreSound n t → SlotTurn n t c x b outs lit words words'
    → Becomes n x t (with_slot t x b outs lit) c words'
turn n t c x b outs lit words words' show sound k = record {
  shows = slot-shows n t x b outs lit c words words' k.long k.words_stay sound k.outs_grow k.show show;
  sound = slot-sound n t x b outs lit k.low k.sound k.tail_in
      (let near = sound.lit_near in let a = k.lit_up in (omega arith, k.lit_most)) k.lit_up k.lit_is
      (λ s has. has_prefix s t.outs outs k.outs_grow has) k.outs_made k.outs_back k.young sound;
  later = record {
    homes = prefix-same t.homes;
    kept = prefix-same t.kept;
    outs = k.outs_grow;
    full = prefix-same t.full;
    links = prefix-same t.links;
    lit = k.lit_up;
  };
  others = λ y apart. changed_else t.slots x b y apart;
}

-- a word is written: the table is as long as before
pub set-long : (words : List ℕ) (i z : ℕ) → length words ≤ length (slice_set words i z)
set-long words i z = let e = length-set words i z in omega arith

-- the parts of a slot
abbrev pub after_of : Slot → ℕ
after_of (free i) = 0
after_of (spare i a d) = a
after_of (fresh s i) = 0
after_of (live s) = 0

abbrev pub done_of : Slot → ℕ
done_of (free i) = 0
done_of (spare i a d) = d
done_of (fresh s i) = 0
done_of (live s) = 0

-- what a head says of its slot
pub is-free : (b : Slot) (i : ℕ) → head_word i 0 ≡ slot_head b → b ≡ free i
is-free (free j) i e = ap free (let q : j ≡ i = omega arith in q)
is-free (spare j a d) i e = absurd (omega arith)
is-free (fresh u j) i e = absurd (omega arith)
is-free (live u) i e = absurd (omega arith)

pub is-live : (b : Slot) (i : ℕ) → head_word i 2 ≡ slot_head b → b ≡ live i
is-live (free j) i e = absurd (omega arith)
is-live (spare j a d) i e = absurd (omega arith)
is-live (fresh u j) i e = absurd (omega arith)
is-live (live u) i e = ap live (let q : u ≡ i = omega arith in q)

-- a slot that is no segment's home comes to be another such slot
pub sound-idle : (n : ℕ) (t : Segments) (x : ℕ) (a b : Slot) → ((s : ℕ) → IsSegment a s → ⊥)
    → ((s : ℕ) → IsSegment b s → ⊥)
    → last_id b ≡ last_id a → ((s : ℕ) → IsLast a s → IsLast b s) → ((s i : ℕ) → b ≡ fresh s i → ⊥)
    → SlotSound t x a → SlotSound (with_slot t x b t.outs t.lit) x b
sound-idle n t x a b idle idle' ids lasts old-one sound = record {
  home = λ s seg. absurd (idle' s seg);
  young = λ s i e. absurd (old-one s i e);
  last = λ s home. lasts s (sound.last s home);
  low = let l = sound.low in omega arith;
  named = subst (λ z. IsHome t.homes z x ⊎ (z ≡ 0)) (sym ids) sound.named;
  out = λ s home. ⊎_elim (λ seg. absurd (idle s seg)) inr (sound.out s home);
  gone = λ s seg h. absurd (idle' s seg);
}

-- the cells of a slot tell as much as before of its segments, where their words are as before
pub since-stays : (t u : Segments) (c : ℕ → ℕ) (words words' : List ℕ) (x : ℕ)
    → ((s : ℕ) → IsHome u.homes s x → IsHome t.homes s x)
    → ((j : ℕ) → j < 32 → slice_index words' (slot_cell x j) ≡ slice_index words (slot_cell x j))
    → ((s j : ℕ) → IsHome t.homes s x → j < 32 → IsSince c (32 * s + j) (slice_index words (slot_cell x j)))
    → (s j : ℕ) → IsHome u.homes s x → j < 32 → IsSince c (32 * s + j) (slice_index words' (slot_cell x j))
since-stays t u c words words' x back same old s j home few =
    since-same c c (32 * s + j) (slice_index words (slot_cell x j)) (slice_index words' (slot_cell x j)) (same j few)
    refl (old s j (back s home) few)

pub head-inside : (n : ℕ) (t : Segments) (c : ℕ → ℕ) (words : List ℕ) (x z : ℕ) → Shows n t c words → x < n
    → slice_index (slice_set words (head_place x) z) (head_place x) ≡ z
head-inside n t c words x z show below = let wide = show.wide in this-word words (head_place x) z (omega arith)

-- the head of a slot that is no segment's home is written
pub show-idle : (n : ℕ) (t : Segments) (c : ℕ → ℕ) (words : List ℕ) (x z : ℕ) (b : Slot) → Shows n t c words → x < n
    → z ≡ slot_head b → ((s : ℕ) → IsSegment b s → ⊥) → done_of b ≡ 0 → last_id (t.slots x) ≤ last_id b
    → SlotShows (with_slot t x b t.outs t.lit) c (slice_set words (head_place x) z) x b
show-idle n t c words x z b show below is idle none-done up = record {
  head = head-inside n t c words x z show below ∙ is;
  count = λ s seg. absurd (idle s seg);
  cells = λ s j seg few. absurd (idle s seg);
  since = since-stays t (with_slot t x b t.outs t.lit) c words (slice_set words (head_place x) z) x (λ s h. h)
      (λ j few. cells-stay words x z j) (show.each x below).since;
  resets = λ i a d j e more few. let q : done_of b ≡ d = ap done_of e in absurd (omega arith);
  reset_count = λ i a d e all. let q : done_of b ≡ d = ap done_of e in absurd (omega arith);
  link = link-stays t.homes t.homes t.outs t.outs (last_id (t.slots x)) (last_id b) _ _ (prefix-same t.homes)
      (prefix-same t.outs) up (other-word words (head_place x) (link_place x) z (λ e. omega arith))
      (show.each x below).link;
  raised = λ word h. let e = other-word words (head_place x) (link_place x) z (λ e. omega arith) in
      let low = (show.each x below).raised word h in omega arith;
}

-- a slot that is no segment's home isn't the tail's
pub no-tail : (n : ℕ) (t : Segments) (x : ℕ) (b : Slot) → AreSound n t → t.slots x ≡ b → ((s : ℕ) → IsSegment b s → ⊥)
    → (s : ℕ) → IsHome t.homes s x → s ≡ t.tail → ⊥
no-tail n t x b sound was idle s home e = idle t.tail
    (subst (λ z. IsSegment z t.tail) was (sound.tail_in x (subst (λ z. IsHome t.homes z x) e home)))
