-- What a step that changes one slot leaves of the others, and one off the slots of all.
use Rattle.std.proofs.Common.{◌≡◌, ◌≢◌, ℕ, ◌+◌, ◌*◌, ◌<◌, ◌≤◌, List, length, sym, refl, ◌∙◌, subst, ⊎_elim, inl, inr, arith}
use Rattle.std.specs.Prelude.{slice_index}
use mathlib.Core.Logic.{dite}
use native.Mathlib.Decide.{ℕ_discrete}
use Rattle.cqs_core.specs.Parts.{Has, IsPrefix}
use Rattle.cqs_slots.specs.Layout.{tail_place, head_place, link_place, count_place, slot_cell, IsElse}
use Rattle.cqs_slots.specs.Slots.{Segments, Slot, fresh, live, IsHome, IsSegment, IsRaised, last_id}
use Rattle.cqs_slots.specs.Shown.{IsSince, SlotShows, SlotSound, Shows, AreSound}
use Rattle.cqs_slots.specs.Steps.{with_slot}
use Rattle.cqs_slots.proofs.Lists.{prefix-same, changed_at, changed_else}
use Rattle.cqs_slots.proofs.Links.{link-stays}
use Rattle.cqs_slots.proofs.Places.{WordsStay, else-of}

-- what was seen of a cell's word holds as long as the cell says the same
pub since-same : (c d : ℕ → ℕ) (k n m : ℕ) → m ≡ n → d k ≡ c k → IsSince c k n → IsSince d k m
since-same c d k n m is says old = subst (λ z. IsSince d k z) (sym is)
    (record { later = old.later; same = λ e. old.same e ∙ sym says })

pub slot-stays : (t u : Segments) (c d : ℕ → ℕ) (words words' : List ℕ) (y : ℕ) (slot : Slot)
    → WordsStay words words' y
    → ((s : ℕ) → IsSegment slot s → u.counted s ≡ t.counted s)
    → ((s j : ℕ) → IsHome t.homes s y → j < 32 → d (32 * s + j) ≡ c (32 * s + j))
    → ((s : ℕ) → IsSegment slot s → IsHome t.homes s y)
    → ((s : ℕ) → IsHome u.homes s y → IsHome t.homes s y)
    → IsPrefix t.homes u.homes → IsPrefix t.outs u.outs
    → ((word : ℕ) → IsRaised y word u.links → IsRaised y word t.links)
    → SlotShows t c words y slot → SlotShows u d words' y slot
slot-stays t u c d words words' y slot stay counts says seg back more gone raise show = record {
  head = stay (head_place y) (omega arith) (omega arith) ∙ show.head;
  count = λ s is. stay (count_place y) (omega arith) (omega arith) ∙ (show.count s is ∙ sym (counts s is));
  cells = λ s j is few. stay (slot_cell y j) (omega arith) (omega arith)
      ∙ (show.cells s j is few ∙ sym (says s j (seg s is) few));
  since = λ s j home few. since-same c d (32 * s + j) (slice_index words (slot_cell y j))
      (slice_index words' (slot_cell y j)) (stay (slot_cell y j) (omega arith) (omega arith))
      (says s j (back s home) few) (show.since s j (back s home) few);
  resets = λ i a e j is more few. stay (slot_cell y j) (omega arith) (omega arith) ∙ show.resets i a e j is more few;
  reset_count = λ i a e is all. stay (count_place y) (omega arith) (omega arith) ∙ show.reset_count i a e is all;
  link = link-stays t.homes u.homes t.outs u.outs (last_id slot) (last_id slot) (slice_index words (link_place y))
      (slice_index words' (link_place y)) more gone (omega arith) (stay (link_place y) (omega arith) (omega arith))
      show.link;
  raised = λ word h. let e = stay (link_place y) (omega arith) (omega arith) in
      let low = show.raised word (raise word h) in omega arith;
}

-- the words of all slots and of the tail stay, and each cell says what it said
pub all-stay : (n : ℕ) (t : Segments) (c d : ℕ → ℕ) (words words' : List ℕ) → AreSound n t
    → length words ≤ length words'
    → ((i : ℕ) → tail_place ≤ i → slice_index words' i ≡ slice_index words i)
    → ((k : ℕ) → d k ≡ c k)
    → Shows n t c words → Shows n t d words'
all-stay n t c d words words' sound long stay says show = record {
  wide = let w = show.wide in omega arith;
  tail = λ x home. stay tail_place (omega arith) ∙ show.tail x home;
  each = λ x low. slot-stays t t c d words words' x (t.slots x) (λ i from below. stay i (omega arith)) (λ s is. refl)
      (λ s j home few. says (32 * s + j)) (λ s is. (sound.each x low).home s is) (λ s home. home) (prefix-same t.homes)
      (prefix-same t.outs) (λ word h. h) (show.each x low);
}

module _ (n : ℕ) (t : Segments) (x : ℕ) (b : Slot) (outs : List ℕ) (lit : ℕ) where
  abbrev u : Segments
  u = with_slot t x b outs lit

  pub slot-shows : (c : ℕ → ℕ) (words words' : List ℕ)
      → length words ≤ length words'
      → ((i : ℕ) → IsElse i x → slice_index words' i ≡ slice_index words i)
      → AreSound n t → IsPrefix t.outs outs → SlotShows u c words' x b → Shows n t c words → Shows n u c words'
  slot-shows c words words' long stay sound gone mine show = record {
    wide = let w = show.wide in omega arith;
    tail = λ y home. stay tail_place (inl (omega arith)) ∙ show.tail y home;
    each = λ y low. dite (ℕ_discrete y x)
        (λ (e : y ≡ x). subst (λ (z : ℕ × Slot). SlotShows u c words' z.0 z.1)
        (λ i. (sym e i, sym (changed_at t.slots x b y e) i)) mine)
        (λ (a : y ≢ x). subst (SlotShows u c words' y) (sym (changed_else t.slots x b y a))
        (slot-stays t u c c words words' y (t.slots y)
        (λ i from below. stay i (else-of i x y a from below)) (λ s is. refl) (λ s j home few. refl)
        (λ s is. (sound.each y low).home s is) (λ s home. home) (prefix-same t.homes) gone
        (λ word h. h) (show.each y low)));
  }

  pub slot-sound : x < n → SlotSound u x b
      → ((s : ℕ) → IsHome t.homes s x → s ≡ t.tail → IsSegment b s)
      → (t.tail ≤ lit) × (lit ≤ t.tail + 1) → t.lit ≤ lit → (b ≡ live t.tail → lit ≡ t.tail + 1)
      → ((s : ℕ) → Has s t.outs → Has s outs)
      → ((s : ℕ) → Has s outs → s ≤ t.tail)
      → ((y s : ℕ) → y < n → y ≢ x → IsSegment (t.slots y) s → Has s outs → Has s t.outs)
      → ((y s i : ℕ) → y < n → y ≢ x → t.slots y ≡ fresh s i → lit ≡ t.lit)
      → AreSound n t → AreSound n u
  slot-sound low mine tail near up lit_is outs-more outs-made outs-back young sound = record {
    made = sound.made;
    kept_made = sound.kept_made;
    inside = sound.inside;
    tail_in = λ y home. dite (ℕ_discrete y x)
        (λ (e : y ≡ x). subst (λ z. IsSegment z t.tail) (sym (changed_at t.slots x b y e))
        (tail t.tail (subst (IsHome t.homes t.tail) e home) refl))
        (λ (a : y ≢ x). subst (λ z. IsSegment z t.tail) (sym (changed_else t.slots x b y a)) (sound.tail_in y home));
    lit_near = near;
    lit_is = λ y is below. dite (ℕ_discrete y x)
        (λ (e : y ≡ x). lit_is (sym (changed_at t.slots x b y e) ∙ is))
        (λ (a : y ≢ x).
        let l = sound.lit_is y (sym (changed_else t.slots x b y a) ∙ is) below in omega arith);
    each = λ y below. dite (ℕ_discrete y x)
        (λ (e : y ≡ x). subst (λ (z : ℕ × Slot). SlotSound u z.0 z.1)
        (λ i. (sym e i, sym (changed_at t.slots x b y e) i)) mine)
        (λ (a : y ≢ x). subst (SlotSound u y) (sym (changed_else t.slots x b y a))
        (let old = sound.each y below in record {
          home = old.home;
          young = λ s i is. let f = old.young s i is in (f.0, young y s i below a is ∙ f.1, f.2, f.3);
          last = old.last;
          low = old.low;
          named = old.named;
          out = λ s home. ⊎_elim inl (λ o. inr (outs-more s o.0, o.1)) (old.out s home);
          gone = λ s is has. old.gone s is (outs-back y s below a is has);
        }));
    outs_made = outs-made;
    uncounted = sound.uncounted;
    full = sound.full;
    full_is = sound.full_is;
    few = sound.few;
    short = sound.short;
  }
