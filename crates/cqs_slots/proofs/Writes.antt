-- A cell is written, or settled.
use Rattle.std.proofs.Common.{◌≡◌, ◌≢◌, ℕ, ◌+◌, ◌*◌, ◌<◌, Bool, true, false, List, sym, refl, ap, ◌∙◌, subst, arith}
use Rattle.std.specs.Prelude.{slice_index, slice_set}
use mathlib.Core.Logic.{dite}
use native.Mathlib.Decide.{ℕ_discrete}
use Rattle.cqs_core.proofs.Places.{get-below}
use Rattle.cqs_words.specs.Cell.{index_in}
use Rattle.cqs_slots.specs.Layout.{tail_place, head_place, link_place, count_place, slot_cell}
use Rattle.cqs_slots.specs.Slots.{Segments, IsHome, IsSegment, last_id, changed, settled_in}
use Rattle.cqs_slots.specs.Shown.{IsSince, SlotShows, Shows, AreSound, AreCells, AreCounted}
use Rattle.cqs_slots.proofs.Lists.{prefix-same, other-word, this-word, one-home}
use Rattle.cqs_slots.proofs.Counted.{settled-here, settled-else}
use Rattle.cqs_slots.proofs.Counts.{one-segment, not-spare}
use Rattle.cqs_slots.proofs.Links.{link-stays}
use Rattle.cqs_slots.proofs.Stays.{slot-stays, since-same}
use Rattle.cqs_slots.proofs.Turns.{set-long}

module _ (n : ℕ) (t : Segments) (c d : ℕ → ℕ) (words : List ℕ) (show : Shows n t c words) (sound : AreSound n t)
    (s x j z : ℕ) (home : IsHome t.homes s x) (few : j < 32) (seg : IsSegment (t.slots x) s)
    (is : z ≡ d (32 * s + j)) (number : index_in z ≡ 32 * s + j)
    (before : index_in (c (32 * s + j)) ≡ 32 * s + j)
    (others : (k : ℕ) → k ≢ 32 * s + j → d k ≡ c k) where
  below : x < n
  below = sound.inside s x home

  abbrev word : ℕ
  word = slot_cell x j

  abbrev words' : List ℕ
  words' = slice_set words (slot_cell x j) z

  here-is : slice_index words' (slot_cell x j) ≡ z
  here-is = let wide = show.wide in let low = below in this-word words (slot_cell x j) z (omega arith)

  mine : SlotShows t d words' x (t.slots x)
  mine = let old = show.each x below in record {
    head = other-word words word (head_place x) z (λ e. omega arith) ∙ old.head;
    count = λ q f. other-word words word (count_place x) z (λ e. omega arith) ∙ old.count q f;
    cells = λ q i f less. dite (ℕ_discrete i j)
        (λ (e : i ≡ j).
        let m : q ≡ s = one-segment (t.slots x) q s f seg in
        ap (λ y. slice_index words' (slot_cell x y)) e
        ∙ (here-is ∙ (is ∙ ap d (let p : 32 * s + j ≡ 32 * q + i = omega arith in p))))
        (λ (a : i ≢ j). other-word words word (slot_cell x i) z (λ e. a (omega arith))
        ∙ (old.cells q i f less ∙ sym (others (32 * q + i) (λ e. a (omega arith)))));
    since = λ q i h less. dite (ℕ_discrete i j)
        (λ (e : i ≡ j).
        let found : slice_index words' (slot_cell x i) ≡ z = ap (λ y. slice_index words' (slot_cell x y)) e ∙ here-is in
        let was : slice_index words (slot_cell x i) ≡ c (32 * s + j) =
        ap (λ y. slice_index words (slot_cell x y)) e ∙ old.cells s j seg few in
        let later = (old.since q i h less).later in
        let at : index_in (slice_index words (slot_cell x i)) ≡ index_in (c (32 * s + j)) = ap index_in was in
        subst (IsSince d (32 * q + i)) (sym found)
        (record { later = omega arith; same = λ m. is ∙ ap d (sym number ∙ m) }))
        (λ (a : i ≢ j). since-same c d (32 * q + i) (slice_index words (slot_cell x i))
        (slice_index words' (slot_cell x i)) (other-word words word (slot_cell x i) z (λ e. a (omega arith)))
        (others (32 * q + i) (λ e. a (omega arith))) (old.since q i h less));
    resets = λ i a e k f more less. absurd (not-spare (t.slots x) s i a e seg f);
    reset_count = λ i a e f all. absurd (not-spare (t.slots x) s i a e seg f);
    link = link-stays t.homes t.homes t.outs t.outs (last_id (t.slots x)) (last_id (t.slots x)) _ _
        (prefix-same t.homes) (prefix-same t.outs) (omega arith)
        (other-word words word (link_place x) z (λ e. omega arith)) old.link;
    raised = λ m h. let e = other-word words word (link_place x) z (λ e. omega arith) in
        let less = old.raised m h in omega arith;
  }

  -- the cell of this number is written
  pub written : Shows n t d (slice_set words (slot_cell x j) z)
  written = record {
    wide = let w = show.wide in let l = set-long words word z in omega arith;
    tail = λ y h. other-word words word tail_place z (λ e. omega arith) ∙ show.tail y h;
    each = λ y low. dite (ℕ_discrete y x)
        (λ (e : y ≡ x). subst (λ q. SlotShows t d words' q (t.slots q)) (sym e) mine)
        (λ (a : y ≢ x). slot-stays t t c d words words' y (t.slots y)
        (λ i from upto. other-word words word i z (λ e. a (omega arith)))
        (λ q f. refl)
        (λ q i h less. others (32 * q + i) (λ e. a (one-home t.homes s y x
        (subst (λ m. IsHome t.homes m y) (let p : q ≡ s = omega arith in p) h) home)))
        (λ q f. (sound.each y low).home q f)
        (λ q h. h) (prefix-same t.homes) (prefix-same t.outs) (λ m h. h) (show.each y low));
  }

-- where the number is one of a segment that is made
pub cells-written : (t : Segments) (n : ℕ) (c d : ℕ → ℕ) (s x j : ℕ) → AreSound n t → IsHome t.homes s x → j < 32
    → index_in (d (32 * s + j)) ≡ 32 * s + j
    → ((k : ℕ) → k ≢ 32 * s + j → d k ≡ c k) → AreCells c t.tail → AreCells d t.tail
cells-written t n c d s x j sound home few number others cells = record {
  numbered = λ k. dite (ℕ_discrete k (32 * s + j))
      (λ (e : k ≡ 32 * s + j). subst (λ z. index_in (d z) ≡ z) (sym e) number)
      (λ (a : k ≢ 32 * s + j). ap index_in (others k a) ∙ cells.numbered k);
  unmade = λ k high. others k (λ e.
      let made = sound.made in let low = get-below t.homes s x home in omega arith) ∙ cells.unmade k high;
}

-- a cell is settled, and a duty for its segment is there
pub settled-counts : (t : Segments) (before after : ℕ → Bool) (duties duties' : ℕ → ℕ) (s j : ℕ)
    → AreCounted t before duties → j < 32
    → before (32 * s + j) ≡ false → ((k : ℕ) → after k ≡ changed before (32 * s + j) true k)
    → duties' s ≡ duties s + 1 → ((q : ℕ) → q ≢ s → duties' q ≡ duties q) → AreCounted t after duties'
settled-counts t before after duties duties' s j counted few yet says done others = record {
  counts = λ q.
      let is : settled_in after q ≡ settled_in (changed before (32 * s + j) true) q =
      ap (λ (f : ℕ → Bool). settled_in f q) (λ i k. says k i) in
      dite (ℕ_discrete q s)
      (λ (e : q ≡ s).
      let more : settled_in (changed before (32 * s + j) true) q ≡ settled_in before s + 1 =
      ap (settled_in (changed before (32 * s + j) true)) e ∙ settled-here before s j few yet in
      let a = counted.counts s in
      let now : t.counted q ≡ t.counted s = ap t.counted e in
      let m : duties' q ≡ duties' s = ap duties' e in
      omega arith)
      (λ (a : q ≢ s).
      let same = settled-else before s j q few a in
      let b = counted.counts q in
      let m = others q a in
      omega arith);
}
