-- The slots as a table opens.
use Rattle.std.proofs.Common.{◌≡◌, ℕ, zero, suc, ◌+◌, ◌-◌, ◌^◌, ◌*◌, ◌<◌, ◌≤◌, false, List, length, refl, ap, sym, ◌∙◌, subst, inl, inr, ⊎_elim, arith, Some, lt-ltb, le-ltb, if◌then◌else◌}
use Rattle.std.specs.Prelude.{slice_index}
use Rattle.std.proofs.lemmas.List.{length-replicate}
use Rattle.std.proofs.lemmas.Bool.{cases_lt}
use Rattle.cqs_words.specs.Cell.{index_in}
use Rattle.cqs_words.specs.Segment.{segment_word}
use Rattle.cqs_slots.specs.Layout.{slot_cell}
use Rattle.cqs_slots.specs.Slots.{Segments, free, live, IsHome, IsSegment}
use Rattle.cqs_slots.specs.Shown.{IsSince, SlotShows, SlotSound, Shows, AreSound, AreCounted}
use Rattle.cqs_slots.specs.Laws.{FirstSegmentsAreSound}
use Rattle.cqs_slots.specs.Opened.{numbers_from, first_slot, first_segments, OpensWith}
use Rattle.cqs_slots.proofs.Counted.{none-in}
use Rattle.cqs_slots.proofs.Links.{link-none}

pub numbers-length : (k m : ℕ) → length (numbers_from k m) ≡ m
numbers-length k zero = refl
numbers-length k (suc m) = let e = numbers-length (k + 1) m in omega arith

numbers-at : (k m s x : ℕ) → IsHome (numbers_from k m) s x → (s < m) × (x ≡ k + s)
numbers-at k zero s x h = absurd (cc)
numbers-at k (suc m) zero x h = (omega arith, let e : k ≡ x = cc in omega arith)
numbers-at k (suc m) (suc s) x h = let r = numbers-at (k + 1) m s x h in (omega (arith, r.0), omega (arith, r.1))

numbers-there : (k m s : ℕ) → s < m → IsHome (numbers_from k m) s (k + s)
numbers-there k zero s h = absurd (omega arith)
numbers-there k (suc m) zero h = ap Some (let q : k ≡ k + 0 = omega arith in q)
numbers-there k (suc m) (suc s) h =
    numbers-there (k + 1) m s (omega arith) ∙ ap Some (let q : k + 1 + s ≡ k + suc s = omega arith in q)

-- each segment that opens is in the slot of its number
pub home-is : (m s x : ℕ) → IsHome (numbers_from 0 m) s x → (s < m) × (x ≡ s)
home-is m s x h = let r = numbers-at 0 m s x h in (r.0, omega (arith, r.1))

pub home-there : (m s : ℕ) → s < m → IsHome (numbers_from 0 m) s s
home-there m s low =
    subst (IsHome (numbers_from 0 m) s) (let q : 0 + s ≡ s = omega arith in q) (numbers-there 0 m s low)

slot-low : (m x : ℕ) → x < m → first_slot m x ≡ live x
slot-low m x low = ap (λ b. if b then live x else free 0) (lt-ltb x m low)

slot-high : (m x : ℕ) → m ≤ x → first_slot m x ≡ free 0
slot-high m x high = ap (λ b. if b then live x else free 0) (le-ltb x m high)

module _ (n m : ℕ) (c : ℕ → ℕ) (some : 0 < m) (few : m ≤ n) (most : n ≤ 65536) where
  abbrev t : Segments
  t = first_segments m

  show-live : (words : List ℕ) → OpensWith n m c words → ((k : ℕ) → index_in (c k) ≡ k) → (x : ℕ) → x < m
      → SlotShows (first_segments m) c words x (live x)
  show-live words o numbered x low = record {
    head = o.live_head x low;
    count = λ s seg. o.count x low;
    cells = λ s j (seg : x ≡ s) less.
        subst (λ z. slice_index words (slot_cell x j) ≡ c (32 * z + j)) seg (o.cells x j low less);
    since = λ s j home less.
        let h : x ≡ s = (home-is m s x home).1 in
        let number = numbered (32 * x + j) in
        subst (λ z. IsSince c (32 * z + j) (slice_index words (slot_cell x j))) h
        (subst (IsSince c (32 * x + j)) (sym (o.cells x j low less))
        (record { later = omega arith; same = λ e. refl }));
    resets = λ i a d j e more less. absurd (cc);
    reset_count = λ i a d e all. absurd (cc);
    link = link-none _ _ _ _ (o.link x (omega arith));
    raised = λ word h. absurd h;
  }

  show-free : (words : List ℕ) → OpensWith n m c words → (x : ℕ) → m ≤ x → x < n
      → SlotShows (first_segments m) c words x (free 0)
  show-free words o x high low = record {
    head = o.free_head x high low;
    count = λ s seg. absurd seg;
    cells = λ s j seg less. absurd seg;
    since = λ s j home less. let h = home-is m s x home in let a = h.0 in let b = h.1 in absurd (omega arith);
    resets = λ i a d j e more less. absurd (cc);
    reset_count = λ i a d e all. absurd (cc);
    link = link-none _ _ _ _ (o.link x (omega arith));
    raised = λ word h. absurd h;
  }

  pub opens-shows : (words : List ℕ) → OpensWith n m c words → ((k : ℕ) → index_in (c k) ≡ k)
      → Shows n (first_segments m) c words
  opens-shows words o numbered = record {
    wide = o.wide;
    tail = λ x home. let h = home-is m (m - 1) x home in o.tail ∙ ap (segment_word (m - 1)) (sym h.1);
    each = λ x low. ⊎_elim
        (λ (made : x < m). subst (SlotShows t c words x) (sym (slot-low m x made)) (show-live words o numbered x made))
        (λ (rest : m ≤ x). subst (SlotShows t c words x) (sym (slot-high m x rest)) (show-free words o x rest low))
        (cases_lt x m);
  }

  sound-live : (x : ℕ) → x < m → SlotSound (first_segments m) x (live x)
  sound-live x low = record {
    home = λ s (seg : x ≡ s). subst (λ z. IsHome (numbers_from 0 m) z x) seg (home-there m x low);
    young = λ s i e. absurd (cc);
    last = λ s h. let e = (home-is m s x h).1 in let q : s ≤ x = omega arith in q;
    low = let q : x ≤ m - 1 = omega arith in q;
    named = inl (home-there m x low);
    out = λ s h. inl (home-is m s x h).1;
    gone = λ s seg h. h;
  }

  sound-free : (x : ℕ) → m ≤ x → SlotSound (first_segments m) x (free 0)
  sound-free x high = record {
    home = λ s seg. absurd seg;
    young = λ s i e. absurd (cc);
    last = λ s h. let r = home-is m s x h in let a = r.0 in let b = r.1 in absurd (omega arith);
    low = let q : 0 ≤ m - 1 = omega arith in q;
    named = inr refl;
    out = λ s h. let r = home-is m s x h in let a = r.0 in let b = r.1 in absurd (omega arith);
    gone = λ s seg h. h;
  }

  pub opens-sound : AreSound n (first_segments m)
  opens-sound = record {
    made = numbers-length 0 m ∙ (let q : m ≡ m - 1 + 1 = omega arith in q);
    kept_made = length-replicate m 0 ∙ (let q : m ≡ m - 1 + 1 = omega arith in q);
    inside = λ s x h. let r = home-is m s x h in let a = r.0 in let b = r.1 in omega arith;
    tail_in = λ x h.
        let e = (home-is m (m - 1) x h).1 in
        subst (λ z. IsSegment (first_slot m z) (m - 1)) (sym e)
        (subst (λ z. IsSegment z (m - 1)) (sym (slot-low m (m - 1) (omega arith))) refl);
    lit_near = (omega arith, omega arith);
    lit_is = λ x e low. let q : m ≡ m - 1 + 1 = omega arith in q;
    each = λ x low. ⊎_elim
        (λ (made : x < m). subst (SlotSound t x) (sym (slot-low m x made)) (sound-live x made))
        (λ (rest : m ≤ x). subst (SlotSound t x) (sym (slot-high m x rest)) (sound-free x rest))
        (cases_lt x m);
    outs_made = λ s h. absurd h;
    uncounted = λ s high. refl;
    full = λ s e. absurd (omega arith);
    full_is = λ s h. absurd h;
    few = most;
    short = let q : m - 1 < 2 ^ 36 = omega arith in q;
  }

pub opens-counted : (m : ℕ) → AreCounted (first_segments m) (λ k. false) (λ s. 0)
opens-counted m = record { counts = none-in }

pub opens : FirstSegmentsAreSound
opens n m some few most = (opens-sound n m (λ k. k) some few most, opens-counted m)
