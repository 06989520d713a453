-- The exchange of the tail, by which a spare becomes the home of the segment after the last.
use Rattle.std.proofs.Common.{◌≡◌, ◌≢◌, ◌⊎◌, ℕ, ◌+◌, ◌^◌, ◌*◌, ◌<◌, ◌≤◌, List, [], ◌∷◌, ◌++◌, length, sym, refl, ap, ◌∙◌, subst, ⊎_elim, inl, inr, arith, length-append}
use Rattle.std.specs.Prelude.{slice_index, slice_set}
use Rattle.std.proofs.lemmas.Bool.{cases_lt}
use mathlib.Core.Logic.{dite}
use native.Mathlib.Decide.{ℕ_discrete}
use Rattle.cqs_core.proofs.Places.{get-below, get-there, get-append_left, get-append_below, get-push_at}
use Rattle.cqs_words.specs.Segment.{segment_word}
use Rattle.cqs_slots.specs.Layout.{tail_place, head_place, link_place, count_place, slot_cell}
use Rattle.cqs_slots.specs.Slots.{Segments, Slot, free, spare, fresh, live, IsHome, IsSegment, slot_head, last_id}
use Rattle.cqs_slots.specs.Shown.{IsSince, SlotShows, SlotSound, Shows, AreSound, AreCells, Becomes}
use Rattle.cqs_slots.specs.Steps.{with_tail}
use Rattle.cqs_slots.proofs.Lists.{prefix-same, prefix-more, changed_at, changed_else, other-word, this-word, one-home}
use Rattle.cqs_slots.proofs.Links.{link-stays}
use Rattle.cqs_slots.proofs.Stays.{slot-stays}
use Rattle.cqs_slots.proofs.Turns.{set-long}

-- a home in a list with one more is the new one, or an old one
pub home-back : (homes : List ℕ) (y t x s : ℕ) → length homes ≡ t → IsHome (homes ++ y ∷ []) s x
    → (IsHome homes s x) ⊎ ((s ≡ t) × (x ≡ y))
home-back homes y t x s long home =
    let below = get-below (homes ++ y ∷ []) s x home in
    let l = length-append homes (y ∷ []) in
    ⊎_elim
    (λ (low : s < length homes). inl (sym (get-append_below homes (y ∷ []) s low) ∙ home))
    (λ (high : length homes ≤ s).
    let e : s ≡ length homes = omega arith in
    inr (e ∙ long, one-home (homes ++ y ∷ []) s x y home (get-push_at homes y s e)))
    (cases_lt s (length homes))

abbrev kept-of : Slot → ℕ
kept-of (free i) = i
kept-of (spare i e f) = i
kept-of (fresh q i) = i
kept-of (live q) = 0

-- the tail's word names the last segment and its home
pub tail-at : (n : ℕ) (t : Segments) (c : ℕ → ℕ) (words : List ℕ) → Shows n t c words → AreSound n t
    → (x : ℕ) × IsHome t.homes t.tail x × (slice_index words tail_place ≡ segment_word t.tail x) × (x < n)
tail-at n t c words show sound =
    let made = sound.made in
    let home = get-there t.homes t.tail (omega arith) in
    (home.0, home.1, show.tail home.0 home.1, sound.inside t.tail home.0 home.1)

module _ (n : ℕ) (t : Segments) (c : ℕ → ℕ) (words : List ℕ) (show : Shows n t c words) (sound : AreSound n t)
    (cells : AreCells c t.tail) (y id : ℕ) (low : y < n) (begun : id ≤ t.tail) (was : t.slots y ≡ spare id t.tail 34)
    (up : t.lit ≡ t.tail + 1) (short : t.tail + 1 < 2 ^ 36) where
  abbrev a : ℕ
  a = t.tail

  abbrev u : Segments
  u = with_tail t y id

  abbrev b : Slot
  b = fresh (t.tail + 1) id

  abbrev z : ℕ
  z = segment_word (t.tail + 1) y

  abbrev words' : List ℕ
  words' = slice_set words tail_place (segment_word (t.tail + 1) y)

  long : length t.homes ≡ t.tail + 1
  long = sound.made

  old : SlotShows t c words y (t.slots y)
  old = show.each y low

  back : (q x : ℕ) → IsHome (t.homes ++ y ∷ []) q x → IsHome t.homes q x ⊎ ((q ≡ t.tail + 1) × (x ≡ y))
  back q x h = home-back t.homes y (t.tail + 1) x q long h

  stay : (i : ℕ) → 128 ≤ i → slice_index words' i ≡ slice_index words i
  stay i from = other-word words tail_place i z (λ e. omega arith)

  -- its cells are empty, as the core has them
  empty : (j : ℕ) → j < 32 → slice_index words' (slot_cell y j) ≡ c (32 * (t.tail + 1) + j)
  empty j few = stay (slot_cell y j) (omega arith)
      ∙ (old.resets id t.tail 34 j was (omega arith) few ∙ sym (cells.unmade (32 * (t.tail + 1) + j) (omega arith)))

  show-mine : SlotShows u c words' y b
  show-mine = record {
    head = stay (head_place y) (omega arith) ∙ (old.head ∙ ap slot_head was);
    count = λ q (f : t.tail + 1 ≡ q). stay (count_place y) (omega arith)
        ∙ (old.reset_count id t.tail 34 was (omega arith) ∙ sym (sound.uncounted q (omega arith)));
    cells = λ q j (f : t.tail + 1 ≡ q) few.
        subst (λ m. slice_index words' (slot_cell y j) ≡ c (32 * m + j)) f (empty j few);
    since = λ q j h few. ⊎_elim
        (λ (was-home : IsHome t.homes q y). subst (IsSince c (32 * q + j))
        (sym (stay (slot_cell y j) (omega arith))) (old.since q j was-home few))
        (λ (new : (q ≡ t.tail + 1) × (y ≡ y)).
        let is : slice_index words' (slot_cell y j) ≡ c (32 * q + j) =
        subst (λ m. slice_index words' (slot_cell y j) ≡ c (32 * m + j)) (sym new.0) (empty j few) in
        let number = cells.numbered (32 * q + j) in
        subst (IsSince c (32 * q + j)) (sym is) (record { later = omega arith; same = λ e. refl }))
        (back q y h);
    resets = λ i e f j is more few. absurd (cc);
    reset_count = λ i e f is all. absurd (cc);
    link = link-stays t.homes u.homes t.outs t.outs (last_id (t.slots y)) (t.tail + 1) _ _
        (prefix-more t.homes (y ∷ []))
        (prefix-same t.outs) (let q : last_id (t.slots y) ≡ id = ap last_id was in omega arith)
        (stay (link_place y) (omega arith)) old.link;
    raised = λ word h. let e = stay (link_place y) (omega arith) in let less = old.raised word h in omega arith;
  }

  was-sound : SlotSound t y (spare id t.tail 34)
  was-sound = subst (SlotSound t y) was (sound.each y low)

  same-segment : (q i : ℕ) → fresh (t.tail + 1) id ≡ fresh q i → (t.tail + 1 ≡ q) × (id ≡ i)
  same-segment q i e = (ap last_id e, ap kept-of e)

  sound-mine : SlotSound u y b
  sound-mine = record {
    home = λ q (f : t.tail + 1 ≡ q). get-push_at t.homes y q (let l = long in omega arith);
    young = λ q i e.
        let s = same-segment q i e in (
          sym s.0,
          up,
          let g = s.0 in let h = s.1 in omega arith,
          subst (λ (p : ℕ × ℕ). IsHome u.kept p.0 p.1) (λ m. (s.0 m, s.1 m))
              (get-push_at t.kept id (t.tail + 1) (let l = sound.kept_made in omega arith)),
        );
    last = λ q h. ⊎_elim
        (λ (was-home : IsHome t.homes q y). inr (was-sound.last q was-home))
        (λ (new : (q ≡ t.tail + 1) × (y ≡ y)). inl new.0)
        (back q y h);
    low = omega arith;
    named = inl (get-push_at t.homes y (t.tail + 1) (let l = long in omega arith));
    out = λ q h. ⊎_elim
        (λ (was-home : IsHome t.homes q y). ⊎_elim (λ f. absurd f) inr (was-sound.out q was-home))
        (λ (new : (q ≡ t.tail + 1) × (y ≡ y)). inl (sym new.0))
        (back q y h);
    gone = λ q (f : t.tail + 1 ≡ q) h. let l = sound.outs_made q h in absurd (omega arith);
  }

  shows-then : Shows n u c words'
  shows-then = record {
    wide = let w = show.wide in let l = set-long words tail_place z in omega arith;
    tail = λ x h. ⊎_elim
        (λ (was-home : IsHome t.homes (t.tail + 1) x).
        let lo = get-below t.homes (t.tail + 1) x was-home in let l = long in absurd (omega arith))
        (λ (new : (t.tail + 1 ≡ t.tail + 1) × (x ≡ y)).
        this-word words tail_place z (let wide = show.wide in omega arith) ∙ ap (segment_word (t.tail + 1)) (sym new.1))
        (back (t.tail + 1) x h);
    each = λ x below. dite (ℕ_discrete x y)
        (λ (e : x ≡ y). subst (λ (p : ℕ × Slot). SlotShows u c words' p.0 p.1)
        (λ i. (sym e i, sym (changed_at t.slots y b x e) i)) show-mine)
        (λ (g : x ≢ y). subst (SlotShows u c words' x) (sym (changed_else t.slots y b x g))
        (slot-stays t u c c words words' x (t.slots x)
        (λ i from upto. stay i (omega arith)) (λ q f. refl) (λ q j h few. refl)
        (λ q f. (sound.each x below).home q f)
        (λ q h. ⊎_elim (λ was-home. was-home) (λ (new : (q ≡ t.tail + 1) × (x ≡ y)). absurd (g new.1)) (back q x h))
        (prefix-more t.homes (y ∷ [])) (prefix-same t.outs) (λ word h. h) (show.each x below)));
  }

  sound-then : AreSound n u
  sound-then = record {
    made = length-append t.homes (y ∷ []) ∙ (let l = long in omega arith);
    kept_made = length-append t.kept (id ∷ []) ∙ (let l = sound.kept_made in omega arith);
    inside = λ q x h. ⊎_elim (λ was-home. sound.inside q x was-home)
        (λ (new : (q ≡ t.tail + 1) × (x ≡ y)). let e = new.1 in omega arith) (back q x h);
    tail_in = λ x h. ⊎_elim
        (λ (was-home : IsHome t.homes (t.tail + 1) x).
        let lo = get-below t.homes (t.tail + 1) x was-home in let l = long in absurd (omega arith))
        (λ (new : (t.tail + 1 ≡ t.tail + 1) × (x ≡ y)).
        subst (λ q. IsSegment q (t.tail + 1)) (sym (changed_at t.slots y b x new.1)) refl)
        (back (t.tail + 1) x h);
    lit_near = (let l = up in omega arith, let l = up in omega arith);
    lit_is = λ x e below. dite (ℕ_discrete x y)
        (λ (q : x ≡ y). let both : b ≡ live (t.tail + 1) = sym (changed_at t.slots y b x q) ∙ e in absurd (cc))
        (λ (q : x ≢ y).
        let there : t.slots x ≡ live (t.tail + 1) = sym (changed_else t.slots y b x q) ∙ e in
        let h = (sound.each x below).home (t.tail + 1) (subst (λ m. IsSegment m (t.tail + 1)) (sym there) refl) in
        let lo = get-below t.homes (t.tail + 1) x h in let l = long in absurd (omega arith));
    each = λ x below. dite (ℕ_discrete x y)
        (λ (e : x ≡ y). subst (λ (p : ℕ × Slot). SlotSound u p.0 p.1)
        (λ i. (sym e i, sym (changed_at t.slots y b x e) i)) sound-mine)
        (λ (g : x ≢ y). subst (SlotSound u x) (sym (changed_else t.slots y b x g))
        (let before = sound.each x below in
        let mine : (q : ℕ) → IsHome u.homes q x → IsHome t.homes q x = λ q h.
        ⊎_elim (λ was-home. was-home) (λ (new : (q ≡ t.tail + 1) × (x ≡ y)). absurd (g new.1)) (back q x h) in
        record {
          home = λ q f. get-append_left t.homes (y ∷ []) q x (before.home q f);
          young = λ q i f. let s = before.young q i f in let e = s.1 in let l = up in absurd (omega arith);
          last = λ q h. before.last q (mine q h);
          low = let l = before.low in omega arith;
          named = ⊎_elim (λ h. inl (get-append_left t.homes (y ∷ []) _ x h)) inr before.named;
          out = λ q h. before.out q (mine q h);
          gone = before.gone;
        }));
    outs_made = λ q h. let l = sound.outs_made q h in omega arith;
    uncounted = λ q high. sound.uncounted q (omega arith);
    full = sound.full;
    full_is = sound.full_is;
    few = sound.few;
    short = short;
  }

  pub extended : Becomes n y t (with_tail t y id) c (slice_set words tail_place (segment_word (t.tail + 1) y))
  extended = record {
    shows = shows-then;
    sound = sound-then;
    later = record {
      homes = prefix-more t.homes (y ∷ []);
      kept = prefix-more t.kept (id ∷ []);
      outs = prefix-same t.outs;
      full = prefix-same t.full;
      links = prefix-same t.links;
      lit = omega arith;
    };
    others = λ x apart. changed_else t.slots y b x apart;
  }
