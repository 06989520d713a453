-- A settled cell is counted.
use Rattle.std.proofs.Common.{◌≡◌, ◌≢◌, ◌⊎◌, ℕ, ◌+◌, ◌<◌, ◌≤◌, Bool, List, [], ◌∷◌, sym, refl, ap, ◌∙◌, subst, ⊎_elim, inl, inr, arith, eqb, eq-eqb, ne_eqb, if◌then◌else◌}
use Rattle.std.specs.Prelude.{slice_index, slice_set}
use mathlib.Core.Logic.{dite}
use native.Mathlib.Decide.{ℕ_discrete}
use Rattle.cqs_core.specs.Parts.{Has}
use Rattle.cqs_core.proofs.Places.{get-below}
use Rattle.cqs_slots.specs.Layout.{tail_place, head_place, link_place, count_place, slot_cell}
use Rattle.cqs_slots.specs.Slots.{Segments, Slot, free, spare, fresh, live, IsHome, IsSegment, last_id, settled_in, IsLater}
use Rattle.cqs_slots.specs.Shown.{SlotShows, Shows, AreSound, AreCounted}
use Rattle.cqs_slots.specs.Steps.{fuller, with_counted}
use Rattle.cqs_slots.proofs.Lists.{prefix-same, prefix-more, has_left, has_right, has_append, changed_at, changed_else, other-word, this-word, one-home}
use Rattle.cqs_slots.proofs.Counted.{few-settled}
use Rattle.cqs_slots.proofs.Links.{link-stays}
use Rattle.cqs_slots.proofs.Stays.{slot-stays}
use Rattle.cqs_slots.proofs.Turns.{set-long, since-stays}

pub fuller-has : (full : List ℕ) (m s : ℕ) → m ≡ 31 → Has s (fuller full m s)
fuller-has full m s e =
    has_right s full _ (subst (λ b. Has s (if b then s ∷ [] else [])) (sym (eq-eqb m 31 e)) (inl refl))

fuller-back : (full : List ℕ) (m s u : ℕ) → Has u (fuller full m s) → Has u full ⊎ ((m ≡ 31) × (u ≡ s))
fuller-back full m s u h = ⊎_elim inl
    (λ (new : Has u (if eqb m 31 then s ∷ [] else [])). dite (ℕ_discrete m 31)
    (λ (e : m ≡ 31). ⊎_elim (λ (q : u ≡ s). inr (e, q)) (λ q. absurd q)
    (subst (λ b. Has u (if b then s ∷ [] else [])) (eq-eqb m 31 e) new))
    (λ (a : m ≢ 31). absurd (subst (λ b. Has u (if b then s ∷ [] else [])) (ne_eqb m 31 a) new)))
    (has_append u full _ h)

pub one-segment : (b : Slot) (p q : ℕ) → IsSegment b p → IsSegment b q → p ≡ q
one-segment (free i) p q f g = absurd f
one-segment (spare i a e) p q f g = absurd f
one-segment (fresh u i) p q f g = sym f ∙ g
one-segment (live u) p q f g = sym f ∙ g

pub not-spare : (b : Slot) (s i a e : ℕ) → IsSegment b s → b ≡ spare i a e → ⊥
not-spare (free j') s i a e f g = f
not-spare (spare j' b' e') s i a e f g = f
not-spare (fresh u j') s i a e f g = absurd (cc)
not-spare (live u) s i a e f g = absurd (cc)

-- a cell that is to be counted isn't yet, so its segment stands
pub few-counted : (t : Segments) (settled : ℕ → Bool) (duties : ℕ → ℕ) (s : ℕ) → AreCounted t settled duties
    → 0 < duties s → t.counted s ≤ 31
few-counted t settled duties s counted some = let a = counted.counts s in let b = few-settled settled s in omega arith

-- no more are counted than there are
pub most-counted : (t : Segments) (settled : ℕ → Bool) (duties : ℕ → ℕ) (s : ℕ) → AreCounted t settled duties
    → t.counted s ≤ 32
most-counted t settled duties s counted = let a = counted.counts s in let b = few-settled settled s in omega arith

pub counted-stands : (n : ℕ) (t : Segments) (s x : ℕ) → AreSound n t → IsHome t.homes s x → t.counted s ≤ 31
    → IsSegment (t.slots x) s
counted-stands n t s x sound home few =
    ⊎_elim (λ g. g) (λ o. let q = o.1 in absurd (omega arith)) ((sound.each x (sound.inside s x home)).out s home)

module _ (n : ℕ) (t : Segments) (c : ℕ → ℕ) (words : List ℕ) (show : Shows n t c words) (sound : AreSound n t)
    (s x : ℕ) (home : IsHome t.homes s x) (few : t.counted s ≤ 31) where
  below : x < n
  below = sound.inside s x home

  seg : IsSegment (t.slots x) s
  seg = counted-stands n t s x sound home few

  -- the word is how many are counted
  pub count-found : slice_index words (count_place x) ≡ t.counted s
  count-found = (show.each x below).count s seg

  abbrev u : Segments
  u = with_counted t s

  abbrev z : ℕ
  z = t.counted s + 1

  abbrev words' : List ℕ
  words' = slice_set words (count_place x) (t.counted s + 1)

  mine : SlotShows u c words' x (t.slots x)
  mine = let old = show.each x below in let wide = show.wide in let low = below in record {
    head = other-word words (count_place x) (head_place x) z (λ e. omega arith) ∙ old.head;
    count = λ q f. this-word words (count_place x) z (omega arith)
        ∙ sym (changed_at t.counted s z q (one-segment (t.slots x) q s f seg));
    cells = λ q j f less. other-word words (count_place x) (slot_cell x j) z (λ e. omega arith) ∙ old.cells q j f less;
    since = since-stays t u c words words' x (λ q h. h)
        (λ j less. other-word words (count_place x) (slot_cell x j) z (λ e. omega arith)) old.since;
    resets = λ i a e j f more less. absurd (not-spare (t.slots x) s i a e seg f);
    reset_count = λ i a e f all. absurd (not-spare (t.slots x) s i a e seg f);
    link = link-stays t.homes t.homes t.outs t.outs (last_id (t.slots x)) (last_id (t.slots x)) _ _
        (prefix-same t.homes) (prefix-same t.outs) (omega arith)
        (other-word words (count_place x) (link_place x) z (λ e. omega arith)) old.link;
    raised = λ m h. let e = other-word words (count_place x) (link_place x) z (λ e. omega arith) in
        let less = old.raised m h in omega arith;
  }

  pub counted-shows : Shows n (with_counted t s) c (slice_set words (count_place x) (t.counted s + 1))
  counted-shows = record {
    wide = let w = show.wide in let l = set-long words (count_place x) z in omega arith;
    tail = λ y h. other-word words (count_place x) tail_place z (λ e. omega arith) ∙ show.tail y h;
    each = λ y low. dite (ℕ_discrete y x)
        (λ (e : y ≡ x). subst (λ q. SlotShows u c words' q (t.slots q)) (sym e) mine)
        (λ (a : y ≢ x). slot-stays t u c c words words' y (t.slots y)
        (λ i from upto. other-word words (count_place x) i z (λ e. a (omega arith)))
        (λ q g. changed_else t.counted s z q (λ e. a (one-home t.homes s y x
        (subst (λ m. IsHome t.homes m y) e ((sound.each y low).home q g)) home)))
        (λ q i h less. refl)
        (λ q g. (sound.each y low).home q g)
        (λ q h. h) (prefix-same t.homes) (prefix-same t.outs) (λ m h. h) (show.each y low));
  }

  other-counted : (q : ℕ) → t.counted q ≡ 32 → q ≢ s
  other-counted q all e = let p : t.counted q ≡ t.counted s = ap t.counted e in let b = few in omega arith

  pub counted-sound : AreSound n (with_counted t s)
  counted-sound = record {
    made = sound.made;
    kept_made = sound.kept_made;
    inside = sound.inside;
    tail_in = sound.tail_in;
    lit_near = sound.lit_near;
    lit_is = sound.lit_is;
    each = λ y low. let old = sound.each y low in record {
      home = old.home;
      young = old.young;
      last = old.last;
      low = old.low;
      named = old.named;
      out = λ q h. ⊎_elim inl
          (λ (o : Has q t.outs × (t.counted q ≡ 32)).
          inr (o.0, changed_else t.counted s z q (other-counted q o.1) ∙ o.1))
          (old.out q h);
      gone = old.gone;
    };
    outs_made = sound.outs_made;
    uncounted = λ q high. changed_else t.counted s z q (λ e.
        let made = sound.made in let low = get-below t.homes s x home in omega arith) ∙ sound.uncounted q high;
    full = λ q all. dite (ℕ_discrete q s)
        (λ (e : q ≡ s).
        let now : u.counted q ≡ z = changed_at t.counted s z q e in
        subst (λ m. Has m (fuller t.full (t.counted s) s)) (sym e)
        (fuller-has t.full (t.counted s) s (omega arith)))
        (λ (a : q ≢ s). has_left q t.full _ (sound.full q (sym (changed_else t.counted s z q a) ∙ all)));
    full_is = λ q h. ⊎_elim
        (λ (old : Has q t.full).
        changed_else t.counted s z q (other-counted q (sound.full_is q old)) ∙ sound.full_is q old)
        (λ (new : (t.counted s ≡ 31) × (q ≡ s)).
        changed_at t.counted s z q new.1 ∙ (let g = new.0 in omega arith))
        (fuller-back t.full (t.counted s) s q h);
    few = sound.few;
    short = sound.short;
  }

  pub counted-later : IsLater t (with_counted t s)
  counted-later = record {
    homes = prefix-same t.homes;
    kept = prefix-same t.kept;
    outs = prefix-same t.outs;
    full = prefix-more t.full _;
    links = prefix-same t.links;
    lit = omega arith;
  }

-- where one duty for the segment is done
pub counted-counts : (t : Segments) (settled : ℕ → Bool) (duties duties' : ℕ → ℕ) (s : ℕ) → AreCounted t settled duties
    → duties' s + 1 ≡ duties s → ((q : ℕ) → q ≢ s → duties' q ≡ duties q)
    → AreCounted (with_counted t s) settled duties'
counted-counts t settled duties duties' s counted done others = record {
  counts = λ q. dite (ℕ_discrete q s)
      (λ (e : q ≡ s).
      let now : (with_counted t s).counted q ≡ t.counted s + 1 = changed_at t.counted s (t.counted s + 1) q e in
      let a = counted.counts s in
      let here : settled_in settled q ≡ settled_in settled s = ap (settled_in settled) e in
      let d : duties' q ≡ duties' s = ap duties' e in
      omega arith)
      (λ (a : q ≢ s).
      let now : (with_counted t s).counted q ≡ t.counted q = changed_else t.counted s (t.counted s + 1) q a in
      let b = counted.counts q in
      let d = others q a in
      omega arith);
}
