-- A link is raised, and what it tells.
use Rattle.std.proofs.Common.{◌≡◌, ◌≢◌, ℕ, ◌<◌, ◌≤◌, max, List, [], ◌∷◌, sym, refl, ◌∙◌, subst, ⊎_elim, inl, inr, arith}
use Rattle.std.specs.Prelude.{slice_index, slice_set}
use Rattle.std.proofs.lemmas.Bool.{cases_lt}
use mathlib.Core.Logic.{dite}
use native.Mathlib.Decide.{ℕ_discrete}
use Rattle.cqs_core.specs.Parts.{Has}
use Rattle.cqs_core.proofs.Places.{get-below}
use Rattle.cqs_words.specs.Segment.{segment_word}
use Rattle.cqs_slots.specs.declared.seen.Seen.{Seen}
use Rattle.cqs_slots.specs.Laws.{LinksRise, LinksTell}
use Rattle.cqs_slots.specs.Layout.{tail_place, head_place, link_place, count_place, slot_cell}
use Rattle.cqs_slots.specs.Slots.{Segments, Slot, free, spare, fresh, live, IsHome, IsSegment, IsLast, last_id, IsRaised}
use Rattle.cqs_slots.specs.Shown.{IsLink, SlotShows, Shows, AreSound, Becomes}
use Rattle.cqs_slots.specs.Steps.{with_link}
use Rattle.cqs_slots.specs.Told.{Knows, all_seen, LinkFound}
use Rattle.cqs_slots.proofs.Lists.{prefix-same, prefix-more, home-prefix, raised_append, raised_prefix, other-word, this-word}
use Rattle.cqs_slots.proofs.Stays.{slot-stays}
use Rattle.cqs_slots.proofs.Turns.{set-long, since-stays}

-- a segment that had its home there isn't above the last one
last-low : (b : Slot) (s : ℕ) → ((u i : ℕ) → b ≡ fresh u i → i < u) → IsLast b s → s ≤ last_id b
last-low (free i) s young last = last
last-low (spare i a d) s young last = last
last-low (fresh u i) s young last =
    let low = young u i refl in ⊎_elim (λ (e : s ≡ u). omega arith) (λ (l : s ≤ i). omega arith) last
last-low (live u) s young last = last

-- and the one that has it now is the last
segment-last : (b : Slot) (s : ℕ) → IsSegment b s → last_id b ≡ s
segment-last (free i) s seg = absurd seg
segment-last (spare i a d) s seg = absurd seg
segment-last (fresh u i) s seg = seg
segment-last (live u) s seg = seg

module _ (n : ℕ) (t : Segments) (c : ℕ → ℕ) (words : List ℕ) (show : Shows n t c words) (sound : AreSound n t) where
  -- it is raised, to a later segment before which all are out
  module _ (s x m y : ℕ) (home : IsHome t.homes s x) (to : IsHome t.homes m y)
      (passed : (q : ℕ) → s < q → q < m → Has q t.outs) where
    below : x < n
    below = sound.inside s x home

    abbrev u : Segments
    u = with_link t x (segment_word m y)

    abbrev old : ℕ
    old = slice_index words (link_place x)

    abbrev new : ℕ
    new = segment_word m y

    abbrev z : ℕ
    z = max (slice_index words (link_place x)) (segment_word m y)

    abbrev words' : List ℕ
    words' = slice_set words (link_place x) (max (slice_index words (link_place x)) (segment_word m y))

    here-is : slice_index words' (link_place x) ≡ z
    here-is = let wide = show.wide in let low = below in this-word words (link_place x) z (omega arith)

    else-is : (i : ℕ) → i ≢ link_place x → slice_index words' i ≡ slice_index words i
    else-is i apart = other-word words (link_place x) i z apart

    link-then : IsLink t.homes t.outs (last_id (t.slots x)) z
    link-then =
        let slot = sound.each x below in
        let last = last-low (t.slots x) s (λ u i e. (slot.young u i e).2) (slot.last s home) in
        let there = sound.inside m y to in
        let few = sound.few in
        let link = IsLink t.homes t.outs (last_id (t.slots x)) in
        ⊎_elim
        (λ (lower : old < new). subst link (let e : new ≡ z = omega arith in e) (record {
          id = m;
          slot = y;
          word = refl;
          fits = omega arith;
          named = inl to;
          passed = λ q above under. passed q (omega arith) under;
        }))
        (λ (upper : new ≤ old). subst link (let e : old ≡ z = omega arith in e) (show.each x below).link)
        (cases_lt old new)

    mine : SlotShows u c words' x (t.slots x)
    mine = let was = show.each x below in record {
      head = else-is (head_place x) (λ g. omega arith) ∙ was.head;
      count = λ q seg. else-is (count_place x) (λ g. omega arith) ∙ was.count q seg;
      cells = λ q j seg few. else-is (slot_cell x j) (λ g. omega arith) ∙ was.cells q j seg few;
      since = since-stays t t c words words' x (λ q h. h) (λ j few. else-is (slot_cell x j) (λ g. omega arith))
          was.since;
      resets = λ i a d j is more few. else-is (slot_cell x j) (λ g. omega arith) ∙ was.resets i a d j is more few;
      reset_count = λ i a d is all. else-is (count_place x) (λ g. omega arith) ∙ was.reset_count i a d is all;
      link = subst (IsLink t.homes t.outs (last_id (t.slots x))) (sym here-is) link-then;
      raised = λ word h. let is = here-is in ⊎_elim
          (λ (before : IsRaised x word t.links). let low = was.raised word before in omega arith)
          (λ now. ⊎_elim (λ (e : (x ≡ x) × (segment_word m y ≡ word)). let same = e.1 in omega arith)
          (λ none. absurd none) now)
          (raised_append x word t.links ((x, segment_word m y) ∷ []) h);
    }

    shows-then : Shows n u c words'
    shows-then = record {
      wide = let w = show.wide in let l = set-long words (link_place x) z in omega arith;
      tail = λ q at. else-is tail_place (λ e. omega arith) ∙ show.tail q at;
      each = λ q low. dite (ℕ_discrete q x)
          (λ (e : q ≡ x). subst (λ p. SlotShows u c words' p (t.slots p)) (sym e) mine)
          (λ (a : q ≢ x). slot-stays t u c c words words' q (t.slots q)
          (λ i from upto. else-is i (λ e. a (omega arith)))
          (λ p seg. refl) (λ p j at few. refl) (λ p seg. (sound.each q low).home p seg) (λ p at. at)
          (prefix-same t.homes) (prefix-same t.outs)
          (λ word h. ⊎_elim (λ before. before)
          (λ now. ⊎_elim (λ (e : (x ≡ q) × (segment_word m y ≡ word)). absurd (a (sym e.0))) (λ none. absurd none) now)
          (raised_append q word t.links ((x, segment_word m y) ∷ []) h))
          (show.each q low));
    }

    sound-then : AreSound n u
    sound-then = record {
      made = sound.made;
      kept_made = sound.kept_made;
      inside = sound.inside;
      tail_in = sound.tail_in;
      lit_near = sound.lit_near;
      lit_is = sound.lit_is;
      each = λ q low. let was = sound.each q low in record {
        home = was.home;
        young = was.young;
        last = was.last;
        low = was.low;
        named = was.named;
        out = was.out;
        gone = was.gone;
      };
      outs_made = sound.outs_made;
      uncounted = sound.uncounted;
      full = sound.full;
      full_is = sound.full_is;
      few = sound.few;
      short = sound.short;
    }

    pub raised : Becomes n x t (with_link t x (segment_word m y)) c
        (slice_set words (link_place x) (max (slice_index words (link_place x)) (segment_word m y)))
    raised = record {
      shows = shows-then;
      sound = sound-then;
      later = record {
        homes = prefix-same t.homes;
        kept = prefix-same t.kept;
        outs = prefix-same t.outs;
        full = prefix-same t.full;
        links = prefix-more t.links ((x, segment_word m y) ∷ []);
        lit = omega arith;
      };
      others = λ q apart. refl;
    }

  -- what a link tells
  pub link-found : (v : Seen) (x : ℕ) → x < n → Knows t v
      → LinkFound n x (slice_index words (link_place x)) v (all_seen t)
  link-found v x below k =
      let link = (show.each x below).link in
      let slot = sound.each x below in
      let made = sound.made in
      let short = sound.short in record {
        id = link.id;
        slot = link.slot;
        word = link.word;
        id_fits = ⊎_elim (λ h. let low = get-below t.homes link.id link.slot h in omega arith) (λ (e : link.id ≡ 0).
            omega arith) link.named;
        slot_fits = link.fits;
        named = λ some. ⊎_elim (λ h. (h, sound.inside link.id link.slot h)) (λ (e : link.id ≡ 0). absurd (omega arith))
            link.named;
        passed = λ s m home above under. ⊎_elim
            (λ seg. let e = segment-last (t.slots x) s seg in inr (link.passed m (omega arith) under))
            (λ o. inl o.0) (slot.out s (home-prefix v.homes t.homes s x k.homes home));
        raised = λ word h. (show.each x below).raised word (raised_prefix x word v.links t.links k.links h);
      }

pub links-rise : LinksRise
links-rise n t c words show sound s x m y home to passed = raised n t c words show sound s x m y home to passed

pub links-tell : LinksTell
links-tell n t c words show sound v x below k = link-found n t c words show sound v x below k
