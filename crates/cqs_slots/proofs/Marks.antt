-- The head of a segment is made live, and a segment whose cells are all counted leaves.
use Rattle.std.proofs.Common.{◌≡◌, ◌⊎◌, ℕ, ◌+◌, ◌<◌, ◌≤◌, List, [], ◌∷◌, ◌++◌, sym, refl, ap, ◌∙◌, subst, ⊎_elim, inl, inr, arith}
use Rattle.std.specs.Prelude.{slice_index, slice_set}
use Rattle.cqs_core.specs.Parts.{Has}
use Rattle.cqs_words.specs.Head.{head_word}
use Rattle.cqs_slots.specs.Layout.{head_place, link_place, count_place}
use Rattle.cqs_slots.specs.Slots.{Segments, Slot, free, spare, fresh, live, IsHome, IsSegment, slot_head, IsLast}
use Rattle.cqs_slots.specs.Shown.{SlotShows, SlotSound, Shows, AreSound, Becomes}
use Rattle.cqs_slots.specs.Steps.{with_slot}
use Rattle.cqs_slots.proofs.Lists.{prefix-same, prefix-more, has_left, has_right, has_append, other-word, one-home}
use Rattle.cqs_slots.proofs.Links.{link-stays}
use Rattle.cqs_slots.proofs.Places.{stay-in, cells-stay}
use Rattle.cqs_slots.proofs.Turns.{turn, set-long, is-live, since-stays, head-inside}

module _ (n : ℕ) (t : Segments) (c : ℕ → ℕ) (words : List ℕ) (show : Shows n t c words) (sound : AreSound n t)
    (x : ℕ) (s : ℕ) (home : IsHome t.homes s x) where
  below : x < n
  below = sound.inside s x home

  -- a claimed head with an earlier id is that of its segment, which is the tail
  pub is-young : (i : ℕ) → i < s → slice_index words (head_place x) ≡ head_word i 1 → t.slots x ≡ fresh s i
  is-young i lower found = by-slot (t.slots x) refl
    where
      head : (b : Slot) → t.slots x ≡ b → head_word i 1 ≡ slot_head b
      head b e = sym found ∙ ((show.each x below).head ∙ ap slot_head e)

      last : (b : Slot) → t.slots x ≡ b → IsLast b s
      last b e = subst (λ z. IsLast z s) e ((sound.each x below).last s home)

      by-slot : (b : Slot) → t.slots x ≡ b → t.slots x ≡ fresh s i
      by-slot (free j) e = let h = head (free j) e in absurd (omega arith)
      by-slot (spare j a d) e =
          let h = head (spare j a d) e in let l : s ≤ j = last (spare j a d) e in absurd (omega arith)
      by-slot (live u) e = let h = head (live u) e in absurd (omega arith)
      by-slot (fresh u j) e =
          let h = head (fresh u j) e in
          let l : (s ≡ u) ⊎ (s ≤ j) = last (fresh u j) e in
          let q : j ≡ i = omega arith in
          let same : u ≡ s = ⊎_elim (λ z. sym z) (λ (z : s ≤ j). absurd (omega arith)) l in
          e ∙ (λ m. fresh (same m) (q m))

  -- it is made live
  pub lit : (i : ℕ) → t.slots x ≡ fresh s i
      → Becomes n x t (with_slot t x (live s) t.outs (s + 1)) c (slice_set words (head_place x) (head_word s 2))
  lit i was =
      let z = head_word s 2 in
      let words' = slice_set words (head_place x) z in
      let b : Slot = live s in
      let old : SlotShows t c words x (fresh s i) = subst (SlotShows t c words x) was (show.each x below) in
      let is : SlotSound t x (fresh s i) = subst (SlotSound t x) was (sound.each x below) in
      let y = is.young s i refl in
      let tail : s ≡ t.tail = y.0 in
      let were : t.lit ≡ t.tail = y.1 in
      turn n t c x b t.outs (s + 1) words words' show sound (record {
        low = below;
        long = set-long words (head_place x) z;
        words_stay = stay-in words (head_place x) x z (omega arith) (omega arith);
        show = record {
          head = head-inside n t c words x z show below;
          count = λ m seg. other-word words (head_place x) (count_place x) z (λ q. omega arith) ∙ old.count m seg;
          cells = λ m q seg few. cells-stay words x z q ∙ old.cells m q seg few;
          since = since-stays t (with_slot t x b t.outs (s + 1)) c words words' x (λ m h. h)
              (λ q few. cells-stay words x z q) old.since;
          resets = λ i' a' d' q f more few. absurd (cc);
          reset_count = λ i' a' d' f all. absurd (cc);
          link = link-stays t.homes t.homes t.outs t.outs s s _ _ (prefix-same t.homes) (prefix-same t.outs)
              (omega arith) (other-word words (head_place x) (link_place x) z (λ q. omega arith)) old.link;
          raised = λ word h. let e = other-word words (head_place x) (link_place x) z (λ q. omega arith) in
              let less = old.raised word h in omega arith;
        };
        sound = record {
          home = λ m seg. is.home m seg;
          young = λ m q f. absurd (cc);
          last = λ m g. ⊎_elim (λ (q : m ≡ s). let p : m ≤ s = omega arith in p)
              (λ (q : m ≤ i). let lo = y.2 in let p : m ≤ s = omega arith in p) (is.last m g);
          low = let p : s ≤ t.tail = omega arith in p;
          named = inl home;
          out = λ m g. is.out m g;
          gone = λ m seg g. is.gone m seg g;
        };
        outs_grow = prefix-same t.outs;
        outs_made = sound.outs_made;
        outs_back = λ y' m low apart seg g. g;
        lit_up = omega arith;
        lit_most = omega arith;
        lit_is = λ q. omega arith;
        young = λ y' m q low apart f.
            let p = sound.each y' low in
            let tail' : m ≡ s = (p.young m q f).0 ∙ sym tail in
            let there : IsHome t.homes s y' = subst (λ z. IsHome t.homes z y') tail'
            (p.home m (subst (λ z. IsSegment z m) (sym f) refl)) in
            absurd (apart (one-home t.homes s y' x there home));
        tail_in = λ m g f. tail ∙ sym f;
      })

  -- a segment whose cells are all counted leaves
  pub retired : s < t.tail → Has s t.full → slice_index words (head_place x) ≡ head_word s 2
      → Becomes n x t (with_slot t x (free s) (t.outs ++ s ∷ []) t.lit) c
      (slice_set words (head_place x) (head_word s 0))
  retired early all found =
      let was : t.slots x ≡ live s = is-live (t.slots x) s (sym found ∙ (show.each x below).head) in
      let old : SlotShows t c words x (live s) = subst (SlotShows t c words x) was (show.each x below) in
      let is : SlotSound t x (live s) = subst (SlotSound t x) was (sound.each x below) in
      let counted : t.counted s ≡ 32 = sound.full_is s all in
      let z = head_word s 0 in
      let b : Slot = free s in
      let outs = t.outs ++ s ∷ [] in
      let words' = slice_set words (head_place x) z in
      turn n t c x b outs t.lit words words' show sound (record {
        low = below;
        long = set-long words (head_place x) z;
        words_stay = stay-in words (head_place x) x z (omega arith) (omega arith);
        show = record {
          head = head-inside n t c words x z show below;
          count = λ m seg. absurd seg;
          cells = λ m q seg few. absurd seg;
          since = since-stays t (with_slot t x b outs t.lit) c words words' x (λ m h. h)
              (λ q few. cells-stay words x z q) old.since;
          resets = λ i' a' d' q f more few. absurd (cc);
          reset_count = λ i' a' d' f all. absurd (cc);
          link = link-stays t.homes t.homes t.outs outs s s _ _ (prefix-same t.homes) (prefix-more t.outs (s ∷ []))
              (omega arith) (other-word words (head_place x) (link_place x) z (λ q. omega arith)) old.link;
          raised = λ word h. let e = other-word words (head_place x) (link_place x) z (λ q. omega arith) in
              let less = old.raised word h in omega arith;
        };
        sound = record {
          home = λ m seg. absurd seg;
          young = λ m q f. absurd (cc);
          last = λ m g. is.last m g;
          low = is.low;
          named = inl home;
          out = λ m g. ⊎_elim
              (λ (e : s ≡ m). inr (has_right m t.outs (s ∷ []) (inl (sym e)), ap t.counted (sym e) ∙ counted))
              (λ o. inr (has_left m t.outs (s ∷ []) o.0, o.1)) (is.out m g);
          gone = λ m seg g. absurd seg;
        };
        outs_grow = prefix-more t.outs (s ∷ []);
        outs_made = λ m g. ⊎_elim (λ h. sound.outs_made m h)
            (λ (e : Has m (s ∷ [])). ⊎_elim (λ (q : m ≡ s). let p : m ≤ t.tail = omega arith in p) (λ q. absurd q) e)
            (has_append m t.outs (s ∷ []) g);
        outs_back = λ y m low apart seg g. ⊎_elim (λ h. h)
            (λ (e : Has m (s ∷ [])). ⊎_elim
            (λ (q : m ≡ s). absurd (apart (one-home t.homes s y x
            (subst (λ u. IsHome t.homes u y) q ((sound.each y low).home m seg)) home)))
            (λ q. absurd q) e)
            (has_append m t.outs (s ∷ []) g);
        lit_up = omega arith;
        lit_most = sound.lit_near.1;
        lit_is = λ q. absurd (cc);
        young = λ y m q low apart f. refl;
        tail_in = λ m g f. let seg : IsSegment (live s) t.tail = subst (λ u. IsSegment u t.tail) was
            (sound.tail_in x (subst (λ u. IsHome t.homes u x) f g)) in absurd (omega arith);
      })
