-- The steps of a reset: the load of the tail by which it begins, and the stores.
use Rattle.std.proofs.Common.{◌≡◌, ◌≢◌, ℕ, ◌+◌, ◌*◌, ◌<◌, ◌≤◌, List, length, sym, refl, ap, ◌∙◌, subst, arith}
use Rattle.std.specs.Prelude.{slice_index, slice_set}
use mathlib.Core.Logic.{dite}
use native.Mathlib.Decide.{ℕ_discrete}
use Rattle.cqs_words.specs.Cell.{index_in}
use Rattle.cqs_slots.specs.Layout.{head_place, link_place, count_place, slot_cell, empty_word, IsElse}
use Rattle.cqs_slots.specs.Slots.{Segments, Slot, spare, IsHome, slot_head, IsLast, last_id}
use Rattle.cqs_slots.specs.Shown.{IsSince, SlotSound, Shows, AreSound, Becomes}
use Rattle.cqs_slots.specs.Steps.{with_slot}
use Rattle.cqs_slots.proofs.Lists.{prefix-same, other-word, this-word}
use Rattle.cqs_slots.proofs.Links.{link-stays}
use Rattle.cqs_slots.proofs.Places.{stay-in}
use Rattle.cqs_slots.proofs.Turns.{turn, set-long, after_of, done_of, sound-idle, since-stays, no-tail}

-- an empty cell has its number
pub empty-index : (k : ℕ) → index_in (empty_word k) ≡ k
empty-index k = omega arith

-- what the words of a spare slot are to be, once f of them are reset for the segment after e
record Reset (t : Segments) (c : ℕ → ℕ) (words words' : List ℕ) (x e f : ℕ) : Type 0 where
  long : length words ≤ length words'
  stay : (i : ℕ) → IsElse i x → slice_index words' i ≡ slice_index words i
  head : slice_index words' (head_place x) ≡ slice_index words (head_place x)
  link : slice_index words' (link_place x) ≡ slice_index words (link_place x)
  since : (s j : ℕ) → IsHome t.homes s x → j < 32 → IsSince c (32 * s + j) (slice_index words' (slot_cell x j))
  cells : (j : ℕ) → j + 1 < f → j < 32 → slice_index words' (slot_cell x j) ≡ empty_word (32 * (e + 1) + j)
  count : 33 < f → slice_index words' (count_place x) ≡ 0

module _ (n : ℕ) (t : Segments) (c : ℕ → ℕ) (words : List ℕ) (show : Shows n t c words) (sound : AreSound n t)
    (x : ℕ) (below : x < n) where
  spare-turn : (words' : List ℕ) (id a d e f : ℕ) → t.slots x ≡ spare id a d → Reset t c words words' x e f
      → Becomes n x t (with_slot t x (spare id e f) t.outs t.lit) c words'
  spare-turn words' id a d e f was reset =
      let b : Slot = spare id e f in
      turn n t c x b t.outs t.lit words words' show sound (record {
        low = below;
        long = reset.long;
        words_stay = reset.stay;
        show = record {
          head = reset.head ∙ ((show.each x below).head ∙ ap slot_head was);
          count = λ s seg. absurd seg;
          cells = λ s j seg few. absurd seg;
          since = reset.since;
          resets = λ i' a' d' j is more few.
              let q : f ≡ d' = ap done_of is in
              let p : e ≡ a' = ap after_of is in
              reset.cells j (omega arith) few ∙ ap (λ y. empty_word (32 * (y + 1) + j)) p;
          reset_count = λ i' a' d' is all. let q : f ≡ d' = ap done_of is in reset.count (omega arith);
          link = link-stays t.homes t.homes t.outs t.outs (last_id (t.slots x)) id _ _ (prefix-same t.homes)
              (prefix-same t.outs) (let q : last_id (t.slots x) ≡ id = ap last_id was in omega arith) reset.link
              (show.each x below).link;
          raised = λ word h. let e = reset.link in let less = (show.each x below).raised word h in omega arith;
        };
        sound = sound-idle n t x (spare id a d) b (λ s y. y) (λ s y. y) refl (λ s y. y) (λ s j y. absurd (cc))
            (subst (SlotSound t x) was (sound.each x below));
        outs_grow = prefix-same t.outs;
        outs_made = sound.outs_made;
        outs_back = λ y s low apart seg h. h;
        lit_up = omega arith;
        lit_most = sound.lit_near.1;
        lit_is = λ y. absurd (cc);
        young = λ y s j low apart g. refl;
        tail_in = λ s home g. absurd (no-tail n t x (spare id a d) sound was (λ u y. y) s home g);
      })

  -- a spare's head keeps the id of a segment that was made
  pub spare-low : (id a d : ℕ) → t.slots x ≡ spare id a d → id ≤ t.tail
  spare-low id a d was = subst (λ b. last_id b ≤ t.tail) was (sound.each x below).low

  -- the reset begins, for the segment after this one, and no word is written
  pub begun : (id a d e : ℕ) → t.slots x ≡ spare id a d
      → Becomes n x t (with_slot t x (spare id e 1) t.outs t.lit) c words
  begun id a d e was = spare-turn words id a d e 1 was (record {
    long = omega arith;
    stay = λ i z. refl;
    head = refl;
    link = refl;
    since = (show.each x below).since;
    cells = λ j more few. absurd (omega arith);
    count = λ more. absurd (omega arith);
  })

  -- a cell of the spare is reset
  pub cell-reset : (id a j : ℕ) → t.slots x ≡ spare id a (j + 1) → id ≤ a → j < 32
      → Becomes n x t (with_slot t x (spare id a (j + 2)) t.outs t.lit) c
      (slice_set words (slot_cell x j) (empty_word (32 * (a + 1) + j)))
  cell-reset id a j was low few =
      let new = empty_word (32 * (a + 1) + j) in
      let word = slot_cell x j in
      let wide = show.wide in
      let old = show.each x below in
      let words' = slice_set words word new in
      let here-is : slice_index words' word ≡ new = this-word words word new (omega arith) in
      let last : (s : ℕ) → IsHome t.homes s x → s ≤ id =
      λ s home. subst (λ b. IsLast b s) was ((sound.each x below).last s home) in
      spare-turn words' id a (j + 1) a (j + 2) was (record {
        long = set-long words word new;
        stay = stay-in words word x new (omega arith) (omega arith);
        head = other-word words word (head_place x) new (λ e. omega arith);
        link = other-word words word (link_place x) new (λ e. omega arith);
        since = λ s i home less. dite (ℕ_discrete i j)
            (λ (e : i ≡ j).
            let is : slice_index words' (slot_cell x i) ≡ new =
            ap (λ y. slice_index words' (slot_cell x y)) e ∙ here-is in
            let l = last s home in
            let number = empty-index (32 * (a + 1) + j) in
            subst (IsSince c (32 * s + i)) (sym is)
            (record { later = omega arith; same = λ q. absurd (omega arith) }))
            (λ (e : i ≢ j). subst (IsSince c (32 * s + i))
            (sym (other-word words word (slot_cell x i) new (λ q. e (omega arith)))) (old.since s i home less));
        cells = λ i more less. dite (ℕ_discrete i j)
            (λ (e : i ≡ j). ap (λ y. slice_index words' (slot_cell x y)) e
            ∙ (here-is ∙ ap (λ y. empty_word (32 * (a + 1) + y)) (sym e)))
            (λ (e : i ≢ j). other-word words word (slot_cell x i) new (λ q. e (omega arith))
            ∙ old.resets id a (j + 1) i was (omega arith) less);
        count = λ more. absurd (omega arith);
      })

  -- the number of its settled cells is
  pub count-reset : (id a : ℕ) → t.slots x ≡ spare id a 33
      → Becomes n x t (with_slot t x (spare id a 34) t.outs t.lit) c (slice_set words (count_place x) 0)
  count-reset id a was =
      let word = count_place x in
      let wide = show.wide in
      let old = show.each x below in
      let words' = slice_set words word 0 in
      spare-turn words' id a 33 a 34 was (record {
        long = set-long words word 0;
        stay = stay-in words word x 0 (omega arith) (omega arith);
        head = other-word words word (head_place x) 0 (λ e. omega arith);
        link = other-word words word (link_place x) 0 (λ e. omega arith);
        since = since-stays t t c words words' x (λ s h. h)
            (λ j few. other-word words word (slot_cell x j) 0 (λ q. omega arith)) old.since;
        cells = λ i more less. other-word words word (slot_cell x i) 0 (λ q. omega arith)
            ∙ old.resets id a 33 i was (omega arith) less;
        count = λ more. this-word words word 0 (omega arith);
      })
