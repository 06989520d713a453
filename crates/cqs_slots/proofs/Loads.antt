-- What the words of the tail and of slots tell a pass.
use Rattle.std.proofs.Common.{◌≡◌, ◌⊎◌, ℕ, ◌+◌, ◌<◌, ◌≤◌, List, ◌++◌, length, sym, refl, ap, ◌∙◌, subst, ⊎_elim, arith, length-append}
use Rattle.std.specs.Prelude.{slice_index}
use Rattle.std.proofs.lemmas.Bool.{cases_lt}
use Rattle.cqs_core.specs.Parts.{Has}
use Rattle.cqs_core.proofs.Places.{get-below}
use Rattle.cqs_words.specs.Head.{head_word}
use Rattle.cqs_slots.specs.declared.seen.Seen.{Seen}
use Rattle.cqs_slots.specs.Layout.{tail_place, head_place, count_place}
use Rattle.cqs_slots.specs.Slots.{Segments, Slot, free, spare, fresh, live, IsHome, IsSegment, slot_head, IsLast, last_id, IsLater}
use Rattle.cqs_slots.specs.Shown.{SlotSound, Shows, AreSound}
use Rattle.cqs_slots.specs.Told.{Knows, SeesMore, all_seen, TailFound, HeadFound, CountFound}
use Rattle.cqs_slots.proofs.Lists.{prefix-same, prefix-then, home-prefix}
use Rattle.cqs_slots.proofs.Extends.{tail-at}

pub knows-all : (t : Segments) → Knows t (all_seen t)
knows-all t = record {
  homes = prefix-same t.homes;
  kept = prefix-same t.kept;
  outs = prefix-same t.outs;
  full = prefix-same t.full;
  links = prefix-same t.links;
  lit = omega arith;
}

pub knows-later : (t u : Segments) (v : Seen) → IsLater t u → Knows t v → Knows u v
knows-later t u v later k = record {
  homes = prefix-then v.homes t.homes u.homes k.homes later.homes;
  kept = prefix-then v.kept t.kept u.kept k.kept later.kept;
  outs = prefix-then v.outs t.outs u.outs k.outs later.outs;
  full = prefix-then v.full t.full u.full k.full later.full;
  links = prefix-then v.links t.links u.links k.links later.links;
  lit = let a = k.lit in let b = later.lit in omega arith;
}

pub sees-all : (t : Segments) (v : Seen) → Knows t v → SeesMore v (all_seen t)
sees-all t v k = record {
  homes = k.homes;
  kept = k.kept;
  outs = k.outs;
  full = k.full;
  links = k.links;
  lit = k.lit;
}

pub sees-same : (v : Seen) → SeesMore v v
sees-same v = record {
  homes = prefix-same v.homes;
  kept = prefix-same v.kept;
  outs = prefix-same v.outs;
  full = prefix-same v.full;
  links = prefix-same v.links;
  lit = omega arith;
}

pub sees-then : (u v w : Seen) → SeesMore u v → SeesMore v w → SeesMore u w
sees-then u v w a b = record {
  homes = prefix-then u.homes v.homes w.homes a.homes b.homes;
  kept = prefix-then u.kept v.kept w.kept a.kept b.kept;
  outs = prefix-then u.outs v.outs w.outs a.outs b.outs;
  full = prefix-then u.full v.full w.full a.full b.full;
  links = prefix-then u.links v.links w.links a.links b.links;
  lit = let p = a.lit in let q = b.lit in omega arith;
}

pub later-same : (t : Segments) → IsLater t t
later-same t = record {
  homes = prefix-same t.homes;
  kept = prefix-same t.kept;
  outs = prefix-same t.outs;
  full = prefix-same t.full;
  links = prefix-same t.links;
  lit = omega arith;
}

module _ (n : ℕ) (t : Segments) (c : ℕ → ℕ) (words : List ℕ) (show : Shows n t c words) (sound : AreSound n t) where
  -- the tail tells of the last segment
  pub tail-found : (v : Seen) → v.homes ≡ t.homes → v.outs ≡ t.outs
      → (f : TailFound n (slice_index words tail_place) v) × (f.id ≡ t.tail)
  tail-found v same gone =
      let f = tail-at n t c words show sound in (
        record {
          id = t.tail;
          slot = f.0;
          word = f.2;
          home = subst (λ l. IsHome l t.tail f.0) (sym same) f.1;
          last = ap length same ∙ sound.made;
          stands = λ h. (sound.each f.0 f.3).gone t.tail (sound.tail_in f.0 f.1) (subst (Has t.tail) gone h);
          low = f.3;
          id_fits = sound.short;
          slot_fits = let l = f.3 in let few = sound.few in omega arith;
          inside = λ s x at. sound.inside s x (subst (λ l. IsHome l s x) same at);
        },
        refl,
      )

  -- a segment whose head isn't claimed any more was made live
  pub lit-known : (x s : ℕ) → x < n → IsHome t.homes s x → ((i : ℕ) → t.slots x ≡ fresh s i → ⊥) → s < t.lit
  lit-known x s below home nope = ⊎_elim
      (λ (low : s < t.tail). let l = sound.lit_near.0 in omega arith)
      (λ (high : t.tail ≤ s).
      let most = get-below t.homes s x home in let made = sound.made in
      let same : s ≡ t.tail = omega arith in
      by-seg same (t.slots x) refl (sound.tail_in x (subst (λ z. IsHome t.homes z x) same home)))
      (cases_lt s t.tail)
    where
      by-seg : s ≡ t.tail → (b : Slot) → t.slots x ≡ b → IsSegment b t.tail → s < t.lit
      by-seg same (free i) e seg = absurd seg
      by-seg same (spare i a d) e seg = absurd seg
      by-seg same (fresh u i) e seg = absurd (nope i (e ∙ ap (λ z. fresh z i) (seg ∙ sym same)))
      by-seg same (live u) e seg = let l = sound.lit_is x (e ∙ ap live seg) below in omega arith

  -- what a head tells
  pub head-found : (v : Seen) (x : ℕ) → x < n → Knows t v
      → HeadFound x (slice_index words (head_place x)) v (all_seen t)
  head-found v x below k = by-slot (t.slots x) refl
    where
      h : ℕ
      h = slice_index words (head_place x)

      slot : SlotSound t x (t.slots x)
      slot = sound.each x below

      is : (b : Slot) → t.slots x ≡ b → slice_index words (head_place x) ≡ slot_head b
      is b e = (show.each x below).head ∙ ap slot_head e

      at : (s : ℕ) → IsHome v.homes s x → IsHome t.homes s x
      at s home = home-prefix v.homes t.homes s x k.homes home

      -- a segment that the pass knows of is the slot's, or out
      known-out : (b : Slot) (s : ℕ) → t.slots x ≡ b → IsHome v.homes s x → (IsSegment b s → ⊥) → Has s t.outs
      known-out b s e home nope =
          ⊎_elim (λ seg. absurd (nope (subst (λ z. IsSegment z s) e seg))) (λ o. o.0) (slot.out s (at s home))

      longer : (s : ℕ) → s + 1 < length v.homes → s < t.tail
      longer s before = let made = sound.made in
          let e : length t.homes ≡ length (v.homes ++ k.homes.0) = ap length k.homes.1 in
          let q = length-append v.homes k.homes.0 in omega arith

      lit-here : (s : ℕ) → IsHome v.homes s x
          → ((i : ℕ) → slice_index words (head_place x) ≡ head_word i 1 → i < s → ⊥) → s < t.lit
      lit-here s home nope = lit-known x s below (at s home) (λ i e. nope i (is (fresh s i) e) (slot.young s i e).2)

      by-slot : (b : Slot) → t.slots x ≡ b → HeadFound x (slice_index words (head_place x)) v (all_seen t)
      by-slot (free i) e = record {
        live = λ s q. let f = is (free i) e in absurd (omega arith);
        gone = λ s home before q. known-out (free i) s e home (λ z. z);
        young = λ s j home q lo. let f = is (free i) e in absurd (omega arith);
        lit = lit-here;
        free = λ j q.
            let f = is (free i) e in
            let same : i ≡ j = omega arith in
            subst (λ z. IsHome t.homes z x ⊎ (z ≡ 0)) (ap last_id e ∙ same) slot.named;
        rising = λ s j home q.
            let f = is (free i) e in
            let last : s ≤ i = subst (λ z. IsLast z s) e (slot.last s (at s home)) in omega arith;
      }
      by-slot (spare i a d) e = record {
        live = λ s q. let f = is (spare i a d) e in absurd (omega arith);
        gone = λ s home before q. known-out (spare i a d) s e home (λ z. z);
        young = λ s j home q lo. let f = is (spare i a d) e in
            let last : s ≤ i = subst (λ z. IsLast z s) e (slot.last s (at s home)) in absurd (omega arith);
        lit = lit-here;
        free = λ j q. let f = is (spare i a d) e in absurd (omega arith);
        rising = λ s j home q. let f = is (spare i a d) e in absurd (omega arith);
      }
      by-slot (fresh u i) e = record {
        live = λ s q. let f = is (fresh u i) e in absurd (omega arith);
        gone = λ s home before q. known-out (fresh u i) s e home (λ (z : u ≡ s).
            let y = (slot.young u i e).0 in let b = longer s before in absurd (omega arith));
        young = λ s j home q lo.
            let f = is (fresh u i) e in
            let same : i ≡ j = omega arith in
            let last : (s ≡ u) ⊎ (s ≤ i) = subst (λ z. IsLast z s) e (slot.last s (at s home)) in
            ⊎_elim
            (λ (z : s ≡ u). subst (λ (p : ℕ × ℕ). IsHome t.kept p.0 p.1) (λ m. (sym z m, same m)) (slot.young u i e).3)
            (λ (z : s ≤ i). absurd (omega arith)) last;
        lit = lit-here;
        free = λ j q. let f = is (fresh u i) e in absurd (omega arith);
        rising = λ s j home q. let f = is (fresh u i) e in absurd (omega arith);
      }
      by-slot (live u) e = record {
        live = λ s q.
            let f = is (live u) e in
            let same : u ≡ s = omega arith in
            let there : IsHome t.homes s x = slot.home s (subst (λ z. IsSegment z s) (sym e) same) in (
              there,
              lit-known x s below there (λ i g. let both : live u ≡ fresh s i = sym e ∙ g in absurd (cc)),
              λ h. slot.gone s (subst (λ z. IsSegment z s) (sym e) same) h,
            );
        gone = λ s home before q. known-out (live u) s e home
            (λ (z : u ≡ s). let f = is (live u) e in absurd (q (f ∙ ap (λ y. head_word y 2) z)));
        young = λ s j home q lo. let f = is (live u) e in absurd (omega arith);
        lit = lit-here;
        free = λ j q. let f = is (live u) e in absurd (omega arith);
        rising = λ s j home q. let f = is (live u) e in absurd (omega arith);
      }

  -- what a number of settled cells tells, of whatever life of the slot it is
  pub count-told : (v : Seen) (x : ℕ) → x < n → Knows t v → ((s : ℕ) → t.counted s ≤ 32)
      → CountFound x (slice_index words (count_place x)) v (all_seen t)
  count-told v x below k most = record {
    full = λ s home all.
        let there : IsHome t.homes s x = home-prefix v.homes t.homes s x k.homes home in
        sound.full s (⊎_elim
        (λ seg. let is = (show.each x below).count s seg in let m = most s in omega arith)
        (λ o. o.1) ((sound.each x below).out s there));
    early = λ s home few all.
        let there : IsHome t.homes s x = home-prefix v.homes t.homes s x k.homes home in
        ⊎_elim
        (λ seg. let is = (show.each x below).count s seg in let full = sound.full_is s all in absurd (omega arith))
        (λ o. o.0) ((sound.each x below).out s there);
  }
