-- A slot is claimed, or given back.
use Rattle.std.proofs.Common.{◌≡◌, ℕ, ◌<◌, List, sym, refl, ap, ◌∙◌, subst, arith}
use Rattle.std.specs.Prelude.{slice_index, slice_set}
use Rattle.cqs_words.specs.Head.{head_word}
use Rattle.cqs_slots.specs.Layout.{head_place}
use Rattle.cqs_slots.specs.Slots.{Segments, Slot, free, spare, fresh, live, IsSegment, slot_head, IsLast, last_id}
use Rattle.cqs_slots.specs.Shown.{SlotSound, Shows, AreSound, Becomes}
use Rattle.cqs_slots.specs.Steps.{with_slot}
use Rattle.cqs_slots.proofs.Lists.{prefix-same}
use Rattle.cqs_slots.proofs.Places.{stay-in}
use Rattle.cqs_slots.proofs.Turns.{turn, set-long, done_of, is-free, sound-idle, show-idle, no-tail}

module _ (n : ℕ) (t : Segments) (c : ℕ → ℕ) (words : List ℕ) (show : Shows n t c words) (sound : AreSound n t)
    (x : ℕ) (below : x < n) where
  -- a head with this word is that of a free slot
  pub claimed-is : (i : ℕ) → slice_index words (head_place x) ≡ head_word i 0 → t.slots x ≡ free i
  claimed-is i found = is-free (t.slots x) i (sym found ∙ (show.each x below).head)

  idle-turn : (a b : Slot) (z : ℕ) → t.slots x ≡ a → ((s : ℕ) → IsSegment a s → ⊥) → z ≡ slot_head b
      → ((s : ℕ) → IsSegment b s → ⊥) → done_of b ≡ 0 → last_id b ≡ last_id a
      → ((s : ℕ) → IsLast a s → IsLast b s)
      → ((s i : ℕ) → b ≡ fresh s i → ⊥) → (b ≡ live t.tail → ⊥)
      → Becomes n x t (with_slot t x b t.outs t.lit) c (slice_set words (head_place x) z)
  idle-turn a b z was idle is idle' none-done ids lasts old-one no-live =
      turn n t c x b t.outs t.lit words (slice_set words (head_place x) z) show sound (record {
        low = below;
        long = set-long words (head_place x) z;
        words_stay = stay-in words (head_place x) x z (omega arith) (omega arith);
        show = show-idle n t c words x z b show below is idle' none-done
            (let e : last_id (t.slots x) ≡ last_id b = ap last_id was ∙ sym ids in omega arith);
        sound = sound-idle n t x a b idle idle' ids lasts old-one (subst (SlotSound t x) was (sound.each x below));
        outs_grow = prefix-same t.outs;
        outs_made = sound.outs_made;
        outs_back = λ y s low apart seg h. h;
        lit_up = omega arith;
        lit_most = sound.lit_near.1;
        lit_is = λ e. absurd (no-live e);
        young = λ y s j low apart e. refl;
        tail_in = λ s home e. absurd (no-tail n t x a sound was idle s home e);
      })

  -- a free slot is claimed
  pub claimed : (i : ℕ) → slice_index words (head_place x) ≡ head_word i 0
      → Becomes n x t (with_slot t x (spare i 0 0) t.outs t.lit) c (slice_set words (head_place x) (head_word i 1))
  claimed i found = idle-turn (free i) (spare i 0 0) (head_word i 1) (claimed-is i found) (λ s z. z) refl
      (λ s z. z) refl refl (λ s z. z) (λ s j e. absurd (cc)) (λ e. absurd (cc))

  -- a spare slot is given back
  pub given-back : (i a d : ℕ) → t.slots x ≡ spare i a d
      → Becomes n x t (with_slot t x (free i) t.outs t.lit) c (slice_set words (head_place x) (head_word i 0))
  given-back i a d was = idle-turn (spare i a d) (free i) (head_word i 0) was (λ s z. z) refl
      (λ s z. z) refl refl (λ s z. z) (λ s j e. absurd (cc)) (λ e. absurd (cc))
