-- The ways out of a call that is to take a segment out: the pass isn't to retire it any more.
use Rattle.std.proofs.Common.{◌≡◌, ◌≢◌, ℕ, ◌<◌, ◌≤◌, List, [], ◌∷◌, length, refl, sym, ap, subst, arith}
use Rattle.std.proofs.lemmas.List.{append-nil}
use Rattle.cqs_words.specs.declared.segment.TailWord.{TailWord}
use Rattle.cqs_words.specs.Head.{head_word}
use Rattle.cqs_words.specs.Segment.{packed_tail, TailFits}
use Rattle.cqs_slots.specs.Slots.{IsHome}
use Rattle.cqs_rule_laws.specs.declared.view.View.{View}
use Rattle.cqs_rule_laws.specs.Lists.{Has, without}
use Rattle.cqs_rule_laws.specs.SegmentSteps.{CountLoaded, LastKept, LeftBy, Retired as RetiredBy, retiring}
use Rattle.cqs_rule_laws.proofs.Lists.{has_without}
use Rattle.cqs_segment.specs.declared.leaving.Retired.TheVariants.{Early, Gone, Last, Out}
use Rattle.cqs_segment.specs.declared.leaving.Retired.{Retired}
use Rattle.cqs_segment.specs.Finds.{HasDone, IsDoneWith, Retires}
use Rattle.cqs_segment.proofs.Extensions.{home-then}
use Rattle.cqs_segment.proofs.Walks.{looked-then, retiring-then}

module _ {E S : Type 0} where
  -- one head was found at most
  few-heads : (x s : ℕ) (answer : Retired) (v w : View E S) → Retires x s answer v w
      → (heads : List (ℕ × ℕ)) × (length heads ≤ 1) × LeftBy heads v.facts.spare_slots v.facts.duties v w
  few-heads x s Out v w r = (_, omega arith, r.1)
  few-heads x s Gone v w r = (_, omega arith, r.1.2)
  few-heads x s Last v w r = ([], omega arith, r.1)
  few-heads x s (Early n) v w r = ([], omega arith, r.2)

  -- whatever became of the segment
  pub has-done : (x s : ℕ) (answer : Retired) (v w : View E S) → IsDoneWith x s answer v w → HasDone s v w
  has-done x s answer v w d =
      let found = few-heads x s answer (retiring d.to_retire v) w d.retires in record {
        to_retire = d.to_retire;
        done = d.done;
        fewer = d.fewer;
        heads = found.0;
        few = found.1;
        left = found.2;
      }

  -- and then the pass found no more heads
  pub done-then : (s : ℕ) (u v w : View E S) → HasDone s u v → LeftBy [] v.facts.spare_slots v.facts.duties v w
      → HasDone s u w
  done-then s u v w d left = record {
    to_retire = d.to_retire;
    done = d.done;
    fewer = d.fewer;
    heads = d.heads;
    few = d.few;
    left = subst (λ l. LeftBy l u.facts.spare_slots u.facts.duties (retiring d.to_retire u) w) (append-nil d.heads)
        (looked-then (retiring d.to_retire u) v w d.heads [] u.facts.spare_slots u.facts.duties d.left left);
  }

module _ {E S : Type 0} (u v : View E S) (x s : ℕ) (tail : TailWord) (kept : LastKept u (packed_tail tail) v) where
  -- the last segment is kept
  pub kept-done : TailFits tail → tail.id ≡ s → IsDoneWith x s Last u v
  kept-done fits same =
      let f = kept.found in
      let word = f.word in
      let slot = f.slot_fits in
      let here = fits.slot in
      let is : f.id ≡ s = omega arith in record {
        to_retire = without f.id u.facts.to_retire;
        done = λ h. (has_without s f.id u.facts.to_retire h).0 (sym is);
        fewer = λ q h. (has_without q f.id u.facts.to_retire h).1;
        retires = (let last = f.last in omega arith, kept.went);
        looked = ([], kept.went);
      }

  -- what is to be retired after that was to be before
  fewer-kept : (q : ℕ) → Has q v.facts.to_retire → Has q u.facts.to_retire
  fewer-kept q h = (has_without q kept.found.id u.facts.to_retire
      (subst (Has q) (ap (λ (z : View E S). z.facts.to_retire) kept.went.is) h)).1

  module _ (w : View E S) (n : ℕ) (home : IsHome u.segments.homes s x) (loaded : CountLoaded x v n w) where
    home-kept : IsHome v.segments.homes s x
    home-kept = home-then u v s x kept.went.segments home

    looked-on : LeftBy [] u.facts.spare_slots u.facts.duties (retiring loaded.to_retire u) w
    looked-on = retiring-then u v w [] [] u.facts.spare_slots u.facts.duties
        (without kept.found.id u.facts.to_retire) loaded.to_retire kept.went loaded.went

    -- not all of its cells are counted
    pub early-done : n < 32 → IsDoneWith x s (Early n) u w
    early-done few = record {
      to_retire = loaded.to_retire;
      done = loaded.early few s home-kept;
      fewer = λ q h. fewer-kept q (loaded.fewer q h);
      retires = (few, loaded.found.early s home-kept few, looked-on);
      looked = ([], looked-on);
    }

    -- it is out
    module _ (z : View E S) (m : ℕ) (left : RetiredBy x s w m z) where
      abbrev then : List ℕ
      then = without s w.facts.to_retire

      left-on : LeftBy ((x, m) ∷ []) u.facts.spare_slots u.facts.duties (retiring then u) z
      left-on = retiring-then u w z [] ((x, m) ∷ []) u.facts.spare_slots u.facts.duties loaded.to_retire then looked-on
          left.went

      fewer-then : (q : ℕ) → Has q then → Has q u.facts.to_retire
      fewer-then q h = fewer-kept q (loaded.fewer q (subst (Has q)
          (ap (λ (y : View E S). y.facts.to_retire) loaded.went.is) (has_without q s w.facts.to_retire h).1))

      pub out-done : m ≡ head_word s 2 → IsDoneWith x s Out u z
      out-done is = record {
        to_retire = then;
        done = λ h. (has_without s s w.facts.to_retire h).0 refl;
        fewer = fewer-then;
        retires = (
          left.last is,
          subst (λ k. LeftBy ((x, k) ∷ []) u.facts.spare_slots u.facts.duties (retiring then u) z) is left-on,
        );
        looked = ((x, m) ∷ [], left-on);
      }

      pub gone-done : m ≢ head_word s 2 → IsDoneWith x s Gone u z
      gone-done other = record {
        to_retire = then;
        done = λ h. (has_without s s w.facts.to_retire h).0 refl;
        fewer = fewer-then;
        retires = (left.out, (m, other, left-on));
        looked = ((x, m) ∷ [], left-on);
      }
