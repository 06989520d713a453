-- What a search saw of the segment before which all were taken out.
use Rattle.std.proofs.Common.{◌≡◌, ℕ, Result, Ok, Err, IfErr, List, [], ◌∷◌, ◌++◌, sym, ap, ◌∙◌, append_assoc}
use Rattle.cqs_words.specs.Head.{head_word}
use Rattle.cqs_rule_laws.specs.declared.view.View.{View}
use Rattle.cqs_segment.specs.Finds.{SawLive}
use Rattle.cqs_segment.specs.Walks.{LookedAt}

-- what holds of an error for two reasons
pub both-err : {T X : Type 0} (r : Result T X) (P Q R : X → Type 0) → ((y : X) → P y → Q y → R y) → IfErr r P
    → IfErr r Q → IfErr r R
both-err (Ok x) P Q R f p q = tt
both-err (Err y) P Q R f p q = f y p q

module _ {E S : Type 0} where
  -- the heads that a call found
  pub heads-found : (v w : View E S) (most : ℕ) → (p : LookedAt most v w) → w.facts.heads ≡ v.facts.heads ++ p.0
  heads-found v w most p = ap (λ (z : View E S). z.facts.heads) p.2.is

  -- the last of them was that of a live segment
  pub live-now : (id slot : ℕ) (v w : View E S) (before : List (ℕ × ℕ))
      → w.facts.heads ≡ v.facts.heads ++ (before ++ (slot, head_word id 2) ∷ []) → SawLive id v w
  live-now id slot v w before heads = record { slot = slot; before = before; then = []; heads = heads }

  -- what a call saw, and then went on
  pub live-on : (id : ℕ) (v w z : View E S) (more : List (ℕ × ℕ)) → SawLive id v w
      → z.facts.heads ≡ w.facts.heads ++ more → SawLive id v z
  live-on id v w z more saw heads = record {
    slot = saw.slot;
    before = saw.before;
    then = saw.then ++ more;
    heads = heads ∙ (ap (λ l. l ++ more) saw.heads
        ∙ (append_assoc v.facts.heads (saw.before ++ (saw.slot, head_word id 2) ∷ saw.then) more
        ∙ ap (λ l. v.facts.heads ++ l) (append_assoc saw.before ((saw.slot, head_word id 2) ∷ saw.then) more)));
  }

  -- or had begun before
  pub live-after : (id : ℕ) (u v w : View E S) (first : List (ℕ × ℕ)) → v.facts.heads ≡ u.facts.heads ++ first
      → SawLive id v w → SawLive id u w
  live-after id u v w first heads saw = record {
    slot = saw.slot;
    before = first ++ saw.before;
    then = saw.then;
    heads = saw.heads ∙ (ap (λ l. l ++ (saw.before ++ (saw.slot, head_word id 2) ∷ saw.then)) heads
        ∙ (append_assoc u.facts.heads first (saw.before ++ (saw.slot, head_word id 2) ∷ saw.then)
        ∙ ap (λ l. u.facts.heads ++ l)
        (sym (append_assoc first saw.before ((saw.slot, head_word id 2) ∷ saw.then)))));
  }
