-- A search that came upon a number whose segment wasn't made.
use Rattle.std.proofs.Common.{◌≡◌, ℕ, ◌/◌, ◌≤◌, List, ◌++◌, length, ap, sym, ◌∙◌, subst, append_assoc, ⊎_elim, inl, inr, arith}
use Rattle.cqs_rule_laws.specs.declared.view.View.{View}
use Rattle.cqs_rule_laws.specs.Ample.{IsAmple}
use Rattle.cqs_rule_laws.specs.Object.{Object}
use Rattle.cqs_rule_laws.specs.SegmentSteps.{LeftBy}
use Rattle.cqs_segment.specs.Walks.{Left, LookedAt}
use Rattle.cqs_segment.proofs.Walks.{longer, spares-left}
use Rattle.cqs_rule.specs.Claims.{Crowds}
use Rattle.cqs_rule.proofs.Claims.{moved-then, taken-later}
use Rattle.cqs_rule.proofs.Segments.{none-spare}
use Rattle.cqs_segment.specs.Finds.{WasLast, SawLive}
use Rattle.cqs_segment.proofs.Ahead.{live-after}
use Rattle.cqs_find.specs.declared.found.Found.{Found}
use Rattle.cqs_find.specs.declared.found.Found.TheVariants.{At, Over}
use Rattle.cqs_find.specs.Finds.{IsCrowded, Searched, SeesAhead}
use Rattle.cqs_find.proofs.Searches.{searched-far}

-- no slot was free
pub is-crowded : {E S : Type 0} (k : ℕ) (v w : View E S) → length v.segments.homes ≤ k / 32 → Crowds 1 v w
    → IsCrowded k v w
is-crowded k v w far c = record {
  spareless = none-spare v.facts.spare_slots (let few = c.few in omega arith);
  none_left = none-spare w.facts.spare_slots (let short = c.short in omega arith);
  far = far;
  scarce = c.scarce;
  heads = c.heads;
  found = ap (λ z. z.facts.heads) c.left.is;
  taken = c.taken;
}

module _ {E S : Type 0} (v u : View E S) (most : ℕ) (looked : LookedAt most v u) where
  -- as little was known before
  pub far-before : (s : ℕ) → length u.segments.homes ≤ s → length v.segments.homes ≤ s
  far-before s far = let more = longer v u looked.2.segments in omega arith

  pub looked-left : Left v.facts.spare_slots v.facts.duties v u
  looked-left = (looked.0, looked.2)

  -- the steps after that
  pub then-moved : (w : View E S) → Left w.facts.spare_slots u.facts.duties u w
      → Left w.facts.spare_slots v.facts.duties v w
  then-moved w left = moved-then v u w v.facts.duties w.facts.spare_slots (
    looked.0,
    subst (λ l. LeftBy looked.0 l v.facts.duties v u)
        (sym (spares-left v u looked.0 v.facts.spare_slots v.facts.duties looked.2)) looked.2,
  ) left

  -- so there was no slot when the search began
  pub crowded-later : (k : ℕ) (w : View E S) → IsCrowded k u w → IsCrowded k v w
  crowded-later k w c = record {
    spareless = sym (spares-left v u looked.0 v.facts.spare_slots v.facts.duties looked.2) ∙ c.spareless;
    none_left = c.none_left;
    far = far-before (k / 32) c.far;
    scarce = λ ample. c.scarce (subst (λ (z : View E S). IsAmple z) (sym looked.2.is) ample);
    heads = looked.0 ++ c.heads;
    found = c.found ∙ (ap (λ l. l ++ c.heads) (ap (λ (z : View E S). z.facts.heads) looked.2.is)
        ∙ append_assoc v.facts.heads looked.0 c.heads);
    taken = λ x below. taken-later x looked.0 c.heads (c.taken x
        (let same = ap (λ (z : View E S). z.slots) looked.2.is in omega arith));
  }

  -- what the search left
  pub far-searched : (object : Object E) (k : ℕ) (w : View E S) → length u.segments.homes ≤ k / 32
      → Left w.facts.spare_slots u.facts.duties u w → Searched object k v w
  far-searched object k w far left =
      searched-far object k v w w.facts.spare_slots (far-before (k / 32) far) (then-moved w left)

-- the segment was made, and looked for again
pub looked-again : {E S : Type 0} (u x y : View E S) (most : ℕ) → Left x.facts.spare_slots u.facts.duties u x
    → LookedAt most x y → Left y.facts.spare_slots u.facts.duties u y
looked-again u x y most left looked =
    moved-then u x y u.facts.duties x.facts.spare_slots left (looked.0, looked.2)

-- what a later part of a call saw ahead
pub ahead-later : {E S : Type 0} (v u w : View E S) (found : Found) (heads : List (ℕ × ℕ))
    → length v.segments.homes ≤ length u.segments.homes → u.facts.heads ≡ v.facts.heads ++ heads
    → SeesAhead found u w → SeesAhead found v w
ahead-later v u w (At place) heads more is saw = tt
ahead-later v u w (Over next) heads more is saw = ⊎_elim
    (λ (last : WasLast (next / 32) u w). inl (record { made = last.made; last = let l = last.last in omega arith }))
    (λ (live : SawLive (next / 32) u w). inr (live-after (next / 32) v u w heads is live)) saw
