-- What is known later is known still: a pass that goes on, in whatever way, knows the places that it knew.
use Rattle.std.proofs.Common.{◌≡◌, ℕ, ◌+◌, ◌-◌, ◌/◌, ◌%◌, ◌<◌, ◌≤◌, Option, List, ◌∙◌, refl, sym, subst, arith}
use Rattle.cqs_rule_laws.specs.declared.config.Place.{Place}
use Rattle.cqs_rule_laws.specs.declared.view.View.{View}
use Rattle.cqs_rule_laws.specs.declared.view.Facts.{Facts}
use Rattle.cqs_rule_laws.specs.Called.{Called}
use Rattle.cqs_rule_laws.specs.Crew.{Met}
use Rattle.cqs_rule_laws.specs.Object.{Object}
use Rattle.cqs_rule_laws.specs.Placed.{GoesOn, KnowsFirst, KnowsPlace, place_at, place_known, place_word, slot_at}
use Rattle.cqs_rule_laws.specs.Saw.{Saw}
use Rattle.cqs_rule_laws.specs.SlotSteps.{Swapped}
use Rattle.cqs_rule_laws.specs.Views.{IsSame, as_before}
use Rattle.cqs_slots.specs.Layout.{slot_cell}
use Rattle.cqs_slots.specs.Slots.{IsHome}
use Rattle.cqs_slots.proofs.Lists.{home-prefix}
use Rattle.cqs_slots.proofs.Loads.{sees-same, sees-then}
use Rattle.cqs_rule_laws.proofs.Calls.{same-here}

module _ {E S : Type 0} where
  pub known-still : (v w : View E S) (at : Place) → GoesOn v w → KnowsPlace v at → KnowsPlace w at
  known-still v w at goes k =
      let p = place_word v at k in
      place_known w at p.0 (home-prefix v.segments.homes w.segments.homes (at.index / 32) p.0 goes.segments.homes p.1)
      (subst (λ n. p.0 < n) (sym goes.slots) p.2) p.3

  -- the word of a cell tells in which slot it stands
  pub home-of-cell : (v : View E S) (word k : ℕ) → KnowsPlace v (place_at word k)
      → (144 ≤ word) × ((word - 144) / 48 < v.slots) × IsHome v.segments.homes (k / 32) ((word - 144) / 48)
  home-of-cell v word k place =
      let p = place_word v (place_at word k) place in
      let few : k % 32 < 32 = omega arith in
      let word_is = p.3 in
      let slot : (word - 144) / 48 ≡ p.0 = omega arith in (
        omega arith,
        subst (λ x. x < v.slots) (sym slot) p.2,
        subst (IsHome v.segments.homes (k / 32)) (sym slot) p.1,
      )

  -- and where the segment's first cell stands
  pub first-cell : (v : View E S) (word k first : ℕ) → v.slots ≤ 65536 → first + k % 32 ≡ word
      → KnowsPlace v (place_at word k) → KnowsFirst v (k / 32) first
  first-cell v word k first few beside place =
      let p = place_word v (place_at word k) place in
      let word_is = p.3 in
      let low = p.2 in
      let slot : slot_at first ≡ p.0 = omega arith in record {
        is_first = omega arith;
        fits = omega arith;
        low = subst (λ x. x < v.slots) (sym slot) p.2;
        made = subst (IsHome v.segments.homes (k / 32)) (sym slot) p.1;
      }

  -- a pass that goes on knows where that was
  pub first-still : (v w : View E S) (segment word : ℕ) → GoesOn v w → KnowsFirst v segment word
      → KnowsFirst w segment word
  first-still v w segment word goes k = record {
    is_first = k.is_first;
    fits = k.fits;
    low = subst (λ n. slot_at word < n) (sym goes.slots) k.low;
    made = home-prefix v.segments.homes w.segments.homes segment (slot_at word) goes.segments.homes k.made;
  }

  -- a cell of a segment stands in the segment's home
  pub cell-in-home : (v : View E S) (slot k : ℕ) → IsHome v.segments.homes (k / 32) slot → slot < v.slots
      → KnowsPlace v (place_at (slot_cell slot (k % 32)) k)
  cell-in-home v slot k home low = place_known v (place_at (slot_cell slot (k % 32)) k) slot home low refl

  -- so do all cells of a segment whose first cell the pass knows
  pub cell-after : (v : View E S) (segment first word k : ℕ) → KnowsFirst v segment first → segment ≡ k / 32
      → word ≡ first + k % 32 → KnowsPlace v (place_at word k)
  cell-after v segment first word k f same is =
      let first_is = f.is_first in
      let word_is : word ≡ slot_cell (slot_at first) (k % 32) = omega arith in
      subst (λ n. KnowsPlace v (place_at n k)) (sym word_is)
      (cell-in-home v (slot_at first) k (subst (λ s. IsHome v.segments.homes s (slot_at first)) same f.made) f.low)

  -- a pass goes on where it stays as it was but for what it has seen and is at
  pub goes-same : (v w : View E S) → IsSame v w → GoesOn v w
  goes-same v w same = record {
    number = same.number;
    cells = same.cells;
    slots = same.slots;
    segments = same.segments;
  }

  pub goes-here : (v : View E S) → GoesOn v v
  goes-here v = goes-same v v (same-here v)

  pub goes-then : (u v w : View E S) → GoesOn u v → GoesOn v w → GoesOn u w
  goes-then u v w p q = record {
    number = q.number ∙ p.number;
    cells = q.cells ∙ p.cells;
    slots = q.slots ∙ p.slots;
    segments = sees-then u.segments v.segments w.segments p.segments q.segments;
  }

  -- a value moved between a slot and the pass, and nothing else happened
  pub same-swapped : (laid : List (ℕ × Option S)) (v w : View E S) → Swapped laid v w → IsSame v w
  same-swapped laid v w swap = subst (IsSame v) (sym swap.is) (record {
    number = refl;
    weight = refl;
    own = refl;
    crew = refl;
    alone = refl;
    made = refl;
    drawn = refl;
    limit = refl;
    cells = refl;
    slots = refl;
    passes = refl;
    opening = refl;
    segments = sees-same v.segments;
  })

  pub goes-swapped : (laid : List (ℕ × Option S)) (v w : View E S) → Swapped laid v w → GoesOn v w
  goes-swapped laid v w swap = goes-same v w (same-swapped laid v w swap)

  -- nothing happened
  pub goes-is : (v w : View E S) → w ≡ v → GoesOn v w
  goes-is v w same = subst (GoesOn v) (sym same) (goes-here v)

module _ {E S : Type 0} (object : Object E) where
  -- after a step, and after a look at the crew's word
  pub goes-saw : (v w : View E S) (f : Facts) (es : List E) → Saw object v f es w → GoesOn v w
  goes-saw v w f es s = goes-same v w s.same

  pub goes-looked : (v w : View E S) (f : Facts) (es : List E) → Saw object v f es (as_before v w) → GoesOn v w
  goes-looked v w f es s = record {
    number = s.same.number;
    cells = s.same.cells;
    slots = s.same.slots;
    segments = s.same.segments;
  }

  -- after a call
  pub goes-called : (v w : View E S) (es last : List E) → Called object v es last w → GoesOn v w
  goes-called v w es last c = goes-same v w c.same

  -- after another pass was met into it
  pub goes-met : (v w : View E S) (facts : Facts) (seen : List E) (handed : List (ℕ × S)) (own : List ℕ)
      → Met object v facts seen handed own w → GoesOn v w
  goes-met v w facts seen handed own met = record {
    number = met.number;
    cells = met.cells;
    slots = met.slots;
    segments = met.segments;
  }
