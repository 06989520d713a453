-- The segment of a number that was drawn is made by who extends the segments after the last, or was by somebody else.
use Rattle.std.proofs.Common.{◌≡◌, ℕ, ◌+◌, ◌*◌, ◌/◌, ◌<◌, ◌≤◌, List, length, ap, sym, ◌∙◌, subst, ⊎_elim, arith}
use Rattle.cqs_words.specs.declared.segment.TailWord.{TailWord}
use Rattle.cqs_words.specs.Segment.{packed_tail, TailFits}
use Rattle.cqs_core.proofs.Places.{get-below}
use Rattle.std.proofs.lemmas.Bool.{cases_lt}
use Rattle.cqs_slots.specs.Slots.{IsHome}
use Rattle.cqs_slots.specs.Told.{TailFound}
use Rattle.cqs_slots.proofs.Lists.{home-prefix, one-home}
use Rattle.cqs_rule_laws.specs.declared.view.Spare.{Spare}
use Rattle.cqs_rule_laws.specs.declared.view.View.{View}
use Rattle.cqs_rule_laws.specs.Ample.{IsAmple}
use Rattle.cqs_rule_laws.specs.Inside.{IsInside}
use Rattle.cqs_rule_laws.specs.SegmentSteps.{HasDrawn}
use Rattle.cqs_segment.specs.declared.extending.Extended.{Extended}
use Rattle.cqs_segment.specs.declared.extending.Extended.TheVariants.{Made, Seen}
use Rattle.cqs_segment.specs.Walks.{but_last, Left}
use Rattle.cqs_segment.proofs.Walks.{longer, spares-left}
use Rattle.cqs_rule.specs.Segments.{ExtendsAlone, ExtendsLast}
use Rattle.cqs_rule.proofs.Segments.{kept-left}

-- a tail is what its word says
tail-parts : (t : TailWord) (id slot : ℕ) → TailFits t → slot < 65536 → packed_tail t ≡ id * 65536 + slot
    → (t.id ≡ id) × (t.slot ≡ slot)
tail-parts t id slot fits small is = let low = fits.slot in (omega arith, omega arith)

module _ {E S : Type 0} where
  last-left : (after : TailWord) (x : ℕ) (answer : Extended) (v w : View E S) → ExtendsAlone after x answer v w
      → (spares : List Spare) × Left spares v.facts.duties v w
  last-left after x (Made tail) v w e = (but_last v.facts.spare_slots, e.2)
  last-left after x (Seen tail) v w e = let k = kept-left after tail x v w e.2 in (_, k.2)

  -- what a pass has after an extension
  pub extended-left : (after : TailWord) (answer : Extended) (v w : View E S) → ExtendsLast after answer v w
      → Left w.facts.spare_slots v.facts.duties v w
  extended-left after answer v w e =
      let l = last-left after e.0 answer v w e.2 in
      subst (λ spares. Left spares v.facts.duties v w)
      (sym (spares-left v w l.1.0 l.0 v.facts.duties l.1.1)) l.1

  -- the segment after the last is made then, by this pass or by another
  pub made-after : (s : ℕ) (last : TailWord) (x : ℕ) (answer : Extended) (v w : View E S) → s ≤ last.id + 1
      → TailFits last → TailFound v.slots (packed_tail last) v.segments → ExtendsAlone last x answer v w
      → s < length w.segments.homes
  made-after s last x (Made tail) v w near fits found e =
      let below = get-below w.segments.homes tail.id tail.slot e.1.home in
      let id : tail.id ≡ last.id + 1 = ap (λ (t : TailWord). t.id) e.0 in omega arith
  made-after s last x (Seen tail) v w near fits found e =
      let later = e.1 in
      let old = tail-parts last found.id found.slot fits found.slot_fits found.word in
      let new = tail-parts tail later.id later.slot e.3 later.slot_fits later.word in
      let left = (kept-left last tail x v w e.2).2.1 in
      let long = longer v w left.segments in
      let here = found.last in
      let there = later.last in
      ⊎_elim (λ (more : found.id < later.id). omega arith)
      (λ (same : later.id ≤ found.id).
      let id : later.id ≡ found.id = omega arith in
      let slot : later.slot ≡ found.slot = one-home w.segments.homes found.id later.slot found.slot
      (subst (λ z. IsHome w.segments.homes z later.slot) id later.home)
      (home-prefix v.segments.homes w.segments.homes found.id found.slot left.segments.homes found.home) in
      absurd (e.0 (λ i. record {
        id = (new.0 ∙ (id ∙ sym old.0)) i;
        slot = (new.1 ∙ (slot ∙ sym old.1)) i;
      })))
      (cases_lt found.id later.id)

  -- a number that was drawn stays so
  pub drawn-left : (v w : View E S) (k : ℕ) (spares : List Spare) (duties : List ℕ) → Left spares duties v w
      → HasDrawn v k → HasDrawn w k
  drawn-left v w k spares duties left drawn = subst (λ (z : View E S). HasDrawn z k) (sym left.1.is) drawn

  -- in an ample table the segment of each number was made
  pub scarce-far : (v : View E S) (k : ℕ) → IsInside v → k < v.cells → length v.segments.homes ≤ k / 32 → IsAmple v → ⊥
  scarce-far v k inside low far ample = let made = inside.made ample in omega arith
