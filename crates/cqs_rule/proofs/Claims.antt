-- A pass claims slots, one after the other.
use Rattle.std.proofs.Common.{◌≡◌, ℕ, ◌+◌, ◌<◌, List, [], ◌∷◌, ◌++◌, length, length-append, Option, refl, sym, ap, ◌∙◌, subst, inr, arith}
use Rattle.atomic_table.specs.Seated.{TableId}
use Rattle.cqs_rule_laws.specs.declared.client.ClientWords.{Ghosts}
use Rattle.cqs_rule_laws.specs.declared.view.Spare.{Spare}
use Rattle.cqs_rule_laws.specs.declared.view.View.{View}
use Rattle.cqs_rule_laws.specs.Ample.{IsAmple}
use Rattle.cqs_rule_laws.specs.Lists.{IsPrefix}
use Rattle.cqs_rule_laws.proofs.Lists.{prefix-then}
use Rattle.cqs_rule_laws.specs.SegmentSteps.{claimed_slot, LeftBy}
use Rattle.cqs_segment.specs.Slots.{FoundTaken, SawAllTaken}
use Rattle.cqs_segment.specs.Walks.{Left}
use Rattle.cqs_segment.proofs.Walks.{and-then, duties-left, left-then, retires-left, spares-left, walks-on}
use Rattle.cqs_rule.specs.declared.queue.Pass.{Pass}
use Rattle.cqs_rule.specs.declared.queue.Queue.{Queue}
use Rattle.cqs_rule.specs.declared.queue.spares.Spares.{Spares}
use Rattle.cqs_rule.specs.Claims.{Crowds, IsClaimer}
use Rattle.cqs_rule.specs.Passes.{IsOf, pass_view}
use Rattle.cqs_rule.specs.Spares.{HasSpare, spare_list}
use Rattle.cqs_rule.proofs.Moved.{Keeps}
use Rattle.cqs_rule.proofs.Segments.{all-slots, keeps-left, many-slots, walks}
use Rattle.cqs_rule.proofs.Spared.{same-spares}

-- what was found among later heads was found
pub taken-later : (x : ℕ) (heads more : List (ℕ × ℕ)) → FoundTaken x more → FoundTaken x (heads ++ more)
taken-later x [] more found = found
taken-later x (h ∷ heads) more found = inr (taken-later x heads more found)

module _ {E S : Type 0} where
  -- steps on segments, and then others
  pub moved-then : (u v w : View E S) (duties : List ℕ) (spares : List Spare) → Left v.facts.spare_slots duties u v
      → Left spares v.facts.duties v w → Left w.facts.spare_slots duties u w
  moved-then u v w duties spares p q =
      subst (λ l. Left l duties u w) (sym (spares-left v w q.0 spares v.facts.duties q.1))
      (and-then u v w v.facts.spare_slots spares duties duties p
      (q.0, subst (λ d. LeftBy q.0 spares d v w) (duties-left u v p.0 v.facts.spare_slots duties p.1) q.1))

  -- one slot more is claimed
  pub claimed-then : (u v w : View E S) (duties : List ℕ) (x : ℕ) → Left v.facts.spare_slots duties u v
      → Left (v.facts.spare_slots ++ claimed_slot x ∷ []) v.facts.duties v w → Left w.facts.spare_slots duties u w
  claimed-then u v w duties x p q = moved-then u v w duties (v.facts.spare_slots ++ claimed_slot x ∷ []) p q

  pub more-spares : (v w : View E S) (x : ℕ)
      → Left (v.facts.spare_slots ++ claimed_slot x ∷ []) v.facts.duties v w
      → length w.facts.spare_slots ≡ length v.facts.spare_slots + 1
  more-spares v w x q =
      let more = v.facts.spare_slots ++ claimed_slot x ∷ [] in
      ap length (spares-left v w q.0 more v.facts.duties q.1) ∙ length-append v.facts.spare_slots (claimed_slot x ∷ [])

  -- and those that were spare before are so still
  pub keeps-spares : (u v w : View E S) (x : ℕ) → IsPrefix u.facts.spare_slots v.facts.spare_slots
      → Left (v.facts.spare_slots ++ claimed_slot x ∷ []) v.facts.duties v w
      → IsPrefix u.facts.spare_slots w.facts.spare_slots
  keeps-spares u v w x p q =
      let more : List Spare = v.facts.spare_slots ++ claimed_slot x ∷ [] in
      prefix-then u.facts.spare_slots v.facts.spare_slots w.facts.spare_slots p
      (claimed_slot x ∷ [], spares-left v w q.0 more v.facts.duties q.1)

  -- no slot was free
  pub crowds : (most : ℕ) (u v w : View E S) (slots : ℕ) → slots ≡ v.slots → (IsAmple u → ⊥)
      → length u.facts.spare_slots < most → length v.facts.spare_slots < most
      → IsPrefix u.facts.spare_slots v.facts.spare_slots
      → Left v.facts.spare_slots u.facts.duties u v → SawAllTaken slots v w → Crowds most u w
  crowds most u v w slots all scarce few short kept p saw = record {
    few = few;
    short = subst (λ l. length l < most)
        (sym (spares-left v w saw.heads v.facts.spare_slots v.facts.duties saw.left)) short;
    kept = subst (λ l. IsPrefix u.facts.spare_slots l)
        (sym (spares-left v w saw.heads v.facts.spare_slots v.facts.duties saw.left)) kept;
    heads = p.0 ++ saw.heads;
    spares = v.facts.spare_slots;
    left = left-then u v w p.0 saw.heads v.facts.spare_slots v.facts.spare_slots u.facts.duties u.facts.duties p.1
        (subst (λ d. LeftBy saw.heads v.facts.spare_slots d v w)
        (duties-left u v p.0 v.facts.spare_slots u.facts.duties p.1) saw.left);
    taken = λ x below. taken-later x p.0 saw.heads (saw.taken x
        (let same = ap (λ (z : View E S). z.slots) p.1.is in omega arith));
    scarce = scarce;
  }

module _ {C E S : Type 0} (q : Queue C S E) (kept : Spares) (v : View E S) (claimer : IsClaimer q kept v) where
  -- how many slots it has spare
  pub many-kept : length (spare_list kept) ≡ length v.facts.spare_slots
  many-kept = sym (ap length claimer.spare.are) ∙ many-slots v.facts.spare_slots

  -- one slot more
  pub one-more : (more : Spares) (x : ℕ) → spare_list more ≡ spare_list kept ++ x ∷ []
      → length (spare_list more) ≡ length (spare_list kept) + 1
  one-more more x is = ap length is ∙ length-append (spare_list kept) (x ∷ [])

  -- the pass may go on, with what is spare then
  pub claims-on : (more : Spares) (w : View E S) (spares : List Spare) (duties : List ℕ) → Left spares duties v w
      → HasSpare spares v.slots more → IsClaimer q more w
  claims-on more w spares duties left has = record {
    walker = walks-on q.table.shared.table_id.words v w left.0 spares duties left.1 claimer.walker;
    all = claimer.all ∙ sym (ap (λ (z : View E S). z.slots) left.1.is);
    spare = same-spares spares w.facts.spare_slots v.slots w.slots more
        (spares-left v w left.0 spares duties left.1) (ap (λ (z : View E S). z.slots) left.1.is) has;
    retired = retires-left v w left.0 spares duties left.1 ∙ claimer.retired;
  }

module _ {C S E : Type 0} {g : Ghosts C S E} where
  -- a pass of the queue may claim
  pub claims : (q : Queue C S E) (p : Pass C S E g) → IsOf q p → IsClaimer q p.spares (pass_view p)
  claims q p b = record {
    walker = walks q p b;
    all = all-slots q p b;
    spare = p.spares_are;
    retired = p.retired;
  }

  -- and what it keeps then
  pub keeps-claimed : (q : Queue C S E) (p : Pass C S E g) (w : View E S) (more : Spares)
      → Left w.facts.spare_slots (pass_view p).facts.duties (pass_view p) w → IsClaimer q more w
      → (items : List (ℕ × Option S)) (t : TableId) → items ≡ p.seat.me.1 → t ≡ p.seat.table_id
      → Keeps w items t.words p.number p.held p.further p.owes p.waits p.ticket more p.homes
  keeps-claimed q p w more left claimer items t none table =
      keeps-left p w left.0 w.facts.spare_slots more left.1
      (same-spares w.facts.spare_slots w.facts.spare_slots w.slots (pass_view p).slots more refl
      (sym (ap (λ (z : View E S). z.slots) left.1.is)) claimer.spare)
      items t none table
