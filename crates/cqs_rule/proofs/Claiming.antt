-- A call of a client claims before its first change: what that tells of the call.
use Rattle.std.proofs.Common.{◌≡◌, ℕ, ◌<◌, ◌≤◌, List, [], ◌++◌, length, length-append, refl, sym, ap, ◌∙◌, subst, append_assoc, ⊎_elim, inl, inr, arith}
use Rattle.std.proofs.lemmas.List.{append-nil}
use Rattle.cqs_rule_laws.specs.declared.view.Facts.{Facts}
use Rattle.cqs_rule_laws.specs.declared.view.Spare.{Spare}
use Rattle.cqs_rule_laws.specs.declared.view.View.{View}
use Rattle.cqs_rule_laws.specs.Ample.{AreEnough, IsAmple}
use Rattle.cqs_rule_laws.specs.Called.{Called}
use Rattle.cqs_rule_laws.specs.Lists.{IsPrefix}
use Rattle.cqs_rule_laws.specs.Object.{Object}
use Rattle.cqs_rule_laws.specs.Saw.{Saw}
use Rattle.cqs_rule_laws.specs.SegmentSteps.{facts_left, LeftBy}
use Rattle.cqs_rule_laws.specs.Slots.{LaysNone}
use Rattle.cqs_rule_laws.specs.Views.{IsSame}
use Rattle.cqs_rule_laws.proofs.Calls.{called-by, called-then}
use Rattle.cqs_segment.specs.Walks.{Left}
use Rattle.cqs_rule.specs.declared.queue.tokens.Under.{Under}
use Rattle.cqs_rule.specs.Claims.{Crowds, HasSpares, WantsSlot, WasCrowded}

module _ {E S : Type 0} where
  -- steps on segments leave the pass as it was, but for the heads that it found, what it has seen of
  -- the segments, the slots that it has spare, and the cells that it is to count
  pub same-left : (v w : View E S) (heads : List (ℕ × ℕ)) (spares : List Spare) (duties : List ℕ)
      → LeftBy heads spares duties v w → IsSame v w
  same-left v w heads spares duties left = subst (IsSame v) (sym left.is) (record {
    number = refl;
    weight = refl;
    own = refl;
    crew = refl;
    alone = refl;
    made = refl;
    drawn = refl;
    limit = refl;
    cells = refl;
    slots = refl;
    passes = refl;
    opening = refl;
    segments = left.segments;
  })

  -- a pass knows of as many segments later
  pub homes-grow : (v w : View E S) → IsSame v w → length v.segments.homes ≤ length w.segments.homes
  homes-grow v w same =
      let more = same.segments.homes in
      let grown = ap length more.1 ∙ length-append v.segments.homes more.0 in omega arith

  -- an ample table stays so
  pub same-ample : (v w : View E S) → IsSame v w → IsAmple v → IsAmple w
  same-ample v w same ample = subst (λ (n : ℕ × ℕ × ℕ). AreEnough n.0 n.1 n.2)
      (λ i. (sym same.cells i, sym same.passes i, sym same.slots i)) ample

  -- a pass has spare what it claimed, until a step takes that
  pub spares-stay : (most : ℕ) (v w : View E S) → IsSame v w → w.facts.spare_slots ≡ v.facts.spare_slots
      → HasSpares most v → HasSpares most w
  spares-stay most v w same stay has = ⊎_elim (λ (ample : IsAmple v). inl (same-ample v w same ample))
      (λ (enough : most ≤ length v.facts.spare_slots).
      inr (subst (λ (l : List Spare). most ≤ length l) (sym stay) enough)) has

  -- a slot that is wanted is wanted since an earlier moment too
  pub wants-since : (under : Under) (v u w : View E S) → IsSame v u → IsPrefix v.facts.heads u.facts.heads
      → WantsSlot under u w → WantsSlot under v w
  wants-since under v u w same more x = record {
    number = x.number;
    ticket = x.ticket;
    far = let grown = homes-grow v u same in let far = x.far in omega arith;
    spareless = x.spareless;
    before = more.0 ++ x.before;
    heads = x.heads;
    heads_are = x.heads_are ∙ (ap (λ l. l ++ (x.before ++ x.heads)) more.1
        ∙ (append_assoc v.facts.heads more.0 (x.before ++ x.heads)
        ∙ ap (λ l. v.facts.heads ++ l) (sym (append_assoc more.0 x.before x.heads))));
    taken = λ n below. x.taken n (let slots = same.slots in omega arith);
    scarce = λ ample. x.scarce (subst (λ (n : ℕ × ℕ × ℕ). AreEnough n.0 n.1 n.2)
        (λ i. (sym same.cells i, sym same.passes i, sym same.slots i)) ample);
  }

module _ {E S : Type 0} (object : Object E) where
  pub saw-left : (v w : View E S) (heads : List (ℕ × ℕ)) (spares : List Spare) (duties : List ℕ)
      → LeftBy heads spares duties v w → Saw object v (facts_left spares heads duties v.facts) [] w
  saw-left v w heads spares duties left = record {
    between = [];
    seen = ap (λ (z : View E S). z.seen) left.is ∙ sym (append-nil (v.seen ++ []) ∙ append-nil v.seen);
    silent = λ n h. refl;
    facts_are = ap (λ (z : View E S). z.facts) left.is;
    same = same-left v w heads spares duties left;
    handed = ([], ap (λ (z : View E S). z.handed) left.is ∙ sym (append-nil v.handed));
    unlaid = subst (λ (z : View E S). LaysNone v.laid z.laid) (sym left.is) (λ j bare. bare);
    sole = λ a. refl;
  }

  -- a call that was crowded after loads that left the pass at these facts
  pub crowded-after : (most : ℕ) (f : Facts) (v u w : View E S) → Saw object v f [] u
      → f.spare_slots ≡ v.facts.spare_slots → f.duties ≡ v.facts.duties → Crowds most u w
      → WasCrowded most f v w
  crowded-after most f v u w saw spares duties c =
      let at_facts = saw.facts_are in
      let kept : u.facts.spare_slots ≡ v.facts.spare_slots = ap (λ (z : Facts). z.spare_slots) at_facts ∙ spares in
      record {
        few = subst (λ (l : List Spare). length l < most) kept c.few;
        short = c.short;
        kept = subst (λ (l : List Spare). IsPrefix l w.facts.spare_slots) kept c.kept;
        heads = c.heads;
        spares = c.spares;
        facts_are = ap (λ (z : View E S). z.facts) c.left.is
            ∙ ((λ i. facts_left c.spares c.heads ((at_facts i).duties) (at_facts i))
            ∙ ap (λ (d : List ℕ). facts_left c.spares c.heads d f) duties);
        taken = λ x below. c.taken x (let same = saw.same.slots in omega arith);
        scarce = λ ample. c.scarce (subst (λ (n : ℕ × ℕ × ℕ). AreEnough n.0 n.1 n.2)
            (λ i. (sym saw.same.cells i, sym saw.same.passes i, sym saw.same.slots i)) ample);
      }

  -- with no load before
  pub crowded-now : (most : ℕ) (v w : View E S) → Crowds most v w → WasCrowded most v.facts v w
  crowded-now most v w c = record {
    few = c.few;
    short = c.short;
    kept = c.kept;
    heads = c.heads;
    spares = c.spares;
    facts_are = ap (λ (z : View E S). z.facts) c.left.is;
    taken = c.taken;
    scarce = c.scarce;
  }

  -- what a claim leaves of a call's entries
  pub called-left : (v u w : View E S) (f : Facts) (spares : List Spare) (duties : List ℕ) → Saw object v f [] u
      → Left spares duties u w → Called object v [] [] w
  called-left v u w f spares duties saw left =
      called-then object v u w _ [] [] [] (called-by object v u _ [] saw)
      (saw-left u w left.0 spares duties left.1)
