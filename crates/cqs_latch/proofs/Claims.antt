-- A call of a latch claims spare slots between its loads and its first change: it has them then, or turns back.
use Rattle.std.proofs.Common.{◌≡◌, ℕ, ◌<◌, ◌≤◌, Bool, true, false, List, [], ◌∷◌, ◌++◌, length, None, sym, refl, ap, ◌∙◌, subst, append_assoc, arith, if◌then◌else◌, nat_lt, lt-ltb, ℤ, inl, inr, ⊎_elim}
use Rattle.std.proofs.lemmas.List.{append-nil}
use Rattle.cqs_core.specs.declared.doings.Doing.TheVariants as doing
use Rattle.cqs_latch_object.specs.declared.entries.LatchEntry.{LatchEntry}
use Rattle.cqs_latch_object.specs.LatchWords.{is_used}
use Rattle.cqs_rule_laws.specs.declared.view.Facts.{Facts}
use Rattle.cqs_rule_laws.specs.declared.view.Sighting.{Sighting}
use Rattle.cqs_rule_laws.specs.declared.view.Sighting.TheVariants.{Word}
use Rattle.cqs_rule_laws.specs.declared.view.Spare.{Spare}
use Rattle.cqs_rule_laws.specs.Lists.{IsPrefix}
use Rattle.cqs_rule_laws.specs.declared.view.View.{View}
use Rattle.cqs_rule_laws.specs.Ample.{AreEnough, IsAmple}
use Rattle.cqs_rule_laws.specs.Events.{facts_moved}
use Rattle.cqs_rule_laws.specs.Facts.{is_owing}
use Rattle.cqs_rule_laws.specs.Layout.{suspends_place, client_place}
use Rattle.cqs_rule_laws.specs.SegmentSteps.{facts_left, LeftBy}
use Rattle.cqs_rule_laws.specs.Views.{IsSame}
use Rattle.cqs_rule.specs.Claims.{Crowds, HasSpares, WasCrowded}
use Rattle.cqs_rule.proofs.Claiming.{saw-left}
use Rattle.cqs_words.specs.State.{count_in}
use Rattle.cqs_latch.specs.Causes.{facts_turned}
use Rattle.cqs_latch.specs.Latch.{latch_object}
use Rattle.cqs_latch.specs.LatchEvents.{loads_to_wait, turns_back}
use Rattle.cqs_latch.specs.LatchTold.{at_word, NextIs, OnWord, ReadsCount}
use Rattle.cqs_latch.proofs.Along.{Along, along-and, along-first}

-- an idle pass at these facts that made these loads, and is about to change the count, or the waiters
abbrev pub facts_trying : ℤ → Bool → List Sighting → Facts → Facts
facts_trying count may loads f = record f {
  doing = doing.TryAt count;
  may_draw = may;
  last = None;
  reached = 0;
  found = f.found ++ loads;
}

module _ {T : Type 0} where
  -- it loaded the count as above 0
  pub trying-first : (v x : View LatchEntry T) (n : ℕ) → v.facts.doing ≡ doing.Idle → is_used (count_in n) ≡ false
      → x.facts ≡ facts_moved loads_to_wait (client_place 0) (at_word v n)
      → x.facts ≡ facts_trying (count_in n) v.facts.may_draw (Word (client_place 0) n ∷ []) v.facts
  trying-first v x n idle above at =
      at ∙ (λ i. record v.facts {
        doing = (if above i then doing.Idle else doing.TryAt (count_in n));
        last = None;
        reached = (if is_owing (idle i) then v.facts.reached else 0);
        found = v.facts.found ++ Word (client_place 0) n ∷ [];
      })

  -- and then the suspend counter below the limit
  pub trying-next : (v x y : View LatchEntry T) (count : ℤ) (may : Bool) (loads : List Sighting) (m : ℕ)
      → x.facts ≡ facts_trying count may loads v.facts → NextIs x m y → m < x.limit
      → y.facts ≡ facts_trying count true (loads ++ Word suspends_place m ∷ []) v.facts
  trying-next v x y count may loads m at next below =
      let here : nat_lt m x.limit ≡ true = lt-ltb m x.limit below in
      next.saw.facts_are
      ∙ ((λ i. record (at i) {
        may_draw = (if here i then true else (at i).may_draw);
        found = (at i).found ++ Word suspends_place m ∷ [];
      })
      ∙ ap (λ l. record v.facts {
        doing = doing.TryAt count;
        may_draw = true;
        last = None;
        reached = 0;
        found = l;
      }) (append_assoc v.facts.found loads (Word suspends_place m ∷ [])))

  -- claims show no entry
  pub along-left : (u w : View LatchEntry T) (heads : List (ℕ × ℕ)) (spares : List Spare) (duties : List ℕ)
      → LeftBy heads spares duties u w → Along u [] [] w
  along-left u w heads spares duties left =
      along-first u w _ [] [] (saw-left latch_object u w heads spares duties left) (sym (append-nil u.facts.found))

  -- the slots stay spare where a step leaves them
  pub still-spare : (most : ℕ) (u w : View LatchEntry T) → IsSame u w → w.facts.spare_slots ≡ u.facts.spare_slots
      → HasSpares most u → HasSpares most w
  still-spare most u w same spares has = ⊎_elim
      (λ (ample : IsAmple u). inl (subst (λ (n : ℕ × ℕ × ℕ). AreEnough n.0 n.1 n.2)
      (λ i. (sym same.cells i, sym same.passes i, sym same.slots i)) ample))
      (λ (enough : most ≤ length u.facts.spare_slots). inr (subst (λ l. most ≤ length l) (sym spares) enough)) has

  -- The pass made these loads, was crowded, and turned back by one more load of the count.
  module _ (most : ℕ) (count : ℤ) (may : Bool) (loads : List Sighting) (v y u z : View LatchEntry T) (again : ℕ)
      (same : IsSame v y) (at : y.facts ≡ facts_trying count may loads v.facts) (c : Crowds most y u)
      (o : OnWord 0 turns_back ReadsCount u again z) where
    turned-back : z.facts ≡ facts_left c.spares c.heads v.facts.duties (record
        (facts_turned (loads ++ Word (client_place 0) again ∷ []) v.facts) { may_draw = may })
    turned-back = o.saw.facts_are ∙ (ap back left ∙ ap full (append_assoc v.facts.found loads _))
      where
        back : Facts → Facts
        back f = record f {
          doing = doing.Idle;
          last = None;
          reached = (if is_owing f.doing then f.reached else 0);
          found = f.found ++ Word (client_place 0) again ∷ [];
        }

        left : u.facts ≡ facts_left c.spares c.heads v.facts.duties (facts_trying count may loads v.facts)
        left = ap (λ (x : View LatchEntry T). x.facts) c.left.is
            ∙ (λ i. facts_left c.spares c.heads ((at i).duties) (at i))

        full : List Sighting → Facts
        full l = facts_left c.spares c.heads v.facts.duties
            (record v.facts { doing = doing.Idle; may_draw = may; last = None; reached = 0; found = l })

    pub crowded-so : WasCrowded most (record
        (facts_turned (loads ++ Word (client_place 0) again ∷ []) v.facts) { may_draw = may }) v z
    crowded-so = record {
      few = subst (λ (l : List Spare). length l < most) (ap (λ (f : Facts). f.spare_slots) at) c.few;
      short = subst (λ (l : List Spare). length l < most)
          (sym (ap (λ (f : Facts). f.spare_slots) o.saw.facts_are)) c.short;
      kept = subst (λ (l : List Spare × List Spare). IsPrefix l.0 l.1)
          (λ i. (
            ap (λ (f : Facts). f.spare_slots) at i,
            sym (ap (λ (f : Facts). f.spare_slots) o.saw.facts_are) i,
          )) c.kept;
      heads = c.heads;
      spares = c.spares;
      facts_are = turned-back;
      taken = λ x below. c.taken x (let slots = same.slots in omega arith);
      scarce = λ ample. c.scarce (subst (λ (n : ℕ × ℕ × ℕ). AreEnough n.0 n.1 n.2)
          (λ i. (sym same.cells i, sym same.passes i, sym same.slots i)) ample);
    }

    pub along-back : Along y [] [] z
    along-back =
        let claims : Along y [] [] u = along-left y u c.heads c.spares y.facts.duties c.left in
        along-and y u z [] [] [] [] claims
        (along-first u z _ [] (Word (client_place 0) again ∷ []) o.saw refl)
