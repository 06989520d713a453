-- A release is its steps: one is added to the state, and perhaps a resumption.
use Rattle.std.proofs.Common.{◌≡◌, ℕ, ◌-◌, Bool, true, false, List, [], ◌∷◌, ◌++◌, Option, None, sym, refl, ap, ◌∙◌, subst, if◌then◌else◌}
use Rattle.cqs_core.specs.declared.doings.Doing.TheVariants as doing
use Rattle.cqs_core.specs.declared.entries.Entry.{Entry}
use Rattle.cqs_core.specs.declared.entries.Entry.TheVariants as entry
use Rattle.cqs_core.specs.SemaphoreNames.{entry_names}
use Rattle.cqs_rule_laws.specs.declared.view.Facts.{Facts}
use Rattle.cqs_rule_laws.specs.declared.view.Spare.{Spare}
use Rattle.cqs_rule_laws.specs.declared.view.Sighting.TheVariants.{Word}
use Rattle.cqs_rule_laws.specs.declared.view.View.{View}
use Rattle.cqs_rule_laws.specs.Called.{Called}
use Rattle.cqs_rule_laws.specs.CallRule.{IsReady}
use Rattle.cqs_rule_laws.specs.Events.{in_any_case}
use Rattle.cqs_rule_laws.specs.Facts.{is_owing}
use Rattle.cqs_rule_laws.specs.Layout.{client_place}
use Rattle.cqs_rule_laws.specs.Lists.{Has}
use Rattle.cqs_rule_laws.specs.Saw.{Saw}
use Rattle.cqs_rule_laws.specs.SegmentSteps.{facts_left}
use Rattle.cqs_semaphore_client.specs.SemaphoreHistories.{IsLawful}
use Rattle.cqs_semaphore_client.specs.Semaphore.{semaphore_object, gives_one}
use Rattle.cqs_semaphore_client.specs.SemaphoreSteps.{OnState}
use Rattle.cqs_rule_laws.proofs.Calls.{called-by, called-and, saw-then}
use Rattle.cqs_rule_laws.proofs.Prefixes.{prefix-same}
use Rattle.cqs_rule_laws.proofs.Rules.{NoneName, call-rule}
use Rattle.cqs_rule.proofs.Claiming.{saw-left, spares-stay}
use Rattle.cqs_rule.specs.Claims.{Claimed, HasSpares}
use Rattle.cqs_resume.specs.declared.resumed.Resumed.{Resumed}
use Rattle.cqs_resume.specs.declared.resumed.Resumed.TheVariants as resumed
use Rattle.cqs_words.specs.State.{count_in, is_below_zero}
use Rattle.cqs_semaphore.specs.declared.answers.Released.{Released}
use Rattle.cqs_semaphore.specs.declared.answers.Released.TheVariants.{Freed, Sent, Left, Void, Under}
use Rattle.cqs_semaphore.specs.Answers.{Ends, Releases, WasUnwanted, WasWanted}
use Rattle.cqs_semaphore.specs.Calls.{CallRule}
use Rattle.cqs_semaphore.specs.Causes.{StateWas, state_after}
use Rattle.cqs_semaphore.specs.Entries.{gave_entries, resumed_further}
use Rattle.cqs_semaphore.specs.Steps.{as_released, HasEnded}
use Rattle.cqs_semaphore.proofs.ResumeSteps.{Follows, ends-so, ends-called, follows-now}
use Rattle.cqs_semaphore.proofs.States.{state-was, state-later, count-below, count-not_below}

abbrev pub given_by : Bool → ℕ → List Entry
given_by b p = if b then entry.GiveSent p ∷ [] else entry.GiveFreed p ∷ []

abbrev pub facts_gave : Bool → ℕ → Facts → Facts
facts_gave b n f = record f {
  doing = (if b then doing.Owes else doing.Idle);
  has = record f.has { held = f.has.held - 1; payload = 0 };
  last = None;
  reached = (if is_owing f.doing then f.reached else 0);
  found = f.found ++ Word (client_place 0) n ∷ [];
}

-- a delivery names nobody
pub further-names : (r : Released) → NoneName entry_names (resumed_further r)
further-names Freed = tt
further-names (Sent k) = (λ n. refl, tt)
further-names (Left k) = tt
further-names (Void k) = tt
further-names (Under under) = tt

sent-entries : (p : ℕ) (r : Resumed) → entry.GiveSent p ∷ [] ≡ gave_entries p (as_released r)
sent-entries p (resumed.Served k) = refl
sent-entries p (resumed.Left k) = refl
sent-entries p (resumed.Refused k) = refl
sent-entries p (resumed.Under t) = refl

module _ {T : Type 0} where
  -- a slot was claimed where none was spare, and then one was added to the state
  pub record GaveBy (b : Bool) (n : ℕ) (v u : View Entry T) : Type 0 where
    pub spares : List Spare
    pub heads : List (ℕ × ℕ)
    pub saw : Saw semaphore_object v (facts_gave b n (facts_left spares heads v.facts.duties v.facts))
        (given_by b v.number) u
    pub before : List Entry
    pub seen : u.seen ≡ before ++ given_by b v.number
    pub state : count_in n ≡ state_after u before
    pub short : is_below_zero n ≡ b
    pub spare : HasSpares 1 u

  pub gave : (b : Bool) (n : ℕ) (v t u : View Entry T) → is_below_zero n ≡ b → Claimed 1 v t
      → OnState gives_one in_any_case t n u → GaveBy b n v u
  gave b n v t u is claimed o =
      let z = is_below_zero n in
      let left = saw-left semaphore_object v t claimed.left.0 t.facts.spare_slots v.facts.duties claimed.left.1 in
      let number : t.number ≡ v.number = left.same.number in
      subst (λ z. GaveBy z n v u) is
      (record {
        spares = t.facts.spare_slots;
        heads = claimed.left.0;
        saw = subst (λ (y : Facts × ℕ). Saw semaphore_object v (facts_gave z n y.0) (given_by z y.1) u)
            (λ i. (left.facts_are i, number i)) (saw-then semaphore_object v t u _ _ _ left o.saw);
        before = o.before;
        seen = subst (λ p. u.seen ≡ o.before ++ given_by z p) number o.seen;
        state = o.state;
        short = refl;
        spare = spares-stay 1 t u o.saw.same (ap (λ (f : Facts). f.spare_slots) o.saw.facts_are) claimed.enough;
      })

  pub follows-give : (b : Bool) (n : ℕ) (v u : View Entry T) → GaveBy b n v u → Follows v u
  follows-give b n v u g = record {
    same = g.saw.same;
    passed = ap (λ (f : Facts). f.passed) g.saw.facts_are;
    heads = g.heads;
    heads_are = ap (λ (f : Facts). f.heads) g.saw.facts_are;
  }

  pub gave-called : (b : Bool) (v u : View Entry T) (n : ℕ) → GaveBy b n v u
      → Called semaphore_object v (given_by b v.number) (given_by b v.number) u
  gave-called b v u n g = called-by semaphore_object v u _ _ g.saw

  pub gave-found : (b : Bool) (v u : View Entry T) (n : ℕ) (g : GaveBy b n v u)
      → StateWas v (count_in n) g.before (given_by b v.number) u
  gave-found b v u n g =
      state-was v v u u _ _ g.before n [] (prefix-same v.seen) g.saw g.seen g.state
      (ap (λ (f : Facts). f.found) g.saw.facts_are) (prefix-same u.seen) refl (prefix-same u.facts.found)

  -- nobody waited for want of a permit
  pub freed : (v u : View Entry T) (n : ℕ) → IsReady v.facts → GaveBy false n v u → WasUnwanted v u
  freed v u n r g =
      let is = g.saw.facts_are in
      record {
        spare = g.spare;
        count = count_in n;
        before = g.before;
        enough = count-not_below n g.short;
        found = gave-found false v u n g;
        rests = record {
          ready = record {
            idle = ap (λ (f : Facts). f.doing) is;
            further = ap (λ (f : Facts). f.has.further) is ∙ r.further;
          };
          held_is = ap (λ (f : Facts). f.has.held) is;
          waits_are = ap (λ (f : Facts). f.waits) is;
        };
      }

  -- somebody did, and the permit was sent
  wanted : (v u w : View Entry T) (n : ℕ) (ticket : Option ℕ) (payload : ℕ) (r : Resumed) → GaveBy true n v u
      → HasEnded ticket payload u (as_released r) w → WasWanted v w
  wanted v u w n ticket payload r g e =
      let on = (ends-called u w ticket payload e.0 e.2).1 in
      record {
        count = count_in n;
        before = g.before;
        short = count-below n g.short;
        found = state-later v u w _ g.before _ (gave-found true v u n g) on.seen on.found on.opening;
      }

  sent-ends : (v u w : View Entry T) (n : ℕ) (ticket : Option ℕ) (payload : ℕ) (r : Resumed) → IsReady v.facts
      → GaveBy true n v u → HasEnded ticket payload u (as_released r) w
      → Ends v (v.facts.has.held - 1) v.facts.waits (as_released r) w
  sent-ends v u w n ticket payload r ready g e =
      let is = g.saw.facts_are in
      subst (λ a. Ends v (v.facts.has.held - 1) v.facts.waits a w) (sym e.1)
      (subst (λ (z : ℕ × List ℕ). Ends v z.0 z.1 (as_released e.0) w)
      (λ i. (ap (λ (f : Facts). f.has.held) is i, ap (λ (f : Facts). f.waits) is i))
      (ends-so v u w ticket payload e.0 (follows-give true n v u g)
      (ap (λ (f : Facts). f.has.further) is ∙ ready.further) e.2))

  releases-by : (v u w : View Entry T) (n : ℕ) (ticket : Option ℕ) (payload : ℕ) (r : Resumed) → IsReady v.facts
      → GaveBy true n v u → HasEnded ticket payload u (as_released r) w → Releases v (as_released r) w
  releases-by v u w n ticket payload (resumed.Served k) ready g e = (
    wanted v u w n ticket payload (resumed.Served k) g e,
    sent-ends v u w n ticket payload (resumed.Served k) ready g e,
  )
  releases-by v u w n ticket payload (resumed.Left k) ready g e =
      (wanted v u w n ticket payload (resumed.Left k) g e, sent-ends v u w n ticket payload (resumed.Left k) ready g e)
  releases-by v u w n ticket payload (resumed.Refused k) ready g e = (
    wanted v u w n ticket payload (resumed.Refused k) g e,
    sent-ends v u w n ticket payload (resumed.Refused k) ready g e,
  )
  releases-by v u w n ticket payload (resumed.Under t) ready g e = (
    wanted v u w n ticket payload (resumed.Under t) g e,
    sent-ends v u w n ticket payload (resumed.Under t) ready g e,
  )

  pub releases-so : (v u w : View Entry T) (n : ℕ) (ticket : Option ℕ) (payload : ℕ) (a : Released) → IsReady v.facts
      → GaveBy true n v u → HasEnded ticket payload u a w → Releases v a w
  releases-so v u w n ticket payload a ready g e =
      subst (λ z. Releases v z w) (sym e.1)
      (releases-by v u w n ticket payload e.0 ready g
      (subst (λ z. HasEnded ticket payload u z w) e.1 e))

  pub released-rule : (v u w : View Entry T) (n : ℕ) (ticket : Option ℕ) (payload : ℕ) (a : Released)
      → GaveBy true n v u → HasEnded ticket payload u a w → Has v.number v.own
      → IsLawful w.opening.sync w.opening.size w.seen
      → CallRule v (gave_entries v.number a) (resumed_further a) w
  released-rule v u w n ticket payload a g e own legal =
      let r = as_released e.0 in
      subst (λ z. CallRule v (gave_entries v.number z) (resumed_further z) w) (sym e.1)
      (subst (λ es. CallRule v es (resumed_further r) w) (sent-entries v.number e.0)
      (call-rule semaphore_object v w (entry.GiveSent v.number ∷ []) (resumed_further r)
      (called-and semaphore_object v u w _ _ _ _ (gave-called true v u n g)
      (ends-called u w ticket payload e.0 e.2).0)
      (λ n. refl, tt) (further-names r) own legal))

  -- the end of one that was handed back
  pub ends-rule : (v w : View Entry T) (ticket : Option ℕ) (payload : ℕ) (a : Released) → HasEnded ticket payload v a w
      → Has v.number v.own → IsLawful w.opening.sync w.opening.size w.seen → CallRule v [] (resumed_further a) w
  ends-rule v w ticket payload a e own legal =
      let r = as_released e.0 in
      subst (λ z. CallRule v [] (resumed_further z) w) (sym e.1)
      (call-rule semaphore_object v w [] (resumed_further r) (ends-called v w ticket payload e.0 e.2).0 tt
      (further-names r) own legal)

  pub ends-by : (v w : View Entry T) (ticket : Option ℕ) (payload : ℕ) (a : Released) → v.facts.has.further ≡ 0
      → HasEnded ticket payload v a w → Ends v v.facts.has.held v.facts.waits a w
  ends-by v w ticket payload a none e =
      subst (λ z. Ends v v.facts.has.held v.facts.waits z w) (sym e.1)
      (ends-so v v w ticket payload e.0 (follows-now v) none e.2)
