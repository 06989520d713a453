-- An acquire is its steps: a load of the suspend counter, one taken from the state, and perhaps a suspend.
use Rattle.std.proofs.Common.{◌≡◌, ℕ, ◌+◌, ◌<◌, Bool, true, false, List, [], ◌∷◌, ◌++◌, Option, None, Ok, sym, refl, ap, ◌∙◌, subst, append_assoc, if◌then◌else◌, lt-ltb}
use Rattle.cqs_core.specs.declared.doings.Doing.TheVariants as doing
use Rattle.cqs_core.specs.declared.entries.Entry.{Entry}
use Rattle.cqs_core.specs.declared.entries.Entry.TheVariants as entry
use Rattle.cqs_core.specs.QueueSteps.{draws}
use Rattle.cqs_rule_laws.specs.declared.view.Facts.{Facts}
use Rattle.cqs_rule_laws.specs.declared.view.Has.{Has as OwnHas}
use Rattle.cqs_rule_laws.specs.declared.view.Sighting.TheVariants.{Word}
use Rattle.cqs_rule_laws.specs.declared.view.Spare.{Spare}
use Rattle.cqs_rule_laws.specs.declared.view.View.{View}
use Rattle.cqs_rule_laws.specs.Called.{Called}
use Rattle.cqs_rule_laws.specs.CallRule.{IsReady}
use Rattle.cqs_rule_laws.specs.Causes.{Counted}
use Rattle.cqs_rule_laws.specs.Events.{in_any_case}
use Rattle.cqs_rule_laws.specs.Facts.{is_owing}
use Rattle.cqs_rule_laws.specs.Layout.{suspends_place, client_place}
use Rattle.cqs_rule_laws.specs.Lists.{Has, IsPrefix}
use Rattle.cqs_rule_laws.specs.Saw.{Saw}
use Rattle.cqs_rule_laws.specs.SegmentSteps.{facts_left}
use Rattle.cqs_rule.specs.Claims.{Claimed, Crowds, HasSpares}
use Rattle.cqs_semaphore_client.specs.SemaphoreHistories.{IsLawful}
use Rattle.cqs_semaphore_client.specs.Semaphore.{semaphore_object, takes_one}
use Rattle.cqs_semaphore_client.specs.SemaphoreSteps.{NextIs, OnState}
use Rattle.cqs_rule.specs.Waits.{place_of}
use Rattle.cqs_rule_laws.proofs.Calls.{called-by, called-then, called-and, saw-then}
use Rattle.cqs_rule_laws.proofs.Causes.{Onward, counted}
use Rattle.cqs_rule_laws.proofs.Lists.{prefix-then}
use Rattle.cqs_rule_laws.proofs.Prefixes.{prefix-is, prefix-same, saw-prefix}
use Rattle.cqs_rule_laws.proofs.Rules.{call-rule, call-rule_own}
use Rattle.cqs_rule.proofs.Claiming.{crowded-after, saw-left, spares-stay}
use Rattle.cqs_suspend.proofs.Sat.{sat-taken, sat-installed}
use Rattle.cqs_words.specs.State.{count_in, is_above_zero}
use Rattle.cqs_semaphore.specs.Answers.{facts_below, IsBelow, IsCrowded, WasFree, WasNone, Takes, Acquires}
use Rattle.cqs_semaphore.specs.Calls.{CallRule}
use Rattle.cqs_semaphore.specs.Causes.{drawn_in, StateWas, state_after}
use Rattle.cqs_semaphore_client.specs.SemaphoreMade.{primitive_of}
use Rattle.cqs_semaphore.specs.Entries.{took_entries, came_by, acquired_entries, acquired_further}
use Rattle.cqs_semaphore.specs.Steps.{WaitsInLine}
use Rattle.cqs_semaphore.specs.declared.answers.Acquired.{Acquired}
use Rattle.cqs_semaphore.specs.declared.answers.Acquired.TheVariants.{Now, Later}
use Rattle.cqs_semaphore.proofs.States.{next-count, state-was, state-later, count-above, count-not_above}

-- what a step that takes one from the state leaves a pass at, by whether one was free
abbrev pub took_by : Bool → ℕ → List Entry
took_by b p = if b then entry.TakeNow p ∷ [] else entry.TakeDoor p ∷ []

abbrev pub facts_took : Bool → ℕ → Facts → Facts
facts_took b n f = record f {
  doing = (if b then doing.Idle else doing.Door);
  has = record f.has { held = (if b then f.has.held + 1 else f.has.held) };
  last = None;
  reached = (if is_owing f.doing then f.reached else 0);
  found = f.found ++ Word (client_place 0) n ∷ [];
}

module _ {T : Type 0} where
  record TookBy (b : Bool) (n : ℕ) (u x : View Entry T) : Type 0 where
    saw : Saw semaphore_object u (facts_took b n u.facts) (took_by b u.number) x
    before : List Entry
    seen : x.seen ≡ before ++ took_by b u.number
    state : count_in n ≡ state_after x before

  took : (b : Bool) (n : ℕ) (u x : View Entry T) → is_above_zero n ≡ b → OnState takes_one in_any_case u n x
      → TookBy b n u x
  took b n u x is o =
      subst (λ z. TookBy z n u x) is (record { saw = o.saw; before = o.before; seen = o.seen; state = o.state })

  -- the counter was loaded below the limit
  below-at : (v u : View Entry T) (n : ℕ) → n < v.limit → NextIs v n u
      → Saw semaphore_object v (facts_below n v.facts) [] u
  below-at v u n low next =
      subst (λ b. Saw semaphore_object v (record v.facts {
        may_draw = (if b then true else v.facts.may_draw);
        found = v.facts.found ++ Word suspends_place n ∷ [];
      }) [] u) (lt-ltb n v.limit low) next.saw

  -- And then slots were claimed, until the pass had two spare.
  record Prepared (v t : View Entry T) : Type 0 where
    saw : Saw semaphore_object v t.facts [] t
    loaded : ℕ
    at_load : List Entry
    below : loaded < v.limit
    counted : Counted drawn_in v loaded at_load t
    spares : List Spare
    heads : List (ℕ × ℕ)
    facts_are : t.facts ≡ facts_left spares heads v.facts.duties (facts_below loaded v.facts)
    spare : HasSpares 2 t

  prepared : (v u t : View Entry T) (n : ℕ) → n < v.limit → NextIs v n u → Claimed 2 u t → Prepared v t
  prepared v u t n low next claimed =
      let was = below-at v u n low next in
      let left = saw-left semaphore_object u t claimed.left.0 t.facts.spare_slots u.facts.duties claimed.left.1 in
      record {
        saw = subst (λ f. Saw semaphore_object v f [] t) (sym left.facts_are)
            (saw-then semaphore_object v u t _ _ [] was left);
        loaded = n;
        at_load = u.seen;
        below = low;
        counted = counted semaphore_object drawn_in v u n next.saw t (next-count v u n next)
            (saw-prefix semaphore_object u t _ _ left) (prefix-is _ _ (ap (λ (f : Facts). f.found) left.facts_are));
        spares = t.facts.spare_slots;
        heads = claimed.left.0;
        facts_are = left.facts_are
            ∙ (λ i. facts_left t.facts.spare_slots claimed.left.0 ((was.facts_are i).duties) (was.facts_are i));
        spare = claimed.enough;
      }

  -- or no slot was free
  pub is-crowded : (v u w : View Entry T) (n : ℕ) → n < v.limit → NextIs v n u → Crowds 2 u w → IsCrowded v w
  is-crowded v u w n low next c =
      let left = saw-left semaphore_object u w c.heads c.spares u.facts.duties c.left in
      record {
        loaded = n;
        before = u.seen;
        below = low;
        counted = counted semaphore_object drawn_in v u n next.saw w (next-count v u n next)
            (saw-prefix semaphore_object u w _ _ left) (prefix-is _ _ (ap (λ (f : Facts). f.found) left.facts_are));
        crowded = crowded-after semaphore_object 2 (facts_below n v.facts) v u w (below-at v u n low next) refl refl c;
      }

  pub crowded-ready : (v w : View Entry T) → IsReady v.facts → IsCrowded v w → IsReady w.facts
  crowded-ready v w ready c =
      let is = c.crowded.facts_are in
      record {
        idle = ap (λ (f : Facts). f.doing) is ∙ ready.idle;
        further = ap (λ (f : Facts). f.has.further) is ∙ ready.further;
      }

  -- The pass took one from the state then.
  pub record Came (b : Bool) (v x : View Entry T) : Type 0 where
    pub called : Called semaphore_object v (took_by b v.number) (took_by b v.number) x
    pub loaded : ℕ
    pub at_load : List Entry
    pub below : loaded < v.limit
    pub counted : Counted drawn_in v loaded at_load x
    pub word : ℕ
    pub word_is : is_above_zero word ≡ b
    pub before : List Entry
    pub found : StateWas v (count_in word) before (took_by b v.number) x
    pub doing : x.facts.doing ≡ (if b then doing.Idle else doing.Door)
    pub held : x.facts.has.held ≡ (if b then v.facts.has.held + 1 else v.facts.has.held)
    pub further : x.facts.has.further ≡ v.facts.has.further
    pub waits : x.facts.waits ≡ v.facts.waits
    pub spare : HasSpares 2 x

  came-then : (b : Bool) (v t x : View Entry T) (m : ℕ) → is_above_zero m ≡ b → Prepared v t
      → OnState takes_one in_any_case t m x → Came b v x
  came-then b v t x m is p o =
      let k : TookBy b m t x = took b m t x is o in
      let number : t.number ≡ v.number = p.saw.same.number in
      let was = p.facts_are in
      let after = k.saw.facts_are in
      let found_t : t.facts.found ≡ v.facts.found ++ Word suspends_place p.loaded ∷ [] =
      ap (λ (f : Facts). f.found) was in
      let found_x : x.facts.found ≡ t.facts.found ++ Word (client_place 0) m ∷ [] = ap (λ (f : Facts). f.found) after in
      record {
        called = subst (λ p. Called semaphore_object v (took_by b p) (took_by b p) x) number
            (called-then semaphore_object v t x _ [] [] (took_by b t.number)
            (called-by semaphore_object v t _ [] p.saw) k.saw);
        loaded = p.loaded;
        at_load = p.at_load;
        below = p.below;
        counted = record {
          since = p.counted.since;
          seen = prefix-then p.at_load t.seen x.seen p.counted.seen (saw-prefix semaphore_object t x _ _ k.saw);
          drawn = p.counted.drawn;
          found = prefix-then _ t.facts.found x.facts.found p.counted.found (Word (client_place 0) m ∷ [], found_x);
        };
        word = m;
        word_is = is;
        before = k.before;
        found = subst (λ p. StateWas v (count_in m) k.before (took_by b p) x) number
            (state-was v t x x _ (took_by b t.number) k.before m (Word suspends_place p.loaded ∷ [])
            (saw-prefix semaphore_object v t _ _ p.saw) k.saw
            k.seen k.state
            (found_x ∙ (ap (λ l. l ++ Word (client_place 0) m ∷ []) found_t
            ∙ append_assoc v.facts.found (Word suspends_place p.loaded ∷ []) (Word (client_place 0) m ∷ [])))
            (prefix-same x.seen) refl (prefix-same x.facts.found));
        doing = ap (λ (f : Facts). f.doing) after;
        held = ap (λ (f : Facts). f.has.held) after
            ∙ ap (λ (f : Facts). if b then f.has.held + 1 else f.has.held) was;
        further = ap (λ (f : Facts). f.has.further) after ∙ ap (λ (f : Facts). f.has.further) was;
        waits = ap (λ (f : Facts). f.waits) after ∙ ap (λ (f : Facts). f.waits) was;
        spare = spares-stay 2 t x k.saw.same (ap (λ (f : Facts). f.spare_slots) after) p.spare;
      }

  pub came : (b : Bool) (v u t x : View Entry T) (n m : ℕ) → is_above_zero m ≡ b → n < v.limit → NextIs v n u
      → Claimed 2 u t → OnState takes_one in_any_case t m x → Came b v x
  came b v u t x n m is low next claimed o = came-then b v t x m is (prepared v u t n low next claimed) o

  -- a permit was free
  pub below-now : (b : Bool) (v x : View Entry T) → Came b v x → IsBelow v x
  below-now b v x c = record { loaded = c.loaded; before = c.at_load; below = c.below; counted = c.counted }

  pub was-free : (v x : View Entry T) → IsReady v.facts → Came true v x → WasFree v x
  was-free v x r c = record {
    spare = c.spare;
    count = count_in c.word;
    before = c.before;
    free = count-above c.word c.word_is;
    found = c.found;
    rests = record {
      ready = record { idle = c.doing; further = c.further ∙ r.further };
      held_is = c.held;
      waits_are = c.waits;
    };
  }

  pub below-later : (b : Bool) (v x w : View Entry T) → Came b v x → IsPrefix x.seen w.seen
      → IsPrefix x.facts.found w.facts.found → IsBelow v w
  below-later b v x w c seen found = record {
    loaded = c.loaded;
    before = c.at_load;
    below = c.below;
    counted = record {
      since = c.counted.since;
      seen = prefix-then c.at_load x.seen w.seen c.counted.seen seen;
      drawn = c.counted.drawn;
      found = prefix-then _ x.facts.found w.facts.found c.counted.found found;
    };
  }

  pub was-none : (v x w : View Entry T) → Came false v x → Onward x w → WasNone v w
  was-none v x w c on = record {
    count = count_in c.word;
    before = c.before;
    none = count-not_above c.word c.word_is;
    found = state-later v x w _ c.before _ c.found on.seen on.found on.opening;
  }

  pub waits-called : (v x w : View Entry T) (a : Acquired) → Came false v x → WaitsInLine x a w
      → Has v.number v.own → IsLawful w.opening.sync w.opening.size w.seen
      → CallRule v (acquired_entries v.number (Ok a)) (acquired_further (Ok a)) w
  waits-called v x w (Now permit) c e own legal =
      let k = e.0 in
      subst (λ (n : Option ℕ). CallRule v (took_entries v.number n) (came_by n) w) (sym e.2)
      (call-rule semaphore_object v w (entry.TakeDoor v.number ∷ entry.Enter v.number k ∷ []) (entry.Deliver k ∷ [])
      (subst (λ p. Called semaphore_object v
      (entry.TakeDoor v.number ∷ entry.Enter p k ∷ entry.Deliver k ∷ []) (entry.Deliver k ∷ []) w) c.called.same.number
      (called-and semaphore_object v x w _ _ _ _ c.called e.3.called))
      (λ n. refl, (λ n. refl, tt)) (λ n. refl, tt) own legal)
  waits-called v x w (Later wait) c e own legal =
      let k = (place_of wait).index in
      call-rule_own semaphore_object v w (entry.TakeDoor v.number ∷ entry.Enter v.number k ∷ []) []
      (subst (λ p. Called semaphore_object v (entry.TakeDoor v.number ∷ entry.Enter p k ∷ []) [] w) c.called.same.number
      (called-and semaphore_object v x w _ _ _ _ c.called e.0.called))
      (λ n. refl, (λ n. refl, tt)) own legal

  pub waits-below : (v x w : View Entry T) (a : Acquired) → Came false v x → WaitsInLine x a w → IsBelow v w
  waits-below v x w (Now permit) c e =
      let on = (sat-taken semaphore_object primitive_of draws 2 e.0 e.1 x w e.3).onward in
      below-later false v x w c on.seen on.found
  waits-below v x w (Later wait) c e =
      let on = (sat-installed semaphore_object primitive_of draws 0 (place_of wait).index 0 x w e.0).onward in
      below-later false v x w c on.seen on.found

  pub waits-acquired : (v x w : View Entry T) (a : Acquired) → IsReady v.facts → Came false v x → WaitsInLine x a w
      → Acquires v a w
  waits-acquired v x w (Now permit) r c e =
      let k = e.0 in
      let s = sat-taken semaphore_object primitive_of draws 2 k e.1 x w e.3 in
      subst (λ (n : Option ℕ). Takes v n w) (sym e.2) (
        was-none v x w c s.onward,
        s.cell.0,
        record {
          ready = record { idle = s.idle; further = ap (λ (h : OwnHas). h.further) s.has_is ∙ (c.further ∙ r.further) };
          held_is = ap (λ (h : OwnHas). h.held) s.has_is ∙ ap (λ h. h + 1) c.held;
          waits_are = s.waits_are ∙ c.waits;
        },
      )
  waits-acquired v x w (Later wait) r c e =
      let k = (place_of wait).index in
      let s = sat-installed semaphore_object primitive_of draws 0 k 0 x w e.0 in (
        was-none v x w c s.onward,
        s.cell.0,
        e.1,
        record {
          ready = record { idle = s.idle; further = ap (λ (h : OwnHas). h.further) s.has_is ∙ (c.further ∙ r.further) };
          held_is = ap (λ (h : OwnHas). h.held) s.has_is ∙ c.held;
          waits_are = s.waits_are ∙ ap (λ l. l ++ k ∷ []) c.waits;
        },
      )
