-- A try is its steps: a load of the state, and at most one exchange.
use Rattle.std.proofs.Common.{◌≡◌, ◌≢◌, ℕ, ◌+◌, Bool, true, false, List, [], ◌∷◌, ◌++◌, None, sym, refl, ap, ◌∙◌, subst, append_assoc, if◌then◌else◌, ◌==◌, ne_eqb}
use Rattle.std.proofs.lemmas.Bool.{eq-eqb}
use Rattle.std.proofs.lemmas.List.{append-nil}
use Rattle.cqs_core.specs.declared.doings.Doing.TheVariants as doing
use Rattle.cqs_core.specs.declared.entries.Entry.{Entry}
use Rattle.cqs_core.specs.declared.entries.Entry.TheVariants as entry
use Rattle.cqs_core.specs.SemaphoreEntries.{object_after}
use Rattle.cqs_core.specs.SemaphoreShown.{state_of}
use Rattle.cqs_rule_laws.specs.declared.view.Facts.{Facts}
use Rattle.cqs_rule_laws.specs.declared.view.Sighting.TheVariants.{Word}
use Rattle.cqs_rule_laws.specs.declared.view.View.{View}
use Rattle.cqs_rule_laws.specs.Called.{Called}
use Rattle.cqs_rule_laws.specs.CallRule.{IsReady}
use Rattle.cqs_rule_laws.specs.Events.{in_any_case, where_found}
use Rattle.cqs_rule_laws.specs.Facts.{is_owing}
use Rattle.cqs_rule_laws.specs.Layout.{client_place}
use Rattle.cqs_rule_laws.specs.Saw.{Saw}
use Rattle.cqs_semaphore_client.specs.Semaphore.{semaphore_object, loads_to_try, tries}
use Rattle.cqs_semaphore_client.specs.SemaphoreSteps.{OnState}
use Rattle.cqs_rule_laws.proofs.Calls.{called-by, called-then}
use Rattle.cqs_rule_laws.proofs.Prefixes.{prefix-same, saw-prefix}
use Rattle.cqs_words.specs.State.{count_in, is_above_zero}
use Rattle.cqs_semaphore.specs.Answers.{IsContended, WasBusy, WasGot}
use Rattle.cqs_semaphore.specs.Calls.{Rests}
use Rattle.cqs_semaphore.specs.Causes.{StateWas, FoundJust, state_after}
use Rattle.cqs_semaphore.proofs.States.{state-was, state-later, count-above, count-not_above, count-same}

abbrev pub busy_by : Bool → ℕ → List Entry
busy_by b p = if b then [] else entry.TryBusy p ∷ []

abbrev pub facts_loaded : Bool → ℕ → Facts → Facts
facts_loaded b n f = record f {
  doing = (if b then doing.TryAt (count_in n) else doing.Idle);
  last = None;
  reached = (if is_owing f.doing then f.reached else 0);
  found = f.found ++ Word (client_place 0) n ∷ [];
}

abbrev pub got_by : Bool → ℕ → List Entry
got_by b p = if b then entry.TryGot p ∷ [] else []

abbrev pub facts_swapped : Bool → ℕ → Facts → Facts
facts_swapped b n f = record f {
  doing = doing.Idle;
  has = record f.has { held = (if b then f.has.held + 1 else f.has.held) };
  last = None;
  reached = (if is_owing f.doing then f.reached else 0);
  found = f.found ++ Word (client_place 0) n ∷ [];
}

module _ {T : Type 0} where
  pub record LoadedBy (b : Bool) (n : ℕ) (v u : View Entry T) : Type 0 where
    pub saw : Saw semaphore_object v (facts_loaded b n v.facts) (busy_by b v.number) u
    pub before : List Entry
    pub seen : u.seen ≡ before ++ busy_by b v.number
    pub state : count_in n ≡ state_after u before

  pub loaded : (b : Bool) (n : ℕ) (v u : View Entry T) → is_above_zero n ≡ b → OnState loads_to_try in_any_case v n u
      → LoadedBy b n v u
  loaded b n v u is o =
      subst (λ z. LoadedBy z n v u) is (record { saw = o.saw; before = o.before; seen = o.seen; state = o.state })

  pub record SwappedBy (b : Bool) (n : ℕ) (u w : View Entry T) : Type 0 where
    pub saw : Saw semaphore_object u (facts_swapped b n u.facts) (got_by b u.number) w
    pub before : List Entry
    pub seen : w.seen ≡ before ++ got_by b u.number
    pub state : count_in n ≡ state_after w before

  swapped : (b : Bool) (n m : ℕ) (u w : View Entry T) → (m == n) ≡ b → OnState tries (where_found n) u m w
      → SwappedBy b m u w
  swapped b n m u w is o =
      subst (λ z. SwappedBy z m u w) is (record { saw = o.saw; before = o.before; seen = o.seen; state = o.state })

  pub got : (n m : ℕ) (u w : View Entry T) → m ≡ n → OnState tries (where_found n) u m w → SwappedBy true m u w
  got n m u w is o = swapped true n m u w (eq-eqb m n is) o

  pub missed : (n m : ℕ) (u w : View Entry T) → m ≢ n → OnState tries (where_found n) u m w → SwappedBy false m u w
  missed n m u w other o = swapped false n m u w (ne_eqb m n other) o

  -- none was free
  pub busy-called : (v w : View Entry T) (n : ℕ) → LoadedBy false n v w
      → Called semaphore_object v (entry.TryBusy v.number ∷ []) (entry.TryBusy v.number ∷ []) w
  busy-called v w n l = called-by semaphore_object v w _ _ l.saw

  busy-found : (v w : View Entry T) (n : ℕ) (l : LoadedBy false n v w)
      → StateWas v (count_in n) l.before (entry.TryBusy v.number ∷ []) w
  busy-found v w n l =
      state-was v v w w _ _ l.before n [] (prefix-same v.seen) l.saw l.seen l.state
      (ap (λ (f : Facts). f.found) l.saw.facts_are) (prefix-same w.seen) refl (prefix-same w.facts.found)

  busy-rests : (v w : View Entry T) (n : ℕ) → IsReady v.facts → LoadedBy false n v w
      → Rests v v.facts.has.held v.facts.waits w
  busy-rests v w n r l = record {
    ready = record {
      idle = ap (λ (f : Facts). f.doing) l.saw.facts_are;
      further = ap (λ (f : Facts). f.has.further) l.saw.facts_are ∙ r.further;
    };
    held_is = ap (λ (f : Facts). f.has.held) l.saw.facts_are;
    waits_are = ap (λ (f : Facts). f.waits) l.saw.facts_are;
  }

  -- the call found nothing else
  busy-steps : (v w : View Entry T) (n : ℕ) → LoadedBy false n v w → FoundJust (count_in n ∷ []) v w
  busy-steps v w n l =
      record { words = n ∷ []; are = refl; found = ap (λ (f : Facts). f.found) l.saw.facts_are }

  pub was-busy : (v w : View Entry T) (n : ℕ) → is_above_zero n ≡ false → IsReady v.facts → LoadedBy false n v w
      → WasBusy v w
  was-busy v w n is r l = record {
    count = count_in n;
    before = l.before;
    none = count-not_above n is;
    found = busy-found v w n l;
    last = l.seen;
    steps = busy-steps v w n l;
    rests = busy-rests v w n r l;
  }

  -- one was, and the exchange was made, or it was not
  pub swap-called : (b : Bool) (v u w : View Entry T) (n m : ℕ) → LoadedBy true n v u → SwappedBy b m u w
      → Called semaphore_object v (got_by b v.number) (got_by b v.number) w
  swap-called b v u w n m l s =
      subst (λ p. Called semaphore_object v (got_by b p) (got_by b p) w) l.saw.same.number
      (called-then semaphore_object v u w _ [] [] (got_by b u.number) (called-by semaphore_object v u _ [] l.saw) s.saw)

  swap-found : (b : Bool) (v u w : View Entry T) (n m : ℕ) (l : LoadedBy true n v u) (s : SwappedBy b m u w)
      → StateWas v (count_in m) s.before (got_by b v.number) w
  swap-found b v u w n m l s =
      let found_u : u.facts.found ≡ v.facts.found ++ Word (client_place 0) n ∷ [] =
      ap (λ (f : Facts). f.found) l.saw.facts_are in
      let found_w : w.facts.found ≡ u.facts.found ++ Word (client_place 0) m ∷ [] =
      ap (λ (f : Facts). f.found) s.saw.facts_are in
      subst (λ p. StateWas v (count_in m) s.before (got_by b p) w) l.saw.same.number
      (state-was v u w w _ (got_by b u.number) s.before m (Word (client_place 0) n ∷ [])
      (saw-prefix semaphore_object v u _ _ l.saw) s.saw s.seen
      s.state (found_w ∙ (ap (λ l. l ++ Word (client_place 0) m ∷ []) found_u
      ∙ append_assoc v.facts.found (Word (client_place 0) n ∷ []) (Word (client_place 0) m ∷ [])))
      (prefix-same w.seen) refl (prefix-same w.facts.found))

  swap-rests : (b : Bool) (v u w : View Entry T) (n m : ℕ) → IsReady v.facts → LoadedBy true n v u
      → SwappedBy b m u w
      → Rests v (if b then v.facts.has.held + 1 else v.facts.has.held) v.facts.waits w
  swap-rests b v u w n m r l s =
      let was = l.saw.facts_are in
      let now = s.saw.facts_are in
      record {
        ready = record {
          idle = ap (λ (f : Facts). f.doing) now;
          further = ap (λ (f : Facts). f.has.further) now ∙ (ap (λ (f : Facts). f.has.further) was ∙ r.further);
        };
        held_is = ap (λ (f : Facts). f.has.held) now
            ∙ ap (λ (f : Facts). if b then f.has.held + 1 else f.has.held) was;
        waits_are = ap (λ (f : Facts). f.waits) now ∙ ap (λ (f : Facts). f.waits) was;
      }

  swap-steps : (b : Bool) (v u w : View Entry T) (n m : ℕ) → LoadedBy true n v u → SwappedBy b m u w
      → FoundJust (count_in n ∷ count_in m ∷ []) v w
  swap-steps b v u w n m l s = record {
    words = n ∷ m ∷ [];
    are = refl;
    found = ap (λ (f : Facts). f.found) s.saw.facts_are
        ∙ (ap (λ (f : Facts). f.found ++ Word (client_place 0) m ∷ []) l.saw.facts_are
        ∙ append_assoc v.facts.found (Word (client_place 0) n ∷ []) (Word (client_place 0) m ∷ []));
  }

  pub was-got : (v u w : View Entry T) (n m : ℕ) → is_above_zero n ≡ true → m ≡ n → IsReady v.facts
      → LoadedBy true n v u → SwappedBy true m u w → WasGot v w
  was-got v u w n m above is r l s = record {
    count = count_in m;
    before = s.before;
    free = count-above m (ap is_above_zero is ∙ above);
    found = swap-found true v u w n m l s;
    last = subst (λ p. w.seen ≡ s.before ++ got_by true p) l.saw.same.number s.seen;
    steps = subst (λ k. FoundJust (count_in k ∷ count_in m ∷ []) v w) (sym is) (swap-steps true v u w n m l s);
    rests = swap-rests true v u w n m r l s;
  }

  -- others were first: a pass that is alone has none beside it
  never-alone : (v u w : View Entry T) (n m : ℕ) → m ≢ n → LoadedBy true n v u → SwappedBy false m u w → v.alone ≢ true
  never-alone v u w n m other l s = λ alone.
      let none : s.saw.between ≡ [] = s.saw.sole (l.saw.same.alone ∙ alone) in
      let same : w.seen ≡ u.seen = s.saw.seen ∙ (append-nil _ ∙ (ap (λ z. u.seen ++ z) none ∙ append-nil u.seen)) in
      let at_load : l.before ≡ u.seen = sym (append-nil l.before) ∙ sym l.seen in
      let at_swap : s.before ≡ w.seen = sym (append-nil s.before) ∙ sym s.seen in
      let histories : l.before ≡ s.before = at_load ∙ (sym same ∙ sym at_swap) in
      let states : count_in n ≡ count_in m =
      l.state ∙ ((λ i. state_after u (histories i))
      ∙ ((λ i. state_of
      (object_after (sym s.saw.same.opening i).size s.before)) ∙ sym s.state)) in
      other (sym (count-same n m states))

  pub contended : (v u w : View Entry T) (n m : ℕ) → is_above_zero n ≡ true → m ≢ n → IsReady v.facts
      → LoadedBy true n v u → SwappedBy false m u w → IsContended v (count_in n) (count_in m) w
  contended v u w n m above other r l s =
      let found_u : u.facts.found ≡ v.facts.found ++ Word (client_place 0) n ∷ [] =
      ap (λ (f : Facts). f.found) l.saw.facts_are in
      let found_w : w.facts.found ≡ u.facts.found ++ Word (client_place 0) m ∷ [] =
      ap (λ (f : Facts). f.found) s.saw.facts_are in
      let at_swap : s.before ≡ w.seen = sym (append-nil s.before) ∙ sym s.seen in
      record {
        before = l.before;
        free = count-above n above;
        loaded = state-later v u w _ l.before []
            (state-was v v u u _ [] l.before n [] (prefix-same v.seen) l.saw l.seen l.state found_u (prefix-same u.seen)
            refl
            (prefix-same u.facts.found))
            (saw-prefix semaphore_object u w _ _ s.saw) (Word (client_place 0) m ∷ [], found_w) s.saw.same.opening;
        exchanged = subst (λ h. StateWas v (count_in m) h [] w) at_swap (swap-found false v u w n m l s);
        differ = λ same. other (sym (count-same n m same));
        together = never-alone v u w n m other l s;
        steps = swap-steps false v u w n m l s;
        rests = swap-rests false v u w n m r l s;
      }
