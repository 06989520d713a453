-- A leaving is its steps: the load of the remaining number, perhaps the exchange, and the settling of the cell.
use Rattle.std.proofs.Common.{◌≡◌, ◌≢◌, ◌⊎◌, refl, inl, inr, ℕ, ◌+◌, ◌<◌, ◌==◌, Bool, true, false, List, [], ◌∷◌, ◌++◌, sym, ap, ◌∙◌, subst, arith, eq-eqb, if◌then◌else◌}
use Rattle.std.proofs.lemmas.Bool.{cases_eq}
use Rattle.std.proofs.lemmas.List.{append-nil, append_cancel_right}
use Rattle.cqs_core.specs.declared.doings.Doing.TheVariants as doing
use Rattle.cqs_barrier_object.specs.declared.entries.BarrierEntry.{BarrierEntry}
use Rattle.cqs_barrier_object.specs.declared.entries.BarrierEntry.TheVariants as entry
use Rattle.cqs_barrier_object.specs.BarrierEntries.{IsLegal, object_after}
use Rattle.cqs_barrier_object.proofs.Conserved.{never-legal}
use Rattle.cqs_rule_laws.specs.declared.config.Place.{Place}
use Rattle.cqs_rule_laws.specs.declared.view.Facts.{Facts}
use Rattle.cqs_rule_laws.specs.declared.view.Has.{Has as OwnHas}
use Rattle.cqs_rule_laws.specs.declared.view.Opening.{Opening}
use Rattle.cqs_rule_laws.specs.declared.view.View.{View}
use Rattle.cqs_rule_laws.specs.Called.{Called}
use Rattle.cqs_rule_laws.specs.Events.{in_any_case, where_found, facts_moved, moment}
use Rattle.cqs_rule_laws.specs.Layout.{client_place}
use Rattle.cqs_rule_laws.specs.Lists.{IsPrefix, without}
use Rattle.cqs_rule_laws.specs.Placed.{KnowsPlace}
use Rattle.cqs_rule_laws.specs.Ruled.{number_at}
use Rattle.cqs_rule_laws.specs.Saw.{Saw}
use Rattle.cqs_rule_laws.proofs.Calls.{called-by, called-then}
use Rattle.cqs_rule_laws.proofs.Lists.{prefix-then}
use Rattle.cqs_rule_laws.proofs.Prefixes.{prefix-same, saw-prefix}
use Rattle.cqs_rule.proofs.Places.{knows-saw}
use Rattle.cqs_cell.specs.Transitions.{MadeBy}
use Rattle.cqs_core.specs.QueueSteps.{settles, settles_owing, refuses, refuses_value, row_of}
use Rattle.cqs_barrier.specs.declared.answers.Leaving.{Leaving}
use Rattle.cqs_barrier.specs.Barrier.{barrier_object, looks_to_leave, withdraws}
use Rattle.cqs_barrier.specs.BarrierWord.{OnWord}
use Rattle.cqs_barrier.specs.Causes.{primitive_of}
use Rattle.cqs_barrier.specs.Leaving.{HasLeaving, HasLoaded, LookedAt, RemainingWas, WasSome, WasNone, WasContended, Out, look_entries}
use Rattle.cqs_barrier.specs.Word.{parties_in, remaining_in, is_over}

module _ {T : Type 0} where
  -- what was found at a step from u to x, where the call had come to u and goes on from x
  pub remaining-was : (v u x w : View BarrierEntry T) (f : Facts) (es before : List BarrierEntry) (n : ℕ)
      → IsPrefix v.seen u.seen → Saw barrier_object u f es x → x.seen ≡ before ++ es
      → n ≡ (object_after x.opening.size before).remaining
      → IsPrefix x.seen w.seen → w.opening ≡ x.opening → RemainingWas v n before es w
  remaining-was v u x w f es before n old s seen is on opening =
      let here : before ≡ u.seen ++ s.between =
      append_cancel_right before (u.seen ++ s.between) es (sym seen ∙ s.seen) in
      record {
        since = prefix-then v.seen u.seen before old (s.between, here);
        seen = subst (λ l. IsPrefix l w.seen) seen on;
        remaining = is ∙ ap (λ (o : Opening). (object_after o.size before).remaining) (sym opening);
      }

  -- the cell was settled by a step without an entry: the pass is idle, and the wait is over
  pub record Closed (k : ℕ) (u w : View BarrierEntry T) : Type 0 where
    pub facts : Facts
    pub saw : Saw barrier_object u facts [] w
    pub doing_is : w.facts.doing ≡ doing.Idle
    pub has : w.facts.has ≡ u.facts.has
    pub waits : w.facts.waits ≡ without k u.facts.waits

module _ {T : Type 0} (tries k payload : ℕ) (u w : View BarrierEntry T) where
  pub settles-closed : MadeBy barrier_object primitive_of settles (row_of settles) tries k payload u w → Closed k u w
  settles-closed m = record {
    facts = _;
    saw = m.saw;
    doing_is = ap (λ (f : Facts). f.doing) m.saw.facts_are;
    has = ap (λ (f : Facts). f.has) m.saw.facts_are ∙ ap (λ (f : Facts). f.has) m.before_is;
    waits = ap (λ (f : Facts). f.waits) m.saw.facts_are ∙ ap (λ (f : Facts). without k f.waits) m.before_is;
  }

  pub refuses-closed : MadeBy barrier_object primitive_of refuses (row_of refuses) tries k payload u w → Closed k u w
  refuses-closed m = record {
    facts = _;
    saw = m.saw;
    doing_is = ap (λ (f : Facts). f.doing) m.saw.facts_are;
    has = ap (λ (f : Facts). f.has) m.saw.facts_are ∙ ap (λ (f : Facts). f.has) m.before_is;
    waits = ap (λ (f : Facts). f.waits) m.saw.facts_are ∙ ap (λ (f : Facts). without k f.waits) m.before_is;
  }

  pub refuses_value-closed : MadeBy barrier_object primitive_of refuses_value (row_of refuses_value) tries k payload u w
      → Closed k u w
  refuses_value-closed m = record {
    facts = _;
    saw = m.saw;
    doing_is = ap (λ (f : Facts). f.doing) m.saw.facts_are;
    has = ap (λ (f : Facts). f.has) m.saw.facts_are ∙ ap (λ (f : Facts). f.has) m.before_is;
    waits = ap (λ (f : Facts). f.waits) m.saw.facts_are ∙ ap (λ (f : Facts). without k f.waits) m.before_is;
  }

  -- one who withdraws finds nothing that was left to it
  pub none-left : MadeBy barrier_object primitive_of settles_owing (row_of settles_owing) tries k payload u w
      → IsLegal w.opening.size w.seen → ⊥
  none-left m legal =
      never-legal w.opening.size (u.seen ++ m.saw.between) u.number
      (subst (IsLegal w.opening.size) m.saw.seen legal)

-- some are still to arrive, where not all have
pub some-to-come : (n : ℕ) → is_over n ≡ false → 0 < remaining_in n
some-to-come n over = go (cases_eq (remaining_in n) 0)
  where
    go : (remaining_in n ≡ 0) ⊎ (remaining_in n ≢ 0) → 0 < remaining_in n
    go (inl none) = let is : is_over n ≡ true = eq-eqb (remaining_in n) 0 none in absurd (cc)
    go (inr some) = omega arith

-- what the exchange for one more appends: it was made, or others were first
abbrev swap_entries : Bool → ℕ → ℕ → List BarrierEntry
swap_entries b p k = if b then entry.Withdraw p k ∷ [] else []

module _ {T : Type 0} where
  -- the load of the remaining number by a pass that is leaving the wait k: all have arrived, or not
  pub looked : (b : Bool) (k n : ℕ) (v u : View BarrierEntry T) → v.facts.doing ≡ doing.Leaving k
      → OnWord looks_to_leave in_any_case v n u → is_over n ≡ b → LookedAt b k n v u
  looked b k n v u at l over =
      let number : number_at v.facts.doing ≡ k = ap number_at at in
      let is = l.saw.facts_are in
      let so : look_entries (is_over n) v.number (number_at v.facts.doing) ≡ look_entries b v.number k =
      λ i. look_entries (over i) v.number (number i) in
      let now : Facts = facts_moved looks_to_leave (client_place 0) (moment v.opening v.number v.facts in_any_case n) in
      record {
        facts = now;
        saw = subst (λ es. Saw barrier_object v now es u) so l.saw;
        before = l.before;
        seen = subst (λ es. u.seen ≡ l.before ++ es) so l.seen;
        remaining = l.remaining;
        parties = l.parties;
        doing_is = ap (λ (f : Facts). f.doing) is
            ∙ (λ i. if over i then doing.Decided (number i) false else at i);
        has = ap (λ (f : Facts). f.has) is;
        waits = ap (λ (f : Facts). f.waits) is;
      }

  pub has-loaded : (k n : ℕ) (v u : View BarrierEntry T) → v.facts.doing ≡ doing.Leaving k
      → OnWord looks_to_leave in_any_case v n u → HasLoaded k n u
  has-loaded k n v u at l =
      let is = looked (is_over n) k n v u at l refl in record { at = is.doing_is; parties = is.parties }

  -- and its exchange for one more: it was made, or others were first
  pub record SwappedAt (b : Bool) (k n : ℕ) (v u : View BarrierEntry T) : Type 0 where
    pub facts : Facts
    pub saw : Saw barrier_object v facts (swap_entries b v.number k) u
    pub before : List BarrierEntry
    pub seen : u.seen ≡ before ++ swap_entries b v.number k
    pub remaining : remaining_in n ≡ (object_after u.opening.size before).remaining
    pub parties : parties_in n ≡ u.opening.size
    pub doing_is : u.facts.doing ≡ (if b then doing.Decided k true else doing.Leaving k)
    pub held : u.facts.has.held ≡ (if b then v.facts.has.held + 1 else v.facts.has.held)
    pub further : u.facts.has.further ≡ v.facts.has.further
    pub waits : u.facts.waits ≡ v.facts.waits

  pub swapped : (b : Bool) (k saw n : ℕ) (v u : View BarrierEntry T) → v.facts.doing ≡ doing.Leaving k
      → OnWord withdraws (where_found saw) v n u → (n == saw) ≡ b → SwappedAt b k n v u
  swapped b k saw n v u at l made =
      let number : number_at v.facts.doing ≡ k = ap number_at at in
      let is = l.saw.facts_are in
      let so : swap_entries (n == saw) v.number (number_at v.facts.doing) ≡ swap_entries b v.number k =
      λ i. swap_entries (made i) v.number (number i) in
      let now : Facts = facts_moved withdraws (client_place 0) (moment v.opening v.number v.facts (where_found saw) n)
      in
      record {
        facts = now;
        saw = subst (λ es. Saw barrier_object v now es u) so l.saw;
        before = l.before;
        seen = subst (λ es. u.seen ≡ l.before ++ es) so l.seen;
        remaining = l.remaining;
        parties = l.parties;
        doing_is = ap (λ (f : Facts). f.doing) is
            ∙ (λ i. if made i then doing.Decided (number i) true else at i);
        held = ap (λ (f : Facts). f.has.held) is
            ∙ (λ i. if made i then v.facts.has.held + 1 else v.facts.has.held);
        further = ap (λ (f : Facts). f.has.further) is;
        waits = ap (λ (f : Facts). f.waits) is;
      }

  -- all had arrived, and the cell was refused
  pub stayed : (k n : ℕ) (v u w : View BarrierEntry T) → LookedAt true k n v u → remaining_in n ≡ 0 → Closed k u w
      → Out (entry.Stay v.number k ∷ []) doing.Idle v.facts.has.held (without k v.facts.waits) v w
      × WasNone v (entry.Stay v.number k ∷ []) w
  stayed k n v u w l none c = (
    record {
      called = called-then barrier_object v u w _ _ _ [] (called-by barrier_object v u _ _ l.saw) c.saw;
      doing_is = c.doing_is;
      further = ap (λ (h : OwnHas). h.further) c.has ∙ ap (λ (h : OwnHas). h.further) l.has;
      held_is = ap (λ (h : OwnHas). h.held) c.has ∙ ap (λ (h : OwnHas). h.held) l.has;
      waits_are = c.waits ∙ ap (without k) l.waits;
    },
    record {
      before = l.before;
      found = remaining-was v v u w _ _ l.before 0 (prefix-same v.seen) l.saw l.seen (sym none ∙ l.remaining)
          (saw-prefix barrier_object u w _ _ c.saw) c.saw.same.opening;
    },
  )

  -- the party withdrew
  pub withdrew : (k n m : ℕ) (v u x w : View BarrierEntry T) → LookedAt false k n v u → SwappedAt true k m u x
      → 0 < remaining_in m → Closed k x w
      → Out (entry.Withdraw v.number k ∷ []) doing.Idle (v.facts.has.held + 1) (without k v.facts.waits) v w
      × WasSome v (entry.Withdraw v.number k ∷ []) w
  withdrew k n m v u x w l s some c =
      let number : u.number ≡ v.number = l.saw.same.number in
      let called : Called barrier_object v (entry.Withdraw u.number k ∷ []) [] w =
      called-then barrier_object v x w _ _ _ []
      (called-then barrier_object v u x _ [] _ _ (called-by barrier_object v u _ [] l.saw) s.saw) c.saw in
      let found : RemainingWas v (remaining_in m) s.before (entry.Withdraw u.number k ∷ []) w =
      remaining-was v u x w _ _ s.before (remaining_in m) (saw-prefix barrier_object v u _ _ l.saw) s.saw s.seen
      s.remaining (saw-prefix barrier_object x w _ _ c.saw) c.saw.same.opening in (
        record {
          called = subst (λ p. Called barrier_object v (entry.Withdraw p k ∷ []) [] w) number called;
          doing_is = c.doing_is;
          further = ap (λ (h : OwnHas). h.further) c.has ∙ (s.further ∙ ap (λ (h : OwnHas). h.further) l.has);
          held_is = ap (λ (h : OwnHas). h.held) c.has ∙ (s.held ∙ ap (λ (h : OwnHas). h.held + 1) l.has);
          waits_are = c.waits ∙ ap (without k) (s.waits ∙ l.waits);
        },
        record {
          count = remaining_in m;
          before = s.before;
          some = some;
          found = subst (λ p. RemainingWas v (remaining_in m) s.before (entry.Withdraw p k ∷ []) w) number found;
        },
      )

-- two words of one barrier differ in the remaining number
other-number : (n m size : ℕ) → parties_in n ≡ size → parties_in m ≡ size → n ≢ m → remaining_in n ≢ remaining_in m
other-number n m size all too other = λ same. other (omega arith)

module _ {T : Type 0} where
  -- others were first
  pub contended : (k n m : ℕ) (v u x : View BarrierEntry T) (at : Place) (leaving : Leaving) → LookedAt false k n v u
      → SwappedAt false k m u x → m ≢ n → u.facts.has.further ≡ 0 → at.index ≡ k
      → KnowsPlace u at → leaving ≡ record { at = at }
      → Out [] (doing.Leaving k) v.facts.has.held v.facts.waits v x
      × WasContended v (remaining_in n) (remaining_in m) leaving x
  contended k n m v u x at leaving l s other none number knows is =
      let size : u.opening.size ≡ x.opening.size = ap (λ (o : Opening). o.size) (sym s.saw.same.opening) in
      let differ : remaining_in n ≢ remaining_in m =
      other-number n m x.opening.size (l.parties ∙ size) s.parties (λ e. other (sym e)) in
      let whole : x.seen ≡ s.before = s.seen ∙ append-nil s.before in
      let further : x.facts.has.further ≡ 0 = s.further ∙ none in (
        record {
          called = called-then barrier_object v u x _ [] [] [] (called-by barrier_object v u _ [] l.saw) s.saw;
          doing_is = s.doing_is;
          further = s.further ∙ ap (λ (h : OwnHas). h.further) l.has;
          held_is = s.held ∙ ap (λ (h : OwnHas). h.held) l.has;
          waits_are = s.waits ∙ l.waits;
        },
        record {
          differ = differ;
          before = l.before;
          loaded = remaining-was v v u x _ [] l.before (remaining_in n) (prefix-same v.seen) l.saw l.seen l.remaining
              (saw-prefix barrier_object u x _ _ s.saw) s.saw.same.opening;
          exchanged = s.remaining
              ∙ ap (λ h. (object_after x.opening.size h).remaining) (sym whole);
          beside = λ alone.
              let none : s.saw.between ≡ [] = s.saw.sole (l.saw.same.alone ∙ alone) in
              let same : x.seen ≡ u.seen =
              s.saw.seen ∙ (append-nil (u.seen ++ s.saw.between)
              ∙ (ap (λ b. u.seen ++ b) none ∙ append-nil u.seen)) in
              let befores : l.before ≡ s.before =
              sym (append-nil l.before) ∙ (sym l.seen ∙ (sym same ∙ whole)) in
              differ (l.remaining
              ∙ ((λ i. (object_after (size i) (befores i)).remaining) ∙ sym s.remaining));
          still = subst (HasLeaving x) (sym is) (record {
            leaves = s.doing_is ∙ ap doing.Leaving (sym number);
            further = further;
            place = knows-saw barrier_object u x _ _ at s.saw knows;
          });
        },
      )
