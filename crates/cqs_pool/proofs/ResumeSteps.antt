-- The resumption of an element: it ended at a cell, or was handed back; and it never ends at a refused one.
use Rattle.std.proofs.Common.{◌≡◌, ℕ, ◌<◌, ◌≤◌, List, [], ◌++◌, length, Option, Some, None, slice_get, sym, refl, ap, ◌∙◌, subst, append_assoc, arith, inl, inr}
use Rattle.std.proofs.lemmas.List.{append-nil}
use Rattle.cqs_core.specs.declared.cells.CoreState.{CoreState}
use Rattle.cqs_core.specs.declared.cells.CoreState.TheVariants as state
use Rattle.cqs_pool_object.specs.declared.entries.PoolEntry.{PoolEntry}
use Rattle.cqs_core.specs.QueueSteps.{QueueStep, serves, leaves, delegates}
use Rattle.cqs_pool_object.specs.PoolSteps.{step_entries}
use Rattle.cqs_rule_laws.specs.declared.view.Facts.{Facts}
use Rattle.cqs_rule_laws.specs.declared.view.View.{View}
use Rattle.cqs_rule_laws.specs.Ample.{AreEnough}
use Rattle.cqs_rule_laws.specs.Called.{Called}
use Rattle.cqs_rule_laws.specs.Causes.{cell_of}
use Rattle.cqs_rule_laws.specs.Exchanges.{HasCell}
use Rattle.cqs_rule_laws.specs.Hidden.{state_in}
use Rattle.cqs_rule_laws.specs.Lists.{Has}
use Rattle.cqs_rule_laws.specs.Saw.{WasShown}
use Rattle.cqs_rule_laws.specs.Views.{IsSame}
use Rattle.cqs_rule_laws.proofs.Calls.{same-here}
use Rattle.cqs_rule.proofs.Claiming.{wants-since}
use Rattle.cqs_rule.specs.Claims.{WantsSlot}
use Rattle.cqs_rule_laws.proofs.Causes.{Onward}
use Rattle.cqs_rule_laws.proofs.Rules.{NoneName, call-rule}
use Rattle.cqs_rule.specs.declared.queue.tokens.Under as token
use Rattle.cqs_rule_laws.specs.declared.view.Glimpse.{Glimpse}
use Rattle.cqs_rule_laws.specs.declared.view.Opening.{Opening}
use Rattle.cqs_core.specs.declared.cells.CoreCell.{CoreCell}
use Rattle.cqs_pool_object.specs.PoolEntries.{IsLegal}
use Rattle.cqs_pool_object.specs.PoolNames.{entry_names}
use Rattle.cqs_pool.specs.Pool.{pool_object}
use Rattle.cqs_resume.specs.declared.resumed.Resumed.{Resumed}
use Rattle.cqs_resume.specs.declared.resumed.Resumed.TheVariants as resumed
use Rattle.cqs_resume.specs.Resumes as resume
use Rattle.cqs_resume.specs.Resumes.{Ended, GoesOn, Held, Resumes, Stopped}
use Rattle.cqs_resume.specs.Rounds.{Round, drawn_in, numbers, IsOpenedWith}
use Rattle.cqs_rule_laws.specs.Client.{IsQuiet}
use Rattle.cqs_resume.proofs.Ends.{EndedAt, HeldOn, ended-at, held-on, handed-back, drawn-few, opened-few}
use Rattle.cqs_pool.specs.declared.answers.Placed.{Placed}
use Rattle.cqs_pool.specs.declared.answers.Placed.TheVariants.{Sent, Left, Under}
use Rattle.cqs_pool.specs.Answers.{Ends, HandsBack}
use Rattle.cqs_pool.specs.Calls.{Rests, CallRule}
use Rattle.cqs_pool.specs.Causes.{primitive_of}
use Rattle.cqs_pool.specs.Entries.{placed_further}
use Rattle.cqs_pool.specs.Owed.{IsUnrefused, IsPlacedAs}
use Rattle.cqs_pool.specs.Steps.{HasDrawnPast, HasEnded, IsFurther}

-- only its last step shows an entry
pub quiet : IsQuiet pool_object
quiet = record { drawing = λ p k payload. refl; passing = λ p k payload. refl }

-- A call passes over 64 numbers before it hands a resumption back: all of them it drew, or all but the one whose
-- ticket was open.
abbrev pub IsWhole : ℕ → Option ℕ → Type 0
IsWhole most None = most ≡ 64
IsWhole most (Some k) = 63 ≤ most

many-over : (most : ℕ) (ticket : Option ℕ) (over : List Round) → IsWhole most ticket → IsOpenedWith ticket over
    → drawn_in over ≡ most → 64 ≤ length (numbers over)
many-over most None over whole opens all = let few = drawn-few over in omega arith
many-over most (Some k) over whole opens all = let few = opened-few k over opens in omega arith

-- a delivery names nobody
pub further-names : (e : ℕ) (a : Placed) → NoneName entry_names (placed_further e a)
further-names e (Sent k) = (λ n. refl, tt)
further-names e (Left k) = tt
further-names e (Under under) = tt

-- the numbers of one resumption go up, told of either answer
pub further-so : (reached : ℕ) (r : Resumed) (a : Placed) → IsPlacedAs r a → resume.IsFurther reached r
    → IsFurther reached a
further-so reached (resumed.Served k) a is f = subst (IsFurther reached) (sym is) tt
further-so reached (resumed.Left k) a is f = subst (IsFurther reached) (sym is) tt
further-so reached (resumed.Refused k) a is f = absurd is
further-so reached (resumed.Under under) a is f = subst (IsFurther reached) (sym is) f

-- so is the answer of one that was handed back
placed-held : (under : token.Under) (r : Resumed) (a : Placed) → r ≡ resumed.Under under → IsPlacedAs r a
    → a ≡ Under under
placed-held under r a is placed = subst (λ z. IsPlacedAs z a) is placed

no-ticket : (k : ℕ) → Some k ≡ None → ⊥
no-ticket k is = cc

module _ {T : Type 0} where
  -- What a call did before its resumption: it passed over no number, and found these heads.
  pub record Follows (v u : View PoolEntry T) : Type 0 where
    pub same : IsSame v u
    pub passed : u.facts.passed ≡ v.facts.passed
    pub heads : List (ℕ × ℕ)
    pub heads_are : u.facts.heads ≡ v.facts.heads ++ heads

  pub follows-now : (v : View PoolEntry T) → Follows v v
  follows-now v =
      record { same = same-here v; passed = refl; heads = []; heads_are = sym (append-nil v.facts.heads) }

  -- it ended at the cell of the number k
  abbrev EndedSo : CoreState → ℕ → List PoolEntry → List ℕ → View PoolEntry T → View PoolEntry T → Type 0
  EndedSo at k own over u w = EndedAt pool_object primitive_of quiet at k own over u w

  ended : (s : QueueStep) (at : CoreState) (most : ℕ) (ticket : Option ℕ) (payload k : ℕ) (u w : View PoolEntry T)
      → (e : Ended pool_object primitive_of s at most ticket payload k u w)
      → EndedSo at k (step_entries s u.number k payload) (numbers e.over) u w
  ended s at most ticket payload k u w e = ended-at pool_object primitive_of quiet s at most ticket payload k u w e

  rests-at : (v u w : View PoolEntry T) (at : CoreState) (k : ℕ) (own : List PoolEntry) (over : List ℕ)
      → u.facts.has.further ≡ 0 → EndedSo at k own over u w → Rests v u.facts.has.slots u.facts.waits w
  rests-at v u w at k own over none e = record {
    ready = record { idle = e.idle; further = ap (λ h. h.further) e.has ∙ none };
    elements_are = ap (λ h. h.slots) e.has;
    waits_are = e.waits;
  }

  -- it was handed back, after so many numbers in all
  hands-back : (v u w : View PoolEntry T) (most : ℕ) (ticket : Option ℕ) (payload : ℕ) (under : token.Under)
      → Follows v u → u.facts.has.further ≡ 0 → IsWhole most ticket
      → Stopped pool_object primitive_of most ticket payload under u w
      → HandsBack v payload under u.facts.has.slots u.facts.waits w
  hands-back v u w most ticket payload under follows none whole e = record {
    cause = inl (
      e.ticket_is,
      record {
        over = numbers e.over;
        passed = ap (λ (f : Facts). f.passed) e.facts_are ∙ ap (λ l. l ++ numbers e.over) follows.passed;
        many_are = many-over most ticket e.over whole e.opens e.all;
      },
    );
    owes = e.has;
    brings = e.payload_is;
    further = ap (λ (f : Facts). f.has.further) e.facts_are ∙ none;
    elements_are = ap (λ (f : Facts). f.has.slots) e.facts_are;
    waits_are = ap (λ (f : Facts). f.waits) e.facts_are;
  }

  -- for want of a slot
  held : (u w : View PoolEntry T) (most payload : ℕ) (r : Resumed)
      → (h : Held pool_object primitive_of most payload u r w) → HeldOn pool_object primitive_of quiet h.under u w
  held u w most payload r h = held-on pool_object primitive_of quiet most payload r u w h

  held-back : (v u w : View PoolEntry T) (most payload : ℕ) (r : Resumed) → Follows v u → u.facts.has.further ≡ 0
      → (h : Held pool_object primitive_of most payload u r w)
      → HandsBack v payload h.under u.facts.has.slots u.facts.waits w
  held-back v u w most payload r follows none h = record {
    cause = inr (wants-since h.under v u w follows.same (follows.heads, follows.heads_are)
        (held u w most payload r h).wants);
    owes = h.has;
    brings = h.payload_is;
    further = ap (λ h. h.further) h.keeps ∙ none;
    elements_are = ap (λ h. h.slots) h.keeps;
    waits_are = h.waits_are;
  }

  -- no cell of a pool is refused
  none-refused : (fact : Glimpse) (history : List PoolEntry) (opening : Opening) → fact.state ≡ state.Refused
      → WasShown {S = T} primitive_of opening (HasCell fact) history → ⊥
  none-refused fact history opening is was =
      found (slice_get was.hidden.queue.cells fact.number) refl (was.holds.0 ∙ is)
    where
      found : (cell : Option CoreCell) → slice_get was.hidden.queue.cells fact.number ≡ cell
          → state_in (slice_get was.hidden.queue.cells fact.number) ≡ state.Refused → ⊥
      found None there at = let empty = sym (ap state_in there) ∙ at in absurd (cc)
      found (Some cell) there at =
          was.shown.unrefused.at fact.number cell there (sym (ap state_in there) ∙ at)

  never-ends : (u w : View PoolEntry T) (most : ℕ) (ticket : Option ℕ) (payload : ℕ) (r : Resumed)
      → Resumes pool_object primitive_of most ticket payload u r w → IsUnrefused r
  never-ends u w most ticket payload (resumed.Served k) e = tt
  never-ends u w most ticket payload (resumed.Left k) e = tt
  never-ends u w most ticket payload (resumed.Refused k) e =
      none-refused (cell_of e.last.number state.Refused e.last.payload) e.was.before w.opening refl e.was.was
  never-ends u w most ticket payload (resumed.Under under) e = tt

  pub never-refused : (u w : View PoolEntry T) (most : ℕ) (ticket : Option ℕ) (payload : ℕ) (r : Resumed)
      → GoesOn pool_object primitive_of most ticket payload u r w → IsUnrefused r
  never-refused u w most ticket payload r (inl e) = never-ends u w most ticket payload r e
  never-refused u w most ticket payload r (inr h) = subst IsUnrefused (sym h.is) tt

  -- the answer
  ends-as : (v u w : View PoolEntry T) (most : ℕ) (ticket : Option ℕ) (payload : ℕ) (r : Resumed) (a : Placed)
      → Follows v u → u.facts.has.further ≡ 0 → IsWhole most ticket → IsPlacedAs r a
      → GoesOn pool_object primitive_of most ticket payload u r w
      → Ends v payload u.facts.has.slots u.facts.waits a w
  ends-as v u w most ticket payload (resumed.Served k) a follows none whole is (inl e) =
      let at_cell = ended serves state.Waiter most ticket payload k u w e in
      subst (λ x. Ends v payload u.facts.has.slots u.facts.waits x w) (sym is)
      (at_cell.cell, rests-at v u w _ _ _ _ none at_cell)
  ends-as v u w most ticket payload (resumed.Left k) a follows none whole is (inl (inl e)) =
      let at_cell = ended leaves state.Empty most ticket payload k u w e in
      subst (λ x. Ends v payload u.facts.has.slots u.facts.waits x w) (sym is)
      (inl at_cell.cell, rests-at v u w _ _ _ _ none at_cell)
  ends-as v u w most ticket payload (resumed.Left k) a follows none whole is (inl (inr e)) =
      let at_cell = ended delegates state.Cancelling most ticket payload k u w e in
      subst (λ x. Ends v payload u.facts.has.slots u.facts.waits x w) (sym is)
      (inr at_cell.cell, rests-at v u w _ _ _ _ none at_cell)
  ends-as v u w most ticket payload (resumed.Refused k) a follows none whole is (inl e) = absurd is
  ends-as v u w most ticket payload (resumed.Under under) a follows none whole is (inl e) =
      subst (λ x. Ends v payload u.facts.has.slots u.facts.waits x w) (sym is)
      (hands-back v u w most ticket payload under follows none whole e)
  ends-as v u w most ticket payload r a follows none whole is (inr h) =
      subst (λ x. Ends v payload u.facts.has.slots u.facts.waits x w) (sym (placed-held h.under r a h.is is))
      (held-back v u w most payload r follows none h)

  pub ends-so : (v u w : View PoolEntry T) (most : ℕ) (ticket : Option ℕ) (payload : ℕ) (a : Placed)
      → Follows v u → u.facts.has.further ≡ 0 → IsWhole most ticket
      → HasEnded most ticket payload u a w → Ends v payload u.facts.has.slots u.facts.waits a w
  ends-so v u w most ticket payload a follows none whole e =
      ends-as v u w most ticket payload e.0 a follows none whole e.1 e.2

  -- its entries
  called-as : (u w : View PoolEntry T) (most : ℕ) (ticket : Option ℕ) (payload : ℕ) (r : Resumed) (a : Placed)
      → IsPlacedAs r a → GoesOn pool_object primitive_of most ticket payload u r w
      → Called pool_object u (placed_further payload a) (placed_further payload a) w × Onward u w
  called-as u w most ticket payload (resumed.Served k) a is (inl e) =
      let at_cell = ended serves state.Waiter most ticket payload k u w e in
      subst (λ x. Called pool_object u (placed_further payload x) (placed_further payload x) w × Onward u w) (sym is)
      (at_cell.called, at_cell.onward)
  called-as u w most ticket payload (resumed.Left k) a is (inl (inl e)) =
      let at_cell = ended leaves state.Empty most ticket payload k u w e in
      subst (λ x. Called pool_object u (placed_further payload x) (placed_further payload x) w × Onward u w) (sym is)
      (at_cell.called, at_cell.onward)
  called-as u w most ticket payload (resumed.Left k) a is (inl (inr e)) =
      let at_cell = ended delegates state.Cancelling most ticket payload k u w e in
      subst (λ x. Called pool_object u (placed_further payload x) (placed_further payload x) w × Onward u w) (sym is)
      (at_cell.called, at_cell.onward)
  called-as u w most ticket payload (resumed.Refused k) a is (inl e) = absurd is
  called-as u w most ticket payload (resumed.Under under) a is (inl e) =
      let h = handed-back pool_object primitive_of quiet most ticket payload under u w e in
      subst (λ x. Called pool_object u (placed_further payload x) (placed_further payload x) w × Onward u w) (sym is)
      (h.called, h.onward)
  called-as u w most ticket payload r a is (inr h) =
      let on = held u w most payload r h in
      subst (λ x. Called pool_object u (placed_further payload x) (placed_further payload x) w × Onward u w)
      (sym (placed-held h.under r a h.is is)) (on.called, on.onward)

  pub ends-called : (u w : View PoolEntry T) (most : ℕ) (ticket : Option ℕ) (payload : ℕ) (a : Placed)
      → HasEnded most ticket payload u a w
      → Called pool_object u (placed_further payload a) (placed_further payload a) w × Onward u w
  ends-called u w most ticket payload a e = called-as u w most ticket payload e.0 a e.1 e.2

  -- the numbers that were drawn go up
  pub drawn-past : (reached : ℕ) (v w : View PoolEntry T) (most : ℕ) (ticket : Option ℕ) (payload : ℕ) (r : Resumed)
      (a : Placed) → reached ≡ v.facts.reached → 1 < most → IsPlacedAs r a
      → GoesOn pool_object primitive_of most ticket payload v r w → HasDrawnPast reached a
  drawn-past reached v w most ticket payload (resumed.Served k) a last many is (inl e) =
      subst (HasDrawnPast reached) (sym is) tt
  drawn-past reached v w most ticket payload (resumed.Left k) a last many is (inl e) =
      subst (HasDrawnPast reached) (sym is) tt
  drawn-past reached v w most ticket payload (resumed.Refused k) a last many is (inl e) = absurd is
  drawn-past reached v w most ticket payload (resumed.Under under) a last many is (inl e) =
      subst (HasDrawnPast reached) (sym is) (λ none. let on = e.further many in omega arith)
  drawn-past reached v w most ticket payload r a last many is (inr h) =
      subst (HasDrawnPast reached) (sym (placed-held h.under r a h.is is))
      (λ none. absurd (no-ticket h.number (sym h.ticket_is ∙ none)))

  -- the end of one that was handed back
  pub ends-rule : (v w : View PoolEntry T) (most : ℕ) (ticket : Option ℕ) (payload : ℕ) (a : Placed)
      → HasEnded most ticket payload v a w → Has v.number v.own → IsLegal w.opening.size w.seen
      → CallRule v [] (placed_further payload a) w
  ends-rule v w most ticket payload a e own legal =
      call-rule pool_object v w [] (placed_further payload a) (ends-called v w most ticket payload a e).0 tt
      (further-names payload a) own legal
