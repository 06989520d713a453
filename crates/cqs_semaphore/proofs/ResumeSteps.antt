-- A resumption, as a permit's: it ended at a cell, or was handed back.
use Rattle.std.proofs.Common.{◌≡◌, ℕ, List, [], ◌++◌, Option, None, Some, sym, refl, ap, ◌∙◌, subst, append_assoc, arith, inl, inr}
use Rattle.std.proofs.lemmas.List.{append-nil}
use Rattle.cqs_core.specs.declared.cells.CoreState.{CoreState}
use Rattle.cqs_core.specs.declared.cells.CoreState.TheVariants as state
use Rattle.cqs_core.specs.declared.entries.Entry.{Entry}
use Rattle.cqs_core.specs.QueueSteps.{QueueStep, serves, leaves, delegates, ends_refused}
use Rattle.cqs_core.specs.SemaphoreSteps.{step_entries}
use Rattle.cqs_rule_laws.specs.declared.view.Facts.{Facts}
use Rattle.cqs_rule_laws.specs.declared.view.View.{View}
use Rattle.cqs_rule_laws.specs.Ample.{AreEnough}
use Rattle.cqs_rule_laws.specs.Called.{Called}
use Rattle.cqs_rule_laws.specs.Views.{IsSame}
use Rattle.cqs_rule_laws.proofs.Calls.{same-here}
use Rattle.cqs_rule_laws.proofs.Causes.{Onward}
use Rattle.cqs_rule.proofs.Claiming.{wants-since}
use Rattle.cqs_rule.specs.Claims.{WantsSlot}
use Rattle.cqs_rule.specs.declared.queue.tokens.Under.{Under}
use Rattle.cqs_semaphore_client.specs.Semaphore.{semaphore_object}
use Rattle.cqs_resume.specs.declared.resumed.Resumed.{Resumed}
use Rattle.cqs_resume.specs.declared.resumed.Resumed.TheVariants as resumed
use Rattle.cqs_resume.specs.Resumes as resume
use Rattle.cqs_resume.specs.Resumes.{Ended, GoesOn, Held, Stopped}
use Rattle.cqs_resume.specs.Rounds.{numbers}
use Rattle.cqs_rule_laws.specs.Client.{IsQuiet}
use Rattle.cqs_resume.proofs.Ends.{EndedAt, HeldOn, ended-at, held-on, handed-back, drawn-few}
use Rattle.cqs_semaphore.specs.Answers.{Ends, HandsBack, most_passed_over}
use Rattle.cqs_semaphore.specs.Calls.{Rests}
use Rattle.cqs_semaphore_client.specs.SemaphoreMade.{primitive_of}
use Rattle.cqs_semaphore.specs.declared.answers.Released.{Released}
use Rattle.cqs_semaphore.specs.Entries.{resumed_further}
use Rattle.cqs_semaphore.specs.Steps.{as_released, HasDrawnPast, IsFurther}

-- only its last step shows an entry
pub quiet : IsQuiet semaphore_object
quiet = record { drawing = λ p k payload. refl; passing = λ p k payload. refl }

no-ticket : (k : ℕ) → Some k ≡ None → ⊥
no-ticket k is = cc

-- the numbers of one resumption go up, told of either answer
pub further-so : (reached : ℕ) (r : Resumed) (a : Released) → a ≡ as_released r → resume.IsFurther reached r
    → IsFurther reached a
further-so reached (resumed.Served k) a is f = subst (IsFurther reached) (sym is) tt
further-so reached (resumed.Left k) a is f = subst (IsFurther reached) (sym is) tt
further-so reached (resumed.Refused k) a is f = subst (IsFurther reached) (sym is) tt
further-so reached (resumed.Under under) a is f = subst (IsFurther reached) (sym is) f

module _ {T : Type 0} where
  -- What a call did before its resumption: it passed over no number, and found these heads.
  pub record Follows (v u : View Entry T) : Type 0 where
    pub same : IsSame v u
    pub passed : u.facts.passed ≡ v.facts.passed
    pub heads : List (ℕ × ℕ)
    pub heads_are : u.facts.heads ≡ v.facts.heads ++ heads

  pub follows-now : (v : View Entry T) → Follows v v
  follows-now v =
      record { same = same-here v; passed = refl; heads = []; heads_are = sym (append-nil v.facts.heads) }

  -- it ended at the cell of the number k
  abbrev EndedSo : CoreState → ℕ → List Entry → List ℕ → View Entry T → View Entry T → Type 0
  EndedSo at k own over u w = EndedAt semaphore_object primitive_of quiet at k own over u w

  ended : (s : QueueStep) (at : CoreState) (ticket : Option ℕ) (payload k : ℕ) (u w : View Entry T)
      → (e : Ended semaphore_object primitive_of s at most_passed_over ticket payload k u w)
      → EndedSo at k (step_entries s u.number k) (numbers e.over) u w
  ended s at ticket payload k u w e =
      ended-at semaphore_object primitive_of quiet s at most_passed_over ticket payload k u w e

  rests-at : (v u w : View Entry T) (at : CoreState) (k : ℕ) (own : List Entry) (over : List ℕ)
      → u.facts.has.further ≡ 0 → EndedSo at k own over u w → Rests v u.facts.has.held u.facts.waits w
  rests-at v u w at k own over none e = record {
    ready = record { idle = e.idle; further = ap (λ h. h.further) e.has ∙ none };
    held_is = ap (λ h. h.held) e.has;
    waits_are = e.waits;
  }

  -- it was handed back
  hands-back : (v u w : View Entry T) (ticket : Option ℕ) (payload : ℕ)
      (under : Under) → Follows v u → u.facts.has.further ≡ 0
      → Stopped semaphore_object primitive_of most_passed_over ticket payload under u w
      → HandsBack v under u.facts.has.held u.facts.waits w
  hands-back v u w ticket payload under follows none e = record {
    cause = inl (
      e.ticket_is,
      record {
        over = numbers e.over;
        passed = ap (λ (f : Facts). f.passed) e.facts_are ∙ ap (λ l. l ++ numbers e.over) follows.passed;
        many_are = let few = drawn-few e.over in let all = e.all in omega arith;
      },
    );
    owes = e.has;
    further = ap (λ (f : Facts). f.has.further) e.facts_are ∙ none;
    held_is = ap (λ (f : Facts). f.has.held) e.facts_are;
    waits_are = ap (λ (f : Facts). f.waits) e.facts_are;
  }

  -- for want of a slot
  held : (u w : View Entry T) (payload : ℕ) (r : Resumed)
      → (h : Held semaphore_object primitive_of most_passed_over payload u r w)
      → HeldOn semaphore_object primitive_of quiet h.under u w
  held u w payload r h = held-on semaphore_object primitive_of quiet most_passed_over payload r u w h

  held-back : (v u w : View Entry T) (payload : ℕ) (r : Resumed) → Follows v u → u.facts.has.further ≡ 0
      → (h : Held semaphore_object primitive_of most_passed_over payload u r w)
      → HandsBack v h.under u.facts.has.held u.facts.waits w
  held-back v u w payload r follows none h = record {
    cause = inr (wants-since h.under v u w follows.same (follows.heads, follows.heads_are)
        (held u w payload r h).wants);
    owes = h.has;
    further = ap (λ h. h.further) h.keeps ∙ none;
    held_is = ap (λ h. h.held) h.keeps;
    waits_are = h.waits_are;
  }

  -- the answer
  pub ends-so : (v u w : View Entry T) (ticket : Option ℕ) (payload : ℕ) (r : Resumed) → Follows v u
      → u.facts.has.further ≡ 0 → GoesOn semaphore_object primitive_of most_passed_over ticket payload u r w
      → Ends v u.facts.has.held u.facts.waits (as_released r) w
  ends-so v u w ticket payload (resumed.Served k) follows none (inl e) =
      let at_cell = ended serves state.Waiter ticket payload k u w e in
      (at_cell.cell, rests-at v u w _ _ _ _ none at_cell)
  ends-so v u w ticket payload (resumed.Left k) follows none (inl (inl e)) =
      let at_cell = ended leaves state.Empty ticket payload k u w e in
      (inl at_cell.cell, rests-at v u w _ _ _ _ none at_cell)
  ends-so v u w ticket payload (resumed.Left k) follows none (inl (inr e)) =
      let at_cell = ended delegates state.Cancelling ticket payload k u w e in
      (inr at_cell.cell, rests-at v u w _ _ _ _ none at_cell)
  ends-so v u w ticket payload (resumed.Refused k) follows none (inl e) =
      let at_cell = ended ends_refused state.Refused ticket payload k u w e in
      (at_cell.cell, rests-at v u w _ _ _ _ none at_cell)
  ends-so v u w ticket payload (resumed.Under under) follows none (inl e) =
      hands-back v u w ticket payload under follows none e
  ends-so v u w ticket payload r follows none (inr h) =
      subst (λ a. Ends v u.facts.has.held u.facts.waits (as_released a) w) (sym h.is)
      (held-back v u w payload r follows none h)

  -- its entries
  pub ends-called : (u w : View Entry T) (ticket : Option ℕ) (payload : ℕ) (r : Resumed)
      → GoesOn semaphore_object primitive_of most_passed_over ticket payload u r w
      → Called semaphore_object u (resumed_further (as_released r)) (resumed_further (as_released r)) w × Onward u w
  ends-called u w ticket payload (resumed.Served k) (inl e) =
      let at_cell = ended serves state.Waiter ticket payload k u w e in (at_cell.called, at_cell.onward)
  ends-called u w ticket payload (resumed.Left k) (inl (inl e)) =
      let at_cell = ended leaves state.Empty ticket payload k u w e in (at_cell.called, at_cell.onward)
  ends-called u w ticket payload (resumed.Left k) (inl (inr e)) =
      let at_cell = ended delegates state.Cancelling ticket payload k u w e in (at_cell.called, at_cell.onward)
  ends-called u w ticket payload (resumed.Refused k) (inl e) =
      let at_cell = ended ends_refused state.Refused ticket payload k u w e in (at_cell.called, at_cell.onward)
  ends-called u w ticket payload (resumed.Under under) (inl e) =
      let h = handed-back semaphore_object primitive_of quiet most_passed_over ticket payload under u w e in
      (h.called, h.onward)
  ends-called u w ticket payload r (inr h) =
      subst (λ a. Called semaphore_object u (resumed_further (as_released a)) (resumed_further (as_released a)) w
      × Onward u w) (sym h.is) (let on = held u w payload r h in (on.called, on.onward))

  -- the numbers that were drawn go up
  pub drawn-past : (reached : ℕ) (v w : View Entry T) (ticket : Option ℕ) (payload : ℕ) (r : Resumed) (a : Released)
      → reached ≡ v.facts.reached → a ≡ as_released r
      → GoesOn semaphore_object primitive_of most_passed_over ticket payload v r w → HasDrawnPast reached a
  drawn-past reached v w ticket payload r a last is goes = subst (HasDrawnPast reached) (sym is) (by r goes)
    where
      by : (r : Resumed) → GoesOn semaphore_object primitive_of most_passed_over ticket payload v r w
          → HasDrawnPast reached (as_released r)
      by (resumed.Served k) (inl e) = tt
      by (resumed.Left k) (inl e) = tt
      by (resumed.Refused k) (inl e) = tt
      by (resumed.Under under) (inl e) = λ none. let on = e.further (omega arith) in omega arith
      by r (inr h) = subst (λ z. HasDrawnPast reached (as_released z)) (sym h.is)
          (λ none. absurd (no-ticket h.number (sym h.ticket_is ∙ none)))
