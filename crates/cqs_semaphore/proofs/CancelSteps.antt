-- A cancel is its steps: the queue's cancel, and perhaps a resumption that goes on.
use Rattle.std.proofs.Common.{◌≡◌, ◌⊎◌, ℕ, Bool, true, false, List, [], ◌∷◌, Option, Some, None, sym, refl, ap, ◌∙◌, subst, inl, inr}
use Rattle.cqs_core.specs.declared.cells.CoreState.TheVariants as state
use Rattle.cqs_core.specs.declared.doings.Doing.TheVariants as doing
use Rattle.cqs_core.specs.declared.entries.Entry.{Entry}
use Rattle.cqs_core.specs.declared.entries.Entry.TheVariants as entry
use Rattle.cqs_core.specs.SemaphoreEntries.{object_after}
use Rattle.cqs_core.specs.SemaphoreShown.{state_of}
use Rattle.cqs_core.specs.QueueSteps.{settles_owing}
use Rattle.cqs_core.proofs.EitherFacts.{shows-object}
use Rattle.cqs_rule.specs.declared.queue.tokens.Under.{Under}
use Rattle.cqs_rule_laws.specs.declared.view.Facts.{Facts}
use Rattle.cqs_rule_laws.specs.declared.view.Opening.{Opening}
use Rattle.cqs_rule_laws.specs.declared.view.View.{View}
use Rattle.cqs_rule.specs.Callbacks.{Asking, by_step}
use Rattle.cqs_rule_laws.specs.Called.{Called}
use Rattle.cqs_rule_laws.specs.CallRule.{IsReady}
use Rattle.cqs_rule_laws.specs.Events.{HasWord}
use Rattle.cqs_rule_laws.specs.Lists.{Has, without}
use Rattle.cqs_rule_laws.specs.Ruled.{number_at}
use Rattle.cqs_rule_laws.specs.Saw.{WasShown}
use Rattle.cqs_semaphore_client.specs.SemaphoreHistories.{IsLawful}
use Rattle.cqs_semaphore_client.specs.Semaphore.{semaphore_object, decides, core_shown}
use Rattle.cqs_semaphore_client.specs.SemaphoreMade.{permits_of, sync_of}
use Rattle.cqs_rule_laws.proofs.Calls.{called-and}
use Rattle.cqs_rule_laws.proofs.Causes.{Onward, once-later}
use Rattle.cqs_rule_laws.proofs.Rules.{call-rule, call-rule_own}
use Rattle.cqs_words.specs.State.{count_in}
use Rattle.cqs_cancel.specs.Cancels as cancel
use Rattle.cqs_cancel.proofs.Outs.{Asks, Asked, EndsGone, asked-so, out-gone, went-gone, out-owing, out-waiter, late-cell, late-rests}
use Rattle.cqs_cancel.specs.declared.cancelling.Left.TheVariants.{Gone, GoneOwing, Late}
use Rattle.cqs_semaphore.specs.declared.answers.CancelAnswer.TheVariants.{Cancelled, TooLate}
use Rattle.cqs_semaphore.specs.declared.answers.Permit.{Permit}
use Rattle.cqs_semaphore.specs.declared.answers.Released.{Released}
use Rattle.cqs_semaphore.specs.Answers.{Ends, LeftLine, WasRefused, WentSo}
use Rattle.cqs_semaphore.specs.Causes.{CellWas, CellWasOnce, StateWas}
use Rattle.cqs_semaphore_client.specs.SemaphoreMade.{primitive_of}
use Rattle.cqs_semaphore.specs.Entries.{resumed_further}
use Rattle.cqs_semaphore.specs.Permits.{number_of}
use Rattle.cqs_semaphore.specs.Steps.{HasCancelled, HasEnded, PassedOn, as_released}
use Rattle.cqs_semaphore.proofs.ReleaseSteps.{further-names}
use Rattle.cqs_semaphore.proofs.ResumeSteps.{Follows, ends-so, ends-called}
use Rattle.cqs_semaphore.proofs.States.{state-later, count-below, count-not_below}

decided-so : (k : ℕ) (a b : Bool) → doing.Decided k a ≡ doing.Decided k b → a ≡ b
decided-so k a b is = cc

-- how a semaphore is asked, and what it shows then
abbrev pub asked_so : Asking Entry
asked_so = by_step 0 decides

abbrev left_entries : ℕ → ℕ → List Entry
left_entries p k = entry.Leave p k ∷ []

asks : Asks semaphore_object decides left_entries
asks = record {
  starting = λ p k payload. refl;
  asking = λ m k is. ap (λ d. entry.Leave m.pass (number_at d) ∷ []) is;
  keeps = λ m. refl;
  settling = λ p k payload. refl;
  owing = λ p k payload. refl;
  refusing = λ p k payload. refl;
  refusing_value = λ p k payload. refl;
}

module _ {T : Type 0} where
  -- it was asked, and answered so
  abbrev AskedSo : Bool → ℕ → ℕ → View Entry T → View Entry T → Type 0
  AskedSo answer k word v u = Asked semaphore_object primitive_of 0 decides left_entries asks answer k word v u

  state-at : (opening : Opening) (n : ℕ) (history : List Entry)
      → WasShown {S = T} primitive_of opening (HasWord 0 n) history
      → count_in n ≡ state_of (object_after opening.size history)
  state-at opening n history was =
      let s = core_shown (sync_of was.client) (permits_of was.client) was.hidden was.words history in
      let shows = shows-object s was.shown.core in
      ap count_in (sym was.holds)
      ∙ (shows.state ∙ ap (λ (o : Opening). state_of (object_after o.size history)) was.opening_is)

  asked-state : (answer : Bool) (k word : ℕ) (v u : View Entry T) → (a : AskedSo answer k word v u)
      → StateWas v (count_in a.word) a.before (entry.Leave v.number k ∷ []) u
  asked-state answer k word v u a = record {
    since = a.since;
    seen = a.seen;
    state = state-at u.opening a.word a.before a.was;
    word = a.word;
    count_is = refl;
    found = a.found;
  }

  left-line : (k word : ℕ) (v u : View Entry T) → AskedSo true k word v u → LeftLine k v u
  left-line k word v u a = record {
    count = count_in a.word;
    before = a.before;
    short = count-below a.word (decided-so k _ _ a.decided);
    found = asked-state true k word v u a;
  }

  was-refused : (k word : ℕ) (v u : View Entry T) → AskedSo false k word v u → WasRefused k v u
  was-refused k word v u a = record {
    count = count_in a.word;
    before = a.before;
    enough = count-not_below a.word (decided-so k _ _ a.decided);
    found = asked-state false k word v u a;
  }

  went-so : (k word : ℕ) (v u : View Entry T)
      → EndsGone semaphore_object primitive_of 0 decides left_entries asks k word v u → WentSo k v None u
  went-so k word v u e =
      by (went-gone semaphore_object primitive_of 0 decides left_entries asks k word v u e)
    where
      by : (AskedSo true k word v u × CellWas state.Cancelling k [] u)
          ⊎ (AskedSo false k word v u × (CellWas state.Cancelling k [] u ⊎ CellWas state.Delegated k [] u))
          → WentSo k v None u
      by (inl went) = inl (left-line k word v u went.0, went.1)
      by (inr went) = inr (was-refused k word v u went.0, went.1)

  line-later : (k : ℕ) (v u w : View Entry T) → LeftLine k v u → Onward u w → LeftLine k v w
  line-later k v u w l on = record {
    count = l.count;
    before = l.before;
    short = l.short;
    found = state-later v u w l.count l.before (entry.Leave v.number k ∷ []) l.found on.seen on.found on.opening;
  }

  pub gone : (k : ℕ) (v w : View Entry T) → IsReady v.facts → Has v.number v.own
      → IsLawful w.opening.sync w.opening.size w.seen
      → cancel.Cancels semaphore_object primitive_of asked_so k v Gone w → HasCancelled k v (Cancelled None) w
  gone k v w ready own legal b =
      let o = out-gone semaphore_object primitive_of 0 decides left_entries asks k b.word v w b.ends in (
        None,
        call-rule_own semaphore_object v w (entry.Leave v.number k ∷ []) [] o.called (λ n. refl, tt) own legal,
        (
          out-waiter semaphore_object primitive_of 0 decides left_entries asks _ _ k v w Gone b o,
          (
            refl,
            record {
              ready = record { idle = o.doing_is; further = ap (λ h. h.further) o.has_is ∙ ready.further };
              held_is = ap (λ h. h.held) o.has_is;
              waits_are = o.waits_are;
            },
          ),
          went-so k b.word v w b.ends,
        ),
      )

  pub gone-owing : (k payload : ℕ) (v u w : View Entry T) (under : Option Under) → IsReady v.facts → Has v.number v.own
      → IsLawful w.opening.sync w.opening.size w.seen
      → cancel.Cancels semaphore_object primitive_of asked_so k v (GoneOwing payload) u
      → PassedOn payload u under w → HasCancelled k v (Cancelled under) w
  gone-owing k payload v u w under ready own legal b p =
      let released = p.0 in
      let e : HasEnded None payload u released w = p.2 in
      let out = out-owing semaphore_object primitive_of 0 decides left_entries asks k b.word payload v u b.ends.0 in
      let o = out.0 in
      let on = ends-called u w None payload e.0 e.2 in
      let follows : Follows v u = record {
        same = o.called.same;
        passed = o.passed;
        heads = b.ends.0.heads;
        heads_are = ap (λ (f : Facts). f.heads) b.ends.0.facts_are;
      } in
      let called =
      subst (λ (r : Released). Called semaphore_object u (resumed_further r) (resumed_further r) w) (sym e.1)
      on.0 in
      let ends : Ends v v.facts.has.held (without k v.facts.waits) released w =
      subst (λ a. Ends v v.facts.has.held (without k v.facts.waits) a w) (sym e.1)
      (subst (λ (z : ℕ × List ℕ). Ends v z.0 z.1 (as_released e.0) w)
      (λ i. (ap (λ h. h.held) o.has_is i, o.waits_are i))
      (ends-so v u w None payload e.0 follows (ap (λ h. h.further) o.has_is ∙ ready.further) e.2)) in (
        Some released,
        call-rule semaphore_object v w (entry.Leave v.number k ∷ []) (resumed_further released)
            (called-and semaphore_object v u w _ _ _ _ o.called called) (λ n. refl, tt) (further-names released) own
            legal,
        (
          once-later primitive_of state.Waiter k v u w
              (out-waiter semaphore_object primitive_of 0 decides left_entries asks _ _ k v u (GoneOwing payload) b o)
              on.1,
          (p.1, once-later primitive_of state.Delegated k v u w out.1 on.1, ends),
          line-later k v u w
              (left-line k b.word v u (asked-so semaphore_object primitive_of 0 decides left_entries asks _
              settles_owing true k b.word payload v u b.ends.0)) on.1,
        ),
      )

  -- what was left to the canceller lay in its cell
  pub owed-delegated : (k payload : ℕ) (v u : View Entry T)
      → cancel.Cancels semaphore_object primitive_of asked_so k v (GoneOwing payload) u
      → CellWasOnce state.Delegated k v u
  owed-delegated k payload v u b =
      (out-owing semaphore_object primitive_of 0 decides left_entries asks k b.word payload v u b.ends.0).1

  pub late : (k payload : ℕ) (v w : View Entry T) (permit : Permit) → IsReady v.facts → Has v.number v.own
      → IsLawful w.opening.sync w.opening.size w.seen
      → cancel.Cancels semaphore_object primitive_of asked_so k v (Late payload) w
      → number_of permit ≡ Some k → HasCancelled k v (TooLate permit) w
  late k payload v w permit ready own legal l number = (
    None,
    call-rule_own semaphore_object v w (entry.Late v.number k ∷ []) _ l.called (λ n. refl, tt) own legal,
    (
      refl,
      number,
      (late-cell semaphore_object primitive_of k payload v w l).0,
      late-rests semaphore_object primitive_of k payload v w l ready,
    ),
  )
