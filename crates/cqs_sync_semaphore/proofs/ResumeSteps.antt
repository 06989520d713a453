-- A resumption of a synchronous queue, as a permit's: how it ended, by a call that came to it.
use Rattle.std.proofs.Common.{◌≡◌, ◌≢◌, ℕ, ◌+◌, ◌<◌, ◌≤◌, true, List, [], ◌∷◌, ◌++◌, length, Option, None, sym, refl, ap, ◌∙◌, subst, append_assoc, arith, inl, inr}
use Rattle.std.proofs.lemmas.List.{append-nil}
use Rattle.cqs_core.specs.declared.cells.CoreState.{CoreState}
use Rattle.cqs_core.specs.declared.cells.CoreState.TheVariants as state
use Rattle.cqs_core.specs.declared.doings.Doing.TheVariants as doing
use Rattle.cqs_core.specs.declared.entries.Entry.{Entry}
use Rattle.cqs_core.specs.declared.entries.Entry.TheVariants as entry
use Rattle.cqs_core.specs.QueueSteps.{ends_refused, in_sync, leaves_watched, serves}
use Rattle.cqs_core.specs.SemaphoreNames.{entry_names}
use Rattle.cqs_rule_laws.specs.declared.view.Opening.{Opening}
use Rattle.cqs_rule_laws.specs.declared.view.Sighting.{Sighting}
use Rattle.cqs_rule_laws.specs.declared.view.Sighting.TheVariants.{Cell}
use Rattle.cqs_rule_laws.specs.declared.view.View.{View}
use Rattle.cqs_rule_laws.specs.Called.{Called}
use Rattle.cqs_rule_laws.specs.Lists.{Has}
use Rattle.cqs_rule_laws.proofs.Calls.{called-and}
use Rattle.cqs_rule_laws.proofs.Causes.{Onward}
use Rattle.cqs_rule_laws.proofs.Rules.{AllName, call-rule, call-rule_own}
use Rattle.cqs_rule.specs.declared.queue.tokens.Under as token
use Rattle.cqs_rule.specs.Owed.{HasUnder, under_reached, under_ticket}
use Rattle.cqs_resume.specs.Resumes.{Ended, GoesOn}
use Rattle.cqs_resume.specs.SyncResumes.{IsSyncFurther, LeftThen, SyncGoesOn}
use Rattle.cqs_resume.specs.Watching.{HeldOut, SawTaken}
use Rattle.cqs_resume.specs.declared.resumed.Resumed.TheVariants as plain_resumed
use Rattle.cqs_resume.specs.declared.sync_resumed.SyncResumed.{SyncResumed}
use Rattle.cqs_resume.specs.declared.sync_resumed.SyncResumed.TheVariants as resumed
use Rattle.cqs_resume.proofs.Ends.{came-at, ended-at}
use Rattle.cqs_resume.proofs.SyncEnds.{IsQuietWatch, handled-at, has-broken, saw-taken}
use Rattle.cqs_semaphore_client.specs.Semaphore.{semaphore_object}
use Rattle.cqs_semaphore_client.specs.SemaphoreMade.{primitive_of}
use Rattle.cqs_semaphore.specs.Answers.{HandsBack, most_passed_over}
use Rattle.cqs_semaphore.specs.Calls.{CallRule, Rests}
use Rattle.cqs_semaphore.specs.Causes.{CellWas, CellWasOnce}
use Rattle.cqs_semaphore.proofs.ResumeSteps.{Follows, ends-called, ends-so, quiet}
use Rattle.cqs_semaphore.proofs.ResumeSteps.{drawn-past as semaphore_past}
use Rattle.cqs_semaphore.specs.Steps.{as_released}
use Rattle.cqs_sync_semaphore.specs.Answers.{Ends, WasServed}
use Rattle.cqs_sync_semaphore.specs.Owed.{HasDrawnPast, IsFurther}
use Rattle.cqs_sync_semaphore.specs.Steps.{HoldsIfBroken, IsAnswered}
use Rattle.cqs_sync_semaphore.specs.declared.answers.SyncReleased.{SyncReleased}
use Rattle.cqs_sync_semaphore.proofs.Delivered.{taken-delivered, taken-together}

-- to hold a permit out and to look at it shows no entry
pub watch : IsQuietWatch semaphore_object
watch = record { leaving = λ p k payload. refl; seeing = λ p k payload. refl }

-- the numbers of one resumption go up, told of either answer
pub further-so : (reached : ℕ) (number : Option ℕ) (r : SyncResumed) (a : SyncReleased) → IsAnswered number r a
    → IsSyncFurther reached r → IsFurther reached a
further-so reached number (resumed.Served k) a is f = subst (IsFurther reached) (sym is) tt
further-so reached number (resumed.Refused k) a is f = subst (IsFurther reached) (sym is) tt
further-so reached number (resumed.Broke k) a is f = subst (IsFurther reached) (sym is.1) tt
further-so reached number (resumed.Handling k t) a is f =
    subst (IsFurther reached) (sym is.1) (subst (λ z. reached ≤ under_reached z) (sym is.2) f)
further-so reached number (resumed.Under t) a is f =
    subst (IsFurther reached) (sym is.1) (subst (λ z. reached < under_reached z) (sym is.2) f)

module _ {T : Type 0} where
  -- what a pass has seen and found goes on through a resumption
  pub onward : (u w : View Entry T) (ticket : Option ℕ) (payload : ℕ) (r : SyncResumed)
      → SyncGoesOn semaphore_object primitive_of most_passed_over ticket payload u r w → Onward u w
  onward u w ticket payload (resumed.Served k) (inl (inl e)) =
      (ended-at semaphore_object primitive_of quiet serves state.Waiter most_passed_over ticket payload k u w e).onward
  onward u w ticket payload (resumed.Served k) (inl (inr l)) =
      (saw-taken semaphore_object primitive_of quiet watch most_passed_over ticket payload k u w (λ p payload. refl)
      l).onward
  onward u w ticket payload (resumed.Refused k) (inl e) =
      (ended-at semaphore_object primitive_of quiet ends_refused state.Refused most_passed_over ticket payload k u w
      e).onward
  onward u w ticket payload (resumed.Broke k) (inl l) =
      (has-broken semaphore_object primitive_of quiet watch most_passed_over ticket payload k u w
      (entry.Spoil u.number k ∷ []) (λ payload. refl) l).0.onward
  onward u w ticket payload (resumed.Handling k t) (inl e) =
      (handled-at semaphore_object primitive_of quiet watch most_passed_over ticket payload k t u w e).onward
  onward u w ticket payload (resumed.Under t) (inl e) =
      (ends-called u w ticket payload (plain_resumed.Under t) (inl e)).1
  onward u w ticket payload (resumed.Under t) (inr h) =
      (ends-called u w ticket payload (plain_resumed.Under t) (inr h)).1
  onward u w ticket payload (resumed.Served k) (inr h) = absurd h
  onward u w ticket payload (resumed.Refused k) (inr h) = absurd h
  onward u w ticket payload (resumed.Broke k) (inr h) = absurd h
  onward u w ticket payload (resumed.Handling k t) (inr h) = absurd h

  -- who broke a cell holds the permit again
  pub holds-if : (u w : View Entry T) (ticket : Option ℕ) (payload : ℕ) (r : SyncResumed)
      → SyncGoesOn semaphore_object primitive_of most_passed_over ticket payload u r w → HoldsIfBroken r w.facts
  holds-if u w ticket payload (resumed.Broke k) (inl l) =
      let at = (has-broken semaphore_object primitive_of quiet watch most_passed_over ticket payload k u w
      (entry.Spoil u.number k ∷ []) (λ payload. refl) l).0 in
      let more : w.facts.has.held ≡ u.facts.has.held + 1 = ap (λ h. h.held) at.has_is in omega arith
  holds-if u w ticket payload (resumed.Broke k) (inr h) = absurd h
  holds-if u w ticket payload (resumed.Served k) goes = tt
  holds-if u w ticket payload (resumed.Refused k) goes = tt
  holds-if u w ticket payload (resumed.Handling k t) goes = tt
  holds-if u w ticket payload (resumed.Under t) goes = tt

  -- What a call did before its resumption: these entries, which are its own. Its pass has come to u.
  pub record Before (own : List Entry) (v u : View Entry T) : Type 0 where
    pub called : Called semaphore_object v own own u
    pub follows : Follows v u
    pub onward : Onward v u
    pub names : AllName entry_names v.number own
    pub has : Has v.number v.own
    pub further : u.facts.has.further ≡ 0

  module _ (own : List Entry) (v u w : View Entry T) (b : Before own v u)
      (legal : semaphore_object.legal w.opening w.seen) where
    -- the call rule, by what the resumption appended: nothing, or a delivery
    rule-none : Called semaphore_object u [] [] w → CallRule v own [] w
    rule-none c =
        call-rule_own semaphore_object v w own []
        (subst (λ es. Called semaphore_object v es [] w) (append-nil own)
        (called-and semaphore_object v u w own own [] [] b.called c)) b.names b.has legal

    rule-delivered : (k : ℕ) → Called semaphore_object u (entry.Deliver k ∷ []) (entry.Deliver k ∷ []) w
        → CallRule v own (entry.Deliver k ∷ []) w
    rule-delivered k c =
        call-rule semaphore_object v w own (entry.Deliver k ∷ [])
        (called-and semaphore_object v u w own own _ _ b.called c) b.names (λ n. refl, tt) b.has legal

    -- a break is one of the caller's own
    rule-spoiled : (k : ℕ) → Called semaphore_object u (entry.Spoil v.number k ∷ []) (entry.Spoil v.number k ∷ []) w
        → CallRule v (own ++ entry.Spoil v.number k ∷ []) [] w
    rule-spoiled k c =
        call-rule_own semaphore_object v w (own ++ entry.Spoil v.number k ∷ []) (entry.Spoil v.number k ∷ [])
        (called-and semaphore_object v u w own own _ _ b.called c)
        (all-more own b.names) b.has legal
      where
        all-more : (es : List Entry) → AllName entry_names v.number es
            → AllName entry_names v.number (es ++ entry.Spoil v.number k ∷ [])
        all-more [] all = (λ n. refl, tt)
        all-more (e ∷ es) all = (all.0, all-more es all.1)

    -- what the call found before the resumption is earlier than all that the resumption found
    found-before : (more : List Sighting) → w.facts.found ≡ u.facts.found ++ more
        → w.facts.found ≡ v.facts.found ++ (b.onward.found.0 ++ more)
    found-before more found =
        found ∙ (ap (λ l. l ++ more) b.onward.found.1 ∙ append_assoc v.facts.found b.onward.found.0 more)

    -- a permit that the resumption held out, the call did
    held-before : (at : CoreState) (k : ℕ) (words : List ℕ) (es : List Entry) → HeldOut primitive_of at k words es u w
        → HeldOut primitive_of at k words es v w
    held-before at k words es h = record {
      empty = h.empty;
      bare = h.bare;
      empty_cell = h.empty_cell;
      was_empty = h.was_empty;
      there = h.there;
      tried = h.tried;
      few = h.few;
      word = h.word;
      payload = h.payload;
      cell = h.cell;
      was = h.was;
      earlier = b.onward.found.0 ++ h.earlier;
      found = found-before _ h.found
          ∙ ap (λ l. v.facts.found ++ l) (sym (append_assoc b.onward.found.0 h.earlier _));
    }

    -- and a cell that the resumption found once, the call did
    once-before : (at : CoreState) (k : ℕ) → CellWasOnce at k u w → CellWasOnce at k v w
    once-before at k o = record {
      word = o.word;
      payload = o.payload;
      cell = o.cell;
      found = (
        b.onward.found.0 ++ o.found.0,
        o.found.1,
        found-before _ o.found.2
            ∙ ap (λ l. v.facts.found ++ l) (sym (append_assoc b.onward.found.0 o.found.0 (Cell k o.word ∷ o.found.1))),
      );
      was = o.was;
    }

    rests-at : (held : ℕ) → w.facts.doing ≡ doing.Idle → w.facts.has.further ≡ 0 → w.facts.has.held ≡ held
        → w.facts.waits ≡ u.facts.waits → Rests v held u.facts.waits w
    rests-at held idle further held_is waits = record {
      ready = record { idle = idle; further = further };
      held_is = held_is;
      waits_are = waits;
    }

    -- it served a waiter
    served : (ticket : Option ℕ) (payload k : ℕ)
        → Ended semaphore_object primitive_of serves state.Waiter most_passed_over ticket payload k u w
        → WasServed own k v w × Rests v u.facts.has.held u.facts.waits w
    served ticket payload k e =
        let at = ended-at semaphore_object primitive_of quiet serves state.Waiter most_passed_over ticket payload k u w
        e in (
          record { called = rule-delivered k at.called; waited = at.cell },
          rests-at u.facts.has.held at.idle (ap (λ h. h.further) at.has ∙ b.further) (ap (λ h. h.held) at.has) at.waits,
        )

    -- it ended at a waiter who was refused
    refused : (ticket : Option ℕ) (payload k : ℕ)
        → Ended semaphore_object primitive_of ends_refused state.Refused most_passed_over ticket payload k u w
        → CallRule v own [] w × CellWas state.Refused k [] w × Rests v u.facts.has.held u.facts.waits w
    refused ticket payload k e =
        let at = ended-at semaphore_object primitive_of quiet ends_refused state.Refused most_passed_over ticket payload
        k u w e in (
          rule-none at.called,
          at.cell,
          rests-at u.facts.has.held at.idle (ap (λ h. h.further) at.has ∙ b.further) (ap (λ h. h.held) at.has) at.waits,
        )

    -- no more looks than the semaphore asks for
    taken-few : {ticket : Option ℕ} {payload : ℕ} (k : ℕ)
        → (l : LeftThen semaphore_object primitive_of (SawTaken semaphore_object primitive_of k) most_passed_over ticket
        payload k u w) → length l.then.words ≤ v.opening.looks
    taken-few k l = subst (λ n. length l.then.words ≤ n)
        (ap (λ (o : Opening). o.looks) (l.left.called.same.opening ∙ b.called.same.opening)) l.then.few_words

    -- Alone, the pass would have seen just what it had as it left the permit in the cell.
    taken-beside : {ticket : Option ℕ} {payload : ℕ} (k : ℕ)
        → LeftThen semaphore_object primitive_of (SawTaken semaphore_object primitive_of k) most_passed_over ticket
        payload k u w → v.alone ≢ true
    taken-beside {ticket} {payload} k l = λ alone.
        let m = l.from in
        let left = came-at semaphore_object primitive_of quiet (doing.Watching k) (in_sync leaves_watched) state.Empty
        most_passed_over ticket payload k u m l.left in
        let taken = saw-taken semaphore_object primitive_of quiet watch most_passed_over ticket payload k u w
        (λ p payload. refl) l in
        let only : u.alone ≡ true = b.called.same.alone ∙ alone in
        let same : m.seen ≡ w.seen =
        (left.called.seen ∙ ap (λ es. u.seen ++ es) (left.called.sole only ∙ sym (taken.called.sole only)))
        ∙ sym taken.called.seen in
        taken-together k left.cell.payload taken.held_out.payload m w same
        (left.called.same.opening ∙ sym taken.called.same.opening) left.cell.was taken.held_out.was

    -- it was handed back, as a semaphore's is
    handed-back : (ticket : Option ℕ) (payload : ℕ) (number : Option ℕ) (t : token.Under) (a : SyncReleased)
        → IsAnswered number (resumed.Under t) a
        → GoesOn semaphore_object primitive_of most_passed_over ticket payload u (plain_resumed.Under t) w
        → Ends own u.facts.has.held u.facts.waits number v a w
    handed-back ticket payload number t a is goes =
        subst (λ z. Ends own u.facts.has.held u.facts.waits number v z w) (sym is.1) (
          rule-none (ends-called u w ticket payload (plain_resumed.Under t) goes).0,
          subst (λ z. HandsBack v z u.facts.has.held u.facts.waits w) (sym is.2)
              (ends-so v u w ticket payload (plain_resumed.Under t) b.follows b.further goes),
          is.3,
        )

    pub ends : (ticket : Option ℕ) (payload : ℕ) (number : Option ℕ) (r : SyncResumed) (a : SyncReleased)
        → IsAnswered number r a
        → SyncGoesOn semaphore_object primitive_of most_passed_over ticket payload u r w
        → Ends own u.facts.has.held u.facts.waits number v a w
    ends ticket payload number (resumed.Served k) a is (inl (inl e)) =
        subst (λ z. Ends own u.facts.has.held u.facts.waits number v z w) (sym is)
        (let s = served ticket payload k e in (inl s.0, s.1))
    ends ticket payload number (resumed.Served k) a is (inl (inr l)) =
        let at = saw-taken semaphore_object primitive_of quiet watch most_passed_over ticket payload k u w
        (λ p payload. refl) l in
        subst (λ z. Ends own u.facts.has.held u.facts.waits number v z w) (sym is) (
          inr (record {
            called = rule-none at.called;
            words = l.then.words;
            few = taken-few k l;
            held_out = held-before state.Taken k l.then.words [] at.held_out;
            delivered = taken-delivered k at.held_out.payload w at.held_out.was;
            together = taken-beside k l;
          }),
          rests-at u.facts.has.held at.idle (ap (λ h. h.further) at.has_is ∙ b.further) (ap (λ h. h.held) at.has_is)
              at.waits,
        )
    ends ticket payload number (resumed.Refused k) a is (inl e) =
        subst (λ z. Ends own u.facts.has.held u.facts.waits number v z w) (sym is) (refused ticket payload k e)
    ends ticket payload number (resumed.Broke k) a is (inl l) =
        let number_is : u.number ≡ v.number = b.called.same.number in
        let both = has-broken semaphore_object primitive_of quiet watch most_passed_over ticket payload k u w
        (entry.Spoil v.number k ∷ []) (λ payload. ap (λ p. entry.Spoil p k ∷ []) number_is) l in
        let at = both.0 in
        subst (λ z. Ends own u.facts.has.held u.facts.waits number v z w) (sym is.1) (
          record {
            called = rule-spoiled k at.called;
            words = l.then.0.words;
            all = both.1 ∙ ap (λ (o : Opening). o.looks) b.called.same.opening;
            held_out = held-before state.Value k l.then.0.words (entry.Spoil v.number k ∷ []) at.held_out;
          },
          is.2,
          rests-at (u.facts.has.held + 1) at.idle (ap (λ h. h.further) at.has_is ∙ b.further)
              (ap (λ h. h.held) at.has_is) at.waits,
        )
    ends ticket payload number (resumed.Handling k t) a is (inl e) =
        let at = handled-at semaphore_object primitive_of quiet watch most_passed_over ticket payload k t u w e in
        subst (λ z. Ends own u.facts.has.held u.facts.waits number v z w) (sym is.1) (
          rule-none at.called,
          at.cell,
          once-before state.Cancelling k at.once,
          is.3,
          ap under_ticket is.2 ∙ e.ticket_is,
          record {
            owes = subst (HasUnder w.facts) (sym is.2) e.has;
            further = ap (λ h. h.further) at.has ∙ b.further;
            held_is = ap (λ h. h.held) at.has;
            waits_are = at.waits;
          },
        )
    ends ticket payload number (resumed.Under t) a is (inl e) =
        handed-back ticket payload number t a is (inl e)
    ends ticket payload number (resumed.Under t) a is (inr h) =
        handed-back ticket payload number t a is (inr h)
    ends ticket payload number (resumed.Served k) a is (inr h) = absurd h
    ends ticket payload number (resumed.Refused k) a is (inr h) = absurd h
    ends ticket payload number (resumed.Broke k) a is (inr h) = absurd h
    ends ticket payload number (resumed.Handling k t) a is (inr h) = absurd h

  -- the numbers of one resumption go up
  pub drawn-past : (reached : ℕ) (v w : View Entry T) (ticket : Option ℕ) (payload : ℕ) (number : Option ℕ)
      (r : SyncResumed) (a : SyncReleased) → reached ≡ v.facts.reached → IsAnswered number r a
      → SyncGoesOn semaphore_object primitive_of most_passed_over ticket payload v r w → HasDrawnPast reached a
  drawn-past reached v w ticket payload number (resumed.Served k) a last is goes =
      subst (HasDrawnPast reached) (sym is) tt
  drawn-past reached v w ticket payload number (resumed.Refused k) a last is goes =
      subst (HasDrawnPast reached) (sym is) tt
  drawn-past reached v w ticket payload number (resumed.Broke k) a last is goes =
      subst (HasDrawnPast reached) (sym is.1) tt
  drawn-past reached v w ticket payload number (resumed.Handling k t) a last is goes =
      subst (HasDrawnPast reached) (sym is.1) tt
  drawn-past reached v w ticket payload number (resumed.Under t) a last is goes =
      subst (HasDrawnPast reached) (sym is.1)
      (subst (λ z. under_ticket z ≡ None → reached < under_reached z) (sym is.2)
      (semaphore_past reached v w ticket payload (plain_resumed.Under t) (as_released (plain_resumed.Under t)) last refl
      (by goes)))
    where
      by : SyncGoesOn semaphore_object primitive_of most_passed_over ticket payload v (resumed.Under t) w
          → GoesOn semaphore_object primitive_of most_passed_over ticket payload v (plain_resumed.Under t) w
      by (inl e) = inl e
      by (inr h) = inr h
