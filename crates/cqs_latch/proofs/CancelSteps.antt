-- A cancel is its steps: the queue's cancel, and perhaps a resumption that goes on.
use Rattle.std.proofs.Common.{◌≡◌, ◌⊎◌, ℕ, Bool, true, false, not, List, [], ◌∷◌, Option, Some, None, sym, refl, ap, ◌∙◌, subst, inl, inr, arith}
use Rattle.std.proofs.lemmas.List.{append-nil}
use Rattle.cqs_core.specs.declared.cells.CoreState.TheVariants as state
use Rattle.cqs_core.specs.declared.doings.Doing.TheVariants as doing
use Rattle.cqs_core.specs.QueueSteps.{settles_owing, serves, leaves, delegates, ends_refused}
use Rattle.cqs_latch_object.specs.declared.entries.LatchEntry.{LatchEntry}
use Rattle.cqs_latch_object.specs.declared.entries.LatchEntry.TheVariants as entry
use Rattle.cqs_resume.specs.declared.resumed.Resumed.{Resumed}
use Rattle.cqs_resume.specs.declared.resumed.Resumed.TheVariants as resumed
use Rattle.cqs_resume.specs.Resumes as resumes
use Rattle.cqs_resume.specs.Resumes.{Resumes, most_passed_over}
use Rattle.cqs_rule.specs.declared.queue.tokens.Under.{Under}
use Rattle.cqs_rule_laws.specs.declared.view.Facts.{Facts}
use Rattle.cqs_rule_laws.specs.declared.view.View.{View}
use Rattle.cqs_rule.specs.Callbacks.{Asking, by_step}
use Rattle.cqs_rule_laws.specs.Called.{Called}
use Rattle.cqs_rule_laws.specs.Lists.{Has}
use Rattle.cqs_rule_laws.specs.Ruled.{number_at}
use Rattle.cqs_rule_laws.proofs.Calls.{called-and}
use Rattle.cqs_rule_laws.proofs.Causes.{once-later}
use Rattle.cqs_rule_laws.proofs.Rules.{call-rule_ending, call-rule_own}
use Rattle.cqs_words.specs.Waiters.{is_done}
use Rattle.cqs_cancel.specs.AtOnce.{LeavesAtOnce}
use Rattle.cqs_cancel.specs.Cancels as cancel
use Rattle.cqs_cancel.proofs.Outs.{Asks, Asked, EndsGone, asked-so, out-gone, went-gone, out-owing, out-waiter, late-cell, late-ready, late-waits}
use Rattle.cqs_cancel.specs.declared.at_once.AtOnce.{AtOnce}
use Rattle.cqs_cancel.specs.declared.at_once.AtOnce.TheVariants as once
use Rattle.cqs_cancel.specs.declared.cancelling.Left.TheVariants.{Gone, GoneOwing}
use Rattle.cqs_latch.specs.declared.answers.LatchLeft.TheVariants as gone
use Rattle.cqs_rule_laws.specs.declared.config.CancelMode.{CancelMode}
use Rattle.cqs_rule_laws.specs.declared.config.CancelMode.TheVariants.{Smart, Simple}
use Rattle.cqs_rule_laws.specs.CallRule.{IsReady}
use Rattle.cqs_latch.specs.Calls.{IsLegalOf}
use Rattle.cqs_latch.specs.Causes.{primitive_of, CellWas}
use Rattle.cqs_latch.specs.Latch.{latch_object}
use Rattle.cqs_latch.specs.LatchEvents as event
use Rattle.cqs_latch.specs.LatchTold.{ReadsWaiters}
use Rattle.cqs_latch.specs.LeftAnswers.{WasAsked, WentSo, HasLeft}
use Rattle.cqs_latch.specs.Steps.{GoesOn, as_left}
use Rattle.cqs_latch.specs.Waking.{Ending, served_at, left_at, refused_at, ending_entries, woken_entries, handed_back, EndsSo}
use Rattle.cqs_latch.proofs.Along.{Along, along-onward, word-later}
use Rattle.cqs_latch.proofs.WakeSteps.{Ran, ended-cell, ended-only, ended-ran, goes-handed, handed-since, woken-none}
use Rattle.cqs_latch.proofs.WordsFound.{reads-waiters}

none-some : (under : Under) → ◌≡◌ {A = Option Under} None (Some under) → ⊥
none-some under is = cc

decided-so : (k : ℕ) (a b : Bool) → doing.Decided k (not a) ≡ doing.Decided k b → not a ≡ b
decided-so k a b is = cc

-- how a latch is asked, and what it shows then
abbrev pub asked_so : Asking LatchEntry
asked_so = by_step 1 event.leaves

abbrev leave_entries : ℕ → ℕ → List LatchEntry
leave_entries p k = entry.Leave p k ∷ []

asks : Asks latch_object event.leaves leave_entries
asks = record {
  starting = λ p k payload. refl;
  asking = λ m k is. ap (λ d. entry.Leave m.pass (number_at d) ∷ []) is;
  keeps = λ m. refl;
  settling = λ p k payload. refl;
  owing = λ p k payload. refl;
  refusing = λ p k payload. refl;
  refusing_value = λ p k payload. refl;
}

done-is : (a b : Bool) → not a ≡ b → a ≡ not b
done-is true b is = ap not is
done-is false b is = ap not is

module _ {T : Type 0} where
  -- it was asked, and answered so
  abbrev AskedSo : Bool → ℕ → ℕ → View LatchEntry T → View LatchEntry T → Type 0
  AskedSo answer k word v u = Asked latch_object primitive_of 1 event.leaves leave_entries asks answer k word v u

  was-asked : (answer : Bool) (k word : ℕ) (v u : View LatchEntry T) → AskedSo answer k word v u
      → WasAsked (not answer) k v u
  was-asked answer k word v u a = record {
    word = a.word;
    before = a.before;
    done_is = done-is (is_done a.word) answer (decided-so k (is_done a.word) answer a.decided);
    found = record {
      since = a.since;
      seen = a.seen;
      reads = reads-waiters u.opening a.word a.before a.was;
      found = a.found;
    };
  }

  went-so : (k word : ℕ) (v u : View LatchEntry T)
      → EndsGone latch_object primitive_of 1 event.leaves leave_entries asks k word v u → WentSo k v [] u
  went-so k word v u e = by (went-gone latch_object primitive_of 1 event.leaves leave_entries asks k word v u e)
    where
      by : (AskedSo true k word v u × CellWas state.Cancelling k [] u)
          ⊎ (AskedSo false k word v u × (CellWas state.Cancelling k [] u ⊎ CellWas state.Delegated k [] u))
          → WentSo k v [] u
      by (inl went) = inl (was-asked true k word v u went.0, went.1)
      by (inr went) = inr (was-asked false k word v u went.0, went.1)

  -- what was found stays found while the call goes on
  asked-later : (k : ℕ) (v u w : View LatchEntry T) (es : List LatchEntry) → WasAsked false k v u → Along u es [] w
      → WasAsked false k v w
  asked-later k v u w es a along = record {
    word = a.word;
    before = a.before;
    done_is = a.done_is;
    found = word-later 1 a.word ReadsWaiters v u w a.before _ es [] a.found along;
  }

  module _ (k : ℕ) (v : View LatchEntry T) (ready : IsReady v.facts) (own : Has v.number v.own) where
    pub smart-gone : (w : View LatchEntry T) → IsLegalOf w
        → cancel.Cancels latch_object primitive_of asked_so k v Gone w → HasLeft Smart k v gone.Gone w
    smart-gone w legal b =
        let o = out-gone latch_object primitive_of 1 event.leaves leave_entries asks k b.word v w b.ends in (
          [],
          call-rule_ending latch_object v w (entry.Leave v.number k ∷ []) [] [] o.called (λ n. refl, tt) tt own legal,
          (
            out-waiter latch_object primitive_of 1 event.leaves leave_entries asks _ _ k v w Gone b o,
            went-so k b.word v w b.ends,
            record {
              ready = record { idle = o.doing_is; further = ap (λ h. h.further) o.has_is ∙ ready.further };
              waits_are = o.waits_are;
            },
          ),
        )

    -- a resumption that was left to the caller ended so
    passed-on : (payload : ℕ) (u w : View LatchEntry T) (e : Ending) (over : List ℕ) → IsLegalOf w
        → cancel.Cancels latch_object primitive_of asked_so k v (GoneOwing payload) u
        → Ran (ending_entries e) 0 over u w → EndsSo e w → HasLeft Smart k v gone.Gone w
    passed-on payload u w e over legal b r cell =
        let out = out-owing latch_object primitive_of 1 event.leaves leave_entries asks k b.word payload v u b.ends.0 in
        let o = out.0 in
        let less = r.further in
        let owes : u.facts.has.further ≡ v.facts.has.further = ap (λ h. h.further) o.has_is in
        let none = ready.further in (
          e ∷ [],
          call-rule_ending latch_object v w (entry.Leave v.number k ∷ []) (woken_entries (e ∷ [])) []
              (subst (λ es. Called latch_object v (entry.Leave v.number k ∷ es) [] w)
              (sym (append-nil (ending_entries e)))
              (called-and latch_object v u w _ [] _ [] o.called r.along.called)) (λ n. refl, tt)
              (woken-none (e ∷ [])) own legal,
          (
            once-later primitive_of state.Waiter k v u w (out-waiter latch_object primitive_of 1 event.leaves
                leave_entries asks _ _ k v u (GoneOwing payload) b o) (along-onward u w _ _ r.along),
            (
              asked-later k v u w _ (was-asked true k b.word v u (asked-so latch_object primitive_of
                  1 event.leaves leave_entries asks _ settles_owing true k b.word payload v u b.ends.0)) r.along,
              once-later primitive_of state.Delegated k v u w out.1 (along-onward u w _ _ r.along),
              cell,
            ),
            record {
              ready = record { idle = r.idle; further = omega (arith, less, owes, none) };
              waits_are = r.waits ∙ o.waits_are;
            },
          ),
        )

    ended-so : (payload : ℕ) (u w : View LatchEntry T) (r : Resumed) → IsLegalOf w
        → cancel.Cancels latch_object primitive_of asked_so k v (GoneOwing payload) u → None ≡ handed_back r
        → Resumes latch_object primitive_of most_passed_over None payload u r w → HasLeft Smart k v gone.Gone w
    ended-so payload u w (resumed.Served n) legal b is e =
        passed-on payload u w (served_at n) _ legal b
        (ended-ran serves state.Waiter most_passed_over None payload n u w e)
        (ended-cell serves state.Waiter most_passed_over None payload n u w e)
    ended-so payload u w (resumed.Left n) legal b is (inl e) =
        passed-on payload u w (left_at n) _ legal b (ended-ran leaves state.Empty most_passed_over None payload n u w e)
        (inl (ended-cell leaves state.Empty most_passed_over None payload n u w e))
    ended-so payload u w (resumed.Left n) legal b is (inr e) =
        passed-on payload u w (left_at n) _ legal b
        (ended-ran delegates state.Cancelling most_passed_over None payload n u w e)
        (inr (ended-cell delegates state.Cancelling most_passed_over None payload n u w e))
    ended-so payload u w (resumed.Refused n) legal b is e =
        passed-on payload u w (refused_at n) _ legal b
        (ended-ran ends_refused state.Refused most_passed_over None payload n u w e)
        (ended-cell ends_refused state.Refused most_passed_over None payload n u w e)
    ended-so payload u w (resumed.Under under) legal b is e = absurd (none-some under is)

    pub smart-passed : (payload : ℕ) (u w : View LatchEntry T) → IsLegalOf w
        → cancel.Cancels latch_object primitive_of asked_so k v (GoneOwing payload) u
        → GoesOn payload u None w → HasLeft Smart k v gone.Gone w
    smart-passed payload u w legal b (r, is, goes) =
        ended-so payload u w r legal b is (ended-only most_passed_over None payload u w r
        (λ under same. none-some under (is ∙ ap handed_back same)) goes)

    -- it was handed back
    pub smart-owing : (payload : ℕ) (u w : View LatchEntry T) (under : Under) → IsLegalOf w
        → cancel.Cancels latch_object primitive_of asked_so k v (GoneOwing payload) u
        → GoesOn payload u (Some under) w
        → HasLeft Smart k v (gone.GoneOwing (record { under = under; further = 0 })) w
    smart-owing payload u w under legal b (r, is, e) = by r is e
      where
        some-none : ◌≡◌ {A = Option Under} (Some under) None → ⊥
        some-none is = cc

        same-under : (again : Under) → ◌≡◌ {A = Option Under} (Some under) (Some again) → again ≡ under
        same-under again is = cc

        handed : resumes.GoesOn latch_object primitive_of most_passed_over None payload u (resumed.Under under) w
            → HasLeft Smart k v (gone.GoneOwing (record { under = under; further = 0 })) w
        handed goes =
            let out = out-owing latch_object primitive_of 1 event.leaves leave_entries asks k b.word payload v u
            b.ends.0 in
            let o = out.0 in
            let h = goes-handed None payload under u w goes in
            let grew = ap (λ (f : Facts). f.heads) b.ends.0.facts_are in
            let less = h.further in
            let owes : u.facts.has.further ≡ v.facts.has.further = ap (λ h. h.further) o.has_is in
            let none = ready.further in (
              [],
              call-rule_ending latch_object v w (entry.Leave v.number k ∷ []) [] []
                  (called-and latch_object v u w _ [] [] [] o.called h.along.called) (λ n. refl, tt) tt own legal,
              (
                refl,
                once-later primitive_of state.Waiter k v u w (out-waiter latch_object primitive_of 1 event.leaves
                    leave_entries asks _ _ k v u (GoneOwing payload) b o) (along-onward u w _ _ h.along),
                asked-later k v u w _ (was-asked true k b.word v u (asked-so latch_object primitive_of
                    1 event.leaves leave_entries asks _ settles_owing true k b.word payload v u b.ends.0)) h.along,
                once-later primitive_of state.Delegated k v u w out.1 (along-onward u w _ _ h.along),
                handed-since under [] v u w o.called.same (o.passed ∙ sym (append-nil v.facts.passed)) (_, grew) h.why,
                record {
                  under = h.has;
                  further = omega (arith, less, owes, none);
                  payload = λ some. absurd (omega arith);
                },
                refl,
                h.waits ∙ o.waits_are,
              ),
            )

        by : (r : Resumed) → Some under ≡ handed_back r
            → resumes.GoesOn latch_object primitive_of most_passed_over None payload u r w
            → HasLeft Smart k v (gone.GoneOwing (record { under = under; further = 0 })) w
        by (resumed.Served n) is e = absurd (some-none is)
        by (resumed.Left n) is e = absurd (some-none is)
        by (resumed.Refused n) is e = absurd (some-none is)
        by (resumed.Under again) is e =
            handed (subst (λ z. resumes.GoesOn latch_object primitive_of most_passed_over None payload u
            (resumed.Under z) w) (same-under again is) e)

    -- the cell was found resumed
    pub late : (mode : CancelMode) (payload : ℕ) (w : View LatchEntry T) → IsLegalOf w
        → cancel.CameLate latch_object primitive_of k payload v w → HasLeft mode k v gone.TooLate w
    late mode payload w legal l = (
      [],
      call-rule_own latch_object v w (entry.Late v.number k ∷ []) _ l.called (λ n. refl, tt) own legal,
      (
        refl,
        (late-cell latch_object primitive_of k payload v w l).0,
        record {
          ready = late-ready latch_object primitive_of k payload v w l ready;
          waits_are = late-waits latch_object primitive_of k payload v w l;
        },
      ),
    )

    -- the waiter left at once
    simple-gone : (w : View LatchEntry T) → IsLegalOf w
        → LeavesAtOnce latch_object primitive_of k v once.Gone w → HasLeft Simple k v gone.Gone w
    simple-gone w legal l =
        let is = l.facts_are in (
          [],
          call-rule_own latch_object v w (entry.Leave v.number k ∷ []) _ l.called (λ n. refl, tt) own legal,
          (
            refl,
            record {
              word = l.word;
              payload = 0;
              cell = l.cell;
              found = (_, ap (λ (f : Facts). f.found) is);
              was = l.was;
            },
            record {
              ready = record {
                idle = ap (λ (f : Facts). f.doing) is;
                further = ap (λ (f : Facts). f.has.further) is ∙ ready.further;
              };
              waits_are = ap (λ (f : Facts). f.waits) is;
            },
          ),
        )

    -- the answer of simple mode
    pub simple-left : (answer : AtOnce) (w : View LatchEntry T) → IsLegalOf w
        → LeavesAtOnce latch_object primitive_of k v answer w → HasLeft Simple k v (as_left answer) w
    simple-left once.Gone w legal l = simple-gone w legal l
    simple-left (once.Late payload) w legal l = late Simple payload w legal l
