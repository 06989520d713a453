-- The resumptions of a pass that is alone reach the first of the line, one after the other.
use Rattle.std.proofs.Common.{◌≡◌, inl, ℕ, ◌+◌, ◌==◌, true, false, List, [], ◌∷◌, ◌++◌, length, slice_get, take, Ok, sym, refl, ap, ◌∙◌, subst, append_assoc, take_at}
use Rattle.std.specs.List.{fold, list_any}
use Rattle.std.proofs.lemmas.List.{append-nil}
use Rattle.std.proofs.lemmas.List.Sums.{fold-append}
use Rattle.cqs_core.specs.declared.doings.Doing.TheVariants as doing
use Rattle.cqs_core.specs.QueueLine.{Waiting}
use Rattle.cqs_core.specs.QueueWaiters.{IsServed, Waiters, waiters, is_reached}
use Rattle.cqs_core.proofs.IdleLines.{line-rises, number_in, numbers_in, served-first, served-past}
use Rattle.cqs_core.proofs.Places.{get-push_at}
use Rattle.cqs_core.proofs.Rising.{IsRising}
use Rattle.cqs_latch_object.specs.declared.entries.LatchEntry.{LatchEntry}
use Rattle.cqs_latch_object.specs.declared.entries.LatchEntry.TheVariants as entry
use Rattle.cqs_latch_object.specs.LatchEntries.{IsAllowed, IsLegal, object_after, after_entry}
use Rattle.cqs_latch_object.specs.LatchObject.{Latch, opening}
use Rattle.cqs_latch_object.specs.LatchShown.{as_read}
use Rattle.cqs_resume.specs.declared.resumed.Resumed.{Resumed}
use Rattle.cqs_resume.specs.declared.resumed.Resumed.TheVariants as resumed
use Rattle.cqs_resume.specs.Begins.{BegunSo}
use Rattle.cqs_resume.specs.Resumes.{GoesOn, most_passed_over}
use Rattle.cqs_rule.specs.declared.queue.tokens.Under.{Under}
use Rattle.cqs_rule_laws.specs.declared.view.Opening.{Opening}
use Rattle.cqs_rule_laws.specs.declared.view.View.{View}
use Rattle.cqs_rule_laws.specs.Alone.{IsAlone, TellsAlone}
use Rattle.cqs_rule_laws.specs.Called.{Called}
use Rattle.cqs_rule.specs.Owed.{under_payload, under_ticket}
use Rattle.cqs_latch.specs.declared.answers.Down.TheVariants as down
use Rattle.cqs_latch.specs.Alone.{FinishesInOrder, HasServedAll, OpensInOrder, ServesFirst, delivers, plain_after, waiting_in}
use Rattle.cqs_latch.specs.Calls.{IsLegalOf}
use Rattle.cqs_latch.specs.Causes.{primitive_of}
use Rattle.cqs_latch.specs.CountAnswers.{Opens}
use Rattle.cqs_latch.specs.Latch.{is_simple, latch_object, latch_shown}
use Rattle.cqs_latch.specs.LatchMade.{count_of, mode_of}
use Rattle.cqs_latch.specs.Waking.{served_at, left_at, refused_at}
use Rattle.cqs_latch.proofs.AloneOpen.{all-idle, object_of, shows-plain_after}
use Rattle.cqs_latch.proofs.WakeSteps.{begun-only, ended-only, next-handed, next-ran, on-handed_back, on-ran}

pub delivers-append : (ks more : List ℕ) → delivers ks ++ delivers more ≡ delivers (ks ++ more)
delivers-append [] more = refl
delivers-append (k ∷ ks) more = ap (λ l. entry.Deliver k ∷ l) (delivers-append ks more)

-- the last entry of a legal history may come after those before it
pub allowed-last : (simple : _) (size : ℕ) (h all : List LatchEntry) (e : LatchEntry) → all ≡ h ++ e ∷ []
    → IsLegal simple size all → IsAllowed (object_after simple size h) e
allowed-last simple size h all e is legal =
    let here : IsAllowed (fold after_entry (opening simple size) (take (length h) all)) e =
    legal.at (length h) e (ap (λ l. slice_get l (length h)) is ∙ get-push_at h e (length h) refl) in
    let before : take (length h) all ≡ h = ap (take (length h)) is ∙ take_at h (e ∷ []) (length h) refl in
    subst (λ l. IsAllowed (fold after_entry (opening simple size) l) e) before here

module _ {T : Type 0} where
  -- what a pass that is alone has seen after a call, and the plain latch then
  pub seen-alone : (v w : View LatchEntry T) (es : List LatchEntry) → Called latch_object v es [] w → v.alone ≡ true
      → w.seen ≡ v.seen ++ es
  seen-alone v w es c alone = c.seen ∙ ap (λ l. v.seen ++ l) (c.sole alone)

  pub after-alone : (v w : View LatchEntry T) (es : List LatchEntry) → Called latch_object v es [] w → v.alone ≡ true
      → plain_after w ≡ fold after_entry (plain_after v) es
  after-alone v w es c alone =
      (λ i. object_of (c.same.opening i) (seen-alone v w es c alone i))
      ∙ fold-append after_entry (opening (is_simple v.opening.mode) v.opening.size) v.seen es

  pub rising-line : (v : View LatchEntry T) (a : IsAlone primitive_of v)
      → (high : ℕ) × IsRising number_in 0 high (plain_after v).waiters.line
  rising-line v a =
      let s = as_read (latch_shown (mode_of a.client) (count_of a.client) a.hidden a.words v.seen) in
      let high : ℕ = 0 + length s.queue.cells in (
        high,
        subst (λ (o : Latch). IsRising number_in 0 high o.waiters.line) (sym (shows-plain_after v a))
            (line-rises s.queue),
      )

  pub serves-nobody : (v : View LatchEntry T) → ServesFirst [] v v
  serves-nobody v = record { served = []; seen = sym (append-nil v.seen); line = refl }

  -- nothing happened
  pub serves-none : (v w : View LatchEntry T) → Called latch_object v [] [] w → v.alone ≡ true → ServesFirst [] v w
  serves-none v w c alone = record {
    served = [];
    seen = seen-alone v w [] c alone;
    line = sym (ap (λ (o : Latch). numbers_in o.waiters.line) (after-alone v w [] c alone));
  }

  -- one was served
  pub serves-one : (v w : View LatchEntry T) (k : ℕ) → Called latch_object v (entry.Deliver k ∷ []) [] w
      → IsLegalOf w → IsAlone primitive_of v → IsAlone primitive_of w → w.facts.doing ≡ doing.Idle → v.alone ≡ true
      → ServesFirst [] v w
  serves-one v w k c legal a b idle alone =
      let s = as_read (latch_shown (mode_of b.client) (count_of b.client) b.hidden b.words w.seen) in
      let o = plain_after v in
      let now : plain_after w ≡ after_entry o (entry.Deliver k) = after-alone v w (entry.Deliver k ∷ []) c alone in
      let may : IsAllowed o (entry.Deliver k) =
      allowed-last (is_simple v.opening.mode) v.opening.size v.seen w.seen (entry.Deliver k)
      (seen-alone v w (entry.Deliver k ∷ []) c alone)
      (subst (λ (z : Opening). IsLegal (is_simple z.mode) z.size w.seen) c.same.opening legal) in
      let shows : is_reached o.waiters k ≡ waiters s.queue =
      ap (λ (z : Latch). z.waiters) (sym now ∙ shows-plain_after w b) in
      let rises = rising-line v a in
      record {
        served = k ∷ [];
        seen = seen-alone v w (entry.Deliver k ∷ []) c alone;
        line = served-first s.queue o.waiters k may.1.0 b.shown.core.sound (all-idle w b idle) 0 rises.0 rises.1
            may.1.1 shows
            ∙ ap (λ (z : Latch). k ∷ numbers_in z.waiters.line) (sym now);
      }

  -- one after the other
  pub serves-then : (own : List LatchEntry) (v u w : View LatchEntry T) → ServesFirst own v u → ServesFirst [] u w
      → ServesFirst own v w
  serves-then own v u w a b = record {
    served = a.served ++ b.served;
    seen = b.seen
        ∙ (ap (λ l. l ++ delivers b.served) a.seen
        ∙ (append_assoc v.seen (own ++ delivers a.served) (delivers b.served)
        ∙ ap (λ l. v.seen ++ l) (append_assoc own (delivers a.served) (delivers b.served)
        ∙ ap (λ l. own ++ l) (delivers-append a.served b.served))));
    line = a.line ∙ (ap (λ l. a.served ++ l) b.line ∙ sym (append_assoc a.served b.served (waiting_in w)));
  }

  module _ (v w : View LatchEntry T) (tells : TellsAlone primitive_of v) (one : v.weight ≡ 1)
      (tells' : TellsAlone primitive_of w) (one' : w.weight ≡ 1) (legal : IsLegalOf w) where
    by-one : (k : ℕ) → Called latch_object v (entry.Deliver k ∷ []) [] w → w.facts.doing ≡ doing.Idle
        → v.alone ≡ true → ServesFirst [] v w
    by-one k c idle alone =
        serves-one v w k c legal (tells one alone) (tells' one' (c.same.alone ∙ alone)) idle alone

    -- a resumption was begun, and ended or was handed back
    pub begun-serves : (r : Resumed) → BegunSo latch_object primitive_of 0 v r w → v.alone ≡ true → ServesFirst [] v w
    begun-serves (resumed.Served k) b alone =
        let r = (next-ran (served_at k) v w (inl (begun-only v w _ (λ under is. cc) b))).1 in
        by-one k r.along.called r.idle alone
    begun-serves (resumed.Left k) b alone =
        serves-none v w (next-ran (left_at k) v w (inl (begun-only v w _ (λ under is. cc) b))).1.along.called alone
    begun-serves (resumed.Refused k) b alone =
        serves-none v w (next-ran (refused_at k) v w (begun-only v w _ (λ under is. cc) b)).1.along.called alone
    begun-serves (resumed.Under under) b alone = serves-none v w (next-handed under v w (inl b)).along.called alone

    -- one that had been handed back went on
    pub finished-serves : (under : Under) (r : Resumed)
        → GoesOn latch_object primitive_of most_passed_over (under_ticket under) (under_payload under) v r w
        → v.alone ≡ true → ServesFirst [] v w
    finished-serves under (resumed.Served k) e alone =
        let r = (on-ran under (served_at k) v w (inl (ended-only most_passed_over _ _ v w _ (λ u is. cc) e))).1 in
        by-one k r.along.called r.idle alone
    finished-serves under (resumed.Left k) e alone =
        let r = (on-ran under (left_at k) v w (inl (ended-only most_passed_over _ _ v w _ (λ u is. cc) e))).1 in
        serves-none v w r.along.called alone
    finished-serves under (resumed.Refused k) e alone =
        let r = (on-ran under (refused_at k) v w (ended-only most_passed_over _ _ v w _ (λ u is. cc) e)).1 in
        serves-none v w r.along.called alone
    finished-serves under (resumed.Under again) e alone =
        serves-none v w (on-handed_back under again v w (inl e)).along.called alone

  -- all were served, where nobody waits then
  pub all-served : (own : List LatchEntry) (v w : View LatchEntry T) → ServesFirst own v w → waiting_in w ≡ []
      → w.seen ≡ v.seen ++ (own ++ delivers (waiting_in v))
  all-served own v w s none =
      let all : waiting_in v ≡ s.served = s.line ∙ (ap (λ l. s.served ++ l) none ∙ append-nil s.served) in
      s.seen ∙ ap (λ ks. v.seen ++ (own ++ delivers ks)) (sym all)

  -- the opening itself serves nobody
  opens-first : (v x : View LatchEntry T) (many : ℕ) → Opens v many x → v.alone ≡ true
      → ServesFirst (entry.DownLast v.number ∷ entry.Open v.number ∷ []) v x
  opens-first v x many o alone =
      let own : List LatchEntry = entry.DownLast v.number ∷ entry.Open v.number ∷ [] in
      let c : Called latch_object v own [] x =
      subst (λ es. Called latch_object v es [] x) (append-nil own) o.called.called in
      record {
        served = [];
        seen = seen-alone v x own c alone;
        line = sym (ap (λ (z : Latch). numbers_in z.waiters.line) (after-alone v x own c alone));
      }

  pub opened-in_order : (v x w : View LatchEntry T) (many : ℕ) → Opens v many x
      → (x.alone ≡ true → ServesFirst [] x w) → v.alone ≡ true
      → ServesFirst (entry.DownLast v.number ∷ entry.Open v.number ∷ []) v w
  opened-in_order v x w many o serves alone =
      serves-then (entry.DownLast v.number ∷ entry.Open v.number ∷ []) v x w (opens-first v x many o alone)
      (serves (o.called.called.same.alone ∙ alone))

  pub opened-all : (v w : View LatchEntry T) → ServesFirst (entry.DownLast v.number ∷ entry.Open v.number ∷ []) v w
      → HasServedAll w → OpensInOrder v down.Last w
  opened-all v w s all =
      all-served (entry.DownLast v.number ∷ entry.Open v.number ∷ []) v w s (ap numbers_in all.1)

  pub finished-all : (v w : View LatchEntry T) → ServesFirst [] v w → HasServedAll w → FinishesInOrder v (Ok tt) w
  finished-all v w s all = all-served [] v w s (ap numbers_in all.1)

  -- a wait of a pass that is alone, which was served, stands in the line no more
  pub alone-past : (v : View LatchEntry T) → IsAlone primitive_of v → v.facts.doing ≡ doing.Idle → (k c : ℕ)
      → IsServed k c (plain_after v).waiters.served
      → list_any (λ (w : Waiting). w.wait == k) (plain_after v).waiters.line ≡ false
  alone-past v a idle k c served =
      let s = as_read (latch_shown (mode_of a.client) (count_of a.client) a.hidden a.words v.seen) in
      let shows = ap (λ (o : Latch). o.waiters) (shows-plain_after v a) in
      ap (λ (w : Waiters). list_any (λ (z : Waiting). z.wait == k) w.line) shows
      ∙ served-past s.queue k c a.shown.core.sound (all-idle v a idle)
      (subst (λ (w : Waiters). IsServed k c w.served) shows served)
