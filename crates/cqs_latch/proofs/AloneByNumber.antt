-- In simple mode the resumptions of a pass that is alone end in order of their numbers: at each wait of the line, which
-- they serve, and at each that was left, which they miss.
use Rattle.std.proofs.Common.{◌≡◌, inr, ℕ, suc, ◌+◌, ◌<◌, ◌≤◌, Bool, true, false, List, [], ◌∷◌, ◌++◌, length, count_by, nat_lt, if◌then◌else◌, Ok, sym, refl, ap, ◌∙◌, subst, append_assoc, arith, le-ltb}
use Rattle.std.proofs.lemmas.List.{append-nil}
use Rattle.cqs_core.specs.declared.doings.Doing.TheVariants as doing
use Rattle.cqs_core.specs.Keyed.{insert_by, without}
use Rattle.cqs_core.specs.Numbered.{IsIn}
use Rattle.cqs_core.specs.QueueAsRefused.{as_refused}
use Rattle.cqs_core.specs.QueueLine.{Waiting, ending, is_told_refused}
use Rattle.cqs_core.specs.QueueSound.{IsSound}
use Rattle.cqs_core.specs.QueueSteps.{begins}
use Rattle.cqs_core.specs.QueueState.{Queue}
use Rattle.cqs_core.specs.QueueWaiters.{Waiters, waiters, is_reached}
use Rattle.cqs_core.specs.Resting.{IsIdle}
use Rattle.cqs_core.proofs.Counts.{count_by-none}
use Rattle.cqs_core.proofs.IdleLines.{line-ahead, numbers_in, served-first}
use Rattle.cqs_core.proofs.Keys.{AllAbove, placed-around}
use Rattle.cqs_core.proofs.Rising.{IsRising, lacks-in, rising-left_out}
use Rattle.cqs_latch_object.specs.declared.entries.LatchEntry.{LatchEntry}
use Rattle.cqs_latch_object.specs.declared.entries.LatchEntry.TheVariants as entry
use Rattle.cqs_latch_object.specs.LatchEntries.{IsAllowed, IsLegal}
use Rattle.cqs_latch_object.specs.LatchObject.{Latch}
use Rattle.cqs_latch_object.specs.LatchShown.{holes, holes_shown, read_as}
use Rattle.cqs_latch_object.proofs.Holes.{length-holes, number}
use Rattle.cqs_resume.specs.declared.at_once.EndedAtOnce.{EndedAtOnce}
use Rattle.cqs_resume.specs.declared.at_once.EndedAtOnce.TheVariants as once
use Rattle.cqs_resume.specs.AtOnce.{DrewAndMet, FinishedOrHeld, MeetsOrHolds}
use Rattle.cqs_rule.specs.declared.queue.tokens.Under.{Under}
use Rattle.cqs_rule.specs.Owed.{under_payload, under_ticket}
use Rattle.cqs_rule_laws.specs.declared.config.CancelMode.TheVariants.{Simple}
use Rattle.cqs_rule_laws.specs.declared.view.Opening.{Opening}
use Rattle.cqs_rule_laws.specs.declared.view.View.{View}
use Rattle.cqs_rule_laws.specs.Alone.{IsAlone, TellsAlone}
use Rattle.cqs_rule_laws.specs.CallRule.{IsReady}
use Rattle.cqs_rule_laws.specs.Called.{Called}
use Rattle.cqs_latch.specs.declared.answers.Down.TheVariants as down
use Rattle.cqs_latch.specs.Alone.{EndsFirst, FinishesByNumber, OpensByNumber, ends_due, plain_after, serves, waiting_in, with_misses}
use Rattle.cqs_latch.specs.Calls.{IsLegalOf}
use Rattle.cqs_latch.specs.Causes.{primitive_of}
use Rattle.cqs_latch.specs.CountAnswers.{Opens}
use Rattle.cqs_latch.specs.Latch.{is_simple, latch_object}
use Rattle.cqs_latch.specs.LatchMade.{mode_of}
use Rattle.cqs_latch.specs.Waking.{Ending, served_at, left_at, missed_at, ending_number, woken_entries}
use Rattle.cqs_latch.proofs.AloneHoles.{first-hole, hole-apart, hole-drawn, holes-ahead, holes-rise, missed-behind, served-behind}
use Rattle.cqs_latch.proofs.AloneOpen.{all-idle, no-more, none-due, shows-plain_after}
use Rattle.cqs_latch.proofs.AloneOrder.{after-alone, allowed-last, rising-line, seen-alone}
use Rattle.cqs_latch.proofs.WakeSteps.{finished-only, next-handed, next-ran, on-handed_back, on-ran, once-only, woken-append}

all-above : {Y : Type 0} (key : Y → ℕ) (n : ℕ) (ys : List Y) → ((y : Y) → IsIn y ys → n < key y) → AllAbove key n ys
all-above key n [] above = tt
all-above key n (y ∷ ys) above = (
  above y (record { place = 0; there = refl }),
  all-above key n ys (λ z stands. above z (record { place = suc stands.place; there = stands.there })),
)

above-placed : (n : ℕ) (e : Ending) (es : List Ending) → n < ending_number e → AllAbove ending_number n es
    → AllAbove ending_number n (insert_by ending_number e es)
above-placed n e [] past above = (past, tt)
above-placed n e (d ∷ es) past above =
    go (nat_lt (ending_number e) (ending_number d)) (above-placed n e es past above.1)
  where
    go : (b : Bool) → AllAbove ending_number n (insert_by ending_number e es)
        → AllAbove ending_number n (if b then e ∷ d ∷ es else d ∷ insert_by ending_number e es)
    go true rest = (past, above)
    go false rest = (above.0, rest)

above-misses : (n : ℕ) (ks : List ℕ) (es : List Ending) → AllAbove number n ks → AllAbove ending_number n es
    → AllAbove ending_number n (with_misses ks es)
above-misses n [] es low above = above
above-misses n (k ∷ ks) es low above =
    above-placed n (missed_at k) (with_misses ks es) low.0 (above-misses n ks es low.1 above)

above-serves : (n : ℕ) (line : List Waiting) → AllAbove (λ (w : Waiting). w.wait) n line
    → AllAbove ending_number n (serves (numbers_in line))
above-serves n [] above = tt
above-serves n (w ∷ line) above = (above.0, above-serves n line above.1)

-- the first of those in line goes before all that were left
misses-behind : (ks : List ℕ) (e : Ending) (es : List Ending) → AllAbove number (ending_number e) ks
    → with_misses ks (e ∷ es) ≡ e ∷ with_misses ks es
misses-behind [] e es above = refl
misses-behind (k ∷ ks) e es above =
    let first : ending_number e < k = above.0 in
    rw (misses-behind ks e es above.1, le-ltb k (ending_number e) (omega arith)) refl

module _ {T : Type 0} where
  -- What a pass that is alone has seen in simple mode, as its queue shows it: the queue with its cancelled cells read
  -- as refused ones.
  record IsRead (v : View LatchEntry T) : Type 0 where
    pub queue : Queue
    pub sound : IsSound (as_refused queue)
    pub waiters_are : (plain_after v).waiters ≡ waiters (as_refused queue)
    pub holes_are : (plain_after v).holes ≡ holes (as_refused queue)
    pub idle : v.facts.doing ≡ doing.Idle → IsIdle queue.doing

  is-read : (v : View LatchEntry T) → IsAlone primitive_of v → v.opening.mode ≡ Simple → IsRead v
  is-read v a simple =
      let shows = shows-plain_after v a in
      let mode : is_simple (mode_of a.client) ≡ true =
      ap is_simple (ap (λ (o : Opening). o.mode) a.opening_is ∙ simple) in
      record {
        queue = a.hidden.queue;
        sound = subst (λ b. IsSound (read_as b a.hidden.queue)) mode a.shown.core.sound;
        waiters_are = ap (λ o. o.waiters) shows ∙ ap (λ b. waiters (read_as b a.hidden.queue)) mode;
        holes_are = ap (λ o. o.holes) shows ∙ ap (λ b. holes_shown b (read_as b a.hidden.queue)) mode;
        idle = λ rests. subst (λ b. IsIdle (read_as b a.hidden.queue).doing) mode (all-idle v a rests);
      }

  pub ends-nobody : (v : View LatchEntry T) → EndsFirst [] v v
  ends-nobody v = record { ends = []; seen = sym (append-nil v.seen); due = refl }

  -- nothing happened
  ends-none : (v w : View LatchEntry T) → Called latch_object v [] [] w → v.alone ≡ true → EndsFirst [] v w
  ends-none v w c alone = record {
    ends = [];
    seen = seen-alone v w [] c alone;
    due = sym (ap (λ (o : Latch). with_misses o.holes (serves (numbers_in o.waiters.line)))
        (after-alone v w [] c alone));
  }

  module _ (v w : View LatchEntry T) (tells : TellsAlone primitive_of v) (one : v.weight ≡ 1)
      (tells' : TellsAlone primitive_of w) (one' : w.weight ≡ 1) (legal : IsLegalOf w)
      (simple : v.opening.mode ≡ Simple) (alone : v.alone ≡ true) where
    -- one was served
    ends-served : (k : ℕ) → Called latch_object v (entry.Deliver k ∷ []) [] w → w.facts.doing ≡ doing.Idle
        → EndsFirst [] v w
    ends-served k c idle =
        let o = plain_after v in
        let r = is-read w (tells' one' (c.same.alone ∙ alone)) (ap (λ (z : Opening). z.mode) c.same.opening ∙ simple) in
        let before = is-read v (tells one alone) simple in
        let q = as_refused r.queue in
        let now = after-alone v w (entry.Deliver k ∷ []) c alone in
        let may : IsAllowed o (entry.Deliver k) =
        allowed-last (is_simple v.opening.mode) v.opening.size v.seen w.seen (entry.Deliver k)
        (seen-alone v w (entry.Deliver k ∷ []) c alone)
        (subst (λ (z : Opening). IsLegal (is_simple z.mode) z.size w.seen) c.same.opening legal) in
        let shows : is_reached o.waiters k ≡ waiters q = ap (λ (z : Latch). z.waiters) (sym now) ∙ r.waiters_are in
        let reached : k < q.resumes = served-behind q r.sound (r.idle idle) o.waiters k may.1.0 may.1.1 shows in
        let left : o.holes ≡ holes q = ap (λ (z : Latch). z.holes) (sym now) ∙ r.holes_are in
        let rises = rising-line v (tells one alone) in
        let line : numbers_in o.waiters.line ≡ k ∷ waiting_in w =
        served-first q o.waiters k may.1.0 r.sound (r.idle idle) 0 rises.0 rises.1 may.1.1 shows
        ∙ ap (λ (z : Latch). k ∷ numbers_in z.waiters.line) (sym now) in
        let ahead : AllAbove number k o.holes =
        all-above number k o.holes (λ h stands.
        let past : q.resumes ≤ h = holes-ahead q r.sound (r.idle idle) h (subst (IsIn h) left stands) in
        omega (arith, past, reached)) in
        record {
          ends = served_at k ∷ [];
          seen = seen-alone v w (entry.Deliver k ∷ []) c alone;
          due = ap (λ ks. with_misses o.holes (serves ks)) line
              ∙ (misses-behind o.holes (served_at k) (serves (waiting_in w)) ahead
              ∙ ap (λ (z : Latch). served_at k ∷ with_misses z.holes (serves (waiting_in w))) (sym now));
        }

    -- one was missed
    ends-missed : (k : ℕ) → Called latch_object v (entry.Miss k ∷ []) [] w → w.facts.doing ≡ doing.Idle
        → EndsFirst [] v w
    ends-missed k c idle =
        let o = plain_after v in
        let r = is-read w (tells' one' (c.same.alone ∙ alone)) (ap (λ (z : Opening). z.mode) c.same.opening ∙ simple) in
        let before = is-read v (tells one alone) simple in
        let p = as_refused before.queue in
        let q = as_refused r.queue in
        let now = after-alone v w (entry.Miss k ∷ []) c alone in
        let may : IsAllowed o (entry.Miss k) =
        allowed-last (is_simple v.opening.mode) v.opening.size v.seen w.seen (entry.Miss k)
        (seen-alone v w (entry.Miss k ∷ []) c alone)
        (subst (λ (z : Opening). IsLegal (is_simple z.mode) z.size w.seen) c.same.opening legal) in
        let was : IsIn k (holes p) = subst (IsIn k) before.holes_are may.2 in
        let line : waiters p ≡ waiters q =
        sym before.waiters_are ∙ (ap (λ (z : Latch). z.waiters) (sym now) ∙ r.waiters_are) in
        let rest : without number k o.holes ≡ holes q = ap (λ (z : Latch). z.holes) (sym now) ∙ r.holes_are in
        let drawn : k < q.suspends =
        subst (λ n. k < n) (ap (λ (z : Waiters). z.next) line) (hole-drawn p k before.sound was) in
        let rises : IsRising number 0 (0 + length p.cells) o.holes =
        subst (IsRising number 0 (0 + length p.cells)) (sym before.holes_are) (holes-rise p) in
        let reached : k < q.resumes =
        missed-behind r.queue r.sound (r.idle idle) k drawn
        (λ x stands. hole-apart p k x was (subst (λ (z : Waiters). IsIn x z.line) (sym line) stands))
        (λ stands. lacks-in number k k (without number k o.holes) refl (subst (IsIn k) (sym rest) stands)
        (rising-left_out number k 0 (0 + length p.cells) o.holes rises)) in
        let ahead : (h : ℕ) → IsIn h (without number k o.holes) → q.resumes ≤ h =
        λ h stands. holes-ahead q r.sound (r.idle idle) h (subst (IsIn h) rest stands) in
        let first : o.holes ≡ k ∷ without number k o.holes =
        first-hole k q.resumes 0 (0 + length p.cells) o.holes rises may.2 reached ahead in
        let above : AllAbove ending_number k (with_misses (without number k o.holes) (serves (waiting_in v))) =
        above-misses k (without number k o.holes) (serves (waiting_in v))
        (all-above number k (without number k o.holes) (λ h stands.
        let past : q.resumes ≤ h = ahead h stands in omega (arith, past, reached)))
        (above-serves k o.waiters.line (all-above (λ (x : Waiting). x.wait) k o.waiters.line (λ x stands.
        let past : q.resumes ≤ x.wait =
        line-ahead q r.sound (r.idle idle) x (subst (λ (z : Waiters). IsIn x z.line) (before.waiters_are ∙ line) stands)
        in
        omega (arith, past, reached)))) in
        record {
          ends = missed_at k ∷ [];
          seen = seen-alone v w (entry.Miss k ∷ []) c alone;
          due = ap (λ ks. with_misses ks (serves (waiting_in v))) first
              ∙ (placed-around ending_number k [] (missed_at k)
              (with_misses (without number k o.holes) (serves (waiting_in v))) tt above refl
              ∙ ap (λ (z : Latch). missed_at k ∷ with_misses z.holes (serves (numbers_in z.waiters.line))) (sym now));
        }

    -- a resumption was begun, or one went on that had been handed back, and ended
    pub begun-ends : (r : EndedAtOnce)
        → DrewAndMet latch_object primitive_of begins (MeetsOrHolds latch_object primitive_of) 0 v r w
        → EndsFirst [] v w
    begun-ends (once.Served k) b =
        let r = (next-ran (served_at k) v w (inr (once-only begins 0 v w _ (λ under is. cc) b))).1 in
        ends-served k r.along.called r.idle
    begun-ends (once.Left k) b =
        let r = (next-ran (left_at k) v w (inr (once-only begins 0 v w _ (λ under is. cc) b))).1 in
        ends-none v w r.along.called alone
    begun-ends (once.Missed k) b =
        let r = (next-ran (missed_at k) v w (once-only begins 0 v w _ (λ under is. cc) b)).1 in
        ends-missed k r.along.called r.idle
    begun-ends (once.Under under) b = ends-none v w (next-handed under v w (inr b)).along.called alone

    pub finished-ends : (under : Under) (r : EndedAtOnce)
        → FinishedOrHeld latch_object primitive_of (under_ticket under) (under_payload under) v r w → EndsFirst [] v w
    finished-ends under (once.Served k) f =
        let r = (on-ran under (served_at k) v w (inr (finished-only _ _ v w _ (λ u is. cc) f))).1 in
        ends-served k r.along.called r.idle
    finished-ends under (once.Left k) f =
        ends-none v w (on-ran under (left_at k) v w (inr (finished-only _ _ v w _ (λ u is. cc) f))).1.along.called alone
    finished-ends under (once.Missed k) f =
        let r = (on-ran under (missed_at k) v w (finished-only _ _ v w _ (λ u is. cc) f)).1 in
        ends-missed k r.along.called r.idle
    finished-ends under (once.Under again) f =
        ends-none v w (on-handed_back under again v w (inr f)).along.called alone

  -- one after the other
  pub ends-then : (own : List LatchEntry) (v u w : View LatchEntry T) → EndsFirst own v u → EndsFirst [] u w
      → EndsFirst own v w
  ends-then own v u w a b = record {
    ends = a.ends ++ b.ends;
    seen = b.seen
        ∙ (ap (λ l. l ++ woken_entries b.ends) a.seen
        ∙ (append_assoc v.seen (own ++ woken_entries a.ends) (woken_entries b.ends)
        ∙ ap (λ l. v.seen ++ l) (append_assoc own (woken_entries a.ends) (woken_entries b.ends)
        ∙ ap (λ l. own ++ l) (woken-append a.ends b.ends))));
    due = a.due ∙ (ap (λ l. a.ends ++ l) b.due ∙ sym (append_assoc a.ends b.ends (ends_due w)));
  }

  -- no resumption is due where the latch is open and the pass owes nothing
  none-ends : (w : View LatchEntry T) → IsAlone primitive_of w → w.opening.mode ≡ Simple → IsReady w.facts
      → (plain_after w).opened ≡ true → ends_due w ≡ []
  unfolding is-read
  none-ends w a simple ready is_open =
      let r = is-read w a simple in
      let mode : is_simple (mode_of a.client) ≡ true =
      ap is_simple (ap (λ (o : Opening). o.mode) a.opening_is ∙ simple) in
      let none = none-due w a ready is_open in
      let met : ending (as_refused a.hidden.queue) ≡ 0 =
      subst (λ b. ending (read_as b a.hidden.queue) ≡ 0) mode none.1 in
      let told : count_by is_told_refused (as_refused a.hidden.queue).doing ≡ 0 =
      count_by-none is_told_refused (as_refused a.hidden.queue).doing
      (λ p d does. ap is_told_refused ((r.idle ready.idle).at p d does)) in
      let no_holes : (plain_after w).holes ≡ [] =
      r.holes_are ∙ no-more (holes (as_refused a.hidden.queue)) (length-holes (as_refused a.hidden.queue) told ∙ met) in
      (λ i. with_misses (no_holes i) (serves (numbers_in (none.0 i))))

  -- all ended, where none is due then
  all-ended : (own : List LatchEntry) (v w : View LatchEntry T) → EndsFirst own v w → ends_due w ≡ []
      → w.seen ≡ v.seen ++ (own ++ woken_entries (ends_due v))
  all-ended own v w e none =
      let all : ends_due v ≡ e.ends = e.due ∙ (ap (λ l. e.ends ++ l) none ∙ append-nil e.ends) in
      e.seen ∙ ap (λ es. v.seen ++ (own ++ woken_entries es)) (sym all)

  -- the opening itself ends none
  opens-none : (v x : View LatchEntry T) (many : ℕ) → Opens v many x → v.alone ≡ true
      → EndsFirst (entry.DownLast v.number ∷ entry.Open v.number ∷ []) v x
  opens-none v x many o alone =
      let own : List LatchEntry = entry.DownLast v.number ∷ entry.Open v.number ∷ [] in
      let c : Called latch_object v own [] x =
      subst (λ es. Called latch_object v es [] x) (append-nil own) o.called.called in
      record {
        ends = [];
        seen = seen-alone v x own c alone;
        due = sym (ap (λ (z : Latch). with_misses z.holes (serves (numbers_in z.waiters.line)))
            (after-alone v x own c alone));
      }

  -- the last count down ends so many of them
  pub opened-ends : (v x w : View LatchEntry T) (many : ℕ) → Opens v many x → (x.alone ≡ true → EndsFirst [] x w)
      → v.alone ≡ true → EndsFirst (entry.DownLast v.number ∷ entry.Open v.number ∷ []) v w
  opened-ends v x w many o ends alone =
      ends-then (entry.DownLast v.number ∷ entry.Open v.number ∷ []) v x w (opens-none v x many o alone)
      (ends (o.called.called.same.alone ∙ alone))

  pub opened-by_number : (v x w : View LatchEntry T) (many : ℕ) → Opens v many x
      → (x.alone ≡ true → EndsFirst [] x w) → v.alone ≡ true → TellsAlone primitive_of w → w.weight ≡ 1 → w.alone ≡ true
      → w.opening.mode ≡ Simple → IsReady w.facts → (plain_after w).opened ≡ true → OpensByNumber v down.Last w
  opened-by_number v x w many o ends alone tells one still simple ready is_open =
      all-ended (entry.DownLast v.number ∷ entry.Open v.number ∷ []) v w (opened-ends v x w many o ends alone)
      (none-ends w (tells one still) simple ready is_open)

  pub finished-by_number : (v w : View LatchEntry T) → EndsFirst [] v w → TellsAlone primitive_of w → w.weight ≡ 1
      → w.alone ≡ true → w.opening.mode ≡ Simple → IsReady w.facts → (plain_after w).opened ≡ true
      → FinishesByNumber v (Ok tt) w
  finished-by_number v w ends tells one still simple ready is_open =
      all-ended [] v w ends (none-ends w (tells one still) simple ready is_open)
