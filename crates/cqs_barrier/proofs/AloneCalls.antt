-- The calls of a pass that is alone are the plain barrier's.
use Rattle.std.proofs.Common.{◌≡◌, ◌≢◌, ◌⊎◌, inl, inr, ℕ, suc, ◌+◌, ◌-◌, ◌<◌, ◌≤◌, true, false, List, [], ◌∷◌, ◌++◌, Option, Some, None, slice_get, sym, refl, ap, ◌∙◌, subst, arith, count_by, get_or, cond, ne_eqb, eq-eqb, zero-add}
use Rattle.std.specs.List.{fold}
use Rattle.std.proofs.lemmas.Bool.{cases_lt}
use Rattle.std.proofs.lemmas.List.{append-nil, append_cancel_right}
use Rattle.std.proofs.lemmas.List.Sums.{get_or-le-sum_by}
use Rattle.std.proofs.lemmas.Option.{get_or_from_slice_get}
use Rattle.cqs_core.specs.declared.cells.CoreCell.{CoreCell}
use Rattle.cqs_core.specs.declared.cells.CoreState.TheVariants as state
use Rattle.cqs_core.specs.declared.doings.Doing.{Doing}
use Rattle.cqs_core.specs.declared.doings.Doing.TheVariants as doing
use Rattle.cqs_core.specs.Numbered.{pick_each, cons_option}
use Rattle.cqs_core.specs.QueueLine as queue
use Rattle.cqs_core.specs.QueueLine.{Waiting, in_line, is_resuming}
use Rattle.cqs_core.specs.QueueState.{Queue}
use Rattle.cqs_core.specs.QueueWaiters.{Waits, Waiters, waiters, find_wait}
use Rattle.cqs_core.proofs.LineReads.{line-keyed}
use Rattle.cqs_core.proofs.Places.{get-below}
use Rattle.cqs_core.proofs.Rising.{in-none}
use Rattle.cqs_core.proofs.Waits.{found-waits}
use Rattle.cqs_barrier_object.specs.declared.entries.BarrierEntry.{BarrierEntry}
use Rattle.cqs_barrier_object.specs.declared.entries.BarrierEntry.TheVariants as entry
use Rattle.cqs_barrier_object.specs.BarrierEntries.{object_after, after_entry, IsLegal}
use Rattle.cqs_barrier_object.specs.BarrierObject.{Barrier}
use Rattle.cqs_barrier_object.specs.SoleCaller as plain
use Rattle.cqs_barrier_object.specs.SoleCaller.{tells, delivers, sole_arrive, look_at, leave_at, numbers_of}
use Rattle.cqs_rule.specs.declared.queue.tokens.Wait.{Wait}
use Rattle.cqs_rule_laws.specs.declared.view.View.{View}
use Rattle.cqs_rule_laws.specs.Alone.{IsAlone}
use Rattle.cqs_rule_laws.specs.Hidden.{state_in}
use Rattle.cqs_rule_laws.specs.Lists.{Has}
use Rattle.cqs_rule.specs.Owed.{owes_at}
use Rattle.cqs_rule.specs.Waits.{place_of}
use Rattle.cqs_barrier.specs.declared.answers.Arrived.{Arrived}
use Rattle.cqs_barrier.specs.declared.answers.Arrived.TheVariants.{Last, LastOwing, Later}
use Rattle.cqs_barrier.specs.declared.answers.Owing.{Owing}
use Rattle.cqs_barrier.specs.declared.answers.PartyLeft.{PartyLeft}
use Rattle.cqs_barrier.specs.declared.answers.PartyLeft.TheVariants.{Withdrawn, TooLate, Contended}
use Rattle.cqs_barrier.specs.declared.answers.PartyPolled.{PartyPolled}
use Rattle.cqs_barrier.specs.declared.answers.PartyPolled.TheVariants.{Through, Pending}
use Rattle.cqs_barrier.specs.Alone.{IsPlainArrive, IsPlainFinish, IsPlainPoll, IsPlainCancel}
use Rattle.cqs_barrier.specs.Answers.{IsPolled}
use Rattle.cqs_barrier.specs.Arriving.{WaitsForOthers}
use Rattle.cqs_rule_laws.specs.CallRule.{IsReady}
use Rattle.cqs_barrier.specs.Calls.{CallRule, plain_after, waiting_in}
use Rattle.cqs_barrier.specs.Causes.{primitive_of, CellWas}
use Rattle.cqs_barrier.specs.Entries.{polled_entries}
use Rattle.cqs_barrier.specs.Leaving.{HasLeft}
use Rattle.cqs_barrier.specs.Parties.{parties_of}
use Rattle.cqs_barrier.specs.Resuming.{Ran, RanAll}
use Rattle.cqs_barrier.specs.Waits.{wait_in}
use Rattle.cqs_barrier.specs.Word.{remaining_in}
use Rattle.cqs_barrier.proofs.AloneLine.{nobody-waits, shape_of, sees-remaining}
use Rattle.cqs_barrier.proofs.AloneOrder.{KnowsAlone, legal-alone, allowed-at}
use Rattle.cqs_barrier.proofs.ArriveSteps.{Came, came-early, came-meanwhile}
use Rattle.cqs_barrier.proofs.FinishSteps.{finish_answer, ran-finished}

-- nobody is found under a number at which nothing is read
find-nobody : (passes : List Doing) (m k : ℕ) (cells : List CoreCell)
    → ((i : ℕ) (c : CoreCell) → k ≡ m + i → slice_get cells i ≡ Some c → in_line passes k c ≡ None)
    → find_wait k (pick_each (in_line passes) m cells) ≡ None
find-nobody passes m k [] none = refl
find-nobody passes m k (c ∷ cells) none =
    go (in_line passes m c) refl (find-nobody passes (suc m) k cells (λ i z at got. none (suc i) z (omega arith) got))
  where
    go : (o : Option Waiting) → in_line passes m c ≡ o → find_wait k (pick_each (in_line passes) (suc m) cells) ≡ None
        → find_wait k (cons_option o (pick_each (in_line passes) (suc m) cells)) ≡ None
    go None reads rest = rest
    go (Some w) reads rest =
        let number : w.wait ≡ m = (line-keyed passes).at m c w reads in
        let other : k ≢ w.wait = λ e.
        let here : k ≡ m + 0 = omega arith in
        let nothing : in_line passes k c ≡ None = none 0 c here refl in
        let same : in_line passes k c ≡ in_line passes m c = ap (λ n. in_line passes n c) (omega arith) in
        absurd (cc (nothing, same, reads)) in
        rw (ne_eqb k w.wait other) rest

waiting-gone : (passes : List Doing) (k : ℕ) (c : CoreCell) → c.state ≡ state.Resumed → in_line passes k c ≡ None
waiting-gone passes k c served = by c.owner refl
  where
    by : (o : Option ℕ) → c.owner ≡ o → in_line passes k c ≡ None
    by None is = rw is refl
    by (Some p) is = rw (is, served) refl

-- a wait that was served isn't in the line
served-gone : (q : Queue) (k : ℕ) → state_in (slice_get q.cells k) ≡ state.Resumed → find_wait k (queue.line q) ≡ None
served-gone q k served = find-nobody q.doing 0 k q.cells (λ i c at got.
    let here : slice_get q.cells k ≡ Some c = ap (slice_get q.cells) (at ∙ zero-add i) ∙ got in
    waiting-gone q.doing k c (sym (ap state_in here) ∙ served))

-- deliveries leave the remaining number
delivers-keep : (o : Barrier) (ks : List ℕ) → (fold after_entry o (delivers ks)).remaining ≡ o.remaining
delivers-keep o [] = refl
delivers-keep o (k ∷ ks) = delivers-keep (after_entry o (entry.Deliver k)) ks

abbrev pub last_answer : Option Owing → Arrived
last_answer None = Last
last_answer (Some owing) = LastOwing owing

abbrev resumes_one : Doing → ℕ
resumes_one d = cond (is_resuming d) 1 0

owing-one : (ticket : Option ℕ) → resumes_one (owes_at ticket) ≡ 1
owing-one None = refl
owing-one (Some k) = refl

owing-some : (passes : List Doing) (p : ℕ) (ticket : Option ℕ) → slice_get passes p ≡ Some (owes_at ticket)
    → 1 ≤ count_by is_resuming passes
owing-some passes p ticket there =
    let low = get-below passes p (owes_at ticket) there in
    let one : get_or passes p doing.Idle ≡ owes_at ticket =
    get_or_from_slice_get passes p (owes_at ticket) doing.Idle there in
    subst (λ (n : ℕ). n ≤ count_by is_resuming passes) (ap resumes_one one ∙ owing-one ticket)
    (get_or-le-sum_by resumes_one passes p doing.Idle low)

module _ {T : Type 0} where
  -- an arrival of the last
  served-all : (v w : View BarrierEntry T) (o : Barrier) (ks : List ℕ)
      → plain_after w ≡ fold after_entry o (delivers ks)
      → o.remaining ≡ 0 → KnowsAlone w → w.alone ≡ true → w.facts.doing ≡ doing.Idle → w.facts.has.further ≡ 0
      → waiting_in w ≡ []
  served-all v w o ks now over knows alone idle none =
      ap (λ l. numbers_of l) (nobody-waits w (knows alone) idle none
      (ap (λ (z : Barrier). z.remaining) now ∙ (delivers-keep o ks ∙ over)))

  plain-one : (v : View BarrierEntry T) (ks : List ℕ) → (plain_after v).remaining ≡ 1 → waiting_in v ≡ ks
      → sole_arrive v.number (plain_after v) ≡ tells (entry.ArriveLast v.number ∷ delivers ks) plain.Last
  plain-one v ks one line =
      rw (eq-eqb (plain_after v).remaining 1 one)
      (ap (λ l. tells (entry.ArriveLast v.number ∷ delivers l) plain.Last) line)

  pub plain-last : (m : ℕ) (answer : Option Owing) (v x w : View BarrierEntry T) → Came true m v x
      → RanAll x answer w
      → ((ks : List ℕ) → Ran ks x w → CallRule v (entry.ArriveLast v.number ∷ []) (delivers ks) w)
      → IsLegal x.opening.size x.seen → KnowsAlone w → v.alone ≡ true → IsPlainArrive v (last_answer answer) w
  plain-last m None v x w c r called legal knows alone =
      let first = legal-alone v x (entry.ArriveLast v.number ∷ []) c.called legal alone in
      let one : (plain_after v).remaining ≡ 1 =
      allowed-at v.opening.size v.seen [] [] x.seen (entry.ArriveLast v.number) first.seen first.legal in
      let ran = r.2 in
      let ks = r.0 in
      let alone_x = c.called.same.alone ∙ alone in
      let rule = called ks ran in
      let whole = legal-alone v w (entry.ArriveLast v.number ∷ delivers ks) rule.called rule.legal alone in
      let none = served-all v w (after_entry (plain_after v) (entry.ArriveLast v.number)) ks whole.object refl knows
      (ran.called.same.alone ∙ alone_x) r.4.idle r.4.further in
      let line : waiting_in v ≡ ks =
      sym (ap (λ (z : Barrier). numbers_of z.waiters.line) first.object)
      ∙ (ran.in_order alone_x ∙ (ap (λ l. ks ++ l) none ∙ append-nil ks)) in (
        subst (λ l. CallRule v (entry.ArriveLast v.number ∷ []) (delivers l) w) (sym line) rule,
        plain-one v (waiting_in v) one refl,
      )
  plain-last m (Some owing) v x w c r called legal knows alone =
      let first = legal-alone v x (entry.ArriveLast v.number ∷ []) c.called legal alone in
      let one : (plain_after v).remaining ≡ 1 =
      allowed-at v.opening.size v.seen [] [] x.seen (entry.ArriveLast v.number) first.seen first.legal in
      let ran = r.1 in
      let ks = r.0 in
      let alone_x = c.called.same.alone ∙ alone in
      let line : waiting_in v ≡ ks ++ waiting_in w =
      sym (ap (λ (z : Barrier). numbers_of z.waiters.line) first.object) ∙ ran.in_order alone_x in
      record {
        served = ks;
        called = called ks ran;
        line = line;
        plain = plain-one v (ks ++ waiting_in w) one line;
      }

  -- one of another party
  pub plain-early : (v w : View BarrierEntry T) (k : ℕ) (further : List BarrierEntry)
      → CallRule v (entry.ArriveDoor v.number ∷ entry.Enter v.number k ∷ []) further w → v.alone ≡ true
      → sole_arrive v.number (plain_after v)
      ≡ tells (entry.ArriveDoor v.number ∷ entry.Enter v.number k ∷ []) (plain.Later k)
  plain-early v w k further c alone =
      let l = legal-alone v w (entry.ArriveDoor v.number ∷ entry.Enter v.number k ∷ further) c.called c.legal alone in
      let more : 1 < (plain_after v).remaining =
      allowed-at v.opening.size v.seen [] (entry.Enter v.number k ∷ further) w.seen (entry.ArriveDoor v.number) l.seen
      l.legal in
      let entered = allowed-at v.opening.size v.seen (entry.ArriveDoor v.number ∷ []) further w.seen
      (entry.Enter v.number k) l.seen l.legal in
      let next : k ≡ (plain_after v).waiters.next = entered.1 in
      let other : (plain_after v).remaining ≢ 1 = λ e. absurd (omega arith) in
      rw (ne_eqb (plain_after v).remaining 1 other)
      (ap (λ n. tells (entry.ArriveDoor v.number ∷ entry.Enter v.number n ∷ []) (plain.Later n)) (sym next))

  -- nobody else can have been the last meanwhile
  pub never-meanwhile : (v w : View BarrierEntry T) (k : ℕ)
      → CallRule v (entry.ArriveDoor v.number ∷ entry.Enter v.number k ∷ []) (entry.Deliver k ∷ []) w
      → v.alone ≡ true → ⊥
  never-meanwhile v w k c alone =
      let l =
      legal-alone v w (entry.ArriveDoor v.number ∷ entry.Enter v.number k ∷ entry.Deliver k ∷ []) c.called c.legal
      alone in
      let more : 1 < (plain_after v).remaining =
      allowed-at v.opening.size v.seen [] (entry.Enter v.number k ∷ entry.Deliver k ∷ []) w.seen
      (entry.ArriveDoor v.number) l.seen
      l.legal in
      let over = allowed-at v.opening.size v.seen (entry.ArriveDoor v.number ∷ entry.Enter v.number k ∷ []) [] w.seen
      (entry.Deliver k) l.seen l.legal in
      let none : (plain_after v).remaining - 1 ≡ 0 = over.0 in
      absurd (omega arith)

  pub plain-waits : (m : ℕ) (v x w : View BarrierEntry T) (answer : Arrived) → 1 < remaining_in m → IsReady v.facts
      → Came false m v x → WaitsForOthers x answer w → Has v.number v.own → IsLegal w.opening.size w.seen
      → v.alone ≡ true → IsPlainArrive v answer w
  plain-waits m v x w Last more ready c e has legal alone =
      absurd (never-meanwhile v w e.0 (came-meanwhile m e.0 e.1 v x w more c e.2 has legal).called alone)
  plain-waits m v x w (LastOwing owing) more ready c e has legal alone = absurd e
  plain-waits m v x w (Later wait) more ready c e has legal alone =
      let a = came-early m (Later wait) v x w more ready c e has legal in
      plain-early v w (place_of (wait_in wait)).index [] a.0.0.called alone

  -- a finish
  owes-over : (v : View BarrierEntry T) (ticket : Option ℕ) → IsAlone primitive_of v → v.facts.doing ≡ owes_at ticket
      → (plain_after v).remaining ≡ 0
  owes-over v ticket a owes = go (cases_lt 0 (shape_of v a).remaining)
    where
      go : (0 < (shape_of v a).remaining) ⊎ ((shape_of v a).remaining ≤ 0) → (plain_after v).remaining ≡ 0
      go (inl some) =
          let q = a.hidden.queue in
          let was = a.shown.barrier.before some in
          let there : slice_get q.doing v.number ≡ Some (owes_at ticket) = a.stands.doing ∙ ap Some owes in
          let counted = owing-some q.doing v.number ticket there in
          let none = was.none in
          absurd (omega arith)
      go (inr none) = let same = sees-remaining v a in omega arith

  pub plain-finish : (ticket : Option ℕ) (answer : Option Owing) (v w : View BarrierEntry T)
      → v.facts.doing ≡ owes_at ticket
      → RanAll v answer w → Has v.number v.own → IsLegal w.opening.size w.seen → KnowsAlone v → KnowsAlone w
      → v.alone ≡ true → IsPlainFinish v (finish_answer answer) w
  plain-finish ticket None v w owes r has legal knows knows' alone =
      let ran = r.2 in
      let ks = r.0 in
      let f = ran-finished ks v w ran has legal in
      let l = legal-alone v w (delivers ks) f.called.called legal alone in
      let none = served-all v w (plain_after v) ks l.object (owes-over v ticket (knows alone) owes) knows'
      (ran.called.same.alone ∙ alone) r.4.idle r.4.further in
      let line : waiting_in v ≡ ks = ran.in_order alone ∙ (ap (λ z. ks ++ z) none ∙ append-nil ks) in
      (subst (λ z. CallRule v [] (delivers z) w) (sym line) f.called, none)
  plain-finish ticket (Some owing) v w owes r has legal knows knows' alone =
      let ran = r.1 in (r.0, (ran-finished r.0 v w ran has legal).called, ran.in_order alone)

  -- a wait that is in the line, and one that was served
  in-line : (v w : View BarrierEntry T) (k : ℕ) (e : BarrierEntry) → Waits k v.number (plain_after v).waiters.line
      → (x : Waiting) × (find_wait k (plain_after v).waiters.line ≡ Some x)
  in-line v w k e waits =
      let f = found-waits k v.number (plain_after v).waiters.line waits in (f.wait, f.is)

  out-of_line : (v w : View BarrierEntry T) (k : ℕ) (e : BarrierEntry) → CallRule v (e ∷ []) [] w
      → CellWas state.Resumed k (e ∷ []) w → v.alone ≡ true
      → find_wait k (plain_after v).waiters.line ≡ None
  out-of_line v w k e rule c alone =
      let was = c.was.was in
      let seen : w.seen ≡ v.seen ++ e ∷ [] = rule.called.seen ∙ ap (λ l. v.seen ++ l) (rule.called.sole alone) in
      let here : c.was.before ≡ v.seen = append_cancel_right c.was.before v.seen (e ∷ []) (sym c.was.seen ∙ seen) in
      let opens : (primitive_of {T = T} was.client).opening ≡ v.opening = was.opening_is ∙ rule.called.same.opening in
      let same : object_after (parties_of was.client) c.was.before ≡ plain_after v =
      (λ i. object_after (opens i).size (here i)) in
      let shows : (object_after (parties_of was.client) c.was.before).waiters ≡ waiters was.hidden.queue =
      ap (λ (o : Barrier). o.waiters) was.shown.barrier.object in
      ap (λ (o : Barrier). find_wait k o.waiters.line) (sym same)
      ∙ (ap (λ (o : Waiters). find_wait k o.line) shows ∙ served-gone was.hidden.queue k was.holds.0)

  pub plain-poll : (v w : View BarrierEntry T) (wait : Wait) (answer : PartyPolled)
      → CallRule v (polled_entries v.number (place_of wait).index answer) [] w → IsPolled wait v answer w
      → v.alone ≡ true → IsPlainPoll (place_of wait).index v answer
  plain-poll v w wait Through c is alone =
      ap (look_at v.number (place_of wait).index)
      (out-of_line v w (place_of wait).index (entry.LookGranted v.number (place_of wait).index) c is.0 alone)
  plain-poll v w wait (Pending again) c is alone =
      let k = (place_of wait).index in
      let l = legal-alone v w (entry.LookPending v.number k ∷ []) c.called c.legal alone in
      let may = allowed-at v.opening.size v.seen [] [] w.seen (entry.LookPending v.number k) l.seen l.legal in
      ap (look_at v.number k) (in-line v w k (entry.LookPending v.number k) may).1

  pub plain-cancel : (k : ℕ) (v w : View BarrierEntry T) (answer : PartyLeft) → HasLeft k v answer w → IsReady v.facts
      → KnowsAlone v → v.alone ≡ true → IsPlainCancel k v answer w
  plain-cancel k v w Withdrawn h ready knows alone =
      let l = legal-alone v w (entry.Withdraw v.number k ∷ []) h.0.called h.0.legal alone in
      let may = allowed-at v.opening.size v.seen [] [] w.seen (entry.Withdraw v.number k) l.seen l.legal in
      ap (leave_at v.number k) (in-line v w k (entry.Withdraw v.number k) may.1).1
  plain-cancel k v w TooLate (inl h) ready knows alone =
      let l = legal-alone v w (entry.Stay v.number k ∷ []) h.0.called h.0.legal alone in
      let may = allowed-at v.opening.size v.seen [] [] w.seen (entry.Stay v.number k) l.seen l.legal in
      let empty = nobody-waits v (knows alone) ready.idle ready.further may.0 in
      absurd (in-none (record { wait = k; pass = v.number }) (subst (λ line. Waits k v.number line) empty may.1))
  plain-cancel k v w TooLate (inr h) ready knows alone =
      (h.0, ap (leave_at v.number k) (out-of_line v w k (entry.Late v.number k) h.0 h.2 alone))
  plain-cancel k v w (Contended saw found leaving) h ready knows alone = h.1.beside alone
