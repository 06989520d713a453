-- What the clauses of a latch's calls tell of a pass that is alone, and its first.
use Rattle.std.proofs.Common.{◌≡◌, ℕ, ◌<◌, Bool, true, false, length, arith, List, [], ◌∷◌, ◌++◌, Some, None, Ok, ap, sym, refl, ◌∙◌, subst, append_assoc}
use Rattle.std.specs.List.{fold}
use Rattle.std.proofs.lemmas.List.Sums.{fold-append}
use Rattle.cqs_core.specs.QueueLine.{Waiting}
use Rattle.cqs_core.specs.QueueWaiters.{Waits}
use Rattle.cqs_core.proofs.Places.{get-below}
use Rattle.cqs_core.proofs.Rising.{in-none}
use Rattle.cqs_latch_object.specs.declared.entries.LatchEntry.{LatchEntry}
use Rattle.cqs_latch_object.specs.declared.entries.LatchEntry.TheVariants as entry
use Rattle.cqs_latch_object.specs.LatchEntries.{IsAllowed, IsLegal, after_entry}
use Rattle.cqs_latch_object.specs.LatchObject.{Latch, opening}
use Rattle.cqs_latch.specs.declared.answers.Down.TheVariants as down
use Rattle.cqs_latch.specs.declared.answers.LatchLeft.TheVariants as left
use Rattle.cqs_latch.specs.declared.answers.LatchPolled.TheVariants as polled
use Rattle.cqs_latch.specs.declared.answers.LatchWait.TheVariants as waits
use Rattle.cqs_latch.specs.declared.answers.Owed.{Owed}
use Rattle.cqs_latch.specs.Alone.{IsPlainCancel, IsPlainPoll, OpensInOrder, ServesFirst, delivers, plain_after, waiting_in}
use Rattle.cqs_latch.specs.Answers.{HasWaited, IsPolled}
use Rattle.cqs_latch.specs.Calls.{CallRule, CallRuleEnding, IsLegalOf}
use Rattle.cqs_latch.specs.CountAnswers.{HasCounted}
use Rattle.cqs_latch.specs.Entries.{polled_entries}
use Rattle.cqs_latch.specs.Latch.{is_simple}
use Rattle.cqs_latch.specs.LeftAnswers.{HasLeft, WentSo}
use Rattle.cqs_latch.specs.Waking.{Ending, served_at, left_at, refused_at, missed_at, woken_entries}
use Rattle.cqs_latch.specs.Causes.{primitive_of}
use Rattle.cqs_latch.specs.Owed.{owed_under}
use Rattle.cqs_latch.proofs.AloneOpen.{owing-opened}
use Rattle.cqs_latch.proofs.AloneOrder.{all-served, serves-then}
use Rattle.cqs_rule_laws.specs.Alone.{IsAlone}
use Rattle.cqs_rule_laws.specs.declared.config.CancelMode.TheVariants.{Smart}
use Rattle.cqs_rule.specs.declared.queue.tokens.Wait.{Wait}
use Rattle.cqs_rule_laws.specs.declared.view.Opening.{Opening}
use Rattle.cqs_rule_laws.specs.declared.view.View.{View}
use Rattle.cqs_rule_laws.specs.Lists.{without}
use Rattle.cqs_rule.specs.Waits.{HasWait, place_of}
use Rattle.cqs_rule_laws.proofs.Calls.{same-then}
use Rattle.cqs_floor_alone_kinds.specs.LatchEnds.{ServesAll}
use Rattle.cqs_floor_alone_kinds.proofs.LatchRests.{Comes, allowed-next, plain-next, went}

-- a latch keeps its mode
kept-simple : (o : Latch) (e : LatchEntry) → (after_entry o e).simple ≡ o.simple
kept-simple o (entry.LookPending c k) = refl
kept-simple o (entry.DownLeft c n) = refl
kept-simple o (entry.DownLast c) = refl
kept-simple o (entry.DownAlready c) = refl
kept-simple o (entry.Open c) = refl
kept-simple o (entry.Passed c) = refl
kept-simple o (entry.AwaitDoor c) = refl
kept-simple o (entry.Enter c k) = refl
kept-simple o (entry.Deliver k) = refl
kept-simple o (entry.Leave c k) = refl
kept-simple o (entry.Miss k) = refl
kept-simple o (entry.Late c k) = refl
kept-simple o (entry.LookGranted c k) = refl

stays-simple : (o : Latch) (es : List LatchEntry) → (fold after_entry o es).simple ≡ o.simple
stays-simple o [] = refl
stays-simple o (e ∷ es) = stays-simple (after_entry o e) es ∙ kept-simple o e

module _ {T : Type 0} (v w : View LatchEntry T) (alone : v.alone ≡ true) (zero : v.number ≡ 0) where
  pub counts-comes : (n : ℕ) → HasCounted v (down.Left n) w → Comes v w (entry.DownLeft 0 n ∷ []) v.facts.waits
  counts-comes n (ends, rule, (none, some, was, rests)) = record {
    same = rule.called.same;
    seen = went v w _ _ _ rule alone
        ∙ ap (λ es. v.seen ++ (entry.DownLeft v.number n ∷ woken_entries es)) none
        ∙ ap (λ p. v.seen ++ entry.DownLeft p n ∷ []) zero;
    rests = rests;
  }

  pub already-comes : HasCounted v down.Already w → Comes v w (entry.DownAlready 0 ∷ []) v.facts.waits
  already-comes (ends, rule, (none, was, rests)) = record {
    same = rule.called.same;
    seen = went v w _ _ _ rule alone
        ∙ ap (λ es. v.seen ++ (entry.DownAlready v.number ∷ woken_entries es)) none
        ∙ ap (λ p. v.seen ++ entry.DownAlready p ∷ []) zero;
    rests = rests;
  }

  pub opens-comes : HasCounted v down.Last w → OpensInOrder v down.Last w
      → Comes v w (entry.DownLast 0 ∷ entry.Open 0 ∷ delivers (waiting_in v)) v.facts.waits
  opens-comes (ends, rule, (x, opens, woke, rests)) order = record {
    same = rule.called.same;
    seen = order ∙ ap (λ p. v.seen ++ (entry.DownLast p ∷ entry.Open p ∷ delivers (waiting_in v))) zero;
    rests = rests;
  }

  pub owing-comes : (owed : Owed) (u : View LatchEntry T) → HasCounted v (down.LastOwing owed) u
      → OpensInOrder v (down.LastOwing owed) u → ServesAll u w
      → Comes v w (entry.DownLast 0 ∷ entry.Open 0 ∷ delivers (waiting_in v)) v.facts.waits
  owing-comes owed u (ends, rule, (x, z, opens, woke, next, hands)) order served =
      let own : List LatchEntry = entry.DownLast v.number ∷ entry.Open v.number ∷ [] in
      let rest : ServesFirst [] u w = record {
        served = waiting_in u;
        seen = served.seen;
        line = served.line;
      } in
      record {
        same = same-then v u w rule.called.same served.same;
        seen = all-served own v w (serves-then own v u w order rest) served.none
            ∙ ap (λ p. v.seen ++ (entry.DownLast p ∷ entry.Open p ∷ delivers (waiting_in v))) zero;
        rests = record { ready = served.rests.ready; waits_are = served.rests.waits_are ∙ hands.waits_are };
      }

  pub passes-comes : HasWaited v (Ok waits.Passed) w → IsLegalOf w → (plain_after v).opened ≡ true
      → Comes v w (entry.Passed 0 ∷ []) v.facts.waits
  passes-comes (None, rule, (was, rests)) legal is_open = record {
    same = rule.called.same;
    seen = went v w _ _ _ rule alone ∙ ap (λ p. v.seen ++ entry.Passed p ∷ []) zero;
    rests = rests;
  }
  passes-comes (Some k, rule, why) legal is_open =
      let may : IsAllowed (plain_after v) (entry.AwaitDoor v.number) =
      allowed-next (is_simple v.opening.mode) v.opening.size v.seen (entry.Enter v.number k ∷ entry.Deliver k ∷ [])
      w.seen (entry.AwaitDoor v.number) (went v w _ _ _ rule alone)
      (subst (λ (z : Opening). IsLegal (is_simple z.mode) z.size w.seen) rule.called.same.opening legal) in
      absurd (cc (may, is_open))

  pub waits-comes : (wait : Wait) → HasWaited v (Ok (waits.Later wait)) w
      → Comes v w (entry.AwaitDoor 0 ∷ entry.Enter 0 (place_of wait).index ∷ [])
      (v.facts.waits ++ (place_of wait).index ∷ [])
  waits-comes wait (drew, rule, (above, shut, cell, has, rests)) = record {
    same = rule.called.same;
    seen = went v w _ _ _ rule alone
        ∙ ap (λ p. v.seen ++ (entry.AwaitDoor p ∷ entry.Enter p (place_of wait).index ∷ [])) zero;
    rests = rests;
  }

  pub pends-comes : (wait back : Wait)
      → CallRule v (polled_entries v.number (place_of wait).index (polled.Pending back)) [] w
      → IsPolled wait v (polled.Pending back) w
      → Comes v w (entry.LookPending 0 (place_of wait).index ∷ []) v.facts.waits
  pends-comes wait back rule (there, token, cell, rests) = record {
    same = rule.called.same;
    seen = went v w _ _ _ rule alone ∙ ap (λ p. v.seen ++ entry.LookPending p (place_of wait).index ∷ []) zero;
    rests = rests;
  }

  pub grants-comes : (wait : Wait)
      → CallRule v (polled_entries v.number (place_of wait).index polled.Through) [] w
      → IsPolled wait v polled.Through w
      → Comes v w (entry.LookGranted 0 (place_of wait).index ∷ []) (without (place_of wait).index v.facts.waits)
  grants-comes wait rule (cell, rests) = record {
    same = rule.called.same;
    seen = went v w _ _ _ rule alone ∙ ap (λ p. v.seen ++ entry.LookGranted p (place_of wait).index ∷ []) zero;
    rests = rests;
  }

  pub late-comes : (k : ℕ) → HasLeft Smart k v left.TooLate w
      → Comes v w (entry.Late 0 k ∷ []) (without k v.facts.waits)
  late-comes k (ends, rule, (none, cell, rests)) = record {
    same = rule.called.same;
    seen = went v w _ _ _ rule alone
        ∙ ap (λ es. v.seen ++ (entry.Late v.number k ∷ woken_entries es)) none
        ∙ ap (λ p. v.seen ++ entry.Late p k ∷ []) zero;
    rests = rests;
  }

  -- after a leave of a latch that isn't open no resumption reaches anybody
  after-leave : (k : ℕ) (e : LatchEntry) → IsLegalOf w → v.opening ≡ w.opening
      → w.seen ≡ v.seen ++ (entry.Leave v.number k ∷ e ∷ [])
      → IsAllowed (after_entry (plain_after v) (entry.Leave v.number k)) e
  after-leave k e legal same seen =
      let simple = is_simple v.opening.mode in
      let h : List LatchEntry = v.seen ++ entry.Leave v.number k ∷ [] in
      let is : w.seen ≡ h ++ e ∷ [] = seen ∙ sym (append_assoc v.seen (entry.Leave v.number k ∷ []) (e ∷ [])) in
      subst (λ (z : Latch). IsAllowed z e)
      (fold-append after_entry (opening simple v.opening.size) v.seen (entry.Leave v.number k ∷ []))
      (allowed-next simple v.opening.size h [] w.seen e is
      (subst (λ (z : Opening). IsLegal (is_simple z.mode) z.size w.seen) (sym same) legal))

  none-woken : (k : ℕ) (ends : List Ending) (last : List LatchEntry)
      → CallRuleEnding v (entry.Leave v.number k ∷ []) (woken_entries ends) last w → IsLegalOf w
      → v.opening.mode ≡ Smart → (plain_after v).opened ≡ false
      → WentSo k v ends w → woken_entries ends ≡ []
  none-woken k [] last rule legal smart shut so = refl
  none-woken k (served_at j ∷ []) last rule legal smart shut so =
      let may = after-leave k (entry.Deliver j) legal (sym rule.called.same.opening) (went v w _ _ _ rule alone) in
      absurd (cc (may.0, shut))
  none-woken k (left_at j ∷ []) last rule legal smart shut so = refl
  none-woken k (refused_at j ∷ []) last rule legal smart shut so = refl
  none-woken k (missed_at j ∷ []) last rule legal smart shut so =
      let may = after-leave k (entry.Miss j) legal (sym rule.called.same.opening) (went v w _ _ _ rule alone) in
      let is : (plain_after v).simple ≡ false =
      stays-simple (opening (is_simple v.opening.mode) v.opening.size) v.seen ∙ ap is_simple smart in
      absurd (cc (may.0, is))
  none-woken k (e ∷ (d ∷ ends)) last rule legal smart shut so = absurd so

  pub leaves-comes : (k : ℕ) → HasLeft Smart k v left.Gone w → IsLegalOf w → v.opening.mode ≡ Smart
      → (plain_after v).opened ≡ false → Comes v w (entry.Leave 0 k ∷ []) (without k v.facts.waits)
  leaves-comes k (ends, rule, (once, so, rests)) legal smart shut = record {
    same = rule.called.same;
    seen = went v w _ _ _ rule alone
        ∙ ap (λ es. v.seen ++ (entry.Leave v.number k ∷ es)) (none-woken k ends _ rule legal smart shut so)
        ∙ ap (λ p. v.seen ++ entry.Leave p k ∷ []) zero;
    rests = rests;
  }

  -- nor is one handed back
  pub never-owing : (k : ℕ) (owed : Owed) → HasLeft Smart k v (left.GoneOwing owed) w
      → (plain_after v).opened ≡ false → (plain_after w).opened ≡ false
  never-owing k owed (ends, rule, (none, once, asked, left_there, over, owes, zero_more, waits_are)) shut =
      let seen : w.seen ≡ v.seen ++ entry.Leave v.number k ∷ [] =
      went v w _ _ _ rule alone ∙ ap (λ es. v.seen ++ (entry.Leave v.number k ∷ woken_entries es)) none in
      ap (λ (z : Latch). z.opened) (plain-next v w (entry.Leave v.number k ∷ []) rule.called.same seen) ∙ shut

  pub owing-never : (k : ℕ) (owed : Owed) → HasLeft Smart k v (left.GoneOwing owed) w
      → (plain_after v).opened ≡ false → IsAlone primitive_of w → ⊥
  owing-never k owed (ends, rule, (none, once, asked, left_there, over, owes, zero_more, waits_are)) shut a =
      let is_open = owing-opened w a (owed_under owed) owes.under in
      let is_shut =
      never-owing k owed (ends, rule, (none, once, asked, left_there, over, owes, zero_more, waits_are)) shut in
      cc (is_open, is_shut)

  pub later-has : (wait : Wait) → HasWaited v (Ok (waits.Later wait)) w → HasWait w wait
  later-has wait (drew, rule, (above, shut, cell, has, rests)) = has

  pub pend-stands : (k : ℕ) (wait : Wait) → IsPlainPoll k v (polled.Pending wait)
      → Waits k 0 (plain_after v).waiters.line
  pend-stands k wait stands = subst (λ p. Waits k p (plain_after v).waiters.line) zero stands

  pub leave-stands : (k : ℕ) → IsPlainCancel k v left.Gone → Waits k 0 (plain_after v).waiters.line
  leave-stands k stands = subst (λ p. Waits k p (plain_after v).waiters.line) zero stands

-- where somebody waits at a latch it isn't open, if nobody waits at an open one
pub shut-while : (o : Latch) → (o.opened ≡ true → o.waiters.line ≡ []) → (k c : ℕ) → Waits k c o.waiters.line
    → o.opened ≡ false
shut-while o none k c stands = go o.opened refl
  where
    go : (b : Bool) → o.opened ≡ b → o.opened ≡ false
    go true is = absurd (in-none _ (subst (λ l. Waits k c l) (none is) stands))
    go false is = is

pub some-waits : (k c : ℕ) (line : List Waiting) → Waits k c line → 0 < length line
some-waits k c line stands =
    let below = get-below line stands.place (record { wait = k; pass = c }) stands.there in omega (arith, below)
