-- The calls of a pass that is alone: its history is what it had seen and then the entries of the call, which is legal.
use Rattle.std.proofs.Common.{◌≡◌, ℕ, Bool, true, false, List, [], ◌∷◌, ◌++◌, length, Some, None, Result, Ok, Err, length-append, slice_get, take, sym, refl, ap, ◌∙◌, subst, append_assoc, take_at, arith}
use Rattle.std.specs.List.{fold}
use Rattle.std.proofs.lemmas.List.{append-nil}
use Rattle.std.proofs.lemmas.List.Sums.{fold-append}
use Rattle.cqs_core.proofs.Places.{get-append_left, get-push_at}
use Rattle.cqs_latch_object.specs.declared.entries.LatchEntry.{LatchEntry}
use Rattle.cqs_latch_object.specs.declared.entries.LatchEntry.TheVariants as entry
use Rattle.cqs_latch_object.specs.LatchEntries.{object_after, after_entry, IsLegal, IsAllowed}
use Rattle.cqs_latch_object.specs.LatchObject.{Latch, opening}
use Rattle.cqs_rule_laws.specs.declared.config.AcquireError.{AcquireError}
use Rattle.cqs_rule_laws.specs.declared.config.AcquireError.TheVariants as error
use Rattle.cqs_rule_laws.specs.declared.view.Opening.{Opening}
use Rattle.cqs_rule_laws.specs.declared.view.View.{View}
use Rattle.cqs_rule_laws.specs.Lists.{IsPrefix}
use Rattle.cqs_rule.specs.Waits.{place_of}
use Rattle.cqs_rule_laws.specs.declared.config.CancelMode.{CancelMode}
use Rattle.cqs_latch.specs.declared.answers.Down.{Down}
use Rattle.cqs_latch.specs.declared.answers.Down.TheVariants as down
use Rattle.cqs_latch.specs.declared.answers.LatchLeft.{LatchLeft}
use Rattle.cqs_latch.specs.declared.answers.LatchLeft.TheVariants as gone
use Rattle.cqs_latch.specs.declared.answers.LatchPolled.{LatchPolled}
use Rattle.cqs_latch.specs.declared.answers.LatchPolled.TheVariants as polled
use Rattle.cqs_latch.specs.declared.answers.LatchWait.{LatchWait}
use Rattle.cqs_latch.specs.declared.answers.LatchWait.TheVariants as waited
use Rattle.cqs_latch.specs.Alone.{plain_after, IsPlainCount, IsPlainWait, IsPlainPoll, IsPlainCancel}
use Rattle.cqs_latch.specs.Answers.{HasWaited}
use Rattle.cqs_latch.specs.Calls.{CallRuleEnding, CallRule}
use Rattle.cqs_latch.specs.Causes.{NextWas}
use Rattle.cqs_latch.specs.CountAnswers.{HasCounted}
use Rattle.cqs_latch.specs.Entries.{polled_entries}
use Rattle.cqs_latch.specs.Latch.{is_simple}
use Rattle.cqs_latch.specs.LeftAnswers.{HasLeft}

-- an entry of a legal history may come after those before it
allowed-at : (simple : Bool) (size : ℕ) (h mid rest all : List LatchEntry) (e : LatchEntry)
    → all ≡ h ++ (mid ++ e ∷ rest) → IsLegal simple size all
    → IsAllowed (fold after_entry (object_after simple size h) mid) e
allowed-at simple size h mid rest all e is legal =
    let front = h ++ mid in
    let whole : all ≡ front ++ (e ∷ rest) = is ∙ sym (append_assoc h mid (e ∷ rest)) in
    let there : slice_get (front ++ (e ∷ rest)) (length front) ≡ Some e =
    ap (λ l. slice_get l (length front)) (sym (append_assoc front (e ∷ []) rest))
    ∙ get-append_left (front ++ e ∷ []) rest (length front) e (get-push_at front e (length front) refl) in
    let here : IsAllowed (object_after simple size (take (length front) all)) e =
    legal.at (length front) e (ap (λ l. slice_get l (length front)) whole ∙ there) in
    let before : take (length front) all ≡ front =
    ap (take (length front)) whole ∙ take_at front (e ∷ rest) (length front) refl in
    subst (λ (o : Latch). IsAllowed o e)
    (ap (object_after simple size) before ∙ fold-append after_entry (opening simple size) h mid) here

-- the plain latch of an opening after a history
abbrev object_of : Opening → List LatchEntry → Latch
object_of o history = object_after (is_simple o.mode) o.size history

-- a value can't have come before the latch was open
never-both : (b : Bool) → b ≡ false → b ≡ true → ⊥
never-both b shut open_by = absurd (true-false (sym open_by ∙ shut))
  where
    true-false : true ≡ false → ⊥
    true-false q = cc

module _ {T : Type 0} where
  -- the entry of the call that comes after these
  pub alone-allowed : (v w : View LatchEntry T) (own further last mid rest : List LatchEntry) (e : LatchEntry)
      → CallRuleEnding v own further last w → v.alone ≡ true → own ++ further ≡ mid ++ e ∷ rest
      → IsAllowed (fold after_entry (plain_after v) mid) e
  alone-allowed v w own further last mid rest e rule alone is =
      let seen : w.seen ≡ v.seen ++ (mid ++ e ∷ rest) =
      rule.called.seen ∙ ap (λ l. v.seen ++ l) (rule.called.sole alone ∙ is) in
      subst (λ (o : Opening). IsAllowed (fold after_entry (object_of o v.seen) mid) e) rule.called.same.opening
      (allowed-at (is_simple w.opening.mode) w.opening.size v.seen mid rest w.seen e seen rule.legal)

  -- its first entry
  alone-first : (v w : View LatchEntry T) (own further last : List LatchEntry) (e : LatchEntry) (rest : List LatchEntry)
      → CallRuleEnding v own further last w → v.alone ≡ true → own ++ further ≡ e ∷ rest
      → IsAllowed (plain_after v) e
  alone-first v w own further last e rest rule alone is =
      alone-allowed v w own further last [] rest e rule alone is

  pub plain-counted : (answer : Down) (v w : View LatchEntry T) → HasCounted v answer w → v.alone ≡ true
      → IsPlainCount v answer
  plain-counted down.Already v w (ends, rule, why) alone = alone-first v w _ _ _ _ _ rule alone refl
  plain-counted (down.Left left) v w (ends, rule, why) alone = alone-first v w _ _ _ _ _ rule alone refl
  plain-counted down.Last v w (ends, rule, why) alone = alone-first v w _ _ _ _ _ rule alone refl
  plain-counted (down.LastOwing owed) v w (ends, rule, why) alone = alone-first v w _ _ _ _ _ rule alone refl

  pub plain-left : (mode : CancelMode) (k : ℕ) (answer : LatchLeft) (v w : View LatchEntry T)
      → HasLeft mode k v answer w → v.alone ≡ true → IsPlainCancel k v answer
  plain-left mode k gone.Gone v w (ends, rule, why) alone = alone-first v w _ _ _ _ _ rule alone refl
  plain-left mode k (gone.GoneOwing owed) v w (ends, rule, why) alone = alone-first v w _ _ _ _ _ rule alone refl
  plain-left mode k gone.TooLate v w (ends, rule, why) alone = alone-first v w _ _ _ _ _ rule alone refl

  pub plain-polled : (k : ℕ) (answer : LatchPolled) (v w : View LatchEntry T)
      → CallRule v (polled_entries v.number k answer) [] w → v.alone ≡ true → IsPlainPoll k v answer
  plain-polled k polled.Through v w rule alone = alone-first v w _ _ _ _ _ rule alone refl
  plain-polled k (polled.Pending wait) v w rule alone = alone-first v w _ _ _ _ _ rule alone refl

  -- what a call without entries loaded of the suspend counter
  next-alone : (v w : View LatchEntry T) (n : ℕ) (before : List LatchEntry) → CallRule v [] [] w → NextWas v n before w
      → v.alone ≡ true → (plain_after v).waiters.next ≡ n
  next-alone v w n before rule found alone =
      let seen : w.seen ≡ v.seen =
      rule.called.seen ∙ (ap (λ l. v.seen ++ l) (rule.called.sole alone) ∙ append-nil v.seen)
      in
      let here : before ≡ v.seen = between v.seen before found.since (subst (IsPrefix before) seen found.seen) in
      (λ i. (object_of (sym rule.called.same.opening i) (sym here i)).waiters.next) ∙ found.next
    where
      none : (l m : List LatchEntry) → length l ≡ length (l ++ m) → m ≡ []
      none l [] same = refl
      none l (x ∷ m) same = absurd (omega (arith, same, length-append l (x ∷ m)))

      between : (l m : List LatchEntry) → IsPrefix l m → IsPrefix m l → m ≡ l
      between l m p q =
          let longer = length-append l p.0 in
          let longer' = length-append m q.0 in
          let front : length m ≡ length (l ++ p.0) = ap length p.1 in
          let back : length l ≡ length (m ++ q.0) = ap length q.1 in
          let nothing : p.0 ≡ [] = none l p.0 (omega (arith, longer, longer', front, back)) in
          p.1 ∙ (ap (λ z. l ++ z) nothing ∙ append-nil l)

  -- nothing happened between the beginning of the call and its first step
  pub plain-waited : (answer : Result LatchWait AcquireError) (v w : View LatchEntry T) → HasWaited v answer w
      → v.alone ≡ true → IsPlainWait v answer
  plain-waited (Ok waited.Passed) v w (None, rule, why) alone = alone-first v w _ _ _ _ _ rule alone refl
  plain-waited (Ok waited.Passed) v w (Some k, rule, why) alone =
      let shut = alone-first v w _ _ _ (entry.AwaitDoor v.number) _ rule alone refl in
      let came = alone-allowed v w _ _ _ (entry.AwaitDoor v.number ∷ entry.Enter v.number k ∷ []) [] (entry.Deliver k)
      rule alone refl in
      absurd (never-both (plain_after v).opened shut came.0)
  plain-waited (Ok (waited.Later wait)) v w (drew, rule, why) alone =
      let k = (place_of wait).index in
      let shut = alone-first v w _ _ _ (entry.AwaitDoor v.number) _ rule alone refl in
      let enters = alone-allowed v w _ _ _ (entry.AwaitDoor v.number ∷ []) [] (entry.Enter v.number k) rule alone refl
      in (shut, enters.1)
  plain-waited (Err error.Worn) v w (drew, rule, (above, worn, rests)) alone =
      let low = worn.worn in
      let is = next-alone v w worn.loaded worn.before rule worn.found alone in
      omega (arith, low, is)
  plain-waited (Err error.Crowded) v w (drew, rule, (above, full, rests)) alone =
      let below = full.below in
      let is = next-alone v w full.loaded full.before rule full.found alone in
      omega (arith, below, is)
