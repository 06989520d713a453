-- What steps on the state and on the suspend counter found, and where in the history it was so.
use Rattle.std.proofs.Common.{◌≡◌, ℕ, ◌+◌, Bool, true, false, List, [], ◌∷◌, ◌++◌, ℤ, pos, ◌<ℤ◌, ◌≤ℤ◌, sym, refl, ap, ◌∙◌, subst, append_assoc, arith, cond}
use Rattle.std.specs.Prelude.{count_by, nat_lt}
use Rattle.std.specs.List.{fold}
use Rattle.std.proofs.lemmas.Bool.{ltb-true, ltb-false}
use Rattle.std.proofs.lemmas.Int.{ints}
use Rattle.std.proofs.lemmas.List.{append-nil, append_cancel_right}
use Rattle.std.proofs.lemmas.List.Sums.{sum_by-cons}
use Rattle.cqs_core.specs.Keyed.{without}
use Rattle.cqs_core.specs.declared.entries.Entry.{Entry}
use Rattle.cqs_core.specs.declared.entries.Entry.TheVariants as entry
use Rattle.cqs_core.specs.SemaphoreEntries.{object_after, after_entry, turned_back, has_spoiled}
use Rattle.cqs_core.specs.SemaphoreObject.{Semaphore, due, opening}
use Rattle.cqs_core.specs.SemaphoreShown.{state_of}
use Rattle.cqs_core.proofs.Waits.{enters_by}
use Rattle.cqs_rule_laws.specs.declared.view.Facts.{Facts}
use Rattle.cqs_rule_laws.specs.declared.view.Opening.{Opening}
use Rattle.cqs_rule_laws.specs.declared.view.Sighting.{Sighting}
use Rattle.cqs_rule_laws.specs.declared.view.Sighting.TheVariants.{Word}
use Rattle.cqs_rule_laws.specs.declared.view.View.{View}
use Rattle.cqs_rule_laws.specs.Events.{in_any_case}
use Rattle.cqs_rule_laws.specs.Layout.{client_place}
use Rattle.cqs_rule_laws.specs.Lists.{IsPrefix}
use Rattle.cqs_rule_laws.specs.Saw.{Saw}
use Rattle.cqs_rule_laws.specs.Silent.{silent}
use Rattle.cqs_rule_laws.proofs.Lists.{prefix-then}
use Rattle.cqs_rule_laws.proofs.Prefixes.{saw-prefix}
use Rattle.cqs_semaphore_client.specs.Semaphore.{semaphore_object}
use Rattle.cqs_semaphore_client.specs.SemaphoreSteps.{NextIs, OnState}
use Rattle.cqs_words.specs.State.{count_in, is_above_zero, is_below_zero}
use Rattle.cqs_semaphore.specs.Causes.{is_enter, drawn_in, StateWas, FoundJust, state_after}

turned-next : (o : Semaphore) → (turned_back o).next ≡ o.next
turned-next o = by (nat_lt (due o) o.way) refl
  where
    by : (b : Bool) → nat_lt (due o) o.way ≡ b → (turned_back o).next ≡ o.next
    by true is = rw is refl
    by false is = rw is refl

-- who enters draws a number, and changes nothing of what is on its way, whether the number is broken or not
pub entered-next : (o : Semaphore) (c k : ℕ) → (after_entry o (entry.Enter c k)).next ≡ o.next + 1
entered-next o c k = by (has_spoiled k o.spoiled)
  where
    by : (b : Bool) → (enters_by o c k b).next ≡ o.next + 1
    by true = refl
    by false = refl

pub entered-way : (o : Semaphore) (c k : ℕ) → (after_entry o (entry.Enter c k)).way ≡ o.way
entered-way o c k = by (has_spoiled k o.spoiled)
  where
    by : (b : Bool) → (enters_by o c k b).way ≡ o.way
    by true = refl
    by false = refl

-- an entry draws a number exactly where it is an Enter
step-next : (o : Semaphore) (e : Entry) → (after_entry o e).next ≡ o.next + cond (is_enter e) 1 0
step-next o (entry.TakeNow c) = omega arith
step-next o (entry.TakeDoor c) = omega arith
step-next o (entry.Enter c k) = entered-next o c k
step-next o (entry.TryGot c) = omega arith
step-next o (entry.TryBusy c) = omega arith
step-next o (entry.GiveFreed c) = omega arith
step-next o (entry.GiveSent c) = omega arith
step-next o (entry.Deliver k) = omega arith
step-next o (entry.Spoil c k) = omega arith
step-next o (entry.Undo c k) = omega arith
step-next o (entry.Leave c k) =
    let same = turned-next (record o { line = without (λ w. w.wait) k o.line }) in omega arith
step-next o (entry.Late c k) = omega arith
step-next o (entry.LookGranted c k) = omega arith
step-next o (entry.LookPending c k) = omega arith

next-from : (h : List Entry) (o : Semaphore) → (fold after_entry o h).next ≡ o.next + count_by is_enter h
next-from [] o = omega arith
next-from (e ∷ h) o =
    let here = step-next o e in
    let later = next-from h (after_entry o e) in
    let both : count_by is_enter (e ∷ h) ≡ cond (is_enter e) 1 0 + count_by is_enter h =
    sum_by-cons (λ x. cond (is_enter x) 1 0) e h in
    omega arith

pub next-drawn : (size : ℕ) (h : List Entry) → (object_after size h).next ≡ drawn_in h
next-drawn size h = let all = next-from h (opening size) in omega arith

-- what the tests of a word say of its count
pub count-above : (n : ℕ) → is_above_zero n ≡ true → pos 0 <ℤ count_in n
count-above n is = let above = ltb-true _ _ is in grind (arith, ints)

pub count-not_above : (n : ℕ) → is_above_zero n ≡ false → count_in n ≤ℤ pos 0
count-not_above n is = let below = ltb-false _ _ is in grind (arith, ints)

pub count-below : (n : ℕ) → is_below_zero n ≡ true → count_in n <ℤ pos 0
count-below n is = let below = ltb-true _ _ is in grind (arith, ints)

pub count-not_below : (n : ℕ) → is_below_zero n ≡ false → pos 0 ≤ℤ count_in n
count-not_below n is = let above = ltb-false _ _ is in grind (arith, ints)

pub count-same : (n m : ℕ) → count_in n ≡ count_in m → n ≡ m
count-same n m is = grind (arith, ints)

module _ {T : Type 0} where
  -- the counter was loaded: so many numbers were drawn by then
  pub next-count : (v u : View Entry T) (n : ℕ) → NextIs v n u → drawn_in u.seen ≡ n
  next-count v u n next = sym (next-drawn u.opening.size u.seen) ∙ next.next

  -- the state was found so, by a step from u to x, and the call had come to u and went on from x
  pub state-was : (v u x w : View Entry T) (f : Facts) (es before : List Entry) (n : ℕ) (earlier : List Sighting)
      → IsPrefix v.seen u.seen → Saw semaphore_object u f es x → x.seen ≡ before ++ es
      → count_in n ≡ state_after x before → x.facts.found ≡ v.facts.found ++ (earlier ++ Word (client_place 0) n ∷ [])
      → IsPrefix x.seen w.seen → w.opening ≡ x.opening → IsPrefix x.facts.found w.facts.found
      → StateWas v (count_in n) before es w
  state-was v u x w f es before n earlier old s seen state found on opening found_on =
      let here : before ≡ u.seen ++ s.between =
      append_cancel_right before (u.seen ++ s.between) es (sym seen ∙ s.seen) in
      record {
        since = prefix-then v.seen u.seen before old (s.between, here);
        seen = subst (λ l. IsPrefix l w.seen) seen on;
        state = state ∙ ap (λ (o : Opening).
            state_of (object_after o.size before)) (sym opening);
        word = n;
        count_is = refl;
        found = (
          earlier,
          found_on.0,
          found_on.1
              ∙ (ap (λ l. l ++ found_on.0) found
              ∙ (append_assoc v.facts.found (earlier ++ Word (client_place 0) n ∷ []) found_on.0
              ∙ ap (λ l. v.facts.found ++ l) (append_assoc earlier (Word (client_place 0) n ∷ []) found_on.0))),
        );
      }

  -- the state was loaded, and that was all of the call
  pub state-is : (v w : View Entry T) (n : ℕ) → OnState silent in_any_case v n w → count_in n ≡ state_after w w.seen
  state-is v w n o =
      o.state ∙ ap (λ l. state_of (object_after w.opening.size l)) (sym (append-nil o.before) ∙ sym o.seen)

  pub state-loaded : (v w : View Entry T) (n : ℕ) → OnState silent in_any_case v n w
      → StateWas v (state_after w w.seen) w.seen [] w
  state-loaded v w n o = record {
    since = saw-prefix semaphore_object v w _ _ o.saw;
    seen = ([], sym (append-nil (w.seen ++ []) ∙ append-nil w.seen));
    state = refl;
    word = n;
    count_is = sym (state-is v w n o);
    found = ([], [], ap (λ (f : Facts). f.found) o.saw.facts_are);
  }

  pub state-once : (v w : View Entry T) (n : ℕ) → OnState silent in_any_case v n w
      → FoundJust (state_after w w.seen ∷ []) v w
  state-once v w n o = record {
    words = n ∷ [];
    are = ap (λ z. z ∷ []) (sym (state-is v w n o));
    found = ap (λ (f : Facts). f.found) o.saw.facts_are;
  }

  -- what the state was stays so while the call goes on
  pub state-later : (v x w : View Entry T) (count : ℤ) (before own : List Entry)
      → StateWas v count before own x → IsPrefix x.seen w.seen → IsPrefix x.facts.found w.facts.found
      → w.opening ≡ x.opening → StateWas v count before own w
  state-later v x w count before own s seen found opening = record {
    since = s.since;
    seen = prefix-then (before ++ own) x.seen w.seen s.seen seen;
    state = s.state ∙ ap (λ (o : Opening).
        state_of
        (object_after o.size before)) (sym opening);
    word = s.word;
    count_is = s.count_is;
    found = (
      s.found.0,
      s.found.1 ++ found.0,
      found.1
          ∙ (ap (λ l. l ++ found.0) s.found.2
          ∙ (append_assoc v.facts.found _ found.0
          ∙ ap (λ l. v.facts.found ++ l) (append_assoc s.found.0 (Word (client_place 0) s.word ∷ s.found.1) found.0))),
    );
  }
