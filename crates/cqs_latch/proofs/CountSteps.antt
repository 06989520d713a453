-- A count down is its steps: a load of the count, one taken from it, and where that was the last one, the done bit set.
use Rattle.std.proofs.Common.{◌≡◌, ℕ, ◌+◌, ◌%◌, ◌^◌, ◌<◌, true, false, List, [], ◌∷◌, sym, refl, ap, ◌∙◌, subst, arith, if◌then◌else◌, pos, ◌-ℤ◌}
use Rattle.std.proofs.lemmas.Int.{ints}
use Rattle.cqs_core.specs.declared.doings.Doing.{Doing}
use Rattle.cqs_core.specs.declared.doings.Doing.TheVariants as doing
use Rattle.cqs_latch_object.specs.declared.entries.LatchEntry.{LatchEntry}
use Rattle.cqs_latch_object.specs.declared.entries.LatchEntry.TheVariants as entry
use Rattle.cqs_latch_object.specs.LatchShown.{left_of}
use Rattle.cqs_latch_object.specs.LatchWords.{is_used, is_last, counted_entry, counted_doing}
use Rattle.cqs_rule_laws.specs.declared.view.Facts.{Facts}
use Rattle.cqs_rule_laws.specs.declared.view.Sighting.TheVariants.{Word}
use Rattle.cqs_rule_laws.specs.declared.view.View.{View}
use Rattle.cqs_rule_laws.specs.Events.{facts_moved}
use Rattle.cqs_rule_laws.specs.Layout.{client_place}
use Rattle.cqs_rule_laws.specs.Lists.{Has, IsPrefix}
use Rattle.cqs_rule_laws.specs.Saw.{Saw}
use Rattle.cqs_rule.specs.Claims.{Claimed, Crowds}
use Rattle.cqs_words.specs.State.{count_in, is_above_zero}
use Rattle.cqs_words.specs.Waiters.{waiters_in}
use Rattle.cqs_latch.specs.declared.answers.Down.TheVariants.{Left, Already}
use Rattle.cqs_rule_laws.specs.CallRule.{IsReady}
use Rattle.cqs_latch.specs.Calls.{IsLegalOf}
use Rattle.cqs_latch.specs.Causes.{WordWas}
use Rattle.cqs_latch.specs.Answers.{WasAbove}
use Rattle.cqs_latch.specs.CountAnswers.{HasCounted, IsRefused, Opens}
use Rattle.cqs_latch.specs.Latch.{latch_object}
use Rattle.cqs_latch.specs.LatchEvents.{loads_to_count, counts_down, opens, turns_back}
use Rattle.cqs_latch.specs.LatchTold.{at_word, OnWord, ReadsCount, ReadsWaiters}
use Rattle.cqs_latch.proofs.Along.{Along, along-first, along-and, word-first, word-then, word-later}
use Rattle.cqs_rule_laws.proofs.Lists.{prefix-then}
use Rattle.cqs_rule_laws.proofs.Prefixes.{prefix-is}
use Rattle.cqs_rule_laws.proofs.Rules.{call-rule_own}
use Rattle.cqs_latch.proofs.Claims.{along-back, along-left, crowded-so, trying-first}
use Rattle.cqs_latch.proofs.WaitSteps.{above-later, above-used, none-above, none-used}
use Rattle.cqs_latch.proofs.WordSteps.{above-zero}

-- a count above 0 of which so many are left
last-is : (n left : ℕ) → count_in n ≡ pos (left + 1) → 0 < left → is_last (count_in n) ≡ false
last-is n left is some = rw is (not-last left some)
  where
    not-last : (left : ℕ) → 0 < left → is_last (pos (left + 1)) ≡ false
    not-last left some = grind (arith, ints)

used-is : (n left : ℕ) → count_in n ≡ pos (left + 1) → is_used (count_in n) ≡ false
used-is n left is = rw is (not-used left)
  where
    not-used : (left : ℕ) → is_used (pos (left + 1)) ≡ false
    not-used left = grind (arith, ints)

left-is : (n left : ℕ) → count_in n ≡ pos (left + 1) → left_of (count_in n -ℤ pos 1) ≡ left
left-is n left is = rw is (one-less left)
  where
    one-less : (left : ℕ) → left_of (pos (left + 1) -ℤ pos 1) ≡ left
    one-less left = grind (arith, ints)

module _ {T : Type 0} where
  -- The pass loaded the count as above 0, and may have claimed spare slots since.
  pub record LoadedTo (n : ℕ) (v x : View LatchEntry T) : Type 0 where
    pub along : Along v [] [] x
    pub above : WasAbove v x
    pub tries : x.facts.doing ≡ doing.TryAt (count_in n)
    pub waits : x.facts.waits ≡ v.facts.waits
    pub further : x.facts.has.further ≡ v.facts.has.further
    pub passed : x.facts.passed ≡ v.facts.passed
    pub heads : IsPrefix v.facts.heads x.facts.heads

  pub loaded-to : (v x : View LatchEntry T) (n : ℕ) → is_above_zero n ≡ true
      → OnWord 0 loads_to_count ReadsCount v n x → LoadedTo n v x
  loaded-to v x n above o =
      let test : is_used (count_in n) ≡ false = above-used n above in
      let none : (if is_used (count_in n) then entry.DownAlready v.number ∷ [] else []) ≡ [] =
      ap (λ b. if b then entry.DownAlready v.number ∷ [] else []) test in
      record {
        along = along-first v x _ [] (Word (client_place 0) n ∷ []) (subst (λ es.
            Saw latch_object v (facts_moved loads_to_count (client_place 0) (at_word v n)) es x) none o.saw) refl;
        above = record {
          word = n;
          before = o.before;
          above = above-zero n above;
          found = subst (λ es. WordWas 0 ReadsCount v n o.before es x) none
              (word-first 0 n loads_to_count ReadsCount v x o);
        };
        tries = ap (λ (f : Facts). f.doing) o.saw.facts_are
            ∙ ap (λ b. if b then doing.Idle else doing.TryAt (count_in n)) test;
        waits = ap (λ (f : Facts). f.waits) o.saw.facts_are;
        further = ap (λ (f : Facts). f.has.further) o.saw.facts_are;
        passed = ap (λ (f : Facts). f.passed) o.saw.facts_are;
        heads = prefix-is v.facts.heads x.facts.heads (ap (λ (f : Facts). f.heads) o.saw.facts_are);
      }

  -- it claimed a spare slot
  pub claimed-to : (v x u : View LatchEntry T) (n : ℕ) → LoadedTo n v x → Claimed 1 x u → LoadedTo n v u
  claimed-to v x u n l c =
      let left = c.left.1 in
      let at = ap (λ (z : View LatchEntry T). z.facts) left.is in
      let a : Along x [] [] u = along-left x u c.left.0 u.facts.spare_slots x.facts.duties left in
      record {
        along = along-and v x u [] [] [] [] l.along a;
        above = above-later v x u [] [] l.above a;
        tries = ap (λ (f : Facts). f.doing) at ∙ l.tries;
        waits = ap (λ (f : Facts). f.waits) at ∙ l.waits;
        further = ap (λ (f : Facts). f.has.further) at ∙ l.further;
        passed = ap (λ (f : Facts). f.passed) at ∙ l.passed;
        heads = prefix-then v.facts.heads x.facts.heads u.facts.heads l.heads
            (c.left.0, ap (λ (f : Facts). f.heads) at);
      }

  module _ (v : View LatchEntry T) (ready : IsReady v.facts) (own : Has v.number v.own) where
    -- it loaded the count as used up
    pub already-loaded : (x : View LatchEntry T) (n : ℕ) → is_above_zero n ≡ false
        → OnWord 0 loads_to_count ReadsCount v n x → IsLegalOf x → HasCounted v Already x
    already-loaded x n none o legal =
        let test : is_used (count_in n) ≡ true = none-used n none in
        let one : (if is_used (count_in n) then entry.DownAlready v.number ∷ [] else [])
        ≡ entry.DownAlready v.number ∷ [] =
        ap (λ b. if b then entry.DownAlready v.number ∷ [] else []) test in
        let a : Along v (entry.DownAlready v.number ∷ []) (entry.DownAlready v.number ∷ []) x =
        along-first v x _ (entry.DownAlready v.number ∷ []) (Word (client_place 0) n ∷ []) (subst (λ es.
        Saw latch_object v (facts_moved loads_to_count (client_place 0) (at_word v n)) es x) one o.saw) refl in (
          [],
          call-rule_own latch_object v x (entry.DownAlready v.number ∷ []) _ a.called (λ m. refl, tt) own legal,
          (
            refl,
            record {
              word = n;
              before = o.before;
              used = none-above n none;
              found = subst (λ es. WordWas 0 ReadsCount v n o.before es x) one
                  (word-first 0 n loads_to_count ReadsCount v x o);
            },
            record {
              ready = record {
                idle = ap (λ (f : Facts). f.doing) o.saw.facts_are
                    ∙ ap (λ b. if b then doing.Idle else doing.TryAt (count_in n)) test;
                further = ap (λ (f : Facts). f.has.further) o.saw.facts_are ∙ ready.further;
              };
              waits_are = ap (λ (f : Facts). f.waits) o.saw.facts_are;
            },
          ),
        )

    -- the pass was crowded, and it turned back
    pub refused : (x u z : View LatchEntry T) (n b : ℕ) → is_above_zero n ≡ true
        → OnWord 0 loads_to_count ReadsCount v n x → Crowds 1 x u → OnWord 0 turns_back ReadsCount u b z → IsLegalOf z
        → IsRefused v z
    refused x u z n b above first c o legal =
        let l : LoadedTo n v x = loaded-to v x n above first in
        let at = trying-first v x n ready.idle (above-used n above) first.saw.facts_are in
        let loads = Word (client_place 0) n ∷ [] in
        let may = v.facts.may_draw in
        let was = crowded-so 1 (count_in n) may loads v x u z b l.along.called.same at c o in
        let back = along-back 1 (count_in n) may loads v x u z b l.along.called.same at c o in
        let a : Along v [] [] z = along-and v x z [] [] [] [] l.along back in
        record {
          called = call-rule_own latch_object v z [] [] a.called tt own legal;
          above = above-later v x z [] [] l.above back;
          count = n;
          back = b;
          crowded = was;
          rests = record {
            ready = record {
              idle = ap (λ (f : Facts). f.doing) was.facts_are;
              further = ap (λ (f : Facts). f.has.further) was.facts_are ∙ ready.further;
            };
            waits_are = ap (λ (f : Facts). f.waits) was.facts_are;
          };
        }

    -- The pass took one from the count, which showed this entry and left the pass at this.
    pub record Took (e : LatchEntry) (d : Doing) (n : ℕ) (y : View LatchEntry T) : Type 0 where
      pub along : Along v (e ∷ []) (e ∷ []) y
      pub before : List LatchEntry
      pub found : WordWas 0 ReadsCount v n before (e ∷ []) y
      pub doing : y.facts.doing ≡ d
      pub waits : y.facts.waits ≡ v.facts.waits
      pub further : y.facts.has.further ≡ 0
      pub passed : y.facts.passed ≡ v.facts.passed
      pub heads : IsPrefix v.facts.heads y.facts.heads

    pub took : (e : LatchEntry) (d : Doing) (x y : View LatchEntry T) (m n : ℕ) → LoadedTo m v x
        → OnWord 0 counts_down ReadsCount x n y → counted_entry v.number (count_in n) ≡ e
        → counted_doing (count_in n) ≡ d → Took e d n y
    took e d x y m n l o entry_is doing_is =
        let number : x.number ≡ v.number = l.along.called.same.number in
        let one : counted_entry x.number (count_in n) ∷ [] ≡ e ∷ [] =
        ap (λ p. counted_entry p (count_in n) ∷ []) number ∙ ap (λ z. z ∷ []) entry_is in
        let here : Along x (e ∷ []) (e ∷ []) y =
        along-first x y _ (e ∷ []) (Word (client_place 0) n ∷ []) (subst (λ es.
        Saw latch_object x (facts_moved counts_down (client_place 0) (at_word x n)) es y) one o.saw) refl in
        record {
          along = along-and v x y [] [] _ _ l.along here;
          before = o.before;
          found = subst (λ es. WordWas 0 ReadsCount v n o.before es y) one
              (word-then 0 n counts_down ReadsCount v x y [] [] l.along o);
          doing = ap (λ (f : Facts). f.doing) o.saw.facts_are ∙ doing_is;
          waits = ap (λ (f : Facts). f.waits) o.saw.facts_are ∙ l.waits;
          further = ap (λ (f : Facts). f.has.further) o.saw.facts_are ∙ l.further ∙ ready.further;
          passed = ap (λ (f : Facts). f.passed) o.saw.facts_are ∙ l.passed;
          heads = subst (IsPrefix v.facts.heads) (sym (ap (λ (f : Facts). f.heads) o.saw.facts_are)) l.heads;
        }

    -- it was used up between
    pub already-taken : (x y : View LatchEntry T) (m n : ℕ) → is_above_zero n ≡ false → LoadedTo m v x
        → OnWord 0 counts_down ReadsCount x n y → IsLegalOf y → HasCounted v Already y
    already-taken x y m n none l o legal =
        let test : is_used (count_in n) ≡ true = none-used n none in
        let t : Took (entry.DownAlready v.number) doing.Idle n y =
        took (entry.DownAlready v.number) doing.Idle x y m n l o (rw test refl) (rw test refl) in (
          [],
          call-rule_own latch_object v y (entry.DownAlready v.number ∷ []) _ t.along.called (λ m. refl, tt) own legal,
          (
            refl,
            record { word = n; before = t.before; used = none-above n none; found = t.found },
            record { ready = record { idle = t.doing; further = t.further }; waits_are = t.waits },
          ),
        )

    -- some are left
    pub some-left : (left : ℕ) (x y : View LatchEntry T) (m n : ℕ) → count_in n ≡ pos (left + 1) → 0 < left
        → LoadedTo m v x → OnWord 0 counts_down ReadsCount x n y → IsLegalOf y → HasCounted v (Left left) y
    some-left left x y m n is some l o legal =
        let used : is_used (count_in n) ≡ false = used-is n left is in
        let last : is_last (count_in n) ≡ false = last-is n left is some in
        let less : left_of (count_in n -ℤ pos 1) ≡ left = left-is n left is in
        let t : Took (entry.DownLeft v.number left) doing.Idle n y =
        took (entry.DownLeft v.number left) doing.Idle x y m n l o (rw (used, last) (ap (entry.DownLeft v.number) less))
        (rw (used, last) refl) in (
          [],
          call-rule_own latch_object v y (entry.DownLeft v.number left ∷ []) _ t.along.called (λ m. refl, tt) own legal,
          (
            refl,
            some,
            record { word = n; before = t.before; left_is = is; found = t.found },
            record { ready = record { idle = t.doing; further = t.further }; waits_are = t.waits },
          ),
        )

    -- it was the last one, and the pass is to open the latch
    last-taken : (x y : View LatchEntry T) (m n : ℕ) → count_in n ≡ pos 1 → LoadedTo m v x
        → OnWord 0 counts_down ReadsCount x n y → Took (entry.DownLast v.number) (doing.TryAt (pos 0)) n y
    last-taken x y m n is l o =
        took (entry.DownLast v.number) (doing.TryAt (pos 0)) x y m n l o (rw is refl) (rw is refl)

    -- it sets the done bit
    opens-so : (y z : View LatchEntry T) (n m many : ℕ) → count_in n ≡ pos 1 → many ≡ waiters_in m % 2 ^ 32
        → Took (entry.DownLast v.number) (doing.TryAt (pos 0)) n y → OnWord 1 opens ReadsWaiters y m z → IsLegalOf z
        → Opens v many z
    opens-so y z n m many is many_is t o legal =
        let number : y.number ≡ v.number = t.along.called.same.number in
        let one : entry.Open y.number ∷ [] ≡ entry.Open v.number ∷ [] = ap (λ p. entry.Open p ∷ []) number in
        let here : Along y (entry.Open v.number ∷ []) (entry.Open v.number ∷ []) z =
        along-first y z _ (entry.Open v.number ∷ []) (Word (client_place 1) m ∷ []) (subst (λ es.
        Saw latch_object y (facts_moved opens (client_place 1) (at_word y m)) es z) one o.saw) refl in
        let all : Along v (entry.DownLast v.number ∷ entry.Open v.number ∷ []) (entry.Open v.number ∷ []) z =
        along-and v y z (entry.DownLast v.number ∷ []) (entry.DownLast v.number ∷ []) _ _ t.along here in
        record {
          called = call-rule_own latch_object v z (entry.DownLast v.number ∷ entry.Open v.number ∷ []) _ all.called
              (λ k. refl, (λ k. refl, tt)) own legal;
          last = record {
            word = n;
            before = t.before;
            left_is = is;
            found = word-later 0 n ReadsCount v y z t.before _ _ _ t.found here;
          };
          opened = record {
            word = m;
            before = o.before;
            many_is = many_is;
            found = subst (λ es. WordWas 1 ReadsWaiters v m o.before es z) one
                (word-then 1 m opens ReadsWaiters v y z _ _ t.along o);
          };
          idle = ap (λ (f : Facts). f.doing) o.saw.facts_are;
          owes = ap (λ (f : Facts). f.has.further) o.saw.facts_are ∙ sym many_is;
          payload = ap (λ (f : Facts). f.has.payload) o.saw.facts_are;
          waits = ap (λ (f : Facts). f.waits) o.saw.facts_are ∙ t.waits;
          passed = ap (λ (f : Facts). f.passed) o.saw.facts_are ∙ t.passed;
        }

    -- the two together; the heads that the pass had found come first
    pub opened-so : (x y z : View LatchEntry T) (k n m many : ℕ) → count_in n ≡ pos 1 → many ≡ waiters_in m % 2 ^ 32
        → LoadedTo k v x → OnWord 0 counts_down ReadsCount x n y → OnWord 1 opens ReadsWaiters y m z → IsLegalOf z
        → Opens v many z × IsPrefix v.facts.heads z.facts.heads
    opened-so x y z k n m many is many_is l taken o legal =
        let t = last-taken x y k n is l taken in (
          opens-so y z n m many is many_is t o legal,
          subst (IsPrefix v.facts.heads) (sym (ap (λ (f : Facts). f.heads) o.saw.facts_are)) t.heads,
        )
