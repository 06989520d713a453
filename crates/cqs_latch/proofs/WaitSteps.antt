-- A wait is its steps: a load of the count, a load of the suspend counter, one added to the waiters, and perhaps a
-- suspend.
use Rattle.std.proofs.Common.{◌≡◌, inl, inr, ℕ, ◌<◌, ◌≤◌, Bool, true, false, List, [], ◌∷◌, ◌++◌, Some, None, Result, Ok, Err, refl, ap, ◌∙◌, subst, arith, if◌then◌else◌, lt-ltb, pos, ◌≤ℤ◌}
use Rattle.std.proofs.lemmas.Int.{ints}
use Rattle.cqs_core.specs.declared.doings.Doing.TheVariants as doing
use Rattle.cqs_latch_object.specs.declared.entries.LatchEntry.{LatchEntry}
use Rattle.cqs_latch_object.specs.declared.entries.LatchEntry.TheVariants as entry
use Rattle.cqs_latch_object.specs.LatchWords.{is_used, come_entry, come_doing}
use Rattle.cqs_rule_laws.specs.declared.config.AcquireError.{AcquireError}
use Rattle.cqs_rule_laws.specs.declared.config.AcquireError.TheVariants as error
use Rattle.cqs_rule_laws.specs.declared.config.AcquireError.TheVariants.{Crowded, Worn}
use Rattle.cqs_rule_laws.specs.declared.view.Facts.{Facts}
use Rattle.cqs_rule_laws.specs.declared.view.Sighting.TheVariants.{Word}
use Rattle.cqs_rule_laws.specs.declared.view.View.{View}
use Rattle.cqs_rule_laws.specs.Called.{Called}
use Rattle.cqs_rule_laws.specs.Events.{facts_moved}
use Rattle.cqs_rule_laws.specs.Layout.{suspends_place, client_place}
use Rattle.cqs_rule_laws.specs.Lists.{Has}
use Rattle.cqs_rule_laws.specs.Saw.{Saw}
use Rattle.cqs_rule.specs.Claims.{Claimed, Crowds}
use Rattle.cqs_rule.specs.Waits.{place_of}
use Rattle.cqs_words.specs.State.{count_in, is_above_zero}
use Rattle.cqs_words.specs.Waiters.{is_done}
use Rattle.cqs_latch.specs.declared.answers.LatchWait.{LatchWait}
use Rattle.cqs_latch.specs.declared.answers.LatchWait.TheVariants.{Passed, Later}
use Rattle.cqs_latch.specs.Answers.{HasWaited, IsCrowded, WasAbove, WasShut}
use Rattle.cqs_rule_laws.specs.CallRule.{IsReady}
use Rattle.cqs_latch.specs.Calls.{IsLegalOf}
use Rattle.cqs_latch.specs.Latch.{latch_object}
use Rattle.cqs_latch.specs.LatchEvents.{loads_to_wait, comes, turns_back}
use Rattle.cqs_latch.specs.LatchTold.{at_word, OnWord, ReadsCount, ReadsWaiters, NextIs}
use Rattle.cqs_latch.specs.Steps.{WaitsInLine}
use Rattle.cqs_latch.proofs.Claims.{along-back, along-left, crowded-so, trying-first, trying-next}
use Rattle.cqs_latch.proofs.Along.{Along, along-first, along-and, word-first, word-then, word-later, next-then, next-later}
use Rattle.cqs_rule_laws.proofs.Rules.{call-rule, call-rule_own}
use Rattle.cqs_suspend.proofs.Sat.{sat-taken, sat-installed}
use Rattle.cqs_latch.specs.Causes.{primitive_of, WordWas}
use Rattle.cqs_core.specs.QueueSteps.{draws}
use Rattle.cqs_latch.proofs.WordSteps.{above-zero}

pub above-used : (n : ℕ) → is_above_zero n ≡ true → is_used (count_in n) ≡ false
above-used n above = grind (arith, ints)

pub none-above : (n : ℕ) → is_above_zero n ≡ false → count_in n ≤ℤ pos 0
none-above n none = grind (arith, ints)

pub none-used : (n : ℕ) → is_above_zero n ≡ false → is_used (count_in n) ≡ true
none-used n none = grind (arith, ints)

module _ {T : Type 0} where
  -- The pass loaded the count as above 0, and the suspend counter may have been loaded since.
  pub record Loaded (n : ℕ) (v x : View LatchEntry T) : Type 0 where
    pub along : Along v [] [] x
    pub above : WasAbove v x
    pub tries : x.facts.doing ≡ doing.TryAt (count_in n)
    pub waits : x.facts.waits ≡ v.facts.waits
    pub further : x.facts.has.further ≡ v.facts.has.further

  pub loaded : (v x : View LatchEntry T) (n : ℕ) → is_above_zero n ≡ true → OnWord 0 loads_to_wait ReadsCount v n x
      → Loaded n v x
  loaded v x n above o =
      let test : is_used (count_in n) ≡ false = above-used n above in
      let none : (if is_used (count_in n) then entry.Passed v.number ∷ [] else []) ≡ [] =
      ap (λ b. if b then entry.Passed v.number ∷ [] else []) test in
      record {
        along = along-first v x _ [] (Word (client_place 0) n ∷ []) (subst (λ es.
            Saw latch_object v (facts_moved loads_to_wait (client_place 0) (at_word v n)) es x) none o.saw)
            refl;
        above = record {
          word = n;
          before = o.before;
          above = above-zero n above;
          found = subst (λ es. WordWas 0 ReadsCount v n o.before es x) none
              (word-first 0 n loads_to_wait ReadsCount v x o);
        };
        tries = ap (λ (f : Facts). f.doing) o.saw.facts_are
            ∙ ap (λ b. if b then doing.Idle else doing.TryAt (count_in n)) test;
        waits = ap (λ (f : Facts). f.waits) o.saw.facts_are;
        further = ap (λ (f : Facts). f.has.further) o.saw.facts_are;
      }

  pub above-later : (v u w : View LatchEntry T) (es last : List LatchEntry) → WasAbove v u → Along u es last w
      → WasAbove v w
  above-later v u w es last was a = record {
    word = was.word;
    before = was.before;
    above = was.above;
    found = word-later 0 was.word ReadsCount v u w was.before [] es last was.found a;
  }

  -- it loaded the suspend counter then
  pub counted : (v x y : View LatchEntry T) (n m : ℕ) → Loaded n v x → NextIs x m y → Loaded n v y
  counted v x y n m l next =
      let a : Along x [] [] y = along-first x y _ [] (Word suspends_place m ∷ []) next.saw refl in
      record {
        along = along-and v x y [] [] [] [] l.along a;
        above = above-later v x y [] [] l.above a;
        tries = ap (λ (f : Facts). f.doing) next.saw.facts_are ∙ l.tries;
        waits = ap (λ (f : Facts). f.waits) next.saw.facts_are ∙ l.waits;
        further = ap (λ (f : Facts). f.has.further) next.saw.facts_are ∙ l.further;
      }

  -- it may draw then
  pub may-draw : (x y : View LatchEntry T) (m : ℕ) → NextIs x m y → m < x.limit → y.facts.may_draw ≡ true
  may-draw x y m next below =
      ap (λ (f : Facts). f.may_draw) next.saw.facts_are
      ∙ ap (λ b. if b then true else x.facts.may_draw) (lt-ltb m x.limit below)

  -- and it claimed spare slots
  pub claimed : (v y u : View LatchEntry T) (n : ℕ) → Loaded n v y → Claimed 2 y u → Loaded n v u
  claimed v y u n l c =
      let left = c.left.1 in
      let at = ap (λ (z : View LatchEntry T). z.facts) left.is in
      let a : Along y [] [] u = along-left y u c.left.0 u.facts.spare_slots y.facts.duties left in
      record {
        along = along-and v y u [] [] [] [] l.along a;
        above = above-later v y u [] [] l.above a;
        tries = ap (λ (f : Facts). f.doing) at ∙ l.tries;
        waits = ap (λ (f : Facts). f.waits) at ∙ l.waits;
        further = ap (λ (f : Facts). f.has.further) at ∙ l.further;
      }

  module _ (v : View LatchEntry T) (ready : IsReady v.facts) (own : Has v.number v.own) where
    -- the count was used up
    pub used : (x : View LatchEntry T) (n : ℕ) → is_above_zero n ≡ false → OnWord 0 loads_to_wait ReadsCount v n x
        → IsLegalOf x → HasWaited v (Ok Passed) x
    used x n none o legal =
        let test : is_used (count_in n) ≡ true = none-used n none in
        let one : (if is_used (count_in n) then entry.Passed v.number ∷ [] else []) ≡ entry.Passed v.number ∷ [] =
        ap (λ b. if b then entry.Passed v.number ∷ [] else []) test in
        let a : Along v (entry.Passed v.number ∷ []) (entry.Passed v.number ∷ []) x =
        along-first v x _ (entry.Passed v.number ∷ []) (Word (client_place 0) n ∷ [])
        (subst (λ es. Saw latch_object v (facts_moved loads_to_wait (client_place 0) (at_word v n)) es x) one o.saw)
        refl in (
          None,
          call-rule_own latch_object v x (entry.Passed v.number ∷ []) _ a.called (λ m. refl, tt) own legal,
          (
            inl (record {
              word = n;
              before = o.before;
              used = none-above n none;
              found = subst (λ es. WordWas 0 ReadsCount v n o.before es x) one
                  (word-first 0 n loads_to_wait ReadsCount v x o);
            }),
            record {
              ready = record {
                idle = ap (λ (f : Facts). f.doing) o.saw.facts_are
                    ∙ ap (λ b. if b then doing.Idle else doing.TryAt (count_in n)) test;
                further = ap (λ (f : Facts). f.has.further) o.saw.facts_are ∙ ready.further;
              };
              waits_are = ap (λ (f : Facts). f.waits) o.saw.facts_are;
            },
          ),
        )

    -- as many numbers were drawn as the limit allows, and the pass turned back
    pub worn : (x y z : View LatchEntry T) (n m b : ℕ) → Loaded n v x → NextIs x m y → v.limit ≤ m
        → OnWord 0 turns_back ReadsCount y b z → IsLegalOf z → HasWaited v (Err Worn) z
    worn x y z n m b l next high o legal =
        let l' : Loaded n v y = counted v x y n m l next in
        let back : Along y [] [] z = along-first y z _ [] (Word (client_place 0) b ∷ []) o.saw refl in
        let a : Along v [] [] z = along-and v y z [] [] [] [] l'.along back in (
          None,
          call-rule_own latch_object v z [] [] a.called tt own legal,
          (
            above-later v y z [] [] l'.above back,
            record {
              loaded = m;
              before = y.seen;
              worn = high;
              found = next-later m v y z y.seen [] [] (next-then m v x y [] [] l.along next) back;
            },
            record {
              ready = record {
                idle = ap (λ (f : Facts). f.doing) o.saw.facts_are;
                further = ap (λ (f : Facts). f.has.further) o.saw.facts_are ∙ l'.further ∙ ready.further;
              };
              waits_are = ap (λ (f : Facts). f.waits) o.saw.facts_are ∙ l'.waits;
            },
          ),
        )

    -- fewer were drawn, the pass was crowded, and it turned back
    pub crowded : (x y u z : View LatchEntry T) (n m b : ℕ) → is_above_zero n ≡ true
        → OnWord 0 loads_to_wait ReadsCount v n x → NextIs x m y → m < v.limit → Crowds 2 y u
        → OnWord 0 turns_back ReadsCount u b z → IsLegalOf z → HasWaited v (Err Crowded) z
    crowded x y u z n m b above first next below c o legal =
        let l : Loaded n v x = loaded v x n above first in
        let l' : Loaded n v y = counted v x y n m l next in
        let limit = l.along.called.same.limit in
        let at = trying-next v x y (count_in n) v.facts.may_draw (Word (client_place 0) n ∷ []) m
        (trying-first v x n ready.idle (above-used n above) first.saw.facts_are) next (omega (arith, below, limit)) in
        let loads = Word (client_place 0) n ∷ Word suspends_place m ∷ [] in
        let was = crowded-so 2 (count_in n) true loads v y u z b l'.along.called.same at c o in
        let back = along-back 2 (count_in n) true loads v y u z b l'.along.called.same at c o in
        let a : Along v [] [] z = along-and v y z [] [] [] [] l'.along back in (
          None,
          call-rule_own latch_object v z [] [] a.called tt own legal,
          (
            above-later v y z [] [] l'.above back,
            record {
              loaded = m;
              before = y.seen;
              below = below;
              found = next-later m v y z y.seen [] [] (next-then m v x y [] [] l.along next) back;
              count = n;
              back = b;
              crowded = was;
            },
            record {
              ready = record {
                idle = ap (λ (f : Facts). f.doing) was.facts_are;
                further = ap (λ (f : Facts). f.has.further) was.facts_are ∙ ready.further;
              };
              waits_are = ap (λ (f : Facts). f.waits) was.facts_are;
            },
          ),
        )

    -- The pass added one to the waiters, and found the done bit so.
    pub record Came (b : Bool) (z : View LatchEntry T) : Type 0 where
      pub along : Along v (come_entry v.number b ∷ []) (come_entry v.number b ∷ []) z
      pub above : WasAbove v z
      pub word : ℕ
      pub before : List LatchEntry
      pub is : is_done word ≡ b
      pub found : WordWas 1 ReadsWaiters v word before (come_entry v.number b ∷ []) z
      pub doing : z.facts.doing ≡ come_doing b
      pub waits : z.facts.waits ≡ v.facts.waits
      pub further : z.facts.has.further ≡ 0

    pub came : (b : Bool) (y z : View LatchEntry T) (n m : ℕ) → Loaded n v y → is_done m ≡ b
        → OnWord 1 comes ReadsWaiters y m z → Came b z
    came b y z n m l is o =
        let number : y.number ≡ v.number = l.along.called.same.number in
        let one : come_entry y.number (is_done m) ∷ [] ≡ come_entry v.number b ∷ [] =
        λ i. come_entry (number i) (is i) ∷ [] in
        let here : Along y (come_entry v.number b ∷ []) (come_entry v.number b ∷ []) z =
        along-first y z _ (come_entry v.number b ∷ []) (Word (client_place 1) m ∷ [])
        (subst (λ es. Saw latch_object y (facts_moved comes (client_place 1) (at_word y m)) es z) one o.saw) refl in
        record {
          along = along-and v y z [] [] _ _ l.along here;
          above = above-later v y z _ _ l.above here;
          word = m;
          before = o.before;
          is = is;
          found = subst (λ es. WordWas 1 ReadsWaiters v m o.before es z) one
              (word-then 1 m comes ReadsWaiters v y z [] [] l.along o);
          doing = ap (λ (f : Facts). f.doing) o.saw.facts_are ∙ ap come_doing is;
          waits = ap (λ (f : Facts). f.waits) o.saw.facts_are ∙ l.waits;
          further = ap (λ (f : Facts). f.has.further) o.saw.facts_are ∙ l.further ∙ ready.further;
        }

    -- the latch is open by now
    pub passed : (z : View LatchEntry T) → Came true z → IsLegalOf z → HasWaited v (Ok Passed) z
    passed z c legal = (
      None,
      call-rule_own latch_object v z (entry.Passed v.number ∷ []) _ c.along.called (λ m. refl, tt) own legal,
      (
        inr (c.above, record { word = c.word; before = c.before; done = c.is; found = c.found }),
        record { ready = record { idle = c.doing; further = c.further }; waits_are = c.waits },
      ),
    )

    shut-later : (z w : View LatchEntry T) (es last : List LatchEntry) → Came false z → Along z es last w → WasShut v w
    shut-later z w es last c a = record {
      word = c.word;
      before = c.before;
      shut = c.is;
      found = word-later 1 c.word ReadsWaiters v z w c.before _ es last c.found a;
    }

    -- the pass is at the door, and its suspend ended with a step on the cell of its number
    pub waits : (z w : View LatchEntry T) (answer : LatchWait) → Came false z → WaitsInLine z answer w → IsLegalOf w
        → HasWaited v (Ok answer) w
    waits z w Passed c e legal =
        let k = e.0 in
        let ended = e.2 in
        let number : z.number ≡ v.number = c.along.called.same.number in
        let s = sat-taken latch_object primitive_of draws 2 k e.1 z w ended in
        let here : Along z (entry.Enter z.number k ∷ entry.Deliver k ∷ []) (entry.Deliver k ∷ []) w =
        record { called = ended.called; found = s.onward.found.0; found_is = s.onward.found.1 } in
        let both : Along v (entry.AwaitDoor v.number ∷ entry.Enter z.number k ∷ entry.Deliver k ∷ [])
        (entry.Deliver k ∷ []) w =
        along-and v z w (entry.AwaitDoor v.number ∷ []) (entry.AwaitDoor v.number ∷ []) _ _ c.along here in (
          Some k,
          call-rule latch_object v w (entry.AwaitDoor v.number ∷ entry.Enter v.number k ∷ []) (entry.Deliver k ∷ [])
              (subst (λ p. Called latch_object v
              (entry.AwaitDoor v.number ∷ entry.Enter p k ∷ entry.Deliver k ∷ []) (entry.Deliver k ∷ []) w) number
              both.called)
              (λ m. refl, (λ m. refl, tt)) (λ m. refl, tt) own legal,
          (
            above-later v z w _ _ c.above here,
            shut-later z w _ _ c here,
            s.cell.0,
            record {
              ready = record { idle = s.idle; further = ap (λ h. h.further) s.has_is ∙ c.further };
              waits_are = s.waits_are ∙ c.waits;
            },
          ),
        )
    waits z w (Later wait) c e legal =
        let k = (place_of wait).index in
        let ended = e.0 in
        let number : z.number ≡ v.number = c.along.called.same.number in
        let s = sat-installed latch_object primitive_of draws 0 k 0 z w ended in
        let here : Along z (entry.Enter z.number k ∷ []) [] w =
        record { called = ended.called; found = s.onward.found.0; found_is = s.onward.found.1 } in
        let both : Along v (entry.AwaitDoor v.number ∷ entry.Enter z.number k ∷ []) [] w =
        along-and v z w (entry.AwaitDoor v.number ∷ []) (entry.AwaitDoor v.number ∷ []) _ _ c.along here in (
          None,
          call-rule_own latch_object v w (entry.AwaitDoor v.number ∷ entry.Enter v.number k ∷ []) []
              (subst (λ p. Called latch_object v (entry.AwaitDoor v.number ∷ entry.Enter p k ∷ []) [] w) number
              both.called)
              (λ m. refl, (λ m. refl, tt)) own legal,
          (
            above-later v z w _ _ c.above here,
            shut-later z w _ _ c here,
            s.cell.0,
            e.1,
            record {
              ready = record { idle = s.idle; further = ap (λ h. h.further) s.has_is ∙ c.further };
              waits_are = s.waits_are ∙ ap (λ l. l ++ k ∷ []) c.waits;
            },
          ),
        )

  -- whatever it answers, the pass is between two calls
  pub waited-ready : (v w : View LatchEntry T) (answer : Result LatchWait AcquireError) → HasWaited v answer w
      → IsReady w.facts
  waited-ready v w (Ok Passed) (None, rule, why) = why.1.ready
  waited-ready v w (Ok Passed) (Some k, rule, why) = why.3.ready
  waited-ready v w (Ok (Later wait)) (drew, rule, why) = why.4.ready
  waited-ready v w (Err error.Worn) (drew, rule, why) = why.2.ready
  waited-ready v w (Err error.Crowded) (drew, rule, why) = why.2.ready

  -- why it was crowded
  pub waited-crowded : (v w : View LatchEntry T) → HasWaited v (Err error.Crowded) w → IsCrowded v w
  waited-crowded v w (drew, rule, why) = why.1
