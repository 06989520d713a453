-- What a latch owes for its steps on its words: each is a step of the latch, by its law.
use Rattle.std.proofs.Common.{◌≡◌, ◌≢◌, inr, ℕ, ◌%◌, ◌^◌, ◌<◌, ◌≤◌, Bool, true, false, not, List, [], ◌∷◌, ◌++◌, length, refl, ap, sym, ◌∙◌, subst, arith, Some, slice_get, slice_index, slice_set, get_or-set_same, get_or-set_other, ne_eqb, ◌==◌, ℤ, pos, negsuc, ◌-ℤ◌, ◌≤ℤ◌, ◌<ℤ◌, bit_or, if◌then◌else◌}
use Rattle.std.proofs.lemmas.List.{length-set, set-get_or}
use Rattle.cqs_core.specs.declared.doings.Doing.TheVariants as doing
use Rattle.cqs_latch_object.specs.declared.entries.LatchEntry.{LatchEntry}
use Rattle.cqs_latch_object.specs.declared.entries.LatchEntry.TheVariants as entry
use Rattle.cqs_latch_object.specs.LatchNames.{entry_names}
use Rattle.cqs_latch_object.specs.LatchShown.{LatchShape, left_of, IsLatchCore}
use Rattle.cqs_latch_object.specs.LatchWords as word
use Rattle.cqs_latch_object.specs.LatchWords.{WordStep, IsOpenWord, word_entries, word_doing, count_after, word_after, done_after, owed_after, after_word_step, is_used, is_last, counted_entry, come_entry}
use Rattle.cqs_latch_object.proofs.LatchSteps.{word-core}
use Rattle.cqs_latch_object.proofs.LatchBounds.{every-count-is-high, waiters-are-few, core-still_shut, core-leaver}
use Rattle.cqs_rule_laws.specs.declared.config.CancelMode.{CancelMode}
use Rattle.cqs_rule_laws.specs.declared.config.CancelMode.TheVariants.{Smart, Simple}
use Rattle.cqs_rule_laws.specs.declared.view.Facts.{Facts}
use Rattle.cqs_rule_laws.specs.declared.view.Has.{Has}
use Rattle.cqs_rule_laws.specs.declared.view.View.{View}
use Rattle.cqs_rule_laws.specs.Events.{Event, Moves, SlotsStay, IsShort, moment, word_plus, in_any_case}
use Rattle.cqs_rule_laws.specs.Facts.{is_owing}
use Rattle.cqs_rule_laws.specs.Hidden.{Hidden, stands_at}
use Rattle.cqs_rule_laws.specs.Lists.{NamesOnly}
use Rattle.cqs_rule_laws.specs.Manner.{Asks}
use Rattle.cqs_rule_laws.specs.Ruled.{number_at}
use Rattle.cqs_rule_laws.proofs.PaysAway.{gives-never}
use Rattle.cqs_rule.proofs.Ticketless.{no-ticket, if-ticketless, if-away, away-from}
use Rattle.cqs_latch.specs.Latch.{is_simple, latch_limit, further_of, latch_shown, ShowsLatch, latch_object, latch_primitive, latch_manner}
use Rattle.cqs_latch.specs.LatchClient.{further-set, further-kept, none-held}
use Rattle.cqs_latch.specs.LatchEvents.{loads_to_count, counts_down, loads_to_wait, comes, turns_back, opens, leaves}
use Rattle.cqs_latch.proofs.WordSteps.{count-down, more-waiters, more-done, less-waiters, less-done, done-waiters, done-done}
use Rattle.cqs_words.specs.State.{count_in}
use Rattle.cqs_words.specs.Waiters.{waiters_in, is_done}

module _ (mode : CancelMode) (size p : ℕ) (facts : Facts) (c : Hidden) (words : List ℕ) (log : List LatchEntry)
    (shows : ShowsLatch mode size c words log) (does : slice_get c.queue.doing p ≡ Some facts.doing)
    (has : slice_get c.has p ≡ Some facts.has) where
  abbrev s : LatchShape
  s = latch_shown mode size c words log

  -- any step on the words, by what it makes of them and of what the pass owes
  words-shown : (w : WordStep) (h : Has) (after : List ℕ) → IsOpenWord s w p → h.held ≡ facts.has.held
      → 2 ≤ length after → count_in (slice_index after 0) ≡ count_after w s.count
      → waiters_in (slice_index after 1) ≡ word_after w s.word → is_done (slice_index after 1) ≡ done_after w s.done
      → owed_after w p s.word s.owed ≡ further_of (slice_set c.has p h)
      → ShowsLatch mode size (stands_at c p (word_doing s w) h) after (log ++ word_entries s w p)
  words-shown w h after may held long count waiters done owed =
      let few = shows.few_passes in
      record {
        core = subst (λ (z : ℤ × ℕ × Bool × List ℕ).
            IsLatchCore (record (after_word_step s w p) { count = z.0; word = z.1; done = z.2; owed = z.3 }))
            (λ i. (sym count i, sym waiters i, sym done i, owed i)) (word-core s w p shows.core may);
        two_words = long;
        few_passes = omega (arith, length-set c.queue.doing p (word_doing s w));
        few_drawn = shows.few_drawn;
        none_held = none-held c.has p facts.has h has held shows.none_held;
        plain = shows.plain;
      }

  -- what is owed stays
  same-owed : s.owed ≡ further_of (slice_set c.has p facts.has)
  same-owed = further-kept c.has p facts.has facts.has has refl

  -- a load
  load-shown : (w : WordStep) (i : ℕ) → IsOpenWord s w p → count_after w s.count ≡ s.count
      → word_after w s.word ≡ s.word → done_after w s.done ≡ s.done → owed_after w p s.word s.owed ≡ s.owed
      → ShowsLatch mode size (stands_at c p (word_doing s w) facts.has) (slice_set words i (slice_index words i))
      (log ++ word_entries s w p)
  load-shown w i may count waiters done owed =
      subst (λ ws. ShowsLatch mode size (stands_at c p (word_doing s w) facts.has) ws (log ++ word_entries s w p))
      (sym (set-get_or words i 0))
      (words-shown w facts.has words may refl shows.two_words (sym count) (sym waiters) (sym done) (owed ∙ same-owed))

  -- the word 0 is written, and so is the word 1
  module _ (x : ℕ) where
    long-set : (i : ℕ) → 2 ≤ length (slice_set words i x)
    long-set i = let long = shows.two_words in omega (arith, length-set words i x)

    first-set : slice_index (slice_set words 0 x) 0 ≡ x
    first-set = let long = shows.two_words in get_or-set_same words 0 x 0 (omega arith)

    first-else : slice_index (slice_set words 0 x) 1 ≡ slice_index words 1
    first-else = get_or-set_other words 0 1 x 0 (omega arith)

    second-set : slice_index (slice_set words 1 x) 1 ≡ x
    second-set = let long = shows.two_words in get_or-set_same words 1 x 0 (omega arith)

    second-else : slice_index (slice_set words 1 x) 0 ≡ slice_index words 0
    second-else = get_or-set_other words 1 0 x 0 (omega arith)

  count-shown : IsOpenWord s word.counts_down p → slice_index words 0 < 2 ^ 64
      → ShowsLatch mode size (stands_at c p (word_doing s word.counts_down) facts.has)
      (slice_set words 0 (word_plus (negsuc 0) (slice_index words 0))) (log ++ word_entries s word.counts_down p)
  count-shown may small =
      let n = slice_index words 0 in
      let x : ℕ = word_plus (negsuc 0) n in
      words-shown word.counts_down facts.has (slice_set words 0 x) may refl (long-set x 0)
      (ap count_in (first-set x) ∙ count-down n small (every-count-is-high s shows.core shows.few_passes))
      (ap waiters_in (first-else x)) (ap is_done (first-else x)) same-owed

  -- the waiters are few, wherever a step is made
  few-waiters : IsShort latch_limit c.queue → waiters_in (slice_index words 1) < 4294967296
  few-waiters short =
      let few = waiters-are-few s shows.core in
      let drawn = short.drawn in
      let passes = shows.few_passes in
      omega arith

  come-shown : IsOpenWord s word.comes p → IsShort latch_limit c.queue → slice_index words 1 < 2 ^ 64
      → ShowsLatch mode size (stands_at c p (word_doing s word.comes) facts.has)
      (slice_set words 1 (word_plus (pos 1) (slice_index words 1))) (log ++ word_entries s word.comes p)
  come-shown may short small =
      let n = slice_index words 1 in
      let x : ℕ = word_plus (pos 1) n in
      let few = few-waiters short in
      let low : waiters_in n < 2 ^ 62 = omega arith in
      words-shown word.comes facts.has (slice_set words 1 x) may refl (long-set x 1)
      (ap count_in (second-else x)) (ap waiters_in (second-set x) ∙ more-waiters n small low)
      (ap is_done (second-set x) ∙ more-done n small low) same-owed

  leave-shown : (k : ℕ) → IsOpenWord s (word.leaves k) p → slice_index words 1 < 2 ^ 64
      → ShowsLatch mode size (stands_at c p (word_doing s (word.leaves k)) facts.has)
      (slice_set words 1 (word_plus (negsuc 0) (slice_index words 1))) (log ++ word_entries s (word.leaves k) p)
  leave-shown k may small =
      let n = slice_index words 1 in
      let x : ℕ = word_plus (negsuc 0) n in
      let some : 0 < waiters_in n = core-leaver s p k shows.core may.0 may.1 in
      words-shown (word.leaves k) facts.has (slice_set words 1 x) may refl (long-set x 1)
      (ap count_in (second-else x)) (ap waiters_in (second-set x) ∙ less-waiters n small some)
      (ap is_done (second-set x) ∙ less-done n small some) same-owed

  open-shown : (h : Has) → IsOpenWord s word.opens p → IsShort latch_limit c.queue → slice_index words 1 < 2 ^ 64
      → h.held ≡ facts.has.held → h.further ≡ waiters_in (slice_index words 1) % 2 ^ 32
      → ShowsLatch mode size (stands_at c p doing.Idle h) (slice_set words 1 (bit_or (slice_index words 1) (2 ^ 63)))
      (log ++ entry.Open p ∷ [])
  open-shown h may short small held further =
      let n = slice_index words 1 in
      let x : ℕ = bit_or n (2 ^ 63) in
      let shut : is_done n ≡ false = core-still_shut s p shows.core may in
      let few = few-waiters short in
      let all : h.further ≡ waiters_in n = further ∙ omega arith in
      words-shown word.opens h (slice_set words 1 x) may held (long-set x 1) (ap count_in (second-else x))
      (ap waiters_in (second-set x) ∙ done-waiters n small shut) (ap is_done (second-set x) ∙ done-done n small shut)
      (further-set c.has p h (waiters_in n) all)

-- What holds of an event whatever word it finds: it names no other pass, and leads to what it is to show.
names-if : (b : Bool) (p : ℕ) (e : LatchEntry) → ((n : ℕ) → n ≢ p → entry_names n e ≡ false)
    → NamesOnly entry_names p (if b then e ∷ [] else [])
names-if true p e none n apart = rw (none n apart) refl
names-if false p e none n apart = refl

other : (p n : ℕ) → n ≢ p → (p == n) ≡ false
other p n apart = ne_eqb p n (λ q. apart (sym q))

some-entry : (e : LatchEntry) → ◌≡◌ {A = List LatchEntry} (e ∷ []) [] → ⊥
some-entry e q = cc

not-door : (b : Bool) (v : ℤ) → (if b then doing.Idle else doing.TryAt v) ≡ doing.Door → ⊥
not-door true v q = cc
not-door false v q = cc

not-owing : (b : Bool) (v : ℤ) → is_owing (if b then doing.Idle else doing.TryAt v) ≡ false
not-owing true v = refl
not-owing false v = refl

counted-names : (a b : Bool) (p n left : ℕ) → n ≢ p
    → entry_names n (if a then entry.DownAlready p else if b then entry.DownLast p else entry.DownLeft p left) ≡ false
counted-names true b p n left apart = other p n apart
counted-names false true p n left apart = other p n apart
counted-names false false p n left apart = other p n apart

counted-door : (a b : Bool)
    → (if a then doing.Idle else if b then doing.TryAt (pos 0) else doing.Idle) ≡ doing.Door → ⊥
counted-door true b q = cc
counted-door false true q = cc
counted-door false false q = cc

come-names : (b : Bool) (p n : ℕ) → n ≢ p → entry_names n (come_entry p b) ≡ false
come-names true p n apart = other p n apart
come-names false p n apart = other p n apart

module _ (T : Type 0) (mode : CancelMode) (size p : ℕ) (facts : Facts) where
  abbrev pub Owes : Event LatchEntry → ℕ → (ℕ → ℕ) → Type 0
  Owes event i f = Moves latch_object (latch_primitive {T = T} mode size) event in_any_case p facts i f

  pub count-load-moves : facts.doing ≡ doing.Idle → Owes loads_to_count 0 (λ n. n)
  count-load-moves idle = record {
    step = λ c words log handed shows does has short small.
        load-shown mode size p facts c words log shows does has word.loads_to_count 0 (does ∙ ap Some idle) refl refl
        refl refl;
    silent = λ n. names-if (is_used (count_in n)) p (entry.DownAlready p) (λ m apart. other p m apart);
    door = λ n q. absurd (not-door (is_used (count_in n)) (count_in n) q);
    ticket = λ n j q. absurd (no-ticket _ (if-ticketless (is_used (count_in n)) doing.Idle (doing.TryAt (count_in n)) tt
        tt) j q);
    away = λ n. away-from doing.Idle facts.doing _ idle tt
        (if-away (is_used (count_in n)) doing.Idle (doing.TryAt (count_in n)) tt tt);
    owed = λ n owing. refl;
    keeps = λ n none. refl;
    owing = λ n none. not-owing (is_used (count_in n)) (count_in n) ∙ sym (ap is_owing idle);
    fits = λ n low. low;
  }

  pub wait-load-moves : facts.doing ≡ doing.Idle → Owes loads_to_wait 0 (λ n. n)
  wait-load-moves idle = record {
    step = λ c words log handed shows does has short small.
        load-shown mode size p facts c words log shows does has word.loads_to_wait 0 (does ∙ ap Some idle) refl refl
        refl refl;
    silent = λ n. names-if (is_used (count_in n)) p (entry.Passed p) (λ m apart. other p m apart);
    door = λ n q. absurd (not-door (is_used (count_in n)) (count_in n) q);
    ticket = λ n j q. absurd (no-ticket _ (if-ticketless (is_used (count_in n)) doing.Idle (doing.TryAt (count_in n)) tt
        tt) j q);
    away = λ n. away-from doing.Idle facts.doing _ idle tt
        (if-away (is_used (count_in n)) doing.Idle (doing.TryAt (count_in n)) tt tt);
    owed = λ n owing. refl;
    keeps = λ n none. refl;
    owing = λ n none. not-owing (is_used (count_in n)) (count_in n) ∙ sym (ap is_owing idle);
    fits = λ n low. low;
  }

  -- the steps of a pass that has loaded the count as above 0
  module _ (v : ℤ) (tries : facts.doing ≡ doing.TryAt v) where
    pub count-moves : pos 0 <ℤ v → Owes counts_down 0 (word_plus (negsuc 0))
    count-moves above = record {
      step = λ c words log handed shows does has short small.
          count-shown mode size p facts c words log shows does has (v, does ∙ ap Some tries, above) small;
      silent = λ n m apart. rw (counted-names (is_used (count_in n)) (is_last (count_in n)) p m
          (left_of (count_in n -ℤ pos 1)) apart) refl;
      door = λ n q. absurd (counted-door (is_used (count_in n)) (is_last (count_in n)) q);
      ticket = λ n j q. absurd (no-ticket _ (if-ticketless (is_used (count_in n)) doing.Idle (if is_last (count_in n)
          then doing.TryAt (pos 0) else doing.Idle) tt
          (if-ticketless (is_last (count_in n)) (doing.TryAt (pos 0)) doing.Idle tt tt)) j q);
      away = λ n. away-from (doing.TryAt v) facts.doing _ tries tt (if-away (is_used (count_in n)) doing.Idle
          (if is_last (count_in n) then doing.TryAt (pos 0) else doing.Idle) tt
          (if-away (is_last (count_in n)) (doing.TryAt (pos 0)) doing.Idle tt tt));
      owed = λ n owing. refl;
      keeps = λ n none. refl;
      owing = λ n none. absurd (some-entry (counted_entry p (count_in n)) none);
      fits = λ n low. low;
    }

    pub come-moves : pos 0 <ℤ v → facts.may_draw ≡ true → Owes comes 1 (word_plus (pos 1))
    come-moves above may = record {
      step = λ c words log handed shows does has short small.
          come-shown mode size p facts c words log shows does has (v, does ∙ ap Some tries, above) short small;
      silent = λ n m apart. rw (come-names (is_done n) p m apart) refl;
      door = λ n q. inr may;
      ticket = λ n j q. absurd (no-ticket _ (if-ticketless (is_done n) doing.Idle doing.Door tt tt) j q);
      away = λ n. away-from (doing.TryAt v) facts.doing _ tries tt (if-away (is_done n) doing.Idle doing.Door tt tt);
      owed = λ n owing. refl;
      keeps = λ n none. refl;
      owing = λ n none. absurd (some-entry (come_entry p (is_done n)) none);
      fits = λ n low. low;
    }

    pub turn-moves : pos 0 <ℤ v → Owes turns_back 0 (λ n. n)
    turn-moves above = record {
      step = λ c words log handed shows does has short small.
          load-shown mode size p facts c words log shows does has word.turns_back 0 (v, does ∙ ap Some tries, above)
          refl refl refl refl;
      silent = λ n m apart. refl;
      door = λ n q. absurd (idle-door q);
      ticket = λ n j q. absurd (no-ticket doing.Idle tt j q);
      away = λ n. away-from (doing.TryAt v) facts.doing doing.Idle tries tt tt;
      owed = λ n owing. refl;
      keeps = λ n none. refl;
      owing = λ n none. sym (ap is_owing tries);
      fits = λ n low. low;
    }
      where
        idle-door : doing.Idle ≡ doing.Door → ⊥
        idle-door q = cc

    pub open-moves : v ≤ℤ pos 0 → Owes opens 1 (λ n. bit_or n 9223372036854775808)
    open-moves used = record {
      step = λ c words log handed shows does has short small.
          open-shown mode size p facts c words log shows does has _ (v, does ∙ ap Some tries, used) short small refl
          refl;
      silent = λ n m apart. rw (other p m apart) refl;
      door = λ n q. absurd (idle-door q);
      ticket = λ n j q. absurd (no-ticket doing.Idle tt j q);
      away = λ n. away-from (doing.TryAt v) facts.doing doing.Idle tries tt tt;
      owed = λ n owing. absurd (not-tries (sym (ap is_owing tries) ∙ owing));
      keeps = λ n none. absurd (some-entry (entry.Open p) none);
      owing = λ n none. absurd (some-entry (entry.Open p) none);
      fits = λ n low. omega arith;
    }
      where
        idle-door : doing.Idle ≡ doing.Door → ⊥
        idle-door q = cc

        not-tries : false ≡ true → ⊥
        not-tries q = cc

  pub leave-moves : (k : ℕ) → facts.doing ≡ doing.Leaving k → Asks (latch_manner mode).leaving
      → Owes leaves 1 (word_plus (negsuc 0))
  leave-moves k leaving asks = record {
    step = λ c words log handed shows does has short small.
        subst (λ j. ShowsLatch mode size
        (stands_at c p (doing.Decided j (not (is_done (slice_index words 1)))) facts.has)
        (slice_set words 1 (word_plus (negsuc 0) (slice_index words 1))) (log ++ entry.Leave p j ∷ []))
        (sym (ap number_at leaving))
        (leave-shown mode size p facts c words log shows does has k (smart mode asks, does ∙ ap Some leaving) small);
    silent = λ n m apart. rw (other p m apart) refl;
    door = λ n q. absurd (no-door (number_at facts.doing) (not (is_done n)) q);
    ticket = λ n j q. absurd (no-ticket (doing.Decided (number_at facts.doing) (not (is_done n))) tt j q);
    away = λ n. away-from (doing.Leaving k) facts.doing _ leaving tt tt;
    owed = λ n owing. refl;
    keeps = λ n none. refl;
    owing = λ n none. absurd (some-entry (entry.Leave p (number_at facts.doing)) none);
    fits = λ n low. low;
  }
    where
      smart : (mode : CancelMode) → Asks (latch_manner mode).leaving → is_simple mode ≡ false
      smart Smart asks = refl
      smart Simple asks = absurd asks

      no-door : (j : ℕ) (b : Bool) → doing.Decided j b ≡ doing.Door → ⊥
      no-door j b q = cc

-- a latch has no value slots
pub none-stays : {T : Type 0} (mode : CancelMode) (size slots : ℕ) (event : Event LatchEntry) (made : ℕ → Bool)
    (v : View LatchEntry T) → SlotsStay latch_object (latch_primitive {T = T} mode size) slots event made v
none-stays {T} mode size slots event made v = record {
  stay = λ n k x low is o. absurd o;
  none = λ n k low. gives-never (event.entries (moment (latch_primitive {T = T} mode size).opening v.number v.facts made
      n)) k;
}
