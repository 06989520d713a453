-- What an arrival and a cancellation owe for their steps on the remaining number: each keeps the barrier, by the law of
-- the plain one.
use Rattle.std.proofs.Common.{◌≡◌, ◌≢◌, inr, ℕ, ◌+◌, ◌-◌, ◌<◌, ◌≤◌, ◌^◌, Bool, true, false, List, [], ◌∷◌, ◌++◌, length, set, refl, ap, sym, ◌∙◌, subst, ⊎_elim, arith, Some, slice_get, slice_index, slice_set, get_or, sum, eq-eqb, ne_eqb, ◌==◌, negsuc, if◌then◌else◌}
use Rattle.std.proofs.lemmas.Bool.{cases_eq}
use Rattle.std.proofs.lemmas.List.{append-nil, set-get_or}
use prog.Atomic.{either}
use Rattle.cqs_core.specs.declared.doings.Doing.{Doing}
use Rattle.cqs_core.specs.declared.doings.Doing.TheVariants as doing
use Rattle.cqs_core.proofs.Places.{set-same}
use Rattle.cqs_barrier_object.specs.declared.entries.BarrierEntry.{BarrierEntry}
use Rattle.cqs_barrier_object.specs.declared.entries.BarrierEntry.TheVariants as entry
use Rattle.cqs_barrier_object.specs.BarrierNames.{entry_names}
use Rattle.cqs_barrier_object.specs.BarrierShown.{Shape, IsBarrier}
use Rattle.cqs_barrier_object.specs.BarrierSteps.{MayArrive}
use Rattle.cqs_barrier_object.proofs.Parties.{held-within}
use Rattle.cqs_barrier_object.proofs.WordSteps.{arrival-keeps, last-keeps, withdrawal-keeps, stay-keeps}
use Rattle.cqs_rule_laws.specs.declared.view.Facts.{Facts}
use Rattle.cqs_rule_laws.specs.declared.view.Has.{Has}
use Rattle.cqs_rule_laws.specs.declared.view.View.{View}
use Rattle.cqs_rule_laws.specs.Events.{Event, Moves, SlotsStay, moment, word_plus, word_after_exchange, in_any_case, where_found}
use Rattle.cqs_rule_laws.specs.Facts.{is_owing}
use Rattle.cqs_rule_laws.specs.Hidden.{Hidden, stands_at}
use Rattle.cqs_rule_laws.specs.Lists.{NamesOnly}
use Rattle.cqs_rule_laws.specs.Ruled.{number_at}
use Rattle.cqs_rule_laws.specs.Held.{held_of}
use Rattle.cqs_rule_laws.proofs.Held.{held-is, held-set, held-kept}
use Rattle.cqs_rule_laws.proofs.PaysAway.{gives-never}
use Rattle.cqs_rule.proofs.Ticketless.{no-ticket, if-ticketless, same-ticket, if-away, away-from, stays-or}
use Rattle.cqs_barrier.specs.Barrier.{further_of, barrier_shown, ShowsBarrier, barrier_object, barrier_primitive, arrives, looks_to_leave, withdraws}
use Rattle.cqs_barrier.specs.BarrierClient.{further-set, further-kept}
use Rattle.cqs_barrier.specs.Word.{parties_in, remaining_in, is_over, is_last}

some-word : (words : List ℕ) → 0 < slice_index words 0 → 0 < length words
some-word [] some = some
some-word (w ∷ words) some = omega arith

written : (words : List ℕ) (x : ℕ) → 0 < length words → slice_index (slice_set words 0 x) 0 ≡ x
written [] x some = absurd (omega arith)
written (w ∷ words) x some = refl

-- a pass that is leaving a wait is leaving the one at which it works
leaving-at : (d : Doing) (k : ℕ) → d ≡ doing.Leaving k → d ≡ doing.Leaving (number_at d)
leaving-at d k at = at ∙ ap doing.Leaving (sym (ap number_at at))

module _ {T : Type 0} (parties p : ℕ) (facts : Facts) (c : Hidden) (words : List ℕ) (log : List BarrierEntry)
    (handed : List (ℕ × T))
    (shown : ShowsBarrier parties c words log handed)
    (does : slice_get c.queue.doing p ≡ Some facts.doing) (has : slice_get c.has p ≡ Some facts.has) where
  abbrev s : Shape
  s = barrier_shown parties c words log

  abbrev n : ℕ
  n = slice_index words 0

  is-at : (d : Doing) → facts.doing ≡ d → slice_get c.queue.doing p ≡ Some d
  is-at d at = does ∙ ap Some at

  -- what the words and the passes show where this pass does d, has h, and the word is x
  abbrev Leaves : List BarrierEntry → Doing → Has → ℕ → Type 0
  Leaves history d h x = ShowsBarrier parties (stands_at c p d h) (slice_set words 0 x) history handed

  -- the barrier with this remaining number, and this much held, owed and done
  abbrev With : List BarrierEntry → ℕ → List ℕ → List ℕ → List Doing → Shape
  With history remaining held owed doings = record {
    parties = parties;
    remaining = remaining;
    held = held;
    owed = owed;
    history = history;
    queue = record { suspends = c.queue.suspends; resumes = c.queue.resumes; cells = c.queue.cells; doing = doings };
  }

  by-law : (history : List BarrierEntry) (remaining : ℕ) (held owed : List ℕ) (doings : List Doing) (d : Doing)
      (h : Has) (x : ℕ)
      → IsBarrier (With history remaining held owed doings)
      → remaining ≡ remaining_in (slice_index (slice_set words 0 x) 0)
      → parties_in (slice_index (slice_set words 0 x) 0) ≡ parties
      → held ≡ held_of (slice_set c.has p h) → owed ≡ further_of (slice_set c.has p h)
      → doings ≡ set c.queue.doing p d → Leaves history d h x
  by-law history remaining held owed doings d h x is left all held_same owed_same doing_same = record {
    word = all;
    barrier =
        subst (λ (t : ℕ × List ℕ × List ℕ × List Doing). IsBarrier (With history t.0 t.1 t.2 t.3))
        (λ i. (left i, held_same i, owed_same i, doing_same i)) is;
  }

  -- the pass does what it did
  same-doing : (d : Doing) → facts.doing ≡ d → c.queue.doing ≡ set c.queue.doing p d
  same-doing d at = sym (set-same c.queue.doing p d (is-at d at))

  less-held : (h : Has) → h.held ≡ facts.has.held - 1
      → set (held_of c.has) p (get_or (held_of c.has) p 0 - 1) ≡ held_of (slice_set c.has p h)
  less-held h less = held-set c.has p h (get_or (held_of c.has) p 0 - 1)
      (less ∙ ap (λ m. m - 1) (sym (held-is c.has p facts.has has)))

  more-held : (h : Has) → h.held ≡ facts.has.held + 1
      → set (held_of c.has) p (get_or (held_of c.has) p 0 + 1) ≡ held_of (slice_set c.has p h)
  more-held h more = held-set c.has p h (get_or (held_of c.has) p 0 + 1)
      (more ∙ ap (λ m. m + 1) (sym (held-is c.has p facts.has has)))

  -- the word after one was taken from it
  lowered : n < 2 ^ 64 → 0 < n → slice_index (slice_set words 0 (word_plus (negsuc 0) n)) 0 ≡ n - 1
  lowered small some = written words (word_plus (negsuc 0) n) (some-word words some) ∙ omega arith

  -- what the pass has, but for what it holds and owes
  abbrev having : ℕ → ℕ → ℕ → Has
  having held payload further = record {
    held = held;
    payload = payload;
    further = further;
    slots = facts.has.slots;
  }

  abbrev ArrivesTo : Bool → Type 0
  ArrivesTo b = Leaves (log ++ (if b then entry.ArriveLast p ∷ [] else entry.ArriveDoor p ∷ []))
      (if b then doing.Idle else doing.Door)
      (having (facts.has.held - 1) 0 (if b then parties_in n - 1 else facts.has.further)) (word_plus (negsuc 0) n)

  pub arrive-shown : facts.doing ≡ doing.Idle → 0 < facts.has.held → n < 2 ^ 64 → ArrivesTo (is_last n)
  arrive-shown idle holds small =
      let word : parties_in n ≡ parties = shown.word in
      let own : get_or (held_of c.has) p 0 ≡ facts.has.held = held-is c.has p facts.has has in
      let within = held-within s p doing.Idle shown.barrier (is-at doing.Idle idle) in
      let sums : remaining_in n ≡ sum (held_of c.has) = shown.barrier.held in
      let some : 0 < remaining_in n = omega arith in
      let may : MayArrive s p = record { idle = is-at doing.Idle idle; holds = omega arith } in
      let low = lowered small (omega arith) in
      let left : remaining_in (slice_index (slice_set words 0 (word_plus (negsuc 0) n)) 0) ≡ remaining_in n - 1 =
      ap remaining_in low ∙ omega arith in
      let all : parties_in (slice_index (slice_set words 0 (word_plus (negsuc 0) n)) 0) ≡ parties =
      ap parties_in low ∙ omega arith in
      ⊎_elim
      (λ (one : remaining_in n ≡ 1).
      let h : Has = having (facts.has.held - 1) 0 (parties_in n - 1) in
      subst ArrivesTo (sym (eq-eqb (remaining_in n) 1 one))
      (by-law (log ++ entry.ArriveLast p ∷ []) 0 _ (set (further_of c.has) p (parties - 1)) c.queue.doing doing.Idle h
      (word_plus (negsuc 0) n) (last-keeps s p shown.barrier may one) (omega arith) all
      (less-held h refl) (further-set c.has p h (parties - 1) (ap (λ m. m - 1) word))
      (same-doing doing.Idle idle)))
      (λ (other : remaining_in n ≢ 1).
      let h : Has = having (facts.has.held - 1) 0 facts.has.further in
      subst ArrivesTo (sym (ne_eqb (remaining_in n) 1 other))
      (by-law (log ++ entry.ArriveDoor p ∷ []) (remaining_in n - 1) _ (further_of c.has)
      (set c.queue.doing p doing.Door) doing.Door h (word_plus (negsuc 0) n)
      (arrival-keeps s p shown.barrier may (omega arith)) (sym left) all
      (less-held h refl) (further-kept c.has p facts.has h has refl) refl))
      (cases_eq (remaining_in n) 1)

  -- the word as it was
  kept : slice_index (slice_set words 0 n) 0 ≡ n
  kept = ap (λ (l : List ℕ). slice_index l 0) (set-get_or words 0 0)

  -- nothing is shown, and nothing is changed
  as-it-was : (d : Doing) → facts.doing ≡ d → Leaves (log ++ []) d facts.has n
  as-it-was d at =
      by-law (log ++ []) (remaining_in n) (held_of c.has) (further_of c.has) c.queue.doing d facts.has n
      (subst (λ l. IsBarrier (With l (remaining_in n) (held_of c.has) (further_of c.has) c.queue.doing))
      (sym (append-nil log)) shown.barrier)
      (ap remaining_in (sym kept)) (ap parties_in kept ∙ shown.word)
      (held-kept c.has p facts.has facts.has has refl) (further-kept c.has p facts.has facts.has has refl)
      (same-doing d at)

  abbrev LooksTo : Bool → Type 0
  LooksTo b = Leaves (log ++ (if b then entry.Stay p (number_at facts.doing) ∷ [] else []))
      (if b then doing.Decided (number_at facts.doing) false else facts.doing) facts.has n

  pub look-shown : (k : ℕ) → facts.doing ≡ doing.Leaving k → LooksTo (is_over n)
  look-shown k at =
      let j = number_at facts.doing in ⊎_elim
      (λ (none : remaining_in n ≡ 0).
      subst LooksTo (sym (eq-eqb (remaining_in n) 0 none))
      (by-law (log ++ entry.Stay p j ∷ []) (remaining_in n) (held_of c.has) (further_of c.has)
      (set c.queue.doing p (doing.Decided j false)) (doing.Decided j false) facts.has n
      (stay-keeps s p j shown.barrier (is-at _ (leaving-at facts.doing k at)) none)
      (ap remaining_in (sym kept)) (ap parties_in kept ∙ shown.word)
      (held-kept c.has p facts.has facts.has has refl) (further-kept c.has p facts.has facts.has has refl) refl))
      (λ (some : remaining_in n ≢ 0).
      subst LooksTo (sym (ne_eqb (remaining_in n) 0 some)) (as-it-was facts.doing refl))
      (cases_eq (remaining_in n) 0)

  abbrev WithdrawsTo : ℕ → Bool → Type 0
  WithdrawsTo saw b = Leaves (log ++ (if b then entry.Withdraw p (number_at facts.doing) ∷ [] else []))
      (if b then doing.Decided (number_at facts.doing) true else facts.doing)
      (having (if b then facts.has.held + 1 else facts.has.held) facts.has.payload facts.has.further)
      (either b (saw + 1) n)

  pub withdraw-shown : (saw k : ℕ) → parties ≤ 32 → facts.doing ≡ doing.Leaving k → 0 < remaining_in saw
      → WithdrawsTo saw (n == saw)
  withdraw-shown saw k few at some =
      let j = number_at facts.doing in ⊎_elim
      (λ (same : n ≡ saw).
      let h : Has = having (facts.has.held + 1) facts.has.payload facts.has.further in
      let left : 0 < remaining_in n = omega arith in
      let was = shown.barrier.before left in
      let low : remaining_in n ≤ 32 = omega (arith, was.parties) in
      let now : slice_index (slice_set words 0 (saw + 1)) 0 ≡ n + 1 =
      written words (saw + 1) (some-word words (omega arith)) ∙ omega arith in
      subst (WithdrawsTo saw) (sym (eq-eqb n saw same))
      (by-law (log ++ entry.Withdraw p j ∷ []) (remaining_in n + 1) _ (further_of c.has)
      (set c.queue.doing p (doing.Decided j true)) (doing.Decided j true) h (saw + 1)
      (withdrawal-keeps s p j shown.barrier (is-at _ (leaving-at facts.doing k at)) left)
      (sym (ap remaining_in now ∙ omega arith))
      (ap parties_in now ∙ (let word : parties_in n ≡ parties = shown.word in omega arith))
      (more-held h refl) (further-kept c.has p facts.has h has refl) refl))
      (λ (other : n ≢ saw).
      subst (WithdrawsTo saw) (sym (ne_eqb n saw other)) (as-it-was facts.doing refl))
      (cases_eq n saw)

-- one of two entries of the pass p, or none, names no other pass
one-silent : (p : ℕ) (b : Bool) (es fs : List BarrierEntry) → NamesOnly entry_names p es → NamesOnly entry_names p fs
    → NamesOnly entry_names p (if b then es else fs)
one-silent p true es fs first second = first
one-silent p false es fs first second = second

-- an idle pass owes nothing, and one that is leaving stands at no door
idle-free : (d : Doing) → d ≡ doing.Idle → is_owing d ≡ true → ⊥
idle-free d at owes = let both : true ≡ false = sym owes ∙ ap is_owing at in absurd (cc)

leaving-inside : (d : Doing) (k : ℕ) → d ≡ doing.Leaving k → d ≡ doing.Door → ⊥
leaving-inside d k at door = let both : doing.Leaving k ≡ doing.Door = sym at ∙ door in absurd (cc)

-- an event that appends nothing in one of two cases appends something in the other
some-entry : (b : Bool) (e f : BarrierEntry) → ◌≡◌ {A = List BarrierEntry} (if b then e ∷ [] else f ∷ []) [] → ⊥
some-entry true e f q = cc
some-entry false e f q = cc

-- an idle pass that may draw and has a party may have it arrive
pub arrive-moves : {T : Type 0} (parties p : ℕ) (facts : Facts) → facts.doing ≡ doing.Idle → facts.may_draw ≡ true
    → 0 < facts.has.held
    → Moves barrier_object (barrier_primitive {T = T} parties) arrives in_any_case p facts 0 (word_plus (negsuc 0))
arrive-moves parties p facts idle may holds = record {
  step = λ c words log handed shown does has short small.
      arrive-shown parties p facts c words log handed shown does has idle holds small;
  silent = λ n. one-silent p (is_last n) (entry.ArriveLast p ∷ []) (entry.ArriveDoor p ∷ [])
      (λ m apart. rw (ne_eqb p m (λ q. apart (sym q))) refl) (λ m apart. rw (ne_eqb p m (λ q. apart (sym q))) refl);
  door = λ n q. inr may;
  ticket = λ n j q. absurd (no-ticket _ (if-ticketless (is_last n) doing.Idle doing.Door tt tt) j q);
  away = λ n. away-from doing.Idle facts.doing _ idle tt (if-away (is_last n) doing.Idle doing.Door tt tt);
  owed = λ n owing. absurd (idle-free facts.doing idle owing);
  keeps = λ n none. absurd (some-entry (is_last n) (entry.ArriveLast p) (entry.ArriveDoor p) none);
  owing = λ n none. absurd (some-entry (is_last n) (entry.ArriveLast p) (entry.ArriveDoor p) none);
  fits = λ n low. omega arith;
}

-- a pass that is leaving a wait may load the remaining number
pub look-moves : {T : Type 0} (parties p : ℕ) (facts : Facts) (k : ℕ) → facts.doing ≡ doing.Leaving k
    → Moves barrier_object (barrier_primitive {T = T} parties) looks_to_leave in_any_case p facts 0 (λ n. n)
look-moves parties p facts k at = record {
  step = λ c words log handed shown does has short small.
      look-shown parties p facts c words log handed shown does has k at;
  silent = λ n. one-silent p (is_over n) (entry.Stay p (number_at facts.doing) ∷ []) []
      (λ m apart. rw (ne_eqb p m (λ q. apart (sym q))) refl) (λ m apart. refl);
  door = λ n q. absurd (no-door (is_over n) q);
  ticket = λ n j q. same-ticket (is_over n) (doing.Decided (number_at facts.doing) false) facts.doing tt j q;
  away = λ n. stays-or (is_over n) (doing.Decided (number_at facts.doing) false) (doing.Leaving k) facts.doing at tt tt;
  owed = λ n owing. refl;
  keeps = λ n none. refl;
  owing = λ n none. same-owing (is_over n) none;
  fits = λ n low. low;
}
  where
    no-door : (b : Bool) → (if b then doing.Decided (number_at facts.doing) false else facts.doing) ≡ doing.Door → ⊥
    no-door true q = cc
    no-door false q = leaving-inside facts.doing k at q

    same-owing : (b : Bool)
        → ◌≡◌ {A = List BarrierEntry} (if b then entry.Stay p (number_at facts.doing) ∷ [] else []) []
        → is_owing (if b then doing.Decided (number_at facts.doing) false else facts.doing) ≡ is_owing facts.doing
    same-owing true q = absurd (cc)
    same-owing false q = refl

-- and where it found some, it may exchange the number for one more
pub withdraw-moves : {T : Type 0} (parties p : ℕ) (facts : Facts) (saw k : ℕ) → parties ≤ 32
    → facts.doing ≡ doing.Leaving k
    → 0 < remaining_in saw
    → Moves barrier_object (barrier_primitive {T = T} parties) withdraws (where_found saw) p facts 0
    (word_after_exchange saw (saw + 1))
withdraw-moves parties p facts saw k few at some = record {
  step = λ c words log handed shown does has short small.
      withdraw-shown parties p facts c words log handed shown does has saw k few at some;
  silent = λ n. one-silent p (where_found saw n) (entry.Withdraw p (number_at facts.doing) ∷ []) []
      (λ m apart. rw (ne_eqb p m (λ q. apart (sym q))) refl) (λ m apart. refl);
  door = λ n q. absurd (no-door (where_found saw n) q);
  ticket = λ n j q. same-ticket (where_found saw n) (doing.Decided (number_at facts.doing) true) facts.doing tt j q;
  away = λ n. stays-or (where_found saw n) (doing.Decided (number_at facts.doing) true) (doing.Leaving k) facts.doing
      at tt tt;
  owed = λ n owing. refl;
  keeps = λ n none. same-has (where_found saw n) none;
  owing = λ n none. same-owing (where_found saw n) none;
  fits = λ n low. low;
}
  where
    no-door : (b : Bool) → (if b then doing.Decided (number_at facts.doing) true else facts.doing) ≡ doing.Door → ⊥
    no-door true q = cc
    no-door false q = leaving-inside facts.doing k at q

    -- an exchange that wasn't made leaves what the pass holds
    same-has : (b : Bool)
        → ◌≡◌ {A = List BarrierEntry} (if b then entry.Withdraw p (number_at facts.doing) ∷ [] else []) []
        → ◌≡◌ {A = Has} (record facts.has { held = if b then facts.has.held + 1 else facts.has.held }) facts.has
    same-has true q = absurd (cc)
    same-has false q = refl

    same-owing : (b : Bool)
        → ◌≡◌ {A = List BarrierEntry} (if b then entry.Withdraw p (number_at facts.doing) ∷ [] else []) []
        → is_owing (if b then doing.Decided (number_at facts.doing) true else facts.doing) ≡ is_owing facts.doing
    same-owing true q = absurd (cc)
    same-owing false q = refl

-- a barrier has no value slots
pub none-stays : {T : Type 0} (parties slots : ℕ) (event : Event BarrierEntry) (made : ℕ → Bool)
    (v : View BarrierEntry T) → SlotsStay barrier_object (barrier_primitive {T = T} parties) slots event made v
none-stays {T} parties slots event made v = record {
  stay = λ n k x low is o. absurd o;
  none = λ n k low. gives-never (event.entries (moment (barrier_primitive {T = T} parties).opening v.number v.facts made
      n)) k;
}
