-- What a semaphore's acquire, try, release and cancel owe for their steps on the state: each is an event of the core,
-- by the law of the core.
use Rattle.std.proofs.Common.{◌≡◌, ◌≢◌, ℕ, ◌+◌, ◌-◌, ◌<◌, ◌≤◌, ◌^◌, Bool, true, false, List, [], ◌∷◌, ◌++◌, length, set, refl, ap, sym, ◌∙◌, subst, inr, ⊎_elim, arith, Option, Some, None, slice_get, slice_index, slice_set, get_or, nat_lt, lt-ltb, le-ltb, ne_eqb, ◌==◌, ℤ, pos, negsuc, ◌-ℤ◌, ◌+ℤ◌, ◌<ℤ◌, if◌then◌else◌, ◌≤ℤ◌}
use Rattle.std.proofs.lemmas.Bool.{cases_lt, cases_eq, eq-eqb}
use Rattle.std.proofs.lemmas.Int.{ints}
use Rattle.std.proofs.lemmas.List.{append-nil}
use Rattle.std.proofs.lemmas.List.{set-get_or}
use prog.Atomic.{either}
use Rattle.cqs_core.specs.declared.doings.Doing.{Doing}
use Rattle.cqs_core.specs.declared.doings.Doing.TheVariants as doing
use Rattle.cqs_core.specs.declared.entries.Entry.{Entry}
use Rattle.cqs_core.specs.declared.entries.Entry.TheVariants as entry
use Rattle.cqs_core.specs.declared.events.Event.{Event}
use Rattle.cqs_core.specs.declared.events.Event.TheVariants as event
use Rattle.cqs_core.specs.declared.outcomes.Outcome.{Outcome}
use Rattle.cqs_core.specs.declared.outcomes.Outcome.TheVariants as outcome
use Rattle.cqs_core.specs.SemaphoreTable.{Shape, step, lowest}
use Rattle.cqs_core.specs.SemaphoreCores.{IsEitherCore}
use Rattle.cqs_core.proofs.EitherFacts.{core-fits}
use Rattle.cqs_core.proofs.EitherQueues.{either-turned}
use Rattle.cqs_core.proofs.EitherTable.{row-core}
use Rattle.cqs_core.proofs.Places.{set-same}
use Rattle.cqs_rule_laws.specs.declared.view.Facts.{Facts}
use Rattle.cqs_rule_laws.specs.declared.view.Has.{Has}
use Rattle.cqs_rule_laws.specs.Configured.{largest_limit}
use Rattle.cqs_rule_laws.specs.Events.{Event as Shows, Moves, SlotsStay, IsShort, IsAway, word_plus, word_after_exchange, in_any_case, where_found}
use Rattle.cqs_rule_laws.specs.Facts.{is_owing}
use Rattle.cqs_rule_laws.specs.Hidden.{Hidden, stands_at}
use Rattle.cqs_rule_laws.specs.Lists.{NamesOnly}
use Rattle.cqs_rule_laws.specs.declared.view.View.{View}
use Rattle.cqs_rule_laws.specs.Carried.{slots_when}
use Rattle.cqs_semaphore_client.specs.SemaphoreSlots.{IsFull, GivesValue}
use Rattle.cqs_rule_laws.specs.Slots.{laid_in, taken_off}
use Rattle.cqs_rule_laws.specs.Given.{times_given}
use Rattle.cqs_rule_laws.specs.SlotSteps.{GivesAway, HandedBy}
use Rattle.cqs_rule_laws.proofs.Handing.{off-here}
use Rattle.cqs_semaphore_client.specs.PlainHistories.{IsUnbroken}
use Rattle.cqs_semaphore_client.specs.Semaphore.{core_shown, ShowsCore, semaphore_object, semaphore_primitive, takes_one, loads_to_try, tries, gives_one, decides, slot_given}
use Rattle.cqs_semaphore_client.specs.declared.semaphore.SemClient.{SemClient}
use Rattle.cqs_semaphore_client.specs.SemaphoreMade.{primitive_of}
use Rattle.cqs_rule_laws.specs.Ruled.{number_at}
use Rattle.cqs_core.specs.SemaphoreNames.{entry_names}
use Rattle.cqs_rule_laws.specs.Held.{held_of}
use Rattle.cqs_rule_laws.proofs.Held.{held-is, held-set, held-kept}
use Rattle.cqs_rule.proofs.Ticketless.{no-ticket, if-ticketless, if-away, away-from}
use Rattle.cqs_semaphore_client.proofs.LowLine.{state-above-line}
use Rattle.cqs_words.specs.State.{count_in, is_above_zero, is_below_zero}
use Rattle.cqs_semaphore_client.specs.UnbrokenSteps.{unbroken-more, unbroken-same}
use Rattle.cqs_semaphore_client.proofs.Unbroken.{unbroken-if}
use Rattle.cqs_semaphore_client.proofs.StateWords.{above-lowest, found-loaded, found-other, loaded-free, some-word, state-busy, state-enough, state-free, state-less, state-more, state-none, state-short, state-some, word-above, written}

module _ (sync : Bool) (permits p : ℕ) (facts : Facts) (c : Hidden) (words : List ℕ) (log : List Entry)
    (core : IsEitherCore (core_shown sync permits c words log))
    (does : slice_get c.queue.doing p ≡ Some facts.doing) (has : slice_get c.has p ≡ Some facts.has)
    (short : IsShort largest_limit c.queue) where
  abbrev s : Shape
  s = core_shown sync permits c words log

  abbrev n : ℕ
  n = slice_index words 0

  -- the core with this history, this state, this much held and these doings
  abbrev With : List Entry → ℤ → List ℕ → List Doing → Shape
  With history z held doings = record {
    sync = sync;
    permits = permits;
    state = z;
    held = held;
    history = history;
    queue = record { suspends = c.queue.suspends; resumes = c.queue.resumes; cells = c.queue.cells; doing = doings };
  }

  -- what the words and the passes show where this pass does d, has h, and the word is x
  abbrev Leaves : List Entry → Doing → Has → ℕ → Shape
  Leaves history d h x = core_shown sync permits (stands_at c p d h) (slice_set words 0 x) history

  is-at : (d : Doing) → facts.doing ≡ d → slice_get c.queue.doing p ≡ Some d
  is-at d at = does ∙ ap Some at

  above : lowest <ℤ count_in n
  above = state-above-line s core short.line

  -- a row of the table, and what the words and the pass make of it
  by-row : (e : Event) (history : List Entry) (o : Outcome) (z : ℤ) (held : List ℕ) (doings : List Doing) (d : Doing)
      (h : Has)
      (x : ℕ) → step s e ≡ Some (record { shape = With history z held doings; outcome = o })
      → z ≡ count_in (slice_index (slice_set words 0 x) 0) → held ≡ held_of (slice_set c.has p h)
      → doings ≡ set c.queue.doing p d → IsEitherCore (Leaves history d h x)
  by-row e history o z held doings d h x is state held_same doing_same =
      subst (λ (t : ℤ × List ℕ × List Doing). IsEitherCore (With history t.0 t.1 t.2))
      (λ i. (state i, held_same i, doing_same i))
      (row-core s e (record { shape = With history z held doings; outcome = o }) core is)

  -- the same for a row that appends nothing
  by-quiet-row : (e : Event) (o : Outcome) (z : ℤ) (held : List ℕ) (doings : List Doing) (d : Doing) (h : Has) (x : ℕ)
      → step s e ≡ Some (record { shape = With log z held doings; outcome = o })
      → z ≡ count_in (slice_index (slice_set words 0 x) 0) → held ≡ held_of (slice_set c.has p h)
      → doings ≡ set c.queue.doing p d → IsEitherCore (Leaves (log ++ []) d h x)
  by-quiet-row e o z held doings d h x is state held_same doing_same =
      subst (λ (l : List Entry). IsEitherCore (Leaves l d h x)) (sym (append-nil log))
      (by-row e log o z held doings d h x is state held_same doing_same)

  -- what all hold after it: what they held; or the pass one more, or one less
  same-held : (h : Has) → h.held ≡ facts.has.held → held_of c.has ≡ held_of (slice_set c.has p h)
  same-held h same = held-kept c.has p facts.has h has same

  more-held : (h : Has) → h.held ≡ facts.has.held + 1
      → set (held_of c.has) p (get_or (held_of c.has) p 0 + 1) ≡ held_of (slice_set c.has p h)
  more-held h more = held-set c.has p h (get_or (held_of c.has) p 0 + 1)
      (more ∙ ap (λ m. m + 1) (sym (held-is c.has p facts.has has)))

  less-held : (h : Has) → h.held ≡ facts.has.held - 1
      → set (held_of c.has) p (get_or (held_of c.has) p 0 - 1) ≡ held_of (slice_set c.has p h)
  less-held h less = held-set c.has p h (get_or (held_of c.has) p 0 - 1)
      (less ∙ ap (λ m. m - 1) (sym (held-is c.has p facts.has has)))

  -- the pass does what it did
  same-doing : (d : Doing) → facts.doing ≡ d → c.queue.doing ≡ set c.queue.doing p d
  same-doing d at = sym (set-same c.queue.doing p d (is-at d at))

  -- the word as it was
  kept : slice_index (slice_set words 0 n) 0 ≡ n
  kept = ap (λ (l : List ℕ). slice_index l 0) (set-get_or words 0 0)

  lowered : n < 2 ^ 64 → slice_index (slice_set words 0 (word_plus (negsuc 0) n)) 0 ≡ n - 1
  lowered small =
      let some = word-above n above in
      written words (word_plus (negsuc 0) n) (some-word words (omega arith)) ∙ omega arith

  raised : n < 2 ^ 64 → n < 4294967296 + 4294967296 → slice_index (slice_set words 0 (word_plus (pos 1) n)) 0 ≡ n + 1
  raised small low =
      let some = word-above n above in
      written words (word_plus (pos 1) n) (some-word words (omega arith)) ∙ omega arith

  -- what the pass has, but for what it holds
  abbrev holding : ℕ → Has
  holding held = record {
    held = held;
    payload = facts.has.payload;
    further = facts.has.further;
    slots = facts.has.slots;
  }

  abbrev TakesTo : Bool → Type 0
  TakesTo b = IsEitherCore (Leaves (log ++ (if b then entry.TakeNow p ∷ [] else entry.TakeDoor p ∷ []))
      (if b then doing.Idle else doing.Door) (holding (if b then facts.has.held + 1 else facts.has.held))
      (word_plus (negsuc 0) n))

  pub take-core : facts.doing ≡ doing.Idle → n < 2 ^ 64 → TakesTo (is_above_zero n)
  take-core idle small = ⊎_elim
      (λ (free : 4294967296 < n).
      subst TakesTo (sym (lt-ltb 4294967296 n free))
      (by-row (event.Take p) (log ++ entry.TakeNow p ∷ []) outcome.Now (count_in n -ℤ pos 1)
      (set (held_of c.has) p (get_or (held_of c.has) p 0 + 1)) c.queue.doing doing.Idle (holding (facts.has.held + 1))
      (word_plus (negsuc 0) n)
      (rw (is-at doing.Idle idle, above-lowest (count_in n) above, state-free n free) refl)
      (sym (state-less n (omega arith)) ∙ ap count_in (sym (lowered small)))
      (more-held (holding (facts.has.held + 1)) refl)
      (same-doing doing.Idle idle)))
      (λ (none : n ≤ 4294967296).
      subst TakesTo (sym (le-ltb 4294967296 n none))
      (by-row (event.Take p) (log ++ entry.TakeDoor p ∷ []) outcome.Door (count_in n -ℤ pos 1)
      (held_of c.has) (set c.queue.doing p doing.Door) doing.Door (holding facts.has.held) (word_plus (negsuc 0) n)
      (rw (is-at doing.Idle idle, above-lowest (count_in n) above, state-none n none) refl)
      (sym (state-less n (let some = word-above n above in omega arith)) ∙ ap count_in (sym (lowered small)))
      (same-held (holding facts.has.held) refl)
      refl))
      (cases_lt 4294967296 n)

  abbrev LoadsTo : Bool → Type 0
  LoadsTo b = IsEitherCore (Leaves (log ++ (if b then [] else entry.TryBusy p ∷ []))
      (if b then doing.TryAt (count_in n) else doing.Idle) (holding facts.has.held) n)

  pub try-load-core : facts.doing ≡ doing.Idle → LoadsTo (is_above_zero n)
  try-load-core idle = ⊎_elim
      (λ (free : 4294967296 < n).
      subst LoadsTo (sym (lt-ltb 4294967296 n free))
      (by-quiet-row (event.TryLoad p) (outcome.Loaded (count_in n)) (count_in n) (held_of c.has)
      (set c.queue.doing p (doing.TryAt (count_in n))) (doing.TryAt (count_in n)) (holding facts.has.held) n
      (rw (is-at doing.Idle idle, state-some n free) refl)
      (ap count_in (sym kept))
      (same-held (holding facts.has.held) refl)
      refl))
      (λ (none : n ≤ 4294967296).
      subst LoadsTo (sym (le-ltb 4294967296 n none))
      (by-row (event.TryLoad p) (log ++ entry.TryBusy p ∷ []) outcome.Busy (count_in n) (held_of c.has) c.queue.doing
      doing.Idle (holding facts.has.held) n
      (rw (is-at doing.Idle idle, state-busy n none) refl)
      (ap count_in (sym kept))
      (same-held (holding facts.has.held) refl)
      (same-doing doing.Idle idle)))
      (cases_lt 4294967296 n)

  abbrev SwapsTo : ℕ → Bool → Type 0
  SwapsTo saw b = IsEitherCore (Leaves (log ++ (if b then entry.TryGot p ∷ [] else [])) doing.Idle
      (holding (if b then facts.has.held + 1 else facts.has.held)) (either b (saw - 1) n))

  pub try-swap-core : (saw : ℕ) → facts.doing ≡ doing.TryAt (count_in saw) → SwapsTo saw (n == saw)
  try-swap-core saw at =
      let loaded = core.loaded.at p (doing.TryAt (count_in saw)) (is-at _ at) in
      let free = loaded-free saw loaded in
      let long : n ≡ saw → 0 < length words = λ same. some-word words (omega arith) in ⊎_elim
      (λ (same : n ≡ saw).
      subst (SwapsTo saw) (sym (eq-eqb n saw same))
      (by-row (event.TrySwap p) (log ++ entry.TryGot p ∷ []) outcome.Got (count_in n -ℤ pos 1)
      (set (held_of c.has) p (get_or (held_of c.has) p 0 + 1)) (set c.queue.doing p doing.Idle) doing.Idle
      (holding (facts.has.held + 1)) (saw - 1)
      (rw (is-at _ at, found-loaded n saw same) refl)
      (sym (state-less n (omega arith)) ∙ ap count_in (sym (written words (saw - 1) (long same) ∙ omega arith)))
      (more-held (holding (facts.has.held + 1)) refl)
      refl))
      (λ (other : n ≢ saw).
      subst (SwapsTo saw) (sym (ne_eqb n saw other))
      (by-quiet-row (event.TrySwap p) (outcome.Contended (count_in saw) (count_in n)) (count_in n) (held_of c.has)
      (set c.queue.doing p doing.Idle) doing.Idle (holding facts.has.held) n
      (rw (is-at _ at, found-other n saw other) refl)
      (ap count_in (sym kept))
      (same-held (holding facts.has.held) refl)
      refl))
      (cases_eq n saw)

  -- what a pass has that gave one away: it owes with the payload 0, if it owes
  abbrev giving : Has
  giving = record {
    held = facts.has.held - 1;
    payload = 0;
    further = facts.has.further;
    slots = facts.has.slots;
  }

  abbrev GivesTo : Bool → Type 0
  GivesTo b = IsEitherCore (Leaves (log ++ (if b then entry.GiveSent p ∷ [] else entry.GiveFreed p ∷ []))
      (if b then doing.Owes else doing.Idle) giving (word_plus (pos 1) n))

  pub give-core : facts.doing ≡ doing.Idle → 0 < facts.has.held → n < 2 ^ 64 → n < 4294967296 + 4294967296
      → GivesTo (is_below_zero n)
  give-core idle some small low =
      let holds : get_or (held_of c.has) p 0 ≡ facts.has.held = held-is c.has p facts.has has in
      let any : nat_lt 0 (get_or (held_of c.has) p 0) ≡ true = lt-ltb 0 (get_or (held_of c.has) p 0) (omega arith) in
      ⊎_elim
      (λ (below : n < 4294967296).
      subst GivesTo (sym (lt-ltb n 4294967296 below))
      (by-row (event.Give p) (log ++ entry.GiveSent p ∷ []) outcome.Owes (count_in n +ℤ pos 1)
      (set (held_of c.has) p (get_or (held_of c.has) p 0 - 1)) (set c.queue.doing p doing.Owes) doing.Owes giving
      (word_plus (pos 1) n)
      (rw (is-at doing.Idle idle, any, state-short n below) refl)
      (sym (state-more n) ∙ ap count_in (sym (raised small low)))
      (less-held giving refl)
      refl))
      (λ (enough : 4294967296 ≤ n).
      subst GivesTo (sym (le-ltb n 4294967296 enough))
      (by-row (event.Give p) (log ++ entry.GiveFreed p ∷ []) outcome.Freed (count_in n +ℤ pos 1)
      (set (held_of c.has) p (get_or (held_of c.has) p 0 - 1)) c.queue.doing doing.Idle giving (word_plus (pos 1) n)
      (rw (is-at doing.Idle idle, any, state-enough n enough) refl)
      (sym (state-more n) ∙ ap count_in (sym (raised small low)))
      (less-held giving refl)
      (same-doing doing.Idle idle)))
      (cases_lt n 4294967296)

  abbrev DecidesTo : ℕ → Bool → Type 0
  DecidesTo k b = IsEitherCore (Leaves (log ++ entry.Leave p k ∷ []) (doing.Decided k b) (holding facts.has.held)
      (word_plus (pos 1) n))

  pub decide-core : (k : ℕ) → facts.doing ≡ doing.Leaving k → n < 2 ^ 64 → n < 4294967296 + 4294967296
      → DecidesTo k (is_below_zero n)
  decide-core k leaves small low = ⊎_elim
      (λ (below : n < 4294967296).
      subst (DecidesTo k) (sym (lt-ltb n 4294967296 below))
      (by-row (event.Decide p) (log ++ entry.Leave p k ∷ []) (outcome.Decided true) (count_in n +ℤ pos 1)
      (held_of c.has) (set c.queue.doing p (doing.Decided k true)) (doing.Decided k true) (holding facts.has.held)
      (word_plus (pos 1) n)
      (rw (is-at _ leaves, state-short n below) refl)
      (sym (state-more n) ∙ ap count_in (sym (raised small low)))
      (same-held (holding facts.has.held) refl)
      refl))
      (λ (enough : 4294967296 ≤ n).
      subst (DecidesTo k) (sym (le-ltb n 4294967296 enough))
      (by-row (event.Decide p) (log ++ entry.Leave p k ∷ []) (outcome.Decided false) (count_in n +ℤ pos 1)
      (held_of c.has) (set c.queue.doing p (doing.Decided k false)) (doing.Decided k false) (holding facts.has.held)
      (word_plus (pos 1) n)
      (rw (is-at _ leaves, state-enough n enough) refl)
      (sym (state-more n) ∙ ap count_in (sym (raised small low)))
      (same-held (holding facts.has.held) refl)
      refl))
      (cases_lt n 4294967296)

-- the word isn't far above 0
word-below : (n : ℕ) → count_in n ≤ℤ pos 1048576 → n < 4294967296 + 4294967296
word-below n few = grind (arith, ints)

-- What a step on the state leaves is shown where its core is, and where it breaks no number.
shown-then : (sync : Bool) (permits p : ℕ) (c : Hidden) (words next : List ℕ) (log longer : List Entry)
    (from to : Doing) (has : Has)
    → ShowsCore sync permits c words log → slice_get c.queue.doing p ≡ Some from → IsAway from → IsAway to
    → IsEitherCore (core_shown sync permits (stands_at c p to has) next longer) → (IsUnbroken log → IsUnbroken longer)
    → ShowsCore sync permits (stands_at c p to has) next longer
shown-then sync permits p c words next log longer from to has shown does away away' core unbroken = record {
  core = core;
  queue = either-turned sync c.queue p from to shown.queue does (watches-none from away) (watches-none to away')
      core.sound core.plain;
  unbroken = λ plain. unbroken (shown.unbroken plain);
}
  where
    watches-none : (d : Doing) → IsAway d → (j : ℕ) → d ≡ doing.Watching j → ⊥
    watches-none d away j is = subst IsAway is away

-- One of two entries of the pass p, or none, names no other pass.
one-silent : (p : ℕ) (b : Bool) (es fs : List Entry) → NamesOnly entry_names p es → NamesOnly entry_names p fs
    → NamesOnly entry_names p (if b then es else fs)
one-silent p true es fs first second = first
one-silent p false es fs first second = second

take-silent : (p : ℕ) (b : Bool)
    → NamesOnly entry_names p (if b then entry.TakeNow p ∷ [] else entry.TakeDoor p ∷ [])
take-silent p b = one-silent p b (entry.TakeNow p ∷ []) (entry.TakeDoor p ∷ [])
    (λ m apart. rw (ne_eqb p m (λ q. apart (sym q))) refl) (λ m apart. rw (ne_eqb p m (λ q. apart (sym q))) refl)

give-silent : (p : ℕ) (b : Bool)
    → NamesOnly entry_names p (if b then entry.GiveSent p ∷ [] else entry.GiveFreed p ∷ [])
give-silent p b = one-silent p b (entry.GiveSent p ∷ []) (entry.GiveFreed p ∷ [])
    (λ m apart. rw (ne_eqb p m (λ q. apart (sym q))) refl) (λ m apart. rw (ne_eqb p m (λ q. apart (sym q))) refl)

try-load-silent : (p : ℕ) (b : Bool) → NamesOnly entry_names p (if b then [] else entry.TryBusy p ∷ [])
try-load-silent p b =
    one-silent p b [] (entry.TryBusy p ∷ []) (λ m apart. refl) (λ m apart. rw (ne_eqb p m (λ q. apart (sym q))) refl)

try-swap-silent : (p : ℕ) (b : Bool) → NamesOnly entry_names p (if b then entry.TryGot p ∷ [] else [])
try-swap-silent p b =
    one-silent p b (entry.TryGot p ∷ []) [] (λ m apart. rw (ne_eqb p m (λ q. apart (sym q))) refl) (λ m apart. refl)

-- an idle pass owes nothing
not-owing : (d e : Doing) → d ≡ e → is_owing e ≡ false → is_owing d ≡ true → ⊥
not-owing d e at none owes = let both : true ≡ false = sym owes ∙ (ap is_owing at ∙ none) in absurd (cc)

-- an event that appends nothing in one of two cases appends something in the other
some-entry : (b : Bool) (e f : Entry) → ◌≡◌ {A = List Entry} (if b then e ∷ [] else f ∷ []) [] → ⊥
some-entry true e f q = cc
some-entry false e f q = cc

-- an idle pass that may draw may acquire: it takes one from the state
pub take-moves : {T : Type 0} (sync : Bool) (looks permits p : ℕ) (facts : Facts) → facts.doing ≡ doing.Idle
    → facts.may_draw ≡ true
    → Moves semaphore_object (semaphore_primitive {T = T} sync looks permits) takes_one in_any_case p facts 0
    (word_plus (negsuc 0))
take-moves sync looks permits p facts idle may = record {
  step = λ c words log handed shown does has short small.
      shown-then sync permits p c words _ log _ facts.doing _ _ shown does (subst IsAway (sym idle) tt)
      (if-away (is_above_zero (slice_index words 0)) doing.Idle doing.Door tt tt)
      (take-core sync permits p facts c words log shown.core does has short idle small)
      (λ unbroken.
      unbroken-if (is_above_zero (slice_index words 0)) log (entry.TakeNow p ∷ []) (entry.TakeDoor p ∷ [])
      (unbroken-more log (entry.TakeNow p) tt unbroken)
      (unbroken-more log (entry.TakeDoor p) tt unbroken));
  silent = λ n. take-silent p (is_above_zero n);
  door = λ n q. inr may;
  ticket = λ n j q. absurd (no-ticket _ (if-ticketless (is_above_zero n) doing.Idle doing.Door tt tt) j q);
  away = λ n. away-from doing.Idle facts.doing _ idle tt (if-away (is_above_zero n) doing.Idle doing.Door tt tt);
  owed = λ n owing. refl;
  keeps = λ n none. absurd (some-entry (is_above_zero n) (entry.TakeNow p) (entry.TakeDoor p) none);
  owing = λ n none. absurd (some-entry (is_above_zero n) (entry.TakeNow p) (entry.TakeDoor p) none);
  fits = λ n low. low;
}

-- an idle pass may try: it loads the state
pub try-load-moves : {T : Type 0} (sync : Bool) (looks permits p : ℕ) (facts : Facts) → facts.doing ≡ doing.Idle
    → Moves semaphore_object (semaphore_primitive {T = T} sync looks permits) loads_to_try in_any_case p facts 0
    (λ n. n)
try-load-moves sync looks permits p facts idle = record {
  step = λ c words log handed shown does has short small.
      shown-then sync permits p c words _ log _ facts.doing _ _ shown does (subst IsAway (sym idle) tt)
      (if-away (is_above_zero (slice_index words 0)) (doing.TryAt (count_in (slice_index words 0))) doing.Idle tt tt)
      (try-load-core sync permits p facts c words log shown.core does has short idle)
      (λ unbroken.
      unbroken-if (is_above_zero (slice_index words 0)) log [] (entry.TryBusy p ∷ [])
      (unbroken-same log unbroken) (unbroken-more log (entry.TryBusy p) tt unbroken));
  silent = λ n. try-load-silent p (is_above_zero n);
  door = λ n q. absurd (no-door (is_above_zero n) (count_in n) q);
  ticket = λ n j q. absurd (no-ticket _ (if-ticketless (is_above_zero n) (doing.TryAt (count_in n)) doing.Idle tt tt) j
      q);
  away = λ n. away-from doing.Idle facts.doing _ idle tt
      (if-away (is_above_zero n) (doing.TryAt (count_in n)) doing.Idle tt tt);
  owed = λ n owing. refl;
  keeps = λ n none. refl;
  owing = λ n none. free-still (is_above_zero n) (count_in n) ∙ sym (ap is_owing idle);
  fits = λ n low. low;
}
  where
    -- a try that is about to exchange owes no more than one that is at rest
    free-still : (b : Bool) (z : ℤ) → is_owing (if b then doing.TryAt z else doing.Idle) ≡ false
    free-still true z = refl
    free-still false z = refl

    no-door : (b : Bool) (z : ℤ) → (if b then doing.TryAt z else doing.Idle) ≡ doing.Door → ⊥
    no-door true z q = cc
    no-door false z q = cc

-- and where it loaded a permit, it may exchange the state for one less
pub try-swap-moves : {T : Type 0} (sync : Bool) (looks permits p : ℕ) (facts : Facts) (saw : ℕ)
    → facts.doing ≡ doing.TryAt (count_in saw)
    → Moves semaphore_object (semaphore_primitive {T = T} sync looks permits) tries (where_found saw) p facts 0
    (word_after_exchange saw (saw - 1))
try-swap-moves sync looks permits p facts saw at = record {
  step = λ c words log handed shown does has short small.
      shown-then sync permits p c words _ log _ facts.doing doing.Idle _ shown does (subst IsAway (sym at) tt) tt
      (try-swap-core sync permits p facts c words log shown.core does has short saw at)
      (λ unbroken.
      unbroken-if (where_found saw (slice_index words 0)) log (entry.TryGot p ∷ []) []
      (unbroken-more log (entry.TryGot p) tt unbroken) (unbroken-same log unbroken));
  silent = λ n. try-swap-silent p (where_found saw n);
  door = λ n q. absurd (no-door q);
  ticket = λ n j q. absurd (no-ticket doing.Idle tt j q);
  away = λ n. away-from (doing.TryAt (count_in saw)) facts.doing doing.Idle at tt tt;
  owed = λ n owing. refl;
  keeps = λ n none. same-has (where_found saw n) none;
  owing = λ n none. sym (ap is_owing at);
  fits = λ n low. low;
}
  where
    no-door : doing.Idle ≡ doing.Door → ⊥
    no-door q = cc

    -- an exchange that wasn't made leaves what the pass holds
    same-has : (b : Bool) → ◌≡◌ {A = List Entry} (if b then entry.TryGot p ∷ [] else []) []
        → ◌≡◌ {A = Has} (record facts.has { held = if b then facts.has.held + 1 else facts.has.held }) facts.has
    same-has true q = absurd (cc)
    same-has false q = refl

-- an idle pass that holds a permit may release it: it adds one to the state
pub give-moves : {T : Type 0} (sync : Bool) (looks permits p : ℕ) (facts : Facts) → facts.doing ≡ doing.Idle
    → 0 < facts.has.held
    → Moves semaphore_object (semaphore_primitive {T = T} sync looks permits) gives_one in_any_case p facts 0
    (word_plus (pos 1))
give-moves sync looks permits p facts idle some = record {
  step = λ c words log handed shown does has short small.
      shown-then sync permits p c words _ log _ facts.doing _ _ shown does (subst IsAway (sym idle) tt)
      (if-away (is_below_zero (slice_index words 0)) doing.Owes doing.Idle tt tt)
      (give-core sync permits p facts c words log shown.core does has short idle some small
      (word-below (slice_index words 0) ((core-fits (core_shown sync permits c words log) shown.core).high)))
      (λ unbroken.
      unbroken-if (is_below_zero (slice_index words 0)) log (entry.GiveSent p ∷ []) (entry.GiveFreed p ∷ [])
      (unbroken-more log (entry.GiveSent p) tt unbroken)
      (unbroken-more log (entry.GiveFreed p) tt unbroken));
  silent = λ n. give-silent p (is_below_zero n);
  door = λ n q. absurd (no-door (is_below_zero n) q);
  ticket = λ n j q. absurd (no-ticket _ (if-ticketless (is_below_zero n) doing.Owes doing.Idle tt tt) j q);
  away = λ n. away-from doing.Idle facts.doing _ idle tt (if-away (is_below_zero n) doing.Owes doing.Idle tt tt);
  owed = λ n owing. absurd (not-owing facts.doing doing.Idle idle refl owing);
  keeps = λ n none. absurd (some-entry (is_below_zero n) (entry.GiveSent p) (entry.GiveFreed p) none);
  owing = λ n none. absurd (some-entry (is_below_zero n) (entry.GiveSent p) (entry.GiveFreed p) none);
  fits = λ n low. omega arith;
}
  where
    no-door : (b : Bool) → (if b then doing.Owes else doing.Idle) ≡ doing.Door → ⊥
    no-door true q = cc
    no-door false q = cc

-- each event but a release leaves a pass that holds the one permit its slot
pub take-stays : {T : Type 0} (x : SemClient T) (slots : ℕ) (v : View Entry T)
    → SlotsStay semaphore_object (primitive_of x) slots takes_one in_any_case v
take-stays x slots v = record {
  stay = λ n k y low is o. (o.0, o.1, some (is_above_zero n) o.2);
  none = λ n k low. given (is_above_zero n) k;
}
  where
    given : (b : Bool) (k : ℕ) → times_given slot_given
        (if b then entry.TakeNow v.number ∷ [] else entry.TakeDoor v.number ∷ []) k ≡ 0
    given true k = refl
    given false k = refl

    some : (b : Bool) → 0 < v.facts.has.held → 0 < (if b then v.facts.has.held + 1 else v.facts.has.held)
    some true held = omega arith
    some false held = held

pub try-stays : {T : Type 0} (x : SemClient T) (slots saw : ℕ) (v : View Entry T)
    → SlotsStay semaphore_object (primitive_of x) slots tries (where_found saw) v
try-stays x slots saw v = record {
  stay = λ n k y low is o. (o.0, o.1, some (where_found saw n) o.2);
  none = λ n k low. given (where_found saw n) k;
}
  where
    given : (b : Bool) (k : ℕ) → times_given slot_given (if b then entry.TryGot v.number ∷ [] else []) k ≡ 0
    given true k = refl
    given false k = refl

    some : (b : Bool) → 0 < v.facts.has.held → 0 < (if b then v.facts.has.held + 1 else v.facts.has.held)
    some true held = omega arith
    some false held = held

-- a semaphore without slots has none to lose
pub none-stays : {T : Type 0} (x : SemClient T) (slots : ℕ) (event : Shows Entry) (made : ℕ → Bool)
    (v : View Entry T) → slots ≡ 0
    → SlotsStay semaphore_object (primitive_of x) slots event made v
none-stays x slots event made v none = record {
  stay = λ n k y low is o. absurd (omega arith);
  none = λ n k low. absurd (omega arith);
}

-- a release of a semaphore whose permit carries a value gives its slot away, in which a value lies
pub give-gives : {T : Type 0} (x : SemClient T) (slots n : ℕ) (kept : Bool) (v : View Entry T)
    → n ≡ slots_when kept → (n ≡ 0 → ⊥) → IsFull kept v
    → GivesAway semaphore_object (primitive_of x) slots gives_one in_any_case 0 v
give-gives x slots n false v is some full = absurd (some is)
give-gives {T} x slots n true v is some full = record {
  lies = full;
  gives = λ n k low. given (is_below_zero n) k low;
  others = λ m k y there o.
      absurd (none-some y (sym (off-here 0 v.laid) ∙ (ap (laid_in (taken_off 0 v.laid)) (sym o.1) ∙ there)));
}
  where
    none-some : (y : Option T) → None ≡ Some y → ⊥
    none-some y e = cc

    given : (b : Bool) (k : ℕ) → k < slots → times_given slot_given
        (if b then entry.GiveSent v.number ∷ [] else entry.GiveFreed v.number ∷ []) k ≡ (if 0 == k then 1 else 0)
    given true k low = omega arith
    given false k low = omega arith

pub gives-value : {T : Type 0} (kept : Bool) (v w : View Entry T)
    → ((y : T) → laid_in v.laid 0 ≡ Some (Some y) → HandedBy semaphore_object 0 y v w) → GivesValue kept v w
gives-value true v w given = given
gives-value false v w given = tt

pub gives-none : {T : Type 0} (n : ℕ) (kept : Bool) (v w : View Entry T) → n ≡ slots_when kept → n ≡ 0
    → GivesValue kept v w
gives-none n true v w is none = absurd (omega arith)
gives-none n false v w is none = tt

-- a pass that is leaving a wait may ask: it adds one to the state
pub decide-moves : {T : Type 0} (sync : Bool) (looks permits p : ℕ) (facts : Facts) (k : ℕ)
    → facts.doing ≡ doing.Leaving k
    → Moves semaphore_object (semaphore_primitive {T = T} sync looks permits) decides in_any_case p facts 0
    (word_plus (pos 1))
decide-moves sync looks permits p facts k leaves = record {
  step = λ c words log handed shown does has short small.
      shown-then sync permits p c words _ log _ facts.doing
      (doing.Decided (number_at facts.doing) (is_below_zero (slice_index words 0))) _ shown does
      (subst IsAway (sym leaves) tt) tt
      (subst (λ j. IsEitherCore (core_shown sync permits
      (stands_at c p (doing.Decided j (is_below_zero (slice_index words 0))) facts.has)
      (slice_set words 0 (word_plus (pos 1) (slice_index words 0))) (log ++ entry.Leave p j ∷ [])))
      (sym (ap number_at leaves))
      (decide-core sync permits p facts c words log shown.core does has short k leaves small
      (word-below (slice_index words 0) ((core-fits (core_shown sync permits c words log) shown.core).high))))
      (unbroken-more log (entry.Leave p (number_at facts.doing)) tt);
  silent = λ n m apart. rw (ne_eqb p m (λ q. apart (sym q))) refl;
  door = λ n q. absurd (no-door (number_at facts.doing) (is_below_zero n) q);
  ticket = λ n j q. absurd (no-ticket (doing.Decided (number_at facts.doing) (is_below_zero n)) tt j q);
  away = λ n. away-from (doing.Leaving k) facts.doing _ leaves tt tt;
  owed = λ n owing. refl;
  keeps = λ n none. absurd (some-entry (number_at facts.doing) none);
  owing = λ n none. absurd (some-entry (number_at facts.doing) none);
  fits = λ n low. low;
}
  where
    no-door : (j : ℕ) (b : Bool) → doing.Decided j b ≡ doing.Door → ⊥
    no-door j b q = cc

    some-entry : (j : ℕ) → ◌≡◌ {A = List Entry} (entry.Leave p j ∷ []) [] → ⊥
    some-entry j q = cc
