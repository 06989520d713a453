-- The steps that draw a number from a counter. No counter comes past the cells: those at the door may draw, and the
-- numbers drawn with those who may draw stay below the limit and the passes.
use Rattle.std.proofs.Common.{◌≡◌, ◌≢◌, ◌⊎◌, ℕ, suc, ◌+◌, ◌-◌, ◌%◌, ◌<◌, ◌≤◌, ◌^◌, Bool, true, false, List, [], ◌∷◌, ◌++◌, length, set, sym, refl, ap, ◌∙◌, subst, inl, inr, ⊎_elim, arith, Option, Some, None, slice_get, cond, ℤ, pos, unsigned_abs, if◌then◌else◌}
use Rattle.std.specs.Prelude.{slice_index, count_by}
use Rattle.std.proofs.lemmas.Bool.{cases_lt}
use Rattle.std.proofs.lemmas.List.{length-set}
use Rattle.std.proofs.lemmas.List.Sums.{sum_by-cons}
use Rattle.std.proofs.lemmas.Option.{same_Some}
use mathlib.Core.Logic.{dite}
use mathlib.Core.Option.{some, none}
use lib.ListN.{get_elem?}
use native.Mathlib.Decide.{ℕ_discrete}
use Rattle.atomic_table.specs.Table.{State, Me, keeps, step, stepped, Allows}
use Rattle.cqs_core.specs.declared.cells.CoreCell.{CoreCell}
use Rattle.cqs_core.specs.declared.cells.CoreState.TheVariants as state
use Rattle.cqs_core.specs.declared.doings.Doing.{Doing}
use Rattle.cqs_core.specs.declared.doings.Doing.TheVariants as doing
use Rattle.cqs_core.specs.Numbered.{pick_each}
use Rattle.cqs_core.specs.QueueCells.{IsInstalled}
use Rattle.cqs_core.specs.QueueLine.{at_door}
use Rattle.cqs_core.specs.QueueLine as queue
use Rattle.cqs_core.specs.QueueEither.{IsSoundEither}
use Rattle.cqs_core.specs.QueueStages as stage
use Rattle.cqs_core.specs.QueueStages.{Stage, doing_at}
use Rattle.cqs_core.specs.QueueState.{fresh_cell}
use Rattle.cqs_core.specs.QueueSteps.{QueueStep, draws, enters, reaches, begins, row_of, StepRow, CounterRow, at_counter, at_cell, Counter, to_suspend, to_resume, Cost, no_cost, one_owed, one_element, after_count, IsOpenRow}
use Rattle.cqs_core.proofs.QueueRows.{step-facts}
use Rattle.cqs_core.proofs.StepFacts.{IsDraw, is_draws, is_enters, is_reaches, is_begins, is_puts, DrawOf}
use Rattle.cqs_core.proofs.Places.{get-set_here, get-set_else, get-append_left}
use Rattle.cqs_rule_laws.specs.declared.view.View.{View}
use Rattle.cqs_rule_laws.specs.declared.view.Facts.{Facts}
use Rattle.cqs_rule_laws.specs.declared.view.Has.{Has}
use Rattle.cqs_rule_laws.specs.Client.{IsClient, IsPaid, IsPayload, KeepsSlot, KeepsSlotAt, pays_away, gives_away}
use Rattle.cqs_rule_laws.specs.Counts.{IsCount, IsCountBy, PaysNoElement, DrewBy, drew, IsDrawnBy}
use Rattle.cqs_rule_laws.specs.Facts.{counter_place, facts_counted_by, IsBehind}
use Rattle.cqs_rule_laws.specs.Given.{times_given}
use Rattle.cqs_rule_laws.specs.Hidden.{Hidden, Gains, has_paid, has_after, happened_by, state_at}
use Rattle.cqs_rule_laws.specs.Kinds.{Carries, pays_owed}
use Rattle.cqs_rule_laws.specs.Layout.{words_for, client_words}
use Rattle.cqs_rule_laws.specs.Manner.{Suits}
use Rattle.cqs_rule_laws.specs.Object.{Object, Primitive}
use Rattle.cqs_rule_laws.specs.Ruled.{Ruled, RuledAhead, IsWaitOf, Stands, number_at}
use Rattle.cqs_rule_laws.specs.Saw.{IsLive}
use Rattle.cqs_rule_laws.specs.Slots.{laid_in}
use Rattle.cqs_rule_laws.specs.Views.{grown}
use Rattle.cqs_rule_laws.specs.Manner.{IsSmart}
use Rattle.cqs_rule_laws.proofs.ToRetire.{leaves-same}
use Rattle.cqs_rule_laws.proofs.Over.{over-same, unwatched-same, suspended-same}
use Rattle.cqs_rule_laws.proofs.Settled.{finals-on}
use Rattle.cqs_rule_laws.proofs.CellPlaces.{behind-suspends, behind-resumes, suspends-inside, resumes-inside}
use Rattle.cqs_rule_laws.proofs.Cells.{written_same, made_same, pushed-back, installed-drawn, since-on}
use Rattle.cqs_rule_laws.proofs.Advance.{Turned}
use Rattle.cqs_rule_laws.proofs.Given.{IsTiedAt, tied-on}
use Rattle.cqs_rule_laws.proofs.GivenBeside.{aware-beside}
use Rattle.cqs_rule_laws.proofs.Staying.{OthersStay}
use Rattle.cqs_rule_laws.proofs.Lists.{fewer_draw}
use Rattle.cqs_rule_laws.proofs.Others.{door-keeps}
use Rattle.cqs_slots.proofs.Loads.{later-same}
use Rattle.cqs_rule_laws.proofs.Drawing.{draws-word, draws-one}
use Rattle.cqs_rule_laws.proofs.Shelves.{Keeps}
use Rattle.cqs_rule_laws.proofs.Tells.{steps, suspends-low, resumes-low}
use Rattle.cqs_rule_laws.proofs.Words.{this-word, crew-else, cells-else, client-below, idle-else, other-word}

-- the passes at the door are among those who may draw
doors-draw : (doings : List Doing) (may : List Bool) (k : ℕ)
    → ((p : ℕ) → slice_get doings p ≡ Some doing.Door → slice_get may p ≡ Some true)
    → length (pick_each at_door k doings) ≤ count_by (λ b. b) may
doors-draw [] may k door = omega arith
doors-draw (doing.Door ∷ ds) [] k door = let e = door 0 refl in absurd (cc)
doors-draw (doing.Door ∷ ds) (m ∷ may) k door =
    let rest = doors-draw ds may (suc k) (λ p at. door (suc p) at) in
    let is : m ≡ true = same_Some m true (door 0 refl) in
    let more : count_by (λ b. b) (m ∷ may) ≡ 1 + count_by (λ b. b) may =
    rw is (sum_by-cons (λ b. cond b 1 0) true may) in
    omega arith
doors-draw (d ∷ ds) [] k door = let rest = doors-draw ds [] (suc k) (λ p at. let e = door (suc p) at in absurd (cc)) in
    rest
doors-draw (d ∷ ds) (m ∷ may) k door =
    let rest = doors-draw ds may (suc k) (λ p at. door (suc p) at) in
    let more = sum_by-cons (λ b. cond b 1 0) m may in
    omega arith

one-more : (amount : ℕ) (by : ℤ) → amount ≡ unsigned_abs by → by ≡ pos 1 → amount ≡ 1
one-more amount by is up = is ∙ ap unsigned_abs up

-- what paid for a number to resume at owes no more than before, or the element
paid-fits : (cost : Cost) (payload : ℕ) (h : Has) → payload < 2 ^ 20 → h.payload < 2 ^ 20
    → (has_paid cost payload h).payload < 2 ^ 20
paid-fits no_cost payload h new old = old
paid-fits one_owed payload h new old = old
paid-fits one_element payload h new old = new

paid-held : (cost : Cost) (payload : ℕ) (h : Has) → (has_paid cost payload h).held ≡ h.held
paid-held no_cost payload h = refl
paid-held one_owed payload h = refl
paid-held one_element payload h = refl

paid-further : (cost : Cost) (payload : ℕ) (h : Has)
    → (has_paid cost payload h).further ≡ (if pays_owed cost then h.further - 1 else h.further)
paid-further no_cost payload h = refl
paid-further one_owed payload h = refl
paid-further one_element payload h = refl

module _ (c : Hidden) (p k : ℕ) where
  -- a number is drawn: each cell keeps its state
  pub drawn-state : (found : Option CoreCell) (j : ℕ) → slice_get c.queue.cells k ≡ found
      → state_at (after_count to_suspend c.queue p k found) j ≡ state_at c.queue j
  drawn-state None j e = made_same c.queue.cells _ j refl
  drawn-state (Some found) j e = written_same c.queue.cells k j found _ e refl

  pub reached-state : (found : Option CoreCell) (j : ℕ)
      → state_at (after_count to_resume c.queue p k found) j ≡ state_at c.queue j
  reached-state None j = made_same c.queue.cells fresh_cell j refl
  reached-state (Some found) j = refl

  -- a wait is of a number that was drawn before
  pub drawn-wait : (found : Option CoreCell) (n j : ℕ) → slice_get c.queue.cells k ≡ found → k ≡ c.queue.suspends
      → IsWaitOf c.queue n j → IsWaitOf (after_count to_suspend c.queue p k found) n j
  drawn-wait None n j e next w = record {
    cell = w.cell;
    there = get-append_left c.queue.cells _ j w.cell w.there;
    owner = w.owner;
    drawn = let d = w.drawn in omega arith;
    uncollected = w.uncollected;
    installed = w.installed;
  }
  drawn-wait (Some found) n j e next w = record {
    cell = w.cell;
    there = let d = w.drawn in get-set_else c.queue.cells k j _ (λ q. omega arith) ∙ w.there;
    owner = w.owner;
    drawn = let d = w.drawn in omega arith;
    uncollected = w.uncollected;
    installed = w.installed;
  }

  pub reached-wait : (found : Option CoreCell) (n j : ℕ)
      → IsWaitOf c.queue n j → IsWaitOf (after_count to_resume c.queue p k found) n j
  reached-wait None n j w = record {
    cell = w.cell;
    there = get-append_left c.queue.cells _ j w.cell w.there;
    owner = w.owner;
    drawn = w.drawn;
    uncollected = w.uncollected;
    installed = w.installed;
  }
  reached-wait (Some found) n j w = record {
    cell = w.cell;
    there = w.there;
    owner = w.owner;
    drawn = w.drawn;
    uncollected = w.uncollected;
    installed = w.installed;
  }

  -- a wait that stands after a number was drawn stood before
  pub drawn-wait_back : {sync : Bool} (found : Option CoreCell) (n j : ℕ) → slice_get c.queue.cells k ≡ found
      → k ≡ c.queue.suspends → IsSoundEither sync c.queue
      → IsWaitOf (after_count to_suspend c.queue p k found) n j → IsWaitOf c.queue n j
  drawn-wait_back None n j e next sound w = ⊎_elim
      (λ (old : slice_get c.queue.cells j ≡ Some w.cell).
      let apart : j ≢ k = λ q.
      let both : None ≡ Some w.cell = sym e ∙ (ap (slice_get c.queue.cells) (sym q) ∙ old) in absurd (cc) in
      record {
        cell = w.cell;
        there = old;
        owner = w.owner;
        drawn = let d = w.drawn in omega arith;
        uncollected = w.uncollected;
        installed = w.installed;
      })
      (λ (new : w.cell ≡ record { state = state.Empty; owner = Some p; collected = false }).
      absurd (subst IsInstalled (ap (λ (x : CoreCell). x.state) new) w.installed))
      (pushed-back c.queue.cells _ j w.cell w.there)
  drawn-wait_back (Some found) n j e next sound w = dite (ℕ_discrete j k)
      (λ (q : j ≡ k).
      let new : CoreCell = record { state = found.state; owner = Some p; collected = found.collected } in
      let here : slice_get (set c.queue.cells k new) j ≡ Some new =
      ap (slice_get (set c.queue.cells k new)) q ∙ get-set_here c.queue.cells k found new e in
      let same : w.cell ≡ new = same_Some w.cell new (sym w.there ∙ here) in
      let stood : IsInstalled found.state = subst IsInstalled (ap (λ (x : CoreCell). x.state) same) w.installed in
      let low = installed-drawn c.queue sound k found found.state e refl stood in
      absurd (omega arith))
      (λ (a : j ≢ k). record {
        cell = w.cell;
        there = sym (get-set_else c.queue.cells k j _ (λ q. a (sym q))) ∙ w.there;
        owner = w.owner;
        drawn = let d = w.drawn in omega arith;
        uncollected = w.uncollected;
        installed = w.installed;
      })

  pub reached-wait_back : (found : Option CoreCell) (n j : ℕ)
      → IsWaitOf (after_count to_resume c.queue p k found) n j → IsWaitOf c.queue n j
  reached-wait_back None n j w = ⊎_elim
      (λ (old : slice_get c.queue.cells j ≡ Some w.cell). record {
        cell = w.cell;
        there = old;
        owner = w.owner;
        drawn = w.drawn;
        uncollected = w.uncollected;
        installed = w.installed;
      })
      (λ (new : w.cell ≡ fresh_cell). absurd (subst IsInstalled (ap (λ (x : CoreCell). x.state) new) w.installed))
      (pushed-back c.queue.cells fresh_cell j w.cell w.there)
  reached-wait_back (Some found) n j w = record {
    cell = w.cell;
    there = w.there;
    owner = w.owner;
    drawn = w.drawn;
    uncollected = w.uncollected;
    installed = w.installed;
  }

-- the counter goes on
behind-more : (n : ℕ) (f : Facts) → IsBehind n f → IsBehind (n + 1) f
behind-more n f behind = record {
  reached = let b = behind.reached in omega arith;
  passed = λ k h. let b = behind.passed k h in omega arith;
}

module _ (gains : Gains) (c : Hidden) (p k : ℕ) (at : Stage) (cost : Cost) (found : Option CoreCell) (has : Has)
    (payload : ℕ) where
  -- a number is drawn to suspend at, and to resume at
  abbrev pub suspend_row : CounterRow
  suspend_row = record { works_at = at; counter = to_suspend; cost = cost }

  abbrev pub resume_row : CounterRow
  resume_row = record { works_at = at; counter = to_resume; cost = cost }

  abbrev pub drawn : Hidden
  drawn = happened_by gains c (at_counter suspend_row) p k found has payload

  abbrev pub reached : Hidden
  reached = happened_by gains c (at_counter resume_row) p k found has payload

  others-drawn : {sync : Bool} → slice_get c.queue.cells k ≡ found → k ≡ c.queue.suspends
      → IsSoundEither sync c.queue → OthersStay c drawn p
  others-drawn there next sound = record {
    doing = λ n apart. get-set_else c.queue.doing p n (doing.Drawn k) (λ e. apart (sym e));
    waits = λ n j apart w. drawn-wait_back c p k found n j there next sound w;
    stands = λ n facts apart is. record {
      doing = get-set_else c.queue.doing p n (doing.Drawn k) (λ e. apart (sym e)) ∙ is.doing;
      has = get-set_else c.has p n (has_paid cost payload has) (λ e. apart (sym e)) ∙ is.has;
      may_draw = get-set_else c.may_draw p n false (λ e. apart (sym e)) ∙ is.may_draw;
      waits = λ j h. drawn-wait c p k found n j there next (is.waits j h);
      all_waits = λ j w. is.all_waits j (drawn-wait_back c p k found n j there next sound w);
      once = is.once;
      last = since-on c drawn facts.last (λ j. inl (drawn-state c p k found j there, refl)) is.last;
      behind = is.behind;
    };
  }

  others-reached : OthersStay c reached p
  others-reached = record {
    doing = λ n apart. get-set_else c.queue.doing p n (doing.Ticket k) (λ e. apart (sym e));
    waits = λ n j apart w. reached-wait_back c p k found n j w;
    stands = λ n facts apart is. record {
      doing = get-set_else c.queue.doing p n (doing.Ticket k) (λ e. apart (sym e)) ∙ is.doing;
      has = get-set_else c.has p n (has_paid cost payload has) (λ e. apart (sym e)) ∙ is.has;
      may_draw = is.may_draw;
      waits = λ j h. reached-wait c p k found n j (is.waits j h);
      all_waits = λ j w. is.all_waits j (reached-wait_back c p k found n j w);
      once = is.once;
      last = since-on c reached facts.last (λ j. inl (reached-state c p k found j, refl)) is.last;
      behind = behind-more c.queue.resumes facts is.behind;
    };
  }

  drawn-self : {sync : Bool} (n : ℕ) (f : Facts) → f.has ≡ has → n ≡ k → slice_get c.queue.cells k ≡ found
      → k ≡ c.queue.suspends
      → IsSoundEither sync c.queue → Stands c p f → Stands drawn p (facts_counted_by suspend_row n payload f)
  drawn-self n f same here there next sound is = record {
    doing = get-set_here c.queue.doing p f.doing (doing.Drawn k) is.doing ∙ ap (λ z. Some (doing.Drawn z)) (sym here);
    has = get-set_here c.has p f.has (has_paid cost payload has) is.has
        ∙ ap (λ (z : Has). Some (has_paid cost payload z)) (sym same);
    may_draw = get-set_here c.may_draw p f.may_draw false is.may_draw;
    waits = λ j h. drawn-wait c p k found p j there next (is.waits j h);
    all_waits = λ j w. is.all_waits j (drawn-wait_back c p k found p j there next sound w);
    once = is.once;
    last = tt;
    behind = record { reached = is.behind.reached; passed = is.behind.passed };
  }

  reached-self : (n : ℕ) (f : Facts) → f.has ≡ has → n ≡ k → n ≡ c.queue.resumes → Stands c p f
      → Stands reached p (facts_counted_by resume_row n payload f)
  reached-self n f same here next is = record {
    doing = get-set_here c.queue.doing p f.doing (doing.Ticket k) is.doing ∙ ap (λ z. Some (doing.Ticket z)) (sym here);
    has = get-set_here c.has p f.has (has_paid cost payload has) is.has
        ∙ ap (λ (z : Has). Some (has_paid cost payload z)) (sym same);
    may_draw = is.may_draw;
    waits = λ j h. reached-wait c p k found p j (is.waits j h);
    all_waits = λ j w. is.all_waits j (reached-wait_back c p k found p j w);
    once = is.once;
    last = tt;
    behind = record { reached = omega arith; passed = (behind-more c.queue.resumes f is.behind).passed };
  }

-- THE STAGES AT WHICH A NUMBER IS DRAWN: the pass is at none, and watches none.

abbrev CountsAt : Stage → Type 0
CountsAt stage.idle = Unit {0}
CountsAt stage.door = Unit {0}
CountsAt stage.owes = Unit {0}
CountsAt stage.drawn = ⊥
CountsAt stage.ticket = ⊥
CountsAt stage.watching = ⊥
CountsAt stage.leaving = ⊥
CountsAt (stage.decided on) = ⊥

abbrev RowCountsAt : StepRow → Type 0
RowCountsAt (at_counter row) = CountsAt row.works_at
RowCountsAt (at_cell row) = Unit {0}

row-counts : (s : QueueStep) → RowCountsAt (row_of s)
row-counts s = by (row_of s) refl ((step-facts s).draw)
  where
    of : (t : QueueStep) → IsDraw t → RowCountsAt (row_of t)
    of t is_draws = tt
    of t is_enters = tt
    of t is_reaches = tt
    of t is_begins = tt
    of t is_puts = tt

    by : (row : StepRow) → row_of s ≡ row → DrawOf row s → RowCountsAt row
    by (at_counter row) is d = subst RowCountsAt is (of s d)
    by (at_cell row) is d = tt

counts-at : (s : QueueStep) {at : Stage} {counter : Counter} {cost : Cost}
    → row_of s ≡ at_counter (record { works_at = at; counter = counter; cost = cost }) → CountsAt at
counts-at s is = subst RowCountsAt is (row-counts s)

no-watch : (at : Stage) (i : ℕ) → CountsAt at → doing_at at 0 ≡ doing.Watching i → ⊥
no-watch stage.idle i c e = absurd (cc)
no-watch stage.door i c e = absurd (cc)
no-watch stage.owes i c e = absurd (cc)
no-watch stage.drawn i c e = c
no-watch stage.ticket i c e = c
no-watch stage.watching i c e = c
no-watch stage.leaving i c e = c
no-watch (stage.decided on) i c e = c

no-draw : (at : Stage) (i : ℕ) → CountsAt at → doing_at at 0 ≡ doing.Drawn i → ⊥
no-draw stage.idle i c e = absurd (cc)
no-draw stage.door i c e = absurd (cc)
no-draw stage.owes i c e = absurd (cc)
no-draw stage.drawn i c e = c
no-draw stage.ticket i c e = c
no-draw stage.watching i c e = c
no-draw stage.leaving i c e = c
no-draw (stage.decided on) i c e = c

not-counting : (d : Doing) (at : Stage) (e : Doing) → d ≡ doing_at at 0 → d ≡ e → (doing_at at 0 ≡ e → ⊥) → ⊥
not-counting d at e works is no_such = no_such (sym works ∙ is)

module _ {E S : Type 0} (object : Object E) (primitive : Primitive E S) (passes limit : ℕ)
    (client : IsClient object primitive) where
  -- A pass that pays so has laid nothing into the slot that it gives away, and has no such slot open. It gives those
  -- away into which values were handed ahead.
  pub record StaysWith (slots : ℕ) (ahead : ℕ → ℕ) (cost : Cost) (payload : ℕ) (v : View E S) : Type 0 where
    pub laid : (k : ℕ) (x : Option S) → laid_in v.laid k ≡ Some x → KeepsSlotAt cost payload k
    pub out : (k : ℕ) → v.facts.open_slot ≡ Some k → KeepsSlotAt cost payload k
    pub given : (k : ℕ) → k < slots → pays_away cost payload k ≡ ahead k
    pub mine : (k : ℕ) → 0 < ahead k → primitive.opens v.facts.has k

  -- a pass that pays with nothing
  stays-free : (slots payload : ℕ) (v : View E S) → StaysWith slots (λ k. 0) no_cost payload v
  stays-free slots payload v = record {
    laid = λ k x laid. tt;
    out = λ k out. tt;
    given = λ k low. refl;
    mine = λ k some. absurd (omega arith);
  }

  stays-owed : (slots payload : ℕ) (v : View E S) → StaysWith slots (λ k. 0) one_owed payload v
  stays-owed slots payload v = record {
    laid = λ k x laid. tt;
    out = λ k out. tt;
    given = λ k low. refl;
    mine = λ k some. absurd (omega arith);
  }

  -- how often the entries of a step that is paid so give a slot away
  gives-paid : (st : QueueStep) {at : Stage} {counter : Counter} (cost : Cost) (payload p n j : ℕ)
      → row_of st ≡ at_counter (record { works_at = at; counter = counter; cost = cost })
      → Suits primitive.manner st
      → times_given object.gives (object.entries st p n payload) j ≡ pays_away cost payload j
  gives-paid st cost payload p n j is suits = client.slots.gives st p n payload j suits
      ∙ ap (λ row. gives_away row payload j) is

  -- it keeps the slots that it has laid something into
  keeps-paid : {ahead : ℕ → ℕ} (slots : ℕ) (st : QueueStep) {at : Stage} {counter : Counter} (cost : Cost)
      (payload : ℕ) (v : View E S) (facts : Facts)
      → row_of st ≡ at_counter (record { works_at = at; counter = counter; cost = cost })
      → facts.has ≡ has_paid cost payload v.facts.has → facts.open_slot ≡ v.facts.open_slot
      → Suits primitive.manner st → StaysWith slots ahead cost payload v → Keeps primitive.opens v facts
  keeps-paid slots st {at} {counter} cost payload v facts is has same suits stays = record {
    open_slot = same;
    laid = λ k x laid o. kept k (stays.laid k x laid) o;
    out = λ k out o. kept k (stays.out k out) o;
  }
    where
      kept : (k : ℕ) → KeepsSlotAt cost payload k → primitive.opens v.facts.has k → primitive.opens facts.has k
      kept k stays-at o = subst (λ h. primitive.opens h k) (sym has)
          (subst (λ z. primitive.opens (has_after object.gains z payload v.facts.has) k) is
          (client.slots.steps st v.facts.has payload k suits (subst (λ z. KeepsSlot z payload k) (sym is) stays-at) o))

  -- a number is drawn to suspend at
  draw : (slots id : ℕ) (me : Me (Option S) (View E S)) (st : QueueStep) (at : Stage) (cost : Cost) (payload : ℕ)
      → row_of st ≡ at_counter (record { works_at = at; counter = to_suspend; cost = cost }) → me.0.weight ≡ 1
      → Suits primitive.manner st → me.0.facts.doing ≡ doing_at at 0 → ((k : ℕ) → doing_at at 0 ≡ doing_at at k)
      → (me.0.facts.doing ≡ doing.Door ⊎ me.0.facts.may_draw ≡ true) → IsPaid cost me.0.facts.has payload
      → payload < 2 ^ 20 → StaysWith slots (λ k. 0) cost payload me.0
      → Allows (Ruled object primitive passes limit) slots id me 16 (λ n. (n + 1) % 2 ^ 64)
      (λ n me'. DrewBy object st (at_counter (record { works_at = at; counter = to_suspend; cost = cost })) payload me.0
      n me'.0
      × (me'.1 ≡ me.1) × IsLive object me'.0
      × Carries object.gains.held (at_counter (record { works_at = at; counter = to_suspend; cost = cost })) me.0.facts
      me'.0.facts
      × IsDrawnBy (at_counter (record { works_at = at; counter = to_suspend; cost = cost })) me.0.facts n)
  draw slots id me st at cost payload is one suits works steady may paid fits stays s r homes here small =
      let v = me.0 in let p = v.number in let f = v.facts in let c = r.hidden in
      let known = r.each_view id v here (omega arith) in
      let stands = known.stands in
      let n = slice_index s.words 16 in
      let k = c.queue.suspends in
      let next : n ≡ k = r.counters.suspends in
      let x = (n + 1) % 2 ^ 64 in
      let found = slice_get c.queue.cells n in
      let does : slice_get c.queue.doing p ≡ Some (doing_at at n) = stands.doing ∙ ap Some (works ∙ steady n) in
      let open_room : slice_get c.may_draw p ≡ Some true = ⊎_elim
      (λ (d : f.doing ≡ doing.Door). r.door p (stands.doing ∙ ap Some d))
      (λ (m : f.may_draw ≡ true). stands.may_draw ∙ ap Some m) may in
      let low = suspends-low passes limit primitive.values c r.room in
      let sound : IsSoundEither primitive.manner.watches c.queue =
      client.sound c (client_words s.words) r.log r.handed r.shown in
      let after : x ≡ k + 1 = omega arith in
      let inside = suspends-inside r.slots in
      let wide = r.cells.shows.wide in
      let d = drawn object.gains c p n at cost found f.has payload in
      let row = suspend_row object.gains c p n at cost found f.has payload in
      let es = object.entries st p n payload in
      let facts = facts_counted_by row n payload f in
      let by : primitive.shows (happened_by object.gains c (row_of st) p n found f.has payload) (client_words s.words)
      (r.log ++ es) r.handed =
      client.steps c st p n found f.has payload (client_words s.words) r.log r.handed r.shown
      (subst (λ z. IsOpenRow c.queue z p n found) (sym is) (does, next, refl)) stands.has
      (subst (λ z. IsPayload z f.has (c.payloads n) payload) (sym is) paid) suits (omega arith)
      (let m = resumes-low passes limit primitive.values c r.room in omega arith) in
      let now : primitive.shows d (client_words s.words) (r.log ++ es) r.handed =
      subst (λ z. primitive.shows (happened_by object.gains c z p n found f.has payload) (client_words s.words)
      (r.log ++ es) r.handed) is by in
      let drawn-now : (i : ℕ) → i < d.queue.suspends → (i < k) ⊎ (facts.doing ≡ doing.Drawn i) = λ i low.
      ⊎_elim (λ (old : i < k). inl old) (λ (new : k ≤ i). inr (ap doing.Drawn (let same : n ≡ i = omega arith in same)))
      (cases_lt i k) in
      let t : Turned object primitive passes limit s r v 16 x d es facts = record {
        crew = crew-else s.words 16 x (omega arith);
        counters = record {
          suspends = this-word s.words 16 x (omega arith) ∙ after;
          resumes = other-word s.words 16 32 x (λ e. omega arith) ∙ r.counters.resumes;
        };
        cells = cells-else r.segments c d r.slots s.words 16 x behind-suspends
            (λ j. drawn-state c p n found j refl) (λ j. refl) r.cells;
        idle_words = idle-else s.words 16 x (λ j is. is.suspends) r.idle_words;
        room = record {
          few_passes = r.room.few_passes;
          low_limit = r.room.low_limit;
          few_values = r.room.few_values;
          doing = length-set c.queue.doing p (doing.Drawn n) ∙ r.room.doing;
          has = length-set c.has p _ ∙ r.room.has;
          may_draw = length-set c.may_draw p false ∙ r.room.may_draw;
          ground = let fewer = fewer_draw c.may_draw p open_room in let g = r.room.ground in omega arith;
          resumes = r.room.resumes;
        };
        door = door-keeps c d p r.door (λ m a. get-set_else c.queue.doing p m (doing.Drawn n) (λ e. a (sym e)))
            (λ m a. get-set_else c.may_draw p m false (λ e. a (sym e)))
            (λ e. let mine = get-set_here c.queue.doing p f.doing (doing.Drawn n) stands.doing in absurd (cc));
        shown = subst (λ (ws : List ℕ). primitive.shows d ws (r.log ++ es) r.handed)
            (sym (client-below s.words 16 x (omega arith))) now;
        others = others-drawn object.gains c p n at cost found f.has payload refl next sound;
        self = drawn-self object.gains c p n at cost found f.has payload n f refl refl refl next sound stands;
        silent = client.silent st p n payload;
        payload_fits = paid-fits cost payload f.has fits known.payload_fits;
        slots = keeps-paid slots st cost payload v facts is refl refl suits stays;
        draws = ap (λ k. c.queue.resumes + k) (sym (draws-word f.found 16 n (λ e. omega arith)));
        given = λ j low. gives-paid st cost payload p n j is suits ∙ stays.given j (omega arith);
        aware = aware-beside object primitive passes limit client s r id v es here (omega arith)
            (λ j low. gives-paid st cost payload p n j is suits ∙ stays.given j (omega arith)) stays.mine;
        now = r.segments;
        later = later-same r.segments;
        settles = r.settled;
        counts = λ q. refl;
        finals = finals-on (IsSmart primitive.manner.leaving) c d p r.settled f facts
            (others-drawn object.gains c p n at cost found f.has payload refl next sound) stands
            (drawn-self object.gains c p n at cost found f.has payload n f refl refl refl next sound stands)
            (λ j high. drawn-state c p n found j refl) (λ j high h. h) (λ j e. absurd (cc))
            (λ j e. inr (let q : n ≡ j = ap number_at e in omega arith)) (λ j e. absurd (cc)) (omega arith)
            (omega arith) r.finals;
        over = λ j o. r.all_settled j (over-same (IsSmart primitive.manner.leaving) c.queue d.queue j
            (drawn-state c p n found j refl) (λ m w. drawn-wait c p n found m j refl next w)
            (unwatched-same c d p f facts (others-drawn object.gains c p n at cost found f.has payload refl next sound)
            stands (drawn-self object.gains c p n at cost found f.has payload n f refl refl refl next sound stands)
            (λ i e. absurd (not-counting f.doing at (doing.Watching i) works e (no-watch at i (counts-at st is)))) j)
            (suspended-same c d p f facts (others-drawn object.gains c p n at cost found f.has payload refl next sound)
            stands (drawn-self object.gains c p n at cost found f.has payload n f refl refl refl next sound stands)
            (λ i e. absurd (not-counting f.doing at (doing.Drawn i) works e (no-draw at i (counts-at st is))))
            (λ i low. drawn-now i low) j) o);
        same_slots = λ y. refl;
        same_spares = refl;
        leaves = leaves-same r.segments _;
      } in
      let done = steps object primitive passes limit client s r id me 16 x d es facts here one t in (
        grown v facts (r.log ++ es) r.handed,
        keeps,
        tt,
        done.0,
        (
          done.1,
          refl,
          done.2,
          record {
            held = paid-held cost payload f.has;
            owes = refl;
            waits = refl;
            further = paid-further cost payload f.has;
            spares = refl;
            open_slot = refl;
          },
          tt,
        ),
      )

  -- what it tells that a number was drawn to resume at
  abbrev pub Reaches : QueueStep → Stage → Cost → ℕ → Me (Option S) (View E S) → ℕ → Me (Option S) (View E S) → Type 0
  Reaches st at cost payload me n me' =
      DrewBy object st (at_counter (record { works_at = at; counter = to_resume; cost = cost })) payload me.0 n me'.0
      × (me'.1 ≡ me.1) × IsLive object me'.0
      × Carries object.gains.held (at_counter (record { works_at = at; counter = to_resume; cost = cost })) me.0.facts
      me'.0.facts
      × IsDrawnBy (at_counter (record { works_at = at; counter = to_resume; cost = cost })) me.0.facts n

  -- few were drawn to resume at, wherever the pass is at these facts
  abbrev pub ReachesFew : View E S → Type 0
  ReachesFew v = (c : Hidden) (words : List ℕ) (log : List E) (handed : List (ℕ × S))
      → primitive.shows c words log handed
      → slice_get c.queue.doing v.number ≡ Some v.facts.doing → slice_get c.has v.number ≡ Some v.facts.has
      → c.queue.resumes < c.queue.suspends + length (queue.door c.queue) + primitive.values

  -- a number is drawn to resume at: the rule after it, and what it tells
  pub reached-so : {ahead : ℕ → ℕ} (slots id : ℕ) (me : Me (Option S) (View E S)) (st : QueueStep) (at : Stage)
      (cost : Cost) (payload : ℕ)
      → row_of st ≡ at_counter (record { works_at = at; counter = to_resume; cost = cost }) → me.0.weight ≡ 1
      → Suits primitive.manner st → me.0.facts.doing ≡ doing_at at 0 → ((k : ℕ) → doing_at at 0 ≡ doing_at at k)
      → IsPaid cost me.0.facts.has payload → payload < 2 ^ 20 → StaysWith slots ahead cost payload me.0
      → ReachesFew me.0
      → (s : State (Option S) (View E S)) (r : RuledAhead object primitive passes limit ahead s)
      → length s.homes ≡ slots
      → get_elem? s.views id ≡ some me.0 → slice_index s.words 32 < 18446744073709551616
      → (w : View E S)
      × Ruled object primitive passes limit
      (stepped s 32 ((slice_index s.words 32 + 1) % 2 ^ 64) id me.1 w keeps)
      × Reaches st at cost payload me (slice_index s.words 32) (w, me.1) × (w.handed ≡ r.handed) × (w.laid ≡ me.0.laid)
      × IsTiedAt object.gives slots w
  reached-so {ahead} slots id me st at cost payload is one suits works steady paid fits stays few_left s r homes here
      small =
      let v = me.0 in let p = v.number in let f = v.facts in let c = r.hidden in
      let known = r.each_view id v here (omega arith) in
      let stands = known.stands in
      let n = slice_index s.words 32 in
      let k = c.queue.resumes in
      let next : n ≡ k = r.counters.resumes in
      let x = (n + 1) % 2 ^ 64 in
      let found = slice_get c.queue.cells n in
      let does : slice_get c.queue.doing p ≡ Some (doing_at at n) = stands.doing ∙ ap Some (works ∙ steady n) in
      let few : k < c.queue.suspends + length (queue.door c.queue) + primitive.values =
      few_left c (client_words s.words) r.log r.handed r.shown stands.doing stands.has in
      let doors : length (queue.door c.queue) ≤ count_by (λ b. b) c.may_draw =
      doors-draw c.queue.doing c.may_draw 0 r.door in
      let ground = r.room.ground in
      let low = resumes-low passes limit primitive.values c r.room in
      let after : x ≡ k + 1 = omega arith in
      let inside = resumes-inside r.slots in
      let wide = r.cells.shows.wide in
      let d = reached object.gains c p n at cost found f.has payload in
      let row = resume_row object.gains c p n at cost found f.has payload in
      let es = object.entries st p n payload in
      let facts = facts_counted_by row n payload f in
      let by : primitive.shows (happened_by object.gains c (row_of st) p n found f.has payload) (client_words s.words)
      (r.log ++ es) r.handed =
      client.steps c st p n found f.has payload (client_words s.words) r.log r.handed r.shown
      (subst (λ z. IsOpenRow c.queue z p n found) (sym is) (does, next, refl)) stands.has
      (subst (λ z. IsPayload z f.has (c.payloads n) payload) (sym is) paid) suits
      (let l = suspends-low passes limit primitive.values c r.room in omega arith) (omega arith) in
      let now : primitive.shows d (client_words s.words) (r.log ++ es) r.handed =
      subst (λ z. primitive.shows (happened_by object.gains c z p n found f.has payload) (client_words s.words)
      (r.log ++ es) r.handed) is by in
      let t : Turned object primitive passes limit s r v 32 x d es facts = record {
        crew = crew-else s.words 32 x (omega arith);
        counters = record {
          suspends = other-word s.words 32 16 x (λ e. omega arith) ∙ r.counters.suspends;
          resumes = this-word s.words 32 x (omega arith) ∙ after;
        };
        cells = cells-else r.segments c d r.slots s.words 32 x behind-resumes
            (λ j. reached-state c p n found j) (λ j. refl) r.cells;
        idle_words = idle-else s.words 32 x (λ j is. is.resumes) r.idle_words;
        room = record {
          few_passes = r.room.few_passes;
          low_limit = r.room.low_limit;
          few_values = r.room.few_values;
          doing = length-set c.queue.doing p (doing.Ticket n) ∙ r.room.doing;
          has = length-set c.has p _ ∙ r.room.has;
          may_draw = r.room.may_draw;
          ground = r.room.ground;
          resumes = omega arith;
        };
        door = door-keeps c d p r.door (λ m a. get-set_else c.queue.doing p m (doing.Ticket n) (λ e. a (sym e)))
            (λ m a. refl)
            (λ e. let mine = get-set_here c.queue.doing p f.doing (doing.Ticket n) stands.doing in absurd (cc));
        shown = subst (λ (ws : List ℕ). primitive.shows d ws (r.log ++ es) r.handed)
            (sym (client-below s.words 32 x (omega arith))) now;
        others = others-reached object.gains c p n at cost found f.has payload;
        self = reached-self object.gains c p n at cost found f.has payload n f refl refl next stands;
        silent = client.silent st p n payload;
        payload_fits = paid-fits cost payload f.has fits known.payload_fits;
        slots = keeps-paid slots st cost payload v facts is refl refl suits stays;
        draws = let more = draws-one f.found n in omega arith;
        given = λ j low. gives-paid st cost payload p n j is suits ∙ stays.given j (omega arith);
        aware = aware-beside object primitive passes limit client s r id v es here (omega arith)
            (λ j low. gives-paid st cost payload p n j is suits ∙ stays.given j (omega arith)) stays.mine;
        now = r.segments;
        later = later-same r.segments;
        settles = r.settled;
        counts = λ q. refl;
        finals = finals-on (IsSmart primitive.manner.leaving) c d p r.settled f facts
            (others-reached object.gains c p n at cost found f.has payload) stands
            (reached-self object.gains c p n at cost found f.has payload n f refl refl next stands)
            (λ j high. reached-state c p n found j) (λ j high h. h)
            (λ j e. inr (let q : n ≡ j = ap number_at e in omega arith)) (λ j e. absurd (cc)) (λ j e. absurd (cc))
            (omega arith) (omega arith) r.finals;
        over = λ j o. r.all_settled j (over-same (IsSmart primitive.manner.leaving) c.queue d.queue j
            (reached-state c p n found j) (λ m w. reached-wait c p n found m j w)
            (unwatched-same c d p f facts (others-reached object.gains c p n at cost found f.has payload) stands
            (reached-self object.gains c p n at cost found f.has payload n f refl refl next stands)
            (λ i e. absurd (not-counting f.doing at (doing.Watching i) works e (no-watch at i (counts-at st is)))) j)
            (suspended-same c d p f facts (others-reached object.gains c p n at cost found f.has payload) stands
            (reached-self object.gains c p n at cost found f.has payload n f refl refl next stands)
            (λ i e. absurd (not-counting f.doing at (doing.Drawn i) works e (no-draw at i (counts-at st is))))
            (λ i low. inl low) j) o);
        same_slots = λ y. refl;
        same_spares = refl;
        leaves = leaves-same r.segments _;
      } in
      let done = steps object primitive passes limit client s r id me 32 x d es facts here one t in (
        grown v facts (r.log ++ es) r.handed,
        done.0,
        (
          done.1,
          refl,
          done.2,
          record {
            held = paid-held cost payload f.has;
            owes = refl;
            waits = refl;
            further = paid-further cost payload f.has;
            spares = refl;
            open_slot = refl;
          },
          subst (λ z. IsBehind z f) (sym next) stands.behind,
        ),
        refl,
        refl,
        λ k low. tied-on object.gives (length s.homes) ahead r.log es r.handed t.given r.tied k (omega arith),
      )

  reach : (slots id : ℕ) (me : Me (Option S) (View E S)) (st : QueueStep) (at : Stage) (cost : Cost) (payload : ℕ)
      → row_of st ≡ at_counter (record { works_at = at; counter = to_resume; cost = cost }) → me.0.weight ≡ 1
      → Suits primitive.manner st → me.0.facts.doing ≡ doing_at at 0 → ((k : ℕ) → doing_at at 0 ≡ doing_at at k)
      → IsPaid cost me.0.facts.has payload → payload < 2 ^ 20 → StaysWith slots (λ k. 0) cost payload me.0
      → ReachesFew me.0
      → Allows (Ruled object primitive passes limit) slots id me 32 (λ n. (n + 1) % 2 ^ 64)
      (Reaches st at cost payload me)
  reach slots id me st at cost payload is one suits works steady paid fits stays few_left s r homes here small =
      let t = reached-so slots id me st at cost payload is one suits works steady paid fits stays few_left s r homes
      here small in
      (t.0, keeps, tt, t.1, t.2)

  -- a number is drawn by one of the steps that draw
  count-draw : (slots id : ℕ) (me : Me (Option S) (View E S)) (t : QueueStep) (word amount : ℕ) (by : ℤ)
      → IsDraw t → me.0.weight ≡ 1
      → amount ≡ unsigned_abs by → Suits primitive.manner t → IsCount t me.0.facts word by → PaysNoElement (row_of t)
      → Allows (Ruled object primitive passes limit) slots id me word (λ n. (n + amount) % 2 ^ 64)
      (drew object t (step slots word amount 0 none) me)
  count-draw slots id me t word amount by is_draws one is suits c free =
      subst (λ (z : ℕ × ℕ). Allows (Ruled object primitive passes limit) slots id me z.0 (λ n. (n + z.1) % 2 ^ 64)
      (drew object draws (step slots z.0 z.1 0 none) me))
      (λ i. (sym c.word_is i, sym (one-more amount by is c.one) i))
      (draw slots id me draws stage.door no_cost me.0.facts.has.payload refl one suits c.works (λ k. refl)
      (inl c.works) c.paid c.fits (stays-free slots me.0.facts.has.payload me.0))
  count-draw slots id me t word amount by is_enters one is suits c free =
      subst (λ (z : ℕ × ℕ). Allows (Ruled object primitive passes limit) slots id me z.0 (λ n. (n + z.1) % 2 ^ 64)
      (drew object enters (step slots z.0 z.1 0 none) me))
      (λ i. (sym c.word_is i, sym (one-more amount by is c.one) i))
      (draw slots id me enters stage.idle no_cost me.0.facts.has.payload refl one suits c.works (λ k. refl)
      (inr c.may) c.paid c.fits (stays-free slots me.0.facts.has.payload me.0))
  count-draw slots id me t word amount by is_reaches one is suits c free =
      subst (λ (z : ℕ × ℕ). Allows (Ruled object primitive passes limit) slots id me z.0 (λ n. (n + z.1) % 2 ^ 64)
      (drew object reaches (step slots z.0 z.1 0 none) me))
      (λ i. (sym c.word_is i, sym (one-more amount by is c.one) i))
      (reach slots id me reaches stage.owes no_cost me.0.facts.has.payload refl one suits c.works
      (λ k. refl) c.paid c.fits (stays-free slots me.0.facts.has.payload me.0)
      (λ h words log handed shown does has. client.reaches_few h words log handed me.0.number shown (does
      ∙ ap Some c.works)))
  count-draw slots id me t word amount by is_begins one is suits c free =
      subst (λ (z : ℕ × ℕ). Allows (Ruled object primitive passes limit) slots id me z.0 (λ n. (n + z.1) % 2 ^ 64)
      (drew object begins (step slots z.0 z.1 0 none) me))
      (λ i. (sym c.word_is i, sym (one-more amount by is c.one) i))
      (reach slots id me begins stage.idle one_owed me.0.facts.has.payload refl one suits c.works
      (λ k. refl) c.paid c.fits (stays-owed slots me.0.facts.has.payload me.0)
      (λ h words log handed shown does has. client.begins_few h words log handed me.0.number me.0.facts.has one_owed
      me.0.facts.has.payload shown (does ∙ ap Some c.works) has c.paid tt suits))
  count-draw slots id me t word amount by is_puts one is suits c free = absurd free

  -- a number is drawn from the counter that the step names
  pub count : (slots id : ℕ) (me : Me (Option S) (View E S)) (t : QueueStep) (word amount : ℕ) (by : ℤ)
      → me.0.weight ≡ 1
      → amount ≡ unsigned_abs by → Suits primitive.manner t → IsCount t me.0.facts word by → PaysNoElement (row_of t)
      → Allows (Ruled object primitive passes limit) slots id me word (λ n. (n + amount) % 2 ^ 64)
      (drew object t (step slots word amount 0 none) me)
  count slots id me t word amount by one is suits c free = of (row_of t) (step-facts t).draw c
    where
      of : (row : StepRow) → DrawOf row t → IsCountBy row me.0.facts word by
          → Allows (Ruled object primitive passes limit) slots id me word (λ n. (n + amount) % 2 ^ 64)
          (drew object t (step slots word amount 0 none) me)
      of (at_counter row) d counts = count-draw slots id me t word amount by d one is suits c free
      of (at_cell row) d counts = absurd counts

place-inside : (c : Counter) (cells : ℕ) → counter_place c < words_for cells
place-inside to_suspend cells = suspends-inside cells
place-inside to_resume cells = resumes-inside cells

-- the word of a counter is one of the table's
pub counter-low : (t : QueueStep) (facts : Facts) (word : ℕ) (by : ℤ) → IsCount t facts word by
    → (cells : ℕ) → word < words_for cells
counter-low t facts word by c cells = of (row_of t) c
  where
    of : (row : StepRow) → IsCountBy row facts word by → word < words_for cells
    of (at_counter row) counts = subst (λ z. z < words_for cells) (sym counts.word_is) (place-inside row.counter cells)
    of (at_cell row) counts = absurd counts
