-- A jump of the resume counter keeps the rule: it is as if each number were drawn, and its cell met.
use Rattle.std.proofs.Common.{◌≡◌, ℕ, suc, zero, ◌+◌, ◌-◌, ◌/◌, ◌<◌, ◌≤◌, ◌==◌, Bool, List, [], ◌++◌, set, inl, ⊎_elim, sym, refl, ap, ◌∙◌, subst, eq-eqb, ne_eqb, arith, Option, Some, None, slice_get}
use Rattle.std.specs.Prelude.{slice_index}
use Rattle.std.proofs.lemmas.Bool.{cases_lt}
use Rattle.std.proofs.lemmas.List.{append-nil, set-set}
use mathlib.Core.Logic.{dite}
use mathlib.Core.Option.{none}
use native.Mathlib.Decide.{ℕ_discrete}
use prog.Atomic.{either}
use Rattle.atomic_table.specs.Table.{State, Me, keeps, step, Allows}
use Rattle.cqs_core.specs.declared.cells.CoreCell.{CoreCell}
use Rattle.cqs_core.specs.declared.cells.CoreState.TheVariants as state
use Rattle.cqs_core.specs.declared.doings.Doing.TheVariants as doing
use Rattle.cqs_core.specs.QueueEither.{IsSoundEither}
use Rattle.cqs_core.proofs.EitherCells.{intact-sound}
use Rattle.cqs_core.specs.QueueSteps.{reaches, passes_over}
use Rattle.cqs_core.proofs.Places.{get-set_here, set-same}
use Rattle.cqs_rule_laws.specs.declared.view.Facts.{Facts}
use Rattle.cqs_rule_laws.specs.declared.view.Has.{Has}
use Rattle.cqs_rule_laws.specs.declared.view.View.{View}
use Rattle.cqs_rule_laws.specs.Causes.{cell_of}
use Rattle.cqs_rule_laws.specs.Client.{IsClient, no_number}
use Rattle.cqs_rule_laws.specs.Exchanges.{HasCell}
use Rattle.cqs_rule_laws.specs.Facts.{IsBehind}
use Rattle.cqs_rule_laws.specs.Hidden.{Hidden, hidden_after, state_in, state_at}
use Rattle.cqs_rule_laws.specs.Jumped.{facts_jumped, jumped, MayJump, WasCancelled}
use Rattle.cqs_rule_laws.specs.Layout.{client_words}
use Rattle.cqs_rule_laws.specs.Manner.{IsSmart}
use Rattle.cqs_rule_laws.specs.Object.{Object, Primitive}
use Rattle.cqs_rule_laws.specs.Ruled.{Ruled, IsFinal, IsWaitOf, Knows, Stands, cell_count}
use Rattle.cqs_rule_laws.specs.Views.{grown}
use Rattle.cqs_rule_laws.proofs.Advance.{Turned}
use Rattle.cqs_rule_laws.proofs.CellPlaces.{behind-resumes}
use Rattle.cqs_rule_laws.proofs.Cells.{since-on}
use Rattle.cqs_rule_laws.proofs.Drawing.{draws-jump}
use Rattle.cqs_rule_laws.proofs.Outs.{out-final}
use Rattle.cqs_rule_laws.proofs.Over.{over-same}
use Rattle.cqs_rule_laws.proofs.Settled.{finals-on}
use Rattle.cqs_rule_laws.proofs.Staying.{OthersStay}
use Rattle.cqs_rule_laws.proofs.Tells.{Steps, steps}
use Rattle.cqs_rule_laws.proofs.ToRetire.{leaves-same}
use Rattle.cqs_rule_laws.proofs.Words.{this-word, crew-else, cells-else, client-below, idle-else, other-word}
use Rattle.cqs_rule_laws.proofs.GivenBeside.{aware-none}
use Rattle.cqs_rule_laws.proofs.WordStays.{found-so}
use Rattle.cqs_slots.proofs.Lists.{has_prefix}
use Rattle.cqs_slots.proofs.Loads.{later-same}

-- where a jump leaves the counter that was found at n: never before, and past nothing but the numbers of the jump
jump-high : (n from to : ℕ) → from < to → n ≤ either (n == from) to n
jump-high n from to order = dite (ℕ_discrete n from)
    (λ (e : n ≡ from). let came : either (n == from) to n ≡ to = ap (λ b. either b to n) (eq-eqb n from e) in
    omega arith)
    (λ a. let stays : either (n == from) to n ≡ n = ap (λ b. either b to n) (ne_eqb n from a) in omega arith)

record IsBetween (from to k : ℕ) : Type 0 where
  low : from ≤ k
  below : k < to

jump-between : (n from to k : ℕ) → n ≤ k → k < either (n == from) to n → IsBetween from to k
jump-between n from to k low below = dite (ℕ_discrete n from)
    (λ (e : n ≡ from). let came : either (n == from) to n ≡ to = ap (λ b. either b to n) (eq-eqb n from e) in
    record { low = omega arith; below = omega arith })
    (λ a. let stays : either (n == from) to n ≡ n = ap (λ b. either b to n) (ne_eqb n from a) in absurd (omega arith))

-- the queue with its resume counter at m
abbrev pub resumed_to : Hidden → ℕ → Hidden
resumed_to c m = record {
  queue = record {
    suspends = c.queue.suspends;
    resumes = m;
    cells = c.queue.cells;
    doing = c.queue.doing;
  };
  has = c.has;
  may_draw = c.may_draw;
  payloads = c.payloads;
}

-- a cancelled cell is there
record Stood (o : Option CoreCell) : Type 0 where
  cell : CoreCell
  there : o ≡ Some cell
  cancelled : cell.state ≡ state.Cancelled

stood : (o : Option CoreCell) → state_in o ≡ state.Cancelled → Stood o
stood None e = absurd (cc)
stood (Some x) e = record { cell = x; there = refl; cancelled = e }

module _ {E S : Type 0} (object : Object E) (primitive : Primitive E S) (client : IsClient object primitive)
    (smart : IsSmart primitive.manner.leaving) where
  -- one number is passed over: the pass drew it, and met its cell
  one-over : (c : Hidden) (p : ℕ) (has : Has) (words : List ℕ) (log : List E) (handed : List (ℕ × S))
      → primitive.shows c words log handed → slice_get c.queue.doing p ≡ Some doing.Owes
      → slice_get c.has p ≡ Some has → state_at c.queue c.queue.resumes ≡ state.Cancelled
      → c.queue.suspends < no_number → c.queue.resumes + 1 < no_number
      → primitive.shows (resumed_to c (c.queue.resumes + 1)) words log handed
  one-over c p has words log handed shown owes there is low few =
      subst (λ (d : Hidden). primitive.shows d words log handed) same
      (subst (λ (l : List E). primitive.shows c2 words l handed) (λ i. quiet-log i) met)
    where
      k : ℕ
      k = c.queue.resumes

      at : Stood (slice_get c.queue.cells c.queue.resumes)
      at = stood (slice_get c.queue.cells c.queue.resumes) is

      c1 : Hidden
      c1 = hidden_after object.gains c reaches p c.queue.resumes (Some at.cell) has has.payload

      e1 : List E
      e1 = object.entries reaches p c.queue.resumes has.payload

      e2 : List E
      e2 = object.entries passes_over p c.queue.resumes has.payload

      drew : primitive.shows (hidden_after object.gains c reaches p c.queue.resumes (Some at.cell) has has.payload)
          words (log ++ object.entries reaches p c.queue.resumes has.payload) handed
      drew = client.steps c reaches p c.queue.resumes (Some at.cell) has has.payload words log handed shown
          (owes, refl, at.there) there refl tt low (omega arith)

      c2 : Hidden
      c2 = hidden_after object.gains
          (hidden_after object.gains c reaches p c.queue.resumes (Some at.cell) has has.payload) passes_over p
          c.queue.resumes (Some at.cell) has has.payload

      met : primitive.shows c2 words
          ((log ++ object.entries reaches p c.queue.resumes has.payload)
          ++ object.entries passes_over p c.queue.resumes has.payload) handed
      met = client.steps (hidden_after object.gains c reaches p c.queue.resumes (Some at.cell) has has.payload)
          passes_over p c.queue.resumes (Some at.cell) has has.payload words
          (log ++ object.entries reaches p c.queue.resumes has.payload) handed drew (
            record {
              does = get-set_here c.queue.doing p doing.Owes (doing.Ticket c.queue.resumes) owes;
              finds = at.there;
              at = at.cancelled;
            },
            tt,
          )
          (get-set_here c.has p has has there) refl smart low few

      quiet-log : (log ++ object.entries reaches p c.queue.resumes has.payload)
          ++ object.entries passes_over p c.queue.resumes has.payload ≡ log
      quiet-log = (λ i. (log ++ client.quiet.drawing p c.queue.resumes has.payload i)
          ++ client.quiet.passing p c.queue.resumes has.payload i) ∙ (append-nil (log ++ []) ∙ append-nil log)

      doings : set (set c.queue.doing p (doing.Ticket c.queue.resumes)) p doing.Owes ≡ c.queue.doing
      doings = set-set c.queue.doing p (doing.Ticket c.queue.resumes) doing.Owes
          ∙ set-same c.queue.doing p doing.Owes owes

      hass : set (set c.has p has) p has ≡ c.has
      hass = set-set c.has p has has ∙ set-same c.has p has there

      cells : set c.queue.cells c.queue.resumes at.cell ≡ c.queue.cells
      cells = set-same c.queue.cells c.queue.resumes at.cell at.there

      same : c2 ≡ resumed_to c (c.queue.resumes + 1)
      same = λ i. record {
        queue = record {
          suspends = c.queue.suspends;
          resumes = c.queue.resumes + 1;
          cells = cells i;
          doing = doings i;
        };
        has = hass i;
        may_draw = c.may_draw;
        payloads = c.payloads;
      }

  -- and so are all that follow, as far as their cells are cancelled
  all-over : (j : ℕ) (c : Hidden) (p : ℕ) (has : Has) (words : List ℕ) (log : List E) (handed : List (ℕ × S))
      → primitive.shows c words log handed → slice_get c.queue.doing p ≡ Some doing.Owes
      → slice_get c.has p ≡ Some has
      → ((k : ℕ) → c.queue.resumes ≤ k → k < c.queue.resumes + j → state_at c.queue k ≡ state.Cancelled)
      → c.queue.suspends < no_number → c.queue.resumes + j < no_number
      → primitive.shows (resumed_to c (c.queue.resumes + j)) words log handed
  all-over zero c p has words log handed shown owes there over low few =
      let same : c.queue.resumes ≡ c.queue.resumes + 0 = omega arith in
      subst (λ z. primitive.shows (resumed_to c z) words log handed) same shown
  all-over (suc j) c p has words log handed shown owes there over low few =
      let one = one-over c p has words log handed shown owes there (over c.queue.resumes (omega arith) (omega arith))
      low (omega arith) in
      let rest = all-over j (resumed_to c (c.queue.resumes + 1)) p has words log handed one owes there
      (λ k high below. over k (omega arith) (omega arith)) low (omega arith) in
      let same : c.queue.resumes + 1 + j ≡ c.queue.resumes + suc j = omega arith in
      subst (λ z. primitive.shows (resumed_to c z) words log handed) same rest

-- the counter goes on to m
behind-later : (n m : ℕ) (f : Facts) → n ≤ m → IsBehind n f → IsBehind m f
behind-later n m f more behind = record {
  reached = let b = behind.reached in omega arith;
  passed = λ k h. let b = behind.passed k h in omega arith;
}

module _ (c : Hidden) (m : ℕ) where
  wait-on : (p k : ℕ) → IsWaitOf c.queue p k → IsWaitOf (resumed_to c m).queue p k
  wait-on p k w = record {
    cell = w.cell;
    there = w.there;
    owner = w.owner;
    drawn = w.drawn;
    uncollected = w.uncollected;
    installed = w.installed;
  }

  wait-back : (p k : ℕ) → IsWaitOf (resumed_to c m).queue p k → IsWaitOf c.queue p k
  wait-back p k w = record {
    cell = w.cell;
    there = w.there;
    owner = w.owner;
    drawn = w.drawn;
    uncollected = w.uncollected;
    installed = w.installed;
  }

  stands-on : (p : ℕ) (facts : Facts) → c.queue.resumes ≤ m → Stands c p facts → Stands (resumed_to c m) p facts
  stands-on p facts more is = record {
    doing = is.doing;
    has = is.has;
    may_draw = is.may_draw;
    waits = λ j h. wait-on p j (is.waits j h);
    all_waits = λ j w. is.all_waits j (wait-back p j w);
    once = is.once;
    last = since-on c (resumed_to c m) facts.last (λ j. inl (refl, refl)) is.last;
    behind = behind-later c.queue.resumes m facts more is.behind;
  }

  others-on : (p : ℕ) → c.queue.resumes ≤ m → OthersStay c (resumed_to c m) p
  others-on p more = record {
    doing = λ n apart. refl;
    waits = λ n j apart w. wait-back n j w;
    stands = λ n facts apart is. stands-on n facts more is;
  }

-- a cancelled cell is one of a number that was drawn
cancelled-drawn : {sync : Bool} (c : Hidden) (k : ℕ) → IsSoundEither sync c.queue
    → state_at c.queue k ≡ state.Cancelled → k < c.queue.suspends
cancelled-drawn {sync} c k sound is =
    let at = stood (slice_get c.queue.cells k) is in
    (intact-sound sync c.queue sound k at.cell state.Cancelled at.there at.cancelled tt).0.drawn

module _ {E S : Type 0} (object : Object E) (primitive : Primitive E S) (passes limit : ℕ) where
  abbrev R : State (Option S) (View E S) → Type 0
  R = Ruled object primitive passes limit

  -- A jump by a pass that owes a resumption, from one number to another.
  pub jumps : IsClient object primitive → IsSmart primitive.manner.leaving → {C : Type 0} (all : C → Primitive E S)
      (y : C) → all y ≡ primitive → (many id : ℕ) (me : Me (Option S) (View E S)) (from to : ℕ) → me.0.weight ≡ 1
      → MayJump from to me.0
      → Allows R many id me 32 (λ n. either (n == from) to n) (jumped object all (step many 32 from to none) me)
  jumps client smart all y all_is many id me from to one may s r homes here small = (
    w,
    keeps,
    tt,
    done.0,
    (
      record { saw = done.1; cancelled = λ made k low below. cancelled-at k (omega arith) (jump-below made below) },
      refl,
      done.2,
      record {
        held = refl;
        owes = refl;
        waits = omega arith;
        further = refl;
        spares = refl;
        open_slot = refl;
        ticket = λ j e. e;
      },
      done.1.same,
    ),
  )
    where
      v : View E S
      v = me.0

      f : Facts
      f = me.0.facts

      c : Hidden
      c = r.hidden

      p : ℕ
      p = me.0.number

      n : ℕ
      n = slice_index s.words 32

      x : ℕ
      x = either (slice_index s.words 32 == from) to (slice_index s.words 32)

      d : Hidden
      d = resumed_to r.hidden (either (slice_index s.words 32 == from) to (slice_index s.words 32))

      next : slice_index s.words 32 ≡ r.hidden.queue.resumes
      next = r.counters.resumes

      more : r.hidden.queue.resumes ≤ either (slice_index s.words 32 == from) to (slice_index s.words 32)
      more = let high = jump-high (slice_index s.words 32) from to may.order in omega (arith, next)

      known : Knows object r.hidden r.log r.handed r.made r.live passes limit
          (cell_count passes limit primitive.values) primitive.opening me.0
      known = r.each_view id me.0 here (omega arith)

      at : Stands r.hidden me.0.number me.0.facts
      at = known.stands

      sound : IsSoundEither primitive.manner.watches r.hidden.queue
      sound = client.sound r.hidden (client_words s.words) r.log r.handed r.shown

      -- each cell between is cancelled
      over : (k : ℕ) → r.hidden.queue.resumes ≤ k
          → k < either (slice_index s.words 32 == from) to (slice_index s.words 32)
          → state_at r.hidden.queue k ≡ state.Cancelled
      over k low below =
          let between = jump-between (slice_index s.words 32) from to k (omega (arith, next)) below in
          let final : IsFinal (IsSmart primitive.manner.leaving) r.hidden.queue k =
          out-final object primitive passes limit s r k
          (has_prefix (k / 32) me.0.segments.outs r.segments.outs (r.each_segment id me.0 here).seen.outs
          (may.out k between.low between.below)) in
          ⊎_elim (λ (passed : k < r.hidden.queue.resumes). absurd (omega arith)) (λ t. t.0) final.reached

      few : either (slice_index s.words 32 == from) to (slice_index s.words 32) ≤ limit + passes + primitive.values
      few = ⊎_elim
          (λ (far : r.hidden.queue.resumes < either (slice_index s.words 32 == from) to (slice_index s.words 32)).
          let last = cancelled-drawn r.hidden
          (either (slice_index s.words 32 == from) to (slice_index s.words 32) - 1) sound
          (over (either (slice_index s.words 32 == from) to (slice_index s.words 32) - 1) (omega arith)
          (omega arith)) in
          let ground = r.room.ground in omega arith)
          (λ near. let low = r.room.resumes in omega arith)
          (cases_lt r.hidden.queue.resumes (either (slice_index s.words 32 == from) to (slice_index s.words 32)))

      facts : Facts
      facts = facts_jumped from to (slice_index s.words 32) me.0.facts

      w : View E S
      w = grown me.0 facts (r.log ++ []) r.handed

      shown : primitive.shows d (client_words s.words) (r.log ++ []) r.handed
      shown =
          let j = either (slice_index s.words 32 == from) to (slice_index s.words 32) - r.hidden.queue.resumes in
          let whole : r.hidden.queue.resumes + j
          ≡ either (slice_index s.words 32 == from) to (slice_index s.words 32) = omega (arith, more) in
          let limit_low = r.room.low_limit in let passes_few = r.room.few_passes in
          let values_few = r.room.few_values in let ground = r.room.ground in
          subst (λ (z : ℕ × List E). primitive.shows (resumed_to r.hidden z.0) (client_words s.words) z.1 r.handed)
          (λ i. (whole i, sym (append-nil r.log) i))
          (all-over object primitive client smart j r.hidden me.0.number me.0.facts.has (client_words s.words) r.log
          r.handed r.shown (at.doing ∙ ap Some may.owes) at.has (λ k low below. over k low (omega (arith, whole)))
          (omega arith) (omega (arith, few, whole)))

      self : Stands d me.0.number facts
      self =
          let on = stands-on r.hidden (either (slice_index s.words 32 == from) to (slice_index s.words 32)) me.0.number
          me.0.facts more at in record {
            doing = on.doing;
            has = on.has;
            may_draw = on.may_draw;
            waits = on.waits;
            all_waits = on.all_waits;
            once = on.once;
            last = tt;
            behind = record { reached = on.behind.reached; passed = on.behind.passed };
          }

      others : OthersStay r.hidden d me.0.number
      others = others-on r.hidden (either (slice_index s.words 32 == from) to (slice_index s.words 32)) me.0.number more

      t : Turned object primitive passes limit s r me.0 32
          (either (slice_index s.words 32 == from) to (slice_index s.words 32)) d [] facts
      t =
          let wide = r.cells.shows.wide in record {
            crew = crew-else s.words 32 x (omega arith);
            counters = record {
              suspends = other-word s.words 32 16 x (λ e. omega arith) ∙ r.counters.suspends;
              resumes = this-word s.words 32 x (omega arith);
            };
            now = r.segments;
            later = later-same r.segments;
            cells = cells-else r.segments c d r.slots s.words 32 x behind-resumes (λ j. refl) (λ j. refl) r.cells;
            settles = r.settled;
            counts = λ q. refl;
            finals = finals-on (IsSmart primitive.manner.leaving) c d p r.settled f facts others at self
                (λ j high. refl) (λ j high h. h) (λ j e. inl e) (λ j e. inl e) (λ j e. inl e) more (omega arith)
                r.finals;
            over = λ j o. r.all_settled j (over-same (IsSmart primitive.manner.leaving) c.queue d.queue j refl
                (λ m w. wait-on c x m j w) (λ none. none) (λ come. come) o);
            same_slots = λ y. refl;
            same_spares = refl;
            leaves = leaves-same r.segments _;
            idle_words = idle-else s.words 32 x (λ j is. is.resumes) r.idle_words;
            room = record {
              few_passes = r.room.few_passes;
              low_limit = r.room.low_limit;
              few_values = r.room.few_values;
              doing = r.room.doing;
              has = r.room.has;
              may_draw = r.room.may_draw;
              ground = r.room.ground;
              resumes = few;
            };
            door = r.door;
            shown = subst (λ (ws : List ℕ). primitive.shows d ws (r.log ++ []) r.handed)
                (sym (client-below s.words 32 x (omega arith))) shown;
            others = others;
            self = self;
            silent = λ m other. refl;
            payload_fits = known.payload_fits;
            slots = record { open_slot = refl; laid = λ k y laid o. o; out = λ k out o. o };
            draws = let more = draws-jump f.found from to n may.order in omega (arith, next);
            given = λ k low. refl;
            aware = aware-none object primitive passes limit s me.0.number r.log [] (λ k low. refl);
          }

      done : Steps object primitive passes limit client s id me 32 x [] facts w
      done = steps object primitive passes limit client s r id me 32 x d [] facts here one t

      jump-below : {k : ℕ} → slice_index s.words 32 ≡ from → k < to
          → k < either (slice_index s.words 32 == from) to (slice_index s.words 32)
      jump-below made below =
          let came : either (slice_index s.words 32 == from) to (slice_index s.words 32) ≡ to =
          ap (λ b. either b to (slice_index s.words 32)) (eq-eqb (slice_index s.words 32) from made) in
          omega (arith, came)

      cancelled-at : (k : ℕ) → r.hidden.queue.resumes ≤ k
          → k < either (slice_index s.words 32 == from) to (slice_index s.words 32) → WasCancelled object all k w
      cancelled-at k low below = record {
        payload = r.hidden.payloads k;
        was = found-so object primitive passes limit client all y all_is s r w
            (HasCell (cell_of k state.Cancelled (r.hidden.payloads k))) [] known.opening_is refl
            (over k low below, refl);
      }
