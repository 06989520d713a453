-- Steps that leave the word as it is: a load of the suspend counter, an exchange that isn't made.
use Rattle.std.proofs.Common.{◌≡◌, ℕ, ◌+◌, ◌<◌, ◌^◌, Bool, true, false, List, [], ◌++◌, set, sym, refl, ap, ◌∙◌, subst, inr, arith, Option, Some, slice_get, nat_lt, ltb-true, if◌then◌else◌, length}
use Rattle.std.proofs.lemmas.Option.{same_Some}
use Rattle.std.specs.Prelude.{slice_index, slice_set, count_by}
use Rattle.std.proofs.lemmas.List.{append-nil, length-set}
use mathlib.Core.Option.{some, none}
use lib.ListN.{get_elem?}
use lib.Seq.{set-get_or}
use Rattle.atomic_table.specs.Table.{State, Me, keeps, step, Allows}
use Rattle.cqs_rule_laws.specs.declared.view.View.{View}
use Rattle.cqs_rule_laws.specs.declared.view.Facts.{Facts}
use Rattle.cqs_rule_laws.specs.Drawn.{draws_in}
use Rattle.cqs_rule_laws.specs.Given.{times_given}
use Rattle.cqs_rule_laws.specs.Hidden.{Hidden, now_may_draw}
use Rattle.cqs_rule_laws.specs.Object.{Object, Primitive}
use Rattle.cqs_rule_laws.specs.Layout.{client_words}
use Rattle.cqs_rule_laws.specs.Views.{grown}
use Rattle.cqs_rule_laws.specs.Ruled.{Ruled, Stands, CountersShow, CellsShow, IdleWords, HasRoom, DoorMayDraw, IsFinal, IsOver}
use Rattle.cqs_rule_laws.specs.Client.{IsClient}
use Rattle.cqs_rule_laws.specs.Lists.{Has, NamesOnly}
use Rattle.cqs_rule_laws.specs.Loads as load
use Rattle.cqs_rule_laws.specs.Loads.{loaded_by}
use Rattle.cqs_rule_laws.specs.Facts.{facts_counted}
use Rattle.cqs_rule_laws.specs.Saw.{WasFound}
use Rattle.cqs_rule_laws.specs.Manner.{IsSmart}
use Rattle.cqs_rule_laws.specs.Settling.{times}
use Rattle.cqs_rule_laws.proofs.Lists.{all_draw}
use Rattle.cqs_slots.proofs.Loads.{later-same}
use Rattle.cqs_rule_laws.proofs.Advance.{Turned}
use Rattle.cqs_rule_laws.proofs.GivenBeside.{aware-none}
use Rattle.cqs_rule_laws.proofs.Staying.{OthersStay}
use Rattle.cqs_rule_laws.proofs.Drawing.{draws-word}
use Rattle.cqs_rule_laws.proofs.Over.{over-same}
use Rattle.cqs_rule_laws.proofs.Shelves.{Keeps, keeps-all}
use Rattle.cqs_rule_laws.proofs.Others.{others-same, others-counted, door-keeps}
use Rattle.cqs_rule_laws.proofs.Tells.{steps, Steps}
use Rattle.cqs_core.proofs.Places.{get-set_here, get-set_else, set-same}

module _ {E S : Type 0} (object : Object E) (primitive : Primitive E S) (passes limit : ℕ)
    (client : IsClient object primitive) where
  -- no word changes, what is hidden becomes d, and the history grows by these entries
  pub stays : (s : State (Option S) (View E S)) (r : Ruled object primitive passes limit s) (v : View E S) (i : ℕ)
      (d : Hidden) (es : List E) (facts : Facts)
      → CountersShow d.queue s.words → CellsShow r.segments d r.slots s.words
      → HasRoom passes limit primitive.values d
      → DoorMayDraw d
      → primitive.shows d (client_words s.words) (r.log ++ es) r.handed → OthersStay r.hidden d v.number
      → Stands d v.number facts
      → NamesOnly object.names v.number es → facts.has.payload < 2 ^ 20 → Keeps primitive.opens v facts
      → d.queue.resumes + draws_in v.facts.found ≡ r.hidden.queue.resumes + draws_in facts.found
      → facts.spare_slots ≡ v.facts.spare_slots → facts.duties ≡ v.facts.duties
      → facts.to_retire ≡ v.facts.to_retire
      → ((k : ℕ) → r.settled k ≡ true → IsFinal (IsSmart primitive.manner.leaving) d.queue k)
      → ((k : ℕ) → IsOver (IsSmart primitive.manner.leaving) d.queue k → r.settled k ≡ true)
      → ((k : ℕ) → k < length s.homes → times_given object.gives es k ≡ 0)
      → Turned object primitive passes limit s r v i (slice_index s.words i) d es facts
  stays s r v i d es facts counters cells room door shown others self silent owed slots draws spares duties
      retires finals over given =
      let same : slice_set s.words i (slice_index s.words i) ≡ s.words = set-get_or s.words i 0 in
      record {
        crew = ap (λ l. slice_index l 0) same;
        counters = subst (CountersShow d.queue) (sym same) counters;
        cells = subst (CellsShow r.segments d r.slots) (sym same) cells;
        idle_words = subst IdleWords (sym same) r.idle_words;
        room = room;
        door = door;
        shown = subst (λ (l : List ℕ). primitive.shows d (client_words l) (r.log ++ es) r.handed) (sym same) shown;
        others = others;
        self = self;
        silent = silent;
        payload_fits = owed;
        slots = slots;
        draws = draws;
        now = r.segments;
        later = later-same r.segments;
        settles = r.settled;
        counts = λ q. let e = ap (times q) duties in omega arith;
        finals = finals;
        over = over;
        given = given;
        aware = aware-none object primitive passes limit s v.number r.log es given;
        same_slots = λ y. refl;
        same_spares = spares;
        leaves = λ q all low. inr (all, low, λ h. inr (subst (Has q) (sym retires) h));
      }

  -- the same with no entry
  pub still : (s : State (Option S) (View E S)) (r : Ruled object primitive passes limit s) (v : View E S) (i : ℕ)
      (d : Hidden) (facts : Facts)
      → CountersShow d.queue s.words → CellsShow r.segments d r.slots s.words
      → HasRoom passes limit primitive.values d
      → DoorMayDraw d
      → primitive.shows d (client_words s.words) r.log r.handed → OthersStay r.hidden d v.number
      → Stands d v.number facts
      → facts.has.payload < 2 ^ 20 → Keeps primitive.opens v facts
      → d.queue.resumes + draws_in v.facts.found ≡ r.hidden.queue.resumes + draws_in facts.found
      → facts.spare_slots ≡ v.facts.spare_slots → facts.duties ≡ v.facts.duties
      → facts.to_retire ≡ v.facts.to_retire
      → ((k : ℕ) → r.settled k ≡ true → IsFinal (IsSmart primitive.manner.leaving) d.queue k)
      → ((k : ℕ) → IsOver (IsSmart primitive.manner.leaving) d.queue k → r.settled k ≡ true)
      → Turned object primitive passes limit s r v i (slice_index s.words i) d [] facts
  still s r v i d facts counters cells room door shown others self owed slots draws spares duties retires
      finals over =
      stays s r v i d [] facts counters cells room door
      (subst (λ l. primitive.shows d (client_words s.words) l r.handed) (sym (append-nil r.log)) shown) others self
      (λ n apart. refl) owed slots draws spares duties retires finals over (λ k low. refl)

  -- nothing hidden changes, and the pass goes on to these facts
  pub looks-to : (s : State (Option S) (View E S)) (r : Ruled object primitive passes limit s) (id : ℕ)
      (me : Me (Option S) (View E S)) (i : ℕ) (facts : Facts)
      → get_elem? s.views id ≡ some me.0 → me.0.weight ≡ 1 → Stands r.hidden me.0.number facts
      → facts.has.payload < 2 ^ 20 → Keeps primitive.opens me.0 facts
      → draws_in facts.found ≡ draws_in me.0.facts.found
      → facts.spare_slots ≡ me.0.facts.spare_slots → facts.duties ≡ me.0.facts.duties
      → facts.to_retire ≡ me.0.facts.to_retire
      → Steps object primitive passes limit client s id me i
      (slice_index s.words i) [] facts (grown me.0 facts (r.log ++ []) r.handed)
  looks-to s r id me i facts here one self owed slots draws spares duties retires =
      steps object primitive passes limit client s r id me i
      (slice_index s.words i) r.hidden [] facts here one
      (still s r me.0 i r.hidden facts r.counters r.cells r.room r.door r.shown
      (others-same r.hidden me.0.number) self owed slots (ap (λ n. r.hidden.queue.resumes + n) (sym draws)) spares
      duties retires r.finals r.all_settled)

  -- what was found is told by what the client shows
  pub found-so : {C : Type 0} (all : C → Primitive E S) (x : C) → all x ≡ primitive → (s : State (Option S) (View E S))
      (r : Ruled object primitive passes limit s) (w : View E S) (fact : Hidden → List ℕ → Type 0) (es : List E)
      → w.opening ≡ primitive.opening → w.seen ≡ r.log ++ es → fact r.hidden (client_words s.words)
      → WasFound all fact es w
  found-so all x is s r w fact es opening seen holds = record {
    before = r.log;
    seen = seen;
    was = record {
      client = x;
      opening_is = ap (λ (z : Primitive E S). z.opening) is ∙ sym opening;
      hidden = r.hidden;
      words = client_words s.words;
      handed = r.handed;
      shown = subst (λ (z : Primitive E S). z.shows r.hidden (client_words s.words) r.log r.handed) (sym is) r.shown;
      holds = holds;
    };
  }

  -- a load of the suspend counter
  pub counted : {C : Type 0} (all : C → Primitive E S) (x : C) → all x ≡ primitive → (slots id : ℕ)
      (me : Me (Option S) (View E S)) → me.0.weight ≡ 1
      → Allows (Ruled object primitive passes limit) slots id me 16 (λ n. n)
      (loaded_by object all load.counts (step slots 16 0 0 none) me)
  counted all x is slots id me one s r _ here small =
      let k = r.each_view id me.0 here (omega arith) in
      let p = me.0.number in
      let n = slice_index s.words 16 in
      let f = me.0.facts in
      let at = k.stands in
      let may : Bool = (facts_counted me.0.limit n f).may_draw in
      let d = now_may_draw r.hidden p may in
      let final : (j : ℕ) → r.settled j ≡ true → IsFinal (IsSmart primitive.manner.leaving) d.queue j = λ j is.
      let i = r.finals j is in record {
        final = i.final;
        drawn = i.drawn;
        come = i.come;
        unwatched = i.unwatched;
        unwaited = λ n w. i.unwaited n (record {
          cell = w.cell;
          there = w.there;
          owner = w.owner;
          drawn = w.drawn;
          uncollected = w.uncollected;
          installed = w.installed;
        });
        met = i.met;
        reached = i.reached;
      } in
      let over : (j : ℕ) → IsOver (IsSmart primitive.manner.leaving) d.queue j → r.settled j ≡ true = λ j o.
      r.all_settled j (over-same (IsSmart primitive.manner.leaving) r.hidden.queue d.queue j refl (λ n w. record {
        cell = w.cell;
        there = w.there;
        owner = w.owner;
        drawn = w.drawn;
        uncollected = w.uncollected;
        installed = w.installed;
      }) (λ none. none) (λ come. come) o) in
      let t = steps object primitive passes limit client s r id me 16 n d []
      (facts_counted me.0.limit n f) here one
      (still s r me.0 16 d (facts_counted me.0.limit n f)
      (record { suspends = r.counters.suspends; resumes = r.counters.resumes })
      (record {
        shows = r.cells.shows;
        sound = r.cells.sound;
        made = r.cells.made;
        fits = r.cells.fits;
        bare = r.cells.bare;
      })
      (room s r p may (nat_lt n me.0.limit) f.may_draw at.may_draw refl
      (λ below. let low : n < me.0.limit = ltb-true n me.0.limit below in let l = k.limit_is in
      let c = r.counters.suspends in omega arith))
      (door-keeps r.hidden d p r.door (λ m apart. refl)
      (λ m apart. get-set_else r.hidden.may_draw p m may (λ e. apart (sym e)))
      (λ at_door. get-set_here r.hidden.may_draw p f.may_draw may at.may_draw
      ∙ ap Some (still-true (nat_lt n me.0.limit) f.may_draw
      (same_Some f.may_draw true (sym at.may_draw ∙ r.door p at_door)))))
      (client.counts r.hidden p may (client_words s.words) r.log r.handed r.shown)
      (others-counted r.hidden p may)
      (record {
        doing = at.doing;
        has = at.has;
        may_draw = get-set_here r.hidden.may_draw p f.may_draw may at.may_draw;
        waits = at.waits;
        all_waits = at.all_waits;
        once = at.once;
        last = at.last;
        behind = record { reached = at.behind.reached; passed = at.behind.passed };
      })
      k.payload_fits (keeps-all primitive.opens me.0 (facts_counted me.0.limit n f) refl (λ j o. o))
      (ap (λ m. r.hidden.queue.resumes + m) (sym (draws-word f.found 16 n (λ e. omega arith))))
      refl refl refl final over)
      in (
        grown me.0 (facts_counted me.0.limit n f) (r.log ++ []) r.handed,
        keeps,
        tt,
        t.0,
        (
          record {
            saw = t.1;
            was = found-so all x is s r (grown me.0 (facts_counted me.0.limit n f) (r.log ++ []) r.handed)
                (load.IsDrawn n) []
                k.opening_is refl (sym r.counters.suspends);
          },
          refl,
          t.2,
          record {
            held = refl;
            owes = refl;
            waits = omega arith;
            further = refl;
            spares = refl;
            open_slot = refl;
            ticket = λ k e. e;
          },
          t.1.same,
        ),
      )
    where
      still-true : (b may : Bool) → may ≡ true → (if b then true else may) ≡ true
      still-true true may is = refl
      still-true false may is = is

      room : (s : State (Option S) (View E S)) (r : Ruled object primitive passes limit s) (p : ℕ)
          (may below old : Bool)
          → slice_get r.hidden.may_draw p ≡ Some old
          → may ≡ (if below then true else old) → (below ≡ true → r.hidden.queue.suspends < limit)
          → HasRoom passes limit primitive.values (now_may_draw r.hidden p may)
      room s r p may below old there is low = record {
        few_passes = r.room.few_passes;
        low_limit = r.room.low_limit;
        few_values = r.room.few_values;
        doing = r.room.doing;
        has = r.room.has;
        may_draw = length-set r.hidden.may_draw p may ∙ r.room.may_draw;
        ground = ground below is low;
        resumes = r.room.resumes;
      }
        where
          ground : (b : Bool) → may ≡ (if b then true else old) → (b ≡ true → r.hidden.queue.suspends < limit)
              → r.hidden.queue.suspends + count_by (λ b. b) (set r.hidden.may_draw p may) < limit + passes
          ground true e low = let few = all_draw (set r.hidden.may_draw p may) in let long =
              length-set r.hidden.may_draw p may in
              let l = r.room.may_draw in let h = low refl in omega arith
          ground false e low =
              let same : set r.hidden.may_draw p may ≡ r.hidden.may_draw = ap (set r.hidden.may_draw p) e
              ∙ set-same r.hidden.may_draw p old there in
              let g = r.room.ground in
              subst (λ (l : List Bool). r.hidden.queue.suspends + count_by (λ b. b) l < limit + passes) (sym same) g

  pub counted-at : {C : Type 0} (all : C → Primitive E S) (x : C) → all x ≡ primitive → (slots id : ℕ)
      (me : Me (Option S) (View E S)) (word : ℕ) → me.0.weight ≡ 1 → word ≡ 16
      → Allows (Ruled object primitive passes limit) slots id me word (λ n. n)
      (loaded_by object all load.counts (step slots word 0 0 none) me)
  counted-at all x is slots id me word one at =
      subst (λ z. Allows (Ruled object primitive passes limit) slots id me z (λ n. n)
      (loaded_by object all load.counts (step slots z 0 0 none) me)) (sym at)
      (counted all x is slots id me one)
