-- A step of a live pass: it sees the whole history, to which it adds entries of its own. What the rule says of all
-- other passes stays, whatever kind of step it is; a kind has to show only what `Turned` asks.
use Rattle.std.proofs.Common.{◌≡◌, ◌≢◌, ℕ, ◌+◌, ◌*◌, ◌<◌, ◌≤◌, ◌^◌, Bool, true, List, [], ◌++◌, length, set, sym, refl, ap, ◌∙◌, subst, ⊎_elim, inl, arith, Option}
use Rattle.std.specs.Prelude.{slice_index, slice_set}
use Rattle.std.proofs.lemmas.List.{append-nil}
use mathlib.Core.Option.{some}
use lib.ListN.{get_elem?}
use Rattle.atomic_table.specs.Table.{State, Act, stepped, keeps, homes_after}
use Rattle.atomic_table.proofs.Lists.{at_set, set_else}
use mathlib.Core.Logic.{dite}
use native.Mathlib.Decide.{ℕ_discrete}
use Rattle.cqs_rule_laws.specs.declared.view.View.{View}
use Rattle.cqs_rule_laws.specs.declared.view.Drawn.{Drawn}
use Rattle.cqs_rule_laws.specs.declared.view.Facts.{Facts}
use Rattle.cqs_rule_laws.specs.declared.view.Opening.{Opening}
use Rattle.cqs_rule_laws.specs.declared.view.Spare.{Spare}
use Rattle.cqs_rule_laws.specs.Drawn.{draws_in}
use Rattle.cqs_rule_laws.specs.Hidden.{Hidden}
use Rattle.cqs_rule_laws.specs.Layout.{client_words}
use Rattle.cqs_rule_laws.specs.Lists.{Has, IsDistinct, NamesOnly, IsPrefix}
use Rattle.cqs_rule_laws.specs.Views.{all_own, weight, grown, Apart, IsSpent, SpentHasNone, WasCrew, first_facts}
use Rattle.cqs_rule_laws.specs.Given.{times_given, IsAware, AreAware}
use Rattle.cqs_rule_laws.specs.Ruled.{Ruled, RuledAhead, Knows, Sees, Stands, CountersShow, CellsShow, IdleWords, HasRoom, DoorMayDraw, number_at, IsKept, Rests, HasSecond, cell_count, IsFinal, IsOver}
use Rattle.cqs_slots.specs.Slots.{Segments, IsLater, settled_in}
use Rattle.cqs_rule_laws.specs.Manner.{IsSmart}
use Rattle.cqs_rule_laws.specs.Settling.{times}
use Rattle.cqs_rule_laws.proofs.Duties.{counted-set}
use Rattle.cqs_rule_laws.proofs.ToRetire.{Leaves, leave-set}
use Rattle.cqs_slots.proofs.Loads.{sees-same}
use Rattle.cqs_rule_laws.specs.Ample.{IsAmple}
use Rattle.cqs_rule_laws.specs.Configured.{longest_line}
use Rattle.cqs_rule_laws.specs.Segments.{KnowsSegments}
use Rattle.cqs_rule_laws.proofs.Staying.{OthersStay}
use Rattle.cqs_rule_laws.proofs.Segments.{knows-later}
use Rattle.cqs_rule_laws.proofs.Spares.{spares-kept}
use Rattle.cqs_rule_laws.specs.Slots.{Shelf}
use Rattle.cqs_rule_laws.proofs.Given.{tied-on, aware-whole, same-homes}
use Rattle.cqs_rule_laws.proofs.Shelves.{Keeps, shelf-set}
use Rattle.cqs_rule_laws.specs.Inside.{IsInside}
use Rattle.cqs_rule_laws.specs.Object.{Object, Primitive}
use Rattle.cqs_rule_laws.specs.Saw.{Saw, IsLive}
use Rattle.cqs_rule_laws.proofs.Lists.{set_there, one_there, set_all, total_set, two_of, nothing_more, longer, has_left, has_right, part_more, unnamed, length_without}

-- what stays of a pass that rests, and of a second pass
pub rests-on : (c d : Hidden) (n : ℕ) → ((facts : Facts) → Stands c n facts → Stands d n facts) → Rests c n → Rests d n
rests-on c d n stay rests = record {
  facts = rests.facts;
  stands = stay rests.facts rests.stands;
  idle = rests.idle;
  empty = rests.empty;
  owes_none = rests.owes_none;
  slotless = rests.slotless;
  waitless = rests.waitless;
}

pub second-on : {E S : Type 0} (c d : Hidden) (v : View E S)
    → ((n : ℕ) (facts : Facts) → Has n v.others → Stands c n facts → Stands d n facts) → HasSecond c v → HasSecond d v
second-on c d v stay two = record {
  own = two.own;
  stands = stay v.second_number v.second two.own two.stands;
  resting = λ n h other. rests-on c d n (λ facts. stay n facts h) (two.resting n h other);
  payload_fits = two.payload_fits;
}

-- a pass stands where it stood, whatever slot it has open
pub stands-out : (c : Hidden) (p : ℕ) (facts : Facts) (out : Option ℕ) → Stands c p facts
    → Stands c p (record facts { open_slot = out })
stands-out c p facts out at = record {
  doing = at.doing;
  has = at.has;
  may_draw = at.may_draw;
  waits = at.waits;
  all_waits = at.all_waits;
  once = at.once;
  last = at.last;
  behind = record { reached = at.behind.reached; passed = at.behind.passed };
}

-- and whatever slots it has spare, cells it is to count, and segments it is to retire
pub stands-spares : (c : Hidden) (p : ℕ) (facts : Facts) (spares : List Spare) (duties segments : List ℕ)
    → Stands c p facts → Stands c p (record facts { spare_slots = spares; duties = duties; to_retire = segments })
stands-spares c p facts spares duties segments at = record {
  doing = at.doing;
  has = at.has;
  may_draw = at.may_draw;
  waits = at.waits;
  all_waits = at.all_waits;
  once = at.once;
  last = at.last;
  behind = record { reached = at.behind.reached; passed = at.behind.passed };
}

-- a view after a step that changes its slots too
abbrev pub slotted : {E S : Type 0} → View E S → Facts → List E → List (ℕ × S) → ℕ → Bool → Drawn → Option ℕ
    → List (ℕ × Option S) → View E S
slotted v facts seen handed crew alone drawn out laid =
    record (grown v (record facts { open_slot = out }) seen handed) {
      crew = crew;
      alone = alone;
      drawn = drawn;
      laid = laid;
    }

-- a view's numbers are those of cells, where the table has so many
pub is-inside : {E S : Type 0} (w : View E S) (cells : ℕ) → w.cells ≡ cells → number_at w.facts.doing < cells
    → ((n : ℕ) → Has n w.facts.waits → n < cells) → IsDistinct w.facts.waits
    → length w.facts.waits < longest_line → w.facts.has.payload < 2 ^ 20
    → (IsAmple w → w.cells ≤ 32 * length w.segments.homes) → IsInside w
is-inside w cells are inside waits once few owed made = record {
  number = subst (λ z. number_at w.facts.doing < z) (sym are) inside;
  waits = λ n h. subst (λ z. n < z) (sym are) (waits n h);
  once = λ n h. length_without n w.facts.waits once h;
  few = few;
  payload = owed;
  made = made;
}

module _ {E S : Type 0} (object : Object E) where
  -- what another view has seen, where the pass p adds entries to the history
  sees-more : (log es : List E) (handed : List (ℕ × S)) (p : ℕ) (u : View E S) → NamesOnly object.names p es
      → ((n : ℕ) → Has n (all_own u) → n ≢ p) → Sees object log handed u → Sees object (log ++ es) handed u
  sees-more log es handed p u silent apart k = record {
    seen = longer u.seen log es k.seen;
    other = longer u.other log es k.other;
    handed_in = k.handed_in;
    other_handed_in = k.other_handed_in;
    mine = λ n h. k.mine n h ∙ sym (part_more object.names n log es (silent n (apart n (has_left n u.own u.others h))));
    theirs = λ n h. k.theirs n h ∙ sym (part_more object.names n log es
        (silent n (apart n (has_right n u.own u.others h))));
  }

  -- what the rule says of another view
  others-know : (c d : Hidden) (log es : List E) (handed : List (ℕ × S)) (made live passes limit cells : ℕ)
      (opening : Opening) (p : ℕ) (u : View E S)
      → OthersStay c d p → NamesOnly object.names p es → ((n : ℕ) → Has n (all_own u) → n ≢ p) → (u.alone ≡ true → ⊥)
      → Knows object c log handed made live passes limit cells opening u
      → Knows object d (log ++ es) handed made live passes limit cells opening u
  others-know c d log es handed made live passes limit cells opening p u stay silent apart two k = record {
    sees = sees-more log es handed p u silent apart k.sees;
    below = k.below;
    light = k.light;
    parted = k.parted;
    own = k.own;
    stands = stay.stands u.number u.facts (apart u.number (has_left u.number u.own u.others k.own)) k.stands;
    resting = λ n h other.
        rests-on c d n (λ facts. stay.stands n facts (apart n (has_left n u.own u.others h))) (k.resting n h other);
    second = λ w. second-on c d u (λ n facts h. stay.stands n facts (apart n (has_right n u.own u.others h)))
        (k.second w);
    crew = k.crew;
    alone = λ a. absurd (two a);
    limit_is = k.limit_is;
    cells_are = k.cells_are;
    passes_are = k.passes_are;
    opening_is = k.opening_is;
    payload_fits = k.payload_fits;
  }

module _ {E S : Type 0} (object : Object E) (primitive : Primitive E S) (passes limit : ℕ) where
  -- the number of the cells
  abbrev pub cells_of : ℕ
  cells_of = cell_count passes limit primitive.values

  abbrev pub R : State (Option S) (View E S) → Type 0
  R = Ruled object primitive passes limit

  -- values may have been handed in ahead of a step whose entries give their slots away
  abbrev pub Before : (ℕ → ℕ) → State (Option S) (View E S) → Type 0
  Before ahead = RuledAhead object primitive passes limit ahead

  -- the entries give no slot away that another view's pass may open
  abbrev pub OthersAware : State (Option S) (View E S) → ℕ → List E → List E → Type 0
  OthersAware s p log es = (j : ℕ) (u : View E S) → get_elem? s.views j ≡ some u → 0 < u.weight
      → ((n : ℕ) → Has n (all_own u) → n ≢ p)
      → IsAware object.gives primitive.opens (length s.homes) log u
      → IsAware object.gives primitive.opens (length s.homes) (log ++ es) u

  -- what a step of the view v has to show: the word i becomes x, what is hidden becomes d, the history grows by the
  -- entries
  pub record Turned {ahead : ℕ → ℕ} (s : State (Option S) (View E S)) (r : Before ahead s) (v : View E S) (i x : ℕ)
      (d : Hidden) (es : List E) (facts : Facts) : Type 0 where
    pub crew : slice_index (slice_set s.words i x) 0 ≡ slice_index s.words 0
    pub counters : CountersShow d.queue (slice_set s.words i x)
    pub now : Segments
    pub later : IsLater r.segments now
    pub cells : CellsShow now d r.slots (slice_set s.words i x)
    pub settles : ℕ → Bool
    pub counts : (q : ℕ) → settled_in settles q + times q v.facts.duties + r.segments.counted q
        ≡ settled_in r.settled q + times q facts.duties + now.counted q
    pub finals : (k : ℕ) → settles k ≡ true → IsFinal (IsSmart primitive.manner.leaving) d.queue k
    pub over : (k : ℕ) → IsOver (IsSmart primitive.manner.leaving) d.queue k → settles k ≡ true
    pub same_slots : (y : ℕ) → now.slots y ≡ r.segments.slots y
    pub same_spares : facts.spare_slots ≡ v.facts.spare_slots
    pub leaves : Leaves r.segments now v.facts.to_retire facts.to_retire
    pub idle_words : IdleWords (slice_set s.words i x)
    pub room : HasRoom passes limit primitive.values d
    pub door : DoorMayDraw d
    pub shown : primitive.shows d (client_words (slice_set s.words i x)) (r.log ++ es) r.handed
    pub others : OthersStay r.hidden d v.number
    pub self : Stands d v.number facts
    pub silent : NamesOnly object.names v.number es
    pub payload_fits : facts.has.payload < 2 ^ 20
    pub slots : Keeps primitive.opens v facts
    pub draws : d.queue.resumes + draws_in v.facts.found ≡ r.hidden.queue.resumes + draws_in facts.found
    pub given : (k : ℕ) → k < length s.homes → times_given object.gives es k ≡ ahead k
    pub aware : OthersAware s v.number r.log es

  -- a view that keeps its numbers is set
  still-own : (views : List (View E S)) (id : ℕ) (v w : View E S) → get_elem? views id ≡ some v → all_own w ≡ all_own v
      → (j : ℕ) (z : View E S) → get_elem? (set views id w) j ≡ some z
      → (y : View E S) × (get_elem? views j ≡ some y) × (all_own z ≡ all_own y)
  still-own views id v w here same j z e = ⊎_elim
      (λ (t : (j ≡ id) × (w ≡ z)). (v, ap (get_elem? views) t.0 ∙ here, ap all_own (sym t.1) ∙ same))
      (λ (t : (j ≢ id) × (get_elem? views j ≡ some z)). (z, t.1, refl))
      (at_set views id j w z e)

  pub still-apart : (views : List (View E S)) (id : ℕ) (v w : View E S) → get_elem? views id ≡ some v
      → all_own w ≡ all_own v
      → Apart views → Apart (set views id w)
  still-apart views id v w here same old a b t u n e f g h =
      let p = still-own views id v w here same a t e in
      let q = still-own views id v w here same b u f in
      old a b p.0 q.0 n p.1 q.1 (subst (Has n) p.2 g) (subst (Has n) q.2 h)

  pub spent-set : (views : List (View E S)) (id : ℕ) (w : View E S) → 0 < w.weight → SpentHasNone views
      → SpentHasNone (set views id w)
  spent-set views id w live old = set_all (λ j u. u.weight ≡ 0 → IsSpent u) views id w
      (λ none. absurd (omega arith)) (λ j u apart at. old j u at)

  pub still-kept : (views : List (View E S)) (id : ℕ) (v w : View E S) (n : ℕ) → get_elem? views id ≡ some v
      → all_own w ≡ all_own v
      → w.weight ≡ 1 → IsKept views n → IsKept (set views id w) n
  still-kept views id v w n here same one old = dite (ℕ_discrete old.place id)
      (λ (at : old.place ≡ id).
      let is : old.view ≡ v = one_there views id old.view v
      (subst (λ j. get_elem? views j ≡ some old.view) at old.there) here in
      record {
        place = id;
        view = w;
        there = set_there views id v w here;
        live = omega arith;
        has = subst (Has n) (ap all_own is ∙ sym same) old.has;
      })
      (λ (apart : old.place ≢ id). record {
        place = old.place;
        view = old.view;
        there = set_else views id old.place w apart ∙ old.there;
        live = old.live;
        has = old.has;
      })

  -- the view may take slots from their homes, or put them back
  pub advance-on : {ahead : ℕ → ℕ} (s : State (Option S) (View E S)) (r : Before ahead s) (id : ℕ)
      (cs : List (ℕ × Option S)) (v : View E S) (i x : ℕ)
      (d : Hidden) (es : List E) (facts : Facts) (crew : ℕ) (alone : Bool) (drawn : Drawn) (out : Option ℕ)
      (laid : List (ℕ × Option S)) (act : Act (Option S))
      → get_elem? s.views id ≡ some v → v.weight ≡ 1 → WasCrew r.made r.live crew → (alone ≡ true → r.live ≡ 1)
      → (alone ≡ true → d.queue.resumes + drawn.own ≡ drawn.all + draws_in facts.found)
      → Turned s r v i x d es facts
      → Shelf primitive.opens r.handed r.live (homes_after s.homes cs act)
      (set s.views id (slotted v facts (r.log ++ es) r.handed crew alone drawn out laid))
      → R (stepped s i x id cs (slotted v facts (r.log ++ es) r.handed crew alone drawn out laid) act)
  advance-on {ahead} s r id cs v i x d es facts crew alone drawn out laid act here one found single knows t shelf =
      let w : View E S = slotted v facts (r.log ++ es) r.handed crew alone drawn out laid in
      let k = r.each_view id v here (omega arith) in
      let own : Has v.number v.own = k.own in
      let mine : Has v.number (all_own v) = has_left v.number v.own v.others own in
      let low : v.number < r.made = k.below v.number mine in
      let P : ℕ → View E S → Type 0 =
      λ j u. 0 < u.weight → Knows object d (r.log ++ es) r.handed r.made r.live passes limit cells_of primitive.opening
      u in
      record {
        hidden = d;
        log = r.log ++ es;
        handed = r.handed;
        made = r.made;
        live = r.live;
        crew = record {
          word = t.crew ∙ r.crew.word;
          some_made = r.crew.some_made;
          few = r.crew.few;
          live_few = r.crew.live_few;
          live_is = let total = total_set weight s.views id v w here in let l = r.crew.live_is in omega arith;
        };
        counters = t.counters;
        cells = t.cells;
        settled = t.settles;
        finals = t.finals;
        all_settled = t.over;
        suits = r.suits;
        counted = counted-set (λ (x : View E S). x.facts.duties) r.segments t.now r.settled t.settles s.views id v w
            here
            t.counts r.counted;
        spares = spares-kept r.slots r.segments t.now s.views id v w here t.same_spares t.same_slots
            r.spares;
        to_leave = leave-set r.segments t.now s.views id v w here t.later.outs t.leaves r.to_leave;
        idle_words = t.idle_words;
        room = t.room;
        door = t.door;
        shown = t.shown;
        each_view = set_all P s.views id w
            (λ live. record {
              sees = record {
                seen = ([], sym (append-nil _));
                other = longer v.other r.log es k.sees.other;
                handed_in = ([], sym (append-nil _));
                other_handed_in = k.sees.other_handed_in;
                mine = λ n h. refl;
                theirs = λ n h. absurd (subst (Has n) (k.light (omega arith)) h);
              };
              below = k.below;
              light = k.light;
              parted = k.parted;
              own = k.own;
              stands = stands-out d v.number facts out t.self;
              resting = λ n h other. rests-on r.hidden d n (λ f. t.others.stands n f other) (k.resting n h other);
              second = λ two. absurd (omega arith);
              crew = found;
              alone = λ a. (single a, one, refl, refl, knows a);
              limit_is = k.limit_is;
              cells_are = k.cells_are;
              passes_are = k.passes_are;
              opening_is = k.opening_is;
              payload_fits = t.payload_fits;
            })
            (λ j u apart e live.
            let knew = r.each_view j u e live in
            others-know object r.hidden d r.log es r.handed r.made r.live passes limit cells_of primitive.opening
            v.number u t.others t.silent
            (λ n h same. apart (r.apart j id u v v.number e here (subst (λ m. Has m (all_own u)) same h) mine))
            (λ a.
            let single = knew.alone a in
            let two = two_of weight s.views j id u v apart e here in
            let l = r.crew.live_is in absurd (omega arith))
            knew);
        apart = still-apart s.views id v w here refl r.apart;
        spent = spent-set s.views id w (omega arith) r.spent;
        unnamed = λ n above. part_more object.names n r.log es (t.silent n (λ same. absurd (omega arith)))
            ∙ r.unnamed n above;
        unused = λ n above few. t.others.stands n (first_facts 0) (λ same. absurd (omega arith)) (r.unused n above few);
        kept = λ n low. still-kept s.views id v w n here refl one (r.kept n low);
        tip = record {
          place = id;
          view = w;
          there = set_there s.views id v w here;
          live = omega arith;
          sees = inl refl;
        };
        shelf = shelf;
        tied = λ k low. tied-on object.gives (length s.homes) ahead r.log es r.handed t.given r.tied k
            (subst (λ n. k < n) (same-homes s.homes cs act) low);
        aware = subst (λ n. AreAware object.gives primitive.opens n (r.log ++ es) (set s.views id w))
            (sym (same-homes s.homes cs act))
            (set_all (λ j u. 0 < u.weight
            → IsAware object.gives primitive.opens (length s.homes) (r.log ++ es) u) s.views id w
            (λ live. aware-whole object.gives primitive.opens (length s.homes) (r.log ++ es) w one refl)
            (λ j u apart e live. t.aware j u e live
            (λ n h same. apart (r.apart j id u v v.number e here (subst (λ m. Has m (all_own u)) same h) mine))
            (r.aware j u e live)));
        slots = r.slots;
        segments = t.now;
        noted = set_all (λ j u. IsPrefix u.seen (r.log ++ es)) s.views id w ([], sym (append-nil _))
            (λ j u apart e. longer u.seen r.log es (r.noted j u e));
        each_segment = set_all (λ j u. KnowsSegments r.slots t.now u) s.views id w
            (let known = knows-later r.slots r.segments t.now v t.later (r.each_segment id v here) in
            record { seen = known.seen; slots_are = known.slots_are; made = known.made })
            (λ j u apart e. knows-later r.slots r.segments t.now u t.later (r.each_segment j u e));
      }

  pub advance : {ahead : ℕ → ℕ} (s : State (Option S) (View E S)) (r : Before ahead s) (id : ℕ)
      (cs : List (ℕ × Option S)) (v : View E S) (i x : ℕ)
      (d : Hidden) (es : List E) (facts : Facts) (crew : ℕ) (alone : Bool) (drawn : Drawn)
      → get_elem? s.views id ≡ some v → v.weight ≡ 1 → WasCrew r.made r.live crew → (alone ≡ true → r.live ≡ 1)
      → (alone ≡ true → d.queue.resumes + drawn.own ≡ drawn.all + draws_in facts.found)
      → Turned s r v i x d es facts
      → R (stepped s i x id cs
      (record (grown v facts (r.log ++ es) r.handed) { crew = crew; alone = alone; drawn = drawn }) keeps)
  advance s r id cs v i x d es facts crew alone drawn here one found single knows t =
      let w : View E S = record (grown v facts (r.log ++ es) r.handed) { crew = crew; alone = alone; drawn = drawn } in
      advance-on s r id cs v i x d es facts crew alone drawn facts.open_slot v.laid keeps here one found single knows t
      (shelf-set primitive.opens r.handed r.live s.homes s.views id v w here (omega arith)
      (record { live = omega arith; laid = refl; keeps = t.slots }) r.shelf)

  -- what the step tells the pass
  pub saw : {ahead : ℕ → ℕ} (s : State (Option S) (View E S)) (r : Before ahead s) (id : ℕ) (v : View E S)
      (es : List E) (facts : Facts)
      → get_elem? s.views id ≡ some v → v.weight ≡ 1 → Saw object v facts es (grown v facts (r.log ++ es) r.handed)
  saw s r id v es facts here one =
      let k = r.each_view id v here (omega arith) in record {
        between = k.sees.seen.0;
        seen = ap (λ l. l ++ es) k.sees.seen.1;
        silent = λ n h. unnamed object.names n v.seen k.sees.seen.0 r.log k.sees.seen.1 (k.sees.mine n h);
        facts_are = refl;
        same = record {
          number = refl;
          weight = refl;
          own = refl;
          crew = refl;
          alone = refl;
          made = refl;
          drawn = refl;
          limit = refl;
          cells = refl;
          slots = refl;
          passes = refl;
          opening = refl;
          segments = sees-same v.segments;
        };
        handed = k.sees.handed_in;
        unlaid = λ j bare. bare;
        sole = λ a. nothing_more v.seen k.sees.seen.0 ((k.alone a).2 ∙ k.sees.seen.1);
      }

  -- what holds of its view, as of each live pass's
  pub live : {ahead : ℕ → ℕ} (s : State (Option S) (View E S)) (r : Before ahead s) (id : ℕ) (v : View E S)
      (es : List E) (facts : Facts)
      → get_elem? s.views id ≡ some v → 0 < v.weight → object.legal primitive.opening (r.log ++ es)
      → NamesOnly object.names v.number es
      → facts.has.held < 2 ^ 32 → facts.has.held ≤ object.most primitive.opening
      → object.knows primitive.opening facts.has
      → number_at facts.doing < cells_of → ((n : ℕ) → Has n facts.waits → n < cells_of)
      → IsDistinct facts.waits → length facts.waits < longest_line → facts.has.payload < 2 ^ 20
      → IsLive object (grown v facts (r.log ++ es) r.handed)
  live s r id v es facts here alive legal silent fits most known inside waits once short owed =
      let k = r.each_view id v here alive in
      let mine : Has v.number (all_own v) = has_left v.number v.own v.others k.own in
      let low : v.number < r.made = k.below v.number mine in
      let few = r.crew.few in record {
        legal = subst (λ z. object.legal z (r.log ++ es)) (sym k.opening_is) legal;
        unnamed = λ n above.
            let passes_are = k.passes_are in
            part_more object.names n r.log es (silent n (λ same. absurd (omega arith))) ∙ r.unnamed n (omega arith);
        own = k.own;
        held = fits;
        few = subst (λ z. facts.has.held ≤ object.most z) (sym k.opening_is) most;
        known = subst (λ z. object.knows z facts.has) (sym k.opening_is) known;
        inside = is-inside (grown v facts (r.log ++ es) r.handed) cells_of k.cells_are inside waits once short owed
            (r.each_segment id v here).made;
      }
