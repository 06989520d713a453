-- The passes of the rounds of two workers meet, round by round, and how the rounds stand once all have.
use Rattle.std.proofs.Common.{◌≡◌, ◌⊎◌, inl, inr, ℕ, zero, suc, ◌+◌, ◌<◌, ◌≤◌, Bool, true, false, cond, List, [], ◌∷◌, ◌++◌, count_by, drop, length, map, slice_get, slice_index_or, Some, refl, ap, sym, ◌∙◌, subst, arith, eq-eqb, ne_eqb}
use Rattle.std.specs.Arc.{arc_value}
use Rattle.std.proofs.lemmas.List.{length-map}
use Rattle.cqs_barrier.specs.Calls.{IsMine}
use Rattle.cqs_barrier_object.specs.declared.entries.BarrierEntry.{BarrierEntry}
use Rattle.cqs_barrier_object.specs.BarrierEntries.{IsLegal}
use Rattle.cqs_barrier_object.specs.BarrierNames.{entry_names}
use Rattle.cqs_core.specs.Numbered.{EachAt}
use Rattle.cqs_core.specs.Parts.{Has, IsPrefix, part}
use Rattle.cqs_core.proofs.Places.{get-below, get-there}
use Rattle.cqs_plan.specs.declared.plans.kind.Kind.{Kind}
use Rattle.cqs_plan.specs.declared.floors.answers.FloorEnd.TheVariants as end
use Rattle.cqs_plan.specs.Floor.{size_of}
use Rattle.cqs_plan.specs.FloorHistory.{ending, entries_in, is_over, of_rounds}
use Rattle.cqs_rule_laws.specs.declared.view.Facts.{Facts}
use Rattle.cqs_rule_laws.specs.declared.view.Opening.{Opening}
use Rattle.cqs_rule_laws.specs.declared.view.View.{View}
use Rattle.cqs_floor_shared.specs.Entries.{are_nothing, is_nothing, own_history}
use Rattle.cqs_floor_shared_any.specs.declared.kinds.round.SharedRound.{SharedRound}
use Rattle.cqs_floor_shared_any.specs.declared.kinds.rounds.SharedRounds.{SharedRounds}
use Rattle.cqs_floor_shared_kinds.specs.Accounts.{over}
use Rattle.cqs_floor_shared_kinds.specs.Families.{queue_name}
use Rattle.cqs_floor_shared_any.specs.RoundsOne.{Crew, HasTakenIn, IsRound, lasts, numbers_of, to_arrive, view_of}
use Rattle.cqs_floor_shared_any.specs.RoundsShares.{IsFunded, IsOfRounds, crew_at, crew_in, crew_of, held_in, held_of, name_of, seen_in, seen_of, share_rounds, waits_of}
use Rattle.cqs_floor_shared_kinds.specs.Runs.{WaitsAt}
use Rattle.cqs_floor_shared_kinds.specs.Shares.{IsLawful, join_held}
use Rattle.cqs_floor_shared_kinds.specs.ShareCalls.{CanMeet, CanTell, Meets}
use Rattle.cqs_floor_shared_kinds.proofs.Accounts.{over-both, over-parts}
use Rattle.cqs_floor_shared_kinds.proofs.Families.{name-same}
use Rattle.cqs_floor_shared_any.proofs.RoundsHistory.{none-last, stays-over}
use Rattle.cqs_floor_shared_any.proofs.RoundsLists.{at-either, map-at, map-same, map-there, past-is, sum-same}
use Rattle.cqs_floor_shared_any.proofs.RoundsShares.{rounds-history}
use Rattle.cqs_barrier.specs.Barrier.{barrier_object}
use Rattle.cqs_rule_laws.proofs.Places.{goes-met}
use Rattle.cqs_floor_shared_kinds.proofs.Runs.{distinct-both, waits-next}
use Rattle.cqs_floor_shared_any.proofs.RoundsMetSoFar.{same-some}

-- both have as many rounds
pub as-many : (x given : SharedRounds) → CanMeet share_rounds given x
    → length given.rounds.items ≡ length x.rounds.items
as-many x given can =
    let same = ap (λ (l : List (List ℕ)). length l) can.family in
    sym (length-map given.rounds.items name_of) ∙ same
    ∙ length-map x.rounds.items name_of

-- the numbers of both
abbrev both : Crew → Crew → Crew
both crew theirs = record crew { met = crew.met ++ numbers_of theirs }

-- what a meet leaves of one round
module _ (parties : ℕ) (crew theirs : Crew) (r g s : SharedRound) (round : IsRound parties crew r)
    (given : IsRound parties theirs g)
    (apart : (n : ℕ) → Has n (numbers_of crew) → Has n (numbers_of theirs) → ⊥) (taken : HasTakenIn g r s) where
  abbrev v : View BarrierEntry (Unit {0})
  v = view_of r

  abbrev u : View BarrierEntry (Unit {0})
  u = view_of g

  abbrev w : View BarrierEntry (Unit {0})
  w = view_of s

  own-both : w.own ≡ numbers_of (both crew theirs)
  own-both = taken.met.own_is ∙ (λ j. round.own j ++ given.own j)

  mine-kept : (n : ℕ) → Has n (numbers_of crew) → part entry_names n w.seen ≡ part entry_names n v.seen
  mine-kept n has = taken.met.mine n (subst (Has n) (sym round.own) has)

  theirs-kept : (n : ℕ) → Has n (numbers_of theirs) → part entry_names n w.seen ≡ part entry_names n u.seen
  theirs-kept n has = taken.met.theirs n (subst (Has n) (sym given.own) has)

  waits-kept : w.facts.waits ≡ v.facts.waits
  waits-kept = ap (λ (f : Facts). f.waits) taken.met.facts_are

  size-kept : w.opening.size ≡ parties
  size-kept = ap (λ (o : Opening). o.size) taken.met.opening ∙ round.size_is

  legal-then : IsLegal parties w.seen
  legal-then = subst (λ n. IsLegal n w.seen) size-kept taken.mine.live.legal

  crew-both : crew_at s ≡ both crew theirs
  crew-both = λ j. record {
    number = (taken.met.number ∙ round.number) j;
    met = drop 1 (own-both j);
    passes = (taken.met.passes ∙ round.passes) j;
    limit = (taken.met.limit ∙ round.limit) j;
  }

  name-kept : queue_name s.pass ≡ queue_name r.pass
  name-kept = name-same r.pass s.pass (taken.mine.table ∙ sym round.mine.table) taken.met.passes taken.met.limit
      taken.met.cells taken.met.opening

  round-both : IsRound parties (both crew theirs) s
  round-both = record {
    mine = subst (λ b. IsMine (arc_value b) s.pass) (sym taken.same_one) taken.mine;
    size_is = size-kept;
    ready = taken.ready;
    number = taken.met.number ∙ round.number;
    own = own-both;
    distinct = distinct-both (numbers_of crew) (numbers_of theirs) round.distinct given.distinct apart;
    passes = taken.met.passes ∙ round.passes;
    limit = taken.met.limit ∙ round.limit;
    told = λ is. told (taken.told is);
    untold = λ is.
        let neither = taken.untold is in
        let one = round.untold neither.0 in
        let other = given.untold neither.1 in
        omega (
          arith,
          over-both entry_names lasts (numbers_of crew) (numbers_of theirs) w.seen,
          over-parts entry_names lasts (numbers_of crew) v.seen w.seen mine-kept,
          over-parts entry_names lasts (numbers_of theirs) u.seen w.seen theirs-kept,
          one,
          other,
        );
  }
    where
      told : (r.over ≡ true) ⊎ (g.over ≡ true) → to_arrive parties w.seen ≡ 0
      told (inl was) =
          stays-over parties v.seen taken.met.prefix.0 w.seen taken.met.prefix.1 legal-then (round.told was)
      told (inr was) =
          stays-over parties u.seen taken.met.prefix_other.0 w.seen taken.met.prefix_other.1 legal-then (given.told was)

crew-both-all : (crew theirs : Crew) (xs ys gs : List SharedRound) → length ys ≡ length xs → length gs ≡ length xs
    → ((n : ℕ) → Has n (numbers_of (crew_in xs)) → Has n (numbers_of (crew_in gs)) → ⊥)
    → ((i : ℕ) (r g s : SharedRound) → slice_get xs i ≡ Some r → slice_get gs i ≡ Some g → slice_get ys i ≡ Some s
    → crew_at s ≡ both crew theirs) → crew_in ys ≡ both crew theirs
crew-both-all crew theirs [] ys [] long long' apart each = absurd (apart 0 (inl refl) (inl refl))
crew-both-all crew theirs [] ys (g ∷ gs) long long' apart each = absurd (cc)
crew-both-all crew theirs (r ∷ xs) [] gs long long' apart each = absurd (cc)
crew-both-all crew theirs (r ∷ xs) (s ∷ ys) [] long long' apart each = absurd (cc)
crew-both-all crew theirs (r ∷ xs) (s ∷ ys) (g ∷ gs) long long' apart each = each 0 r g s refl refl refl

module _ (x given y : SharedRounds) (long : length given.rounds.items ≡ length x.rounds.items)
    (many : length y.rounds.items ≡ length x.rounds.items)
    (called : (i : ℕ) (r g s : SharedRound) → slice_get x.rounds.items i ≡ Some r
    → slice_get given.rounds.items i ≡ Some g → slice_get y.rounds.items i ≡ Some s → HasTakenIn g r s) where
  abbrev xs : List SharedRound
  xs = x.rounds.items

  abbrev gs : List SharedRound
  gs = given.rounds.items

  abbrev ys : List SharedRound
  ys = y.rounds.items

  -- the three of one round
  pub record Three (i : ℕ) : Type 0 where
    pub r : SharedRound
    pub g : SharedRound
    pub s : SharedRound
    pub old : slice_get xs i ≡ Some r
    pub theirs : slice_get gs i ≡ Some g
    pub now : slice_get ys i ≡ Some s

  three : (i : ℕ) → i < length xs → Three i
  three i low =
      let a = get-there xs i low in
      let b = get-there gs i (omega (arith, low, long)) in
      let c = get-there ys i (omega (arith, low, many)) in
      record { r = a.0; g = b.0; s = c.0; old = a.1; theirs = b.1; now = c.1 }

  three-or : (i : ℕ) → Three i ⊎ (length xs ≤ i)
  three-or i = go (at-either xs i)
    where
      go : ((r : SharedRound) × (slice_get xs i ≡ Some r)) ⊎ (length xs ≤ i) → Three i ⊎ (length xs ≤ i)
      go (inl (r, there)) = inl (three i (get-below xs i r there))
      go (inr past) = inr past

  pub rounds-meet : Meets share_rounds given x y
  rounds-meet a b funded theirs same_kind waitless all_seen family apart =
      let size : ℕ = size_of (Some a.kind) in
      let met : (i : ℕ) (t : Three i) → IsRound size (both (crew_of x) (crew_of given)) t.s
      = λ i t. round-both size (crew_of x) (crew_of given) t.r t.g t.s (mine i t) (their i t) apart
      (called i t.r t.g t.s t.old t.theirs t.now) in
      let crew : crew_in ys ≡ both (crew_of x) (crew_of given)
      = crew-both-all (crew_of x) (crew_of given) xs ys gs many long apart (λ i r g s old their_one now.
      crew-both size (crew_of x) (crew_of given) r g s (funded.each.at i r old)
      (subst (λ k. IsRound (size_of (Some k)) (crew_of given) g) same_kind (theirs.each.at i g their_one)) apart
      (called i r g s old their_one now)) in
      let funded' : IsFunded y (record a { held = join_held a.held b.held })
      = record {
        sort = subst (IsOfRounds a.kind) (sym many) funded.sort;
        few = subst (λ n. n ≤ 64) (sym many) funded.few;
        some = funded.some;
        none_came = funded.none_came;
        each = subst (λ c. EachAt (λ i z. IsRound size c z) ys) (sym crew) (record {
          at = λ i s now.
              let t = three i (let low = get-below ys i s now in omega (arith, low, many)) in
              subst (λ z. IsRound size (both (crew_of x) (crew_of given)) z) (same-some (sym t.now ∙ now)) (met i t);
        });
        waits_are = sum-same waits_of waits_of ys xs many (λ i s r now old.
            let t = three i (get-below xs i r old) in
            let same = kept i t in
            ap waits_of (same-some (sym now ∙ t.now)) ∙ ap (λ (l : List ℕ). length l) same
            ∙ ap waits_of (same-some (sym t.old ∙ old))) ∙ funded.waits_are;
      } in
      record {
        staying = λ i. staying i (three-or i);
        coming = λ i. coming i (three-or i);
        legal = rounds-history y (record a { held = join_held a.held b.held }) funded';
        mine = λ n has. ap of_rounds (mine-same n has);
        theirs = λ n has. ap of_rounds (theirs-same n has);
        number = ap (λ (c : Crew). c.number) crew;
        met = ap (λ (c : Crew). c.met) crew;
        passes = ap (λ (c : Crew). c.passes) crew;
        limit = ap (λ (c : Crew). c.limit) crew;
        family = map-same name_of name_of ys xs many
            (λ i s r now old.
            let t = three i (get-below xs i r old) in
            ap name_of (same-some (sym now ∙ t.now))
            ∙ name-kept size (crew_of x) (crew_of given) t.r t.g t.s (mine i t) (their i t) apart
            (called i t.r t.g t.s t.old t.theirs t.now)
            ∙ ap name_of (same-some (sym t.old ∙ old)));
        parties = λ i. parties i (three-or i);
        funded = funded';
        keeps = λ i wait has.
            let t = three i (get-below xs i has.one has.there) in
            let on = subst (λ z. WaitsAt (view_of z) wait)
            (same-some (sym has.there ∙ t.old)) has.waits in
            record {
              one = t.s;
              there = t.now;
              waits = waits-next (view_of t.r) (view_of t.s) wait
                  (goes-met barrier_object _ _ _ _ _ _ (called i t.r t.g t.s t.old t.theirs t.now).met) on
                  (subst (Has wait.index) (sym (kept i t)) on.open_yet);
            };
      }
    where
      mine : (i : ℕ) (t : Three i) → IsRound (size_of (Some a.kind)) (crew_of x) t.r
      mine i t = funded.each.at i t.r t.old

      their : (i : ℕ) (t : Three i) → IsRound (size_of (Some a.kind)) (crew_of given) t.g
      their i t =
          subst (λ k. IsRound (size_of (Some k)) (crew_of given) t.g) same_kind (theirs.each.at i t.g t.theirs)

      kept : (i : ℕ) (t : Three i) → (view_of t.s).facts.waits ≡ (view_of t.r).facts.waits
      kept i t = waits-kept (size_of (Some a.kind)) (crew_of x) (crew_of given) t.r t.g t.s (mine i t) (their i t) apart
          (called i t.r t.g t.s t.old t.theirs t.now)

      none-past : (zs : List SharedRound) (i : ℕ) → length zs ≤ i → entries_in (seen_in zs) i ≡ []
      none-past zs i past =
          let low = length-map zs seen_of in
          past-is (seen_in zs) i [] (omega (arith, low, past))

      prefix-by : (h k h' k' : List BarrierEntry) → h' ≡ h → k' ≡ k → IsPrefix h k → IsPrefix h' k'
      prefix-by h k h' k' one two before =
          subst (λ l. IsPrefix l k') (sym one) (subst (λ l. IsPrefix h l) (sym two) before)

      staying : (i : ℕ) → Three i ⊎ (length xs ≤ i) → IsPrefix (entries_in (seen_in xs) i) (entries_in (seen_in ys) i)
      staying i (inl t) =
          prefix-by _ _ _ _ (map-at seen_of xs i t.r [] t.old)
          (map-at seen_of ys i t.s [] t.now)
          (called i t.r t.g t.s t.old t.theirs t.now).met.prefix
      staying i (inr past) =
          prefix-by [] [] _ _ (none-past xs i past) (none-past ys i (omega (arith, past, many))) ([], refl)

      coming : (i : ℕ) → Three i ⊎ (length xs ≤ i) → IsPrefix (entries_in (seen_in gs) i) (entries_in (seen_in ys) i)
      coming i (inl t) =
          prefix-by _ _ _ _ (map-at seen_of gs i t.g [] t.theirs)
          (map-at seen_of ys i t.s [] t.now)
          (called i t.r t.g t.s t.old t.theirs t.now).met.prefix_other
      coming i (inr past) =
          prefix-by [] [] _ _ (none-past gs i (omega (arith, past, long))) (none-past ys i (omega (arith, past, many)))
          ([], refl)

      seen-there : (zs : List SharedRound) (i : ℕ) (z : SharedRound) (h : List BarrierEntry) → slice_get zs i ≡ Some z
          → slice_get (seen_in zs) i ≡ Some h → h ≡ (view_of z).seen
      seen-there zs i z h there got =
          same-some (sym got ∙ map-there seen_of zs i z there)

      below-seen : (zs : List SharedRound) (i : ℕ) (h : List BarrierEntry) → slice_get (seen_in zs) i ≡ Some h
          → i < length zs
      below-seen zs i h got =
          let low = get-below (seen_in zs) i h got in
          let same = length-map zs seen_of in omega (arith, low, same)

      mine-same : (n : ℕ) → Has n (numbers_of (crew_of x)) → map (part entry_names n) (seen_in ys)
          ≡ map (part entry_names n) (seen_in xs)
      mine-same n has =
          map-same (part entry_names n) (part entry_names n) (seen_in ys) (seen_in xs)
          (length-map ys seen_of ∙ many
          ∙ sym (length-map xs seen_of))
          (λ i h k now old.
          let t = three i (below-seen xs i k old) in
          ap (part entry_names n) (seen-there ys i t.s h t.now now)
          ∙ mine-kept (size_of (Some a.kind)) (crew_of x) (crew_of given) t.r t.g t.s (mine i t) (their i t) apart
          (called i t.r t.g t.s t.old t.theirs t.now) n has
          ∙ ap (part entry_names n) (sym (seen-there xs i t.r k t.old old)))

      theirs-same : (n : ℕ) → Has n (numbers_of (crew_of given)) → map (part entry_names n) (seen_in ys)
          ≡ map (part entry_names n) (seen_in gs)
      theirs-same n has =
          map-same (part entry_names n) (part entry_names n) (seen_in ys) (seen_in gs)
          (length-map ys seen_of ∙ many ∙ sym long
          ∙ sym (length-map gs seen_of))
          (λ i h k now old.
          let low = below-seen gs i k old in
          let t = three i (omega (arith, low, long)) in
          ap (part entry_names n) (seen-there ys i t.s h t.now now)
          ∙ theirs-kept (size_of (Some a.kind)) (crew_of x) (crew_of given) t.r t.g t.s (mine i t) (their i t) apart
          (called i t.r t.g t.s t.old t.theirs t.now) n has
          ∙ ap (part entry_names n) (sym (seen-there gs i t.g k t.theirs old)))

      parties : (i : ℕ) → Three i ⊎ (length xs ≤ i)
          → slice_index_or (held_in ys) i 0 ≡ slice_index_or (held_in xs) i 0 + slice_index_or (held_in gs) i 0
      parties i (inl t) =
          let old = map-at held_of xs i t.r 0 t.old in
          let got = map-at held_of gs i t.g 0 t.theirs in
          let now = map-at held_of ys i t.s 0 t.now in
          let sum = (called i t.r t.g t.s t.old t.theirs t.now).held in
          omega (arith, sum, old, got, now)
      parties i (inr past) =
          let low = length-map xs held_of in
          let low' = length-map gs held_of in
          let low'' = length-map ys held_of in
          let old = past-is (held_in xs) i 0 (omega (arith, low, past)) in
          let got = past-is (held_in gs) i 0 (omega (arith, low', long, past)) in
          let now = past-is (held_in ys) i 0 (omega (arith, low'', many, past)) in
          omega (arith, old, got, now)

-- nothing of a round's history names n
pub none-named : (n : ℕ) (hs : List (List BarrierEntry)) → are_nothing (map (part entry_names n) hs) ≡ true
    → (i : ℕ) (h : List BarrierEntry) → slice_get hs i ≡ Some h → part entry_names n h ≡ []
none-named n [] nothing i h got = absurd (cc)
none-named n (k ∷ hs) nothing zero h got =
    let is : k ≡ h = cc in
    subst (λ l. part entry_names n l ≡ []) is (first (part entry_names n k) (map (part entry_names n) hs) nothing)
  where
    first : (p : List BarrierEntry) (ps : List (List BarrierEntry)) → are_nothing (p ∷ ps) ≡ true → p ≡ []
    first [] ps none = refl
    first (e ∷ es) ps none = absurd (cc)
none-named n (k ∷ hs) nothing (suc i) h got =
    none-named n hs (rest (part entry_names n k) (map (part entry_names n) hs) nothing) i h got
  where
    rest : (p : List BarrierEntry) (ps : List (List BarrierEntry)) → are_nothing (p ∷ ps) ≡ true
        → are_nothing ps ≡ true
    rest [] ps none = none
    rest (e ∷ es) ps none = absurd (cc)

all-nothing : (n : ℕ) (hs : List (List BarrierEntry))
    → ((i : ℕ) (h : List BarrierEntry) → slice_get hs i ≡ Some h → part entry_names n h ≡ [])
    → are_nothing (map (part entry_names n) hs) ≡ true
all-nothing n [] none = refl
all-nothing n (h ∷ hs) none =
    let rest = all-nothing n hs (λ i k there. none (suc i) k there) in
    rw (none 0 h refl) rest

-- a test of each comes to the same
counted-same : {X Y : Type 0} (p : X → Bool) (q : Y → Bool) (xs : List X) (ys : List Y) → length xs ≡ length ys
    → ((i : ℕ) (x : X) (y : Y) → slice_get xs i ≡ Some x → slice_get ys i ≡ Some y → p x ≡ q y)
    → count_by p xs ≡ count_by q ys
counted-same p q xs ys long each =
    sum-same (λ x. cond (p x) 1 0) (λ y. cond (q y) 1 0) xs ys long
    (λ i x y there here. ap (λ b. cond b 1 0) (each i x y there here))

-- how the rounds stand once all workers have met
pub rounds-end : (x : SharedRounds) (k : Kind) (n : ℕ) → n ≡ count_by (λ (r : SharedRound). r.over) x.rounds.items
    → CanTell share_rounds k x → end.Rounds n ≡ ending (size_of (Some k)) (share_rounds.seen x)
rounds-end x k n is can =
    let all = counted-same (λ (r : SharedRound). r.over) (is_over (size_of (Some k))) x.rounds.items
    (seen_in x.rounds.items)
    (sym (length-map x.rounds.items seen_of)) (λ i r h there got.
    one i r h there (same-some (sym (map-there seen_of x.rounds.items i r there) ∙ got))) in
    ap (λ m. end.Rounds m) (is ∙ all)
  where
    named : (m i : ℕ) (r : SharedRound) → slice_get x.rounds.items i ≡ Some r
        → (is_nothing (own_history m (share_rounds.seen x)) ≡ true) ⊎ Has m (numbers_of (crew_of x))
        → (part entry_names m (view_of r).seen ≡ []) ⊎ Has m (numbers_of (crew_of x))
    named m i r there (inl nothing) =
        inl (none-named m (seen_in x.rounds.items) nothing i (view_of r).seen
        (map-there seen_of x.rounds.items i r there))
    named m i r there (inr has) = inr has

    judged : (i : ℕ) (r : SharedRound) (b : Bool) → slice_get x.rounds.items i ≡ Some r → r.over ≡ b
        → b ≡ is_over (size_of (Some k)) (view_of r).seen
    judged i r true there over =
        let round = can.funded.each.at i r there in
        let none = round.told over in
        sym (eq-eqb (to_arrive (size_of (Some k)) (view_of r).seen) 0
        (subst (λ j. to_arrive (size_of (Some j)) (view_of r).seen ≡ 0) can.kind_is none))
    judged i r false there over =
        let round = can.funded.each.at i r there in
        let legal = subst (λ m. IsLegal m (view_of r).seen) round.size_is round.mine.live.legal in
        let yet = none-last (size_of (Some can.a.kind)) (numbers_of (crew_of x)) (view_of r).seen can.funded.some legal
        round.distinct (λ m. named m i r there (can.whole m)) (round.untold over) in
        let yet' : 0 < to_arrive (size_of (Some k)) (view_of r).seen
        = subst (λ j. 0 < to_arrive (size_of (Some j)) (view_of r).seen) can.kind_is yet in
        sym (ne_eqb (to_arrive (size_of (Some k)) (view_of r).seen) 0 (λ none. absurd (omega (arith, yet', none))))

    one : (i : ℕ) (r : SharedRound) (h : List BarrierEntry) → slice_get x.rounds.items i ≡ Some r → (view_of r).seen ≡ h
        → r.over ≡ is_over (size_of (Some k)) h
    one i r h there same = judged i r r.over there refl ∙ ap (is_over (size_of (Some k))) same

-- what every call relies on of such a resource
pub rounds-lawful : IsLawful share_rounds
rounds-lawful = record {
  legal = rounds-history;
  unnamed = λ x a funded n many.
      all-nothing n (seen_in x.rounds.items) (λ i h got.
      let low = get-below (seen_in x.rounds.items) i h got in
      let same = length-map x.rounds.items seen_of in
      let there = get-there x.rounds.items i (omega (arith, low, same)) in
      let round = funded.each.at i there.0 there.1 in
      let is : (view_of there.0).seen ≡ h
      = same-some (sym (map-there seen_of x.rounds.items i there.0 there.1) ∙ got) in
      subst (λ l. part entry_names n l ≡ []) is
      (round.mine.live.unnamed n (subst (λ p. p ≤ n) (sym round.passes) many)));
  held = λ x a funded. absurd (let none = funded.none_came in omega (arith, none));
  found = λ x a job funded there. absurd (let none = funded.none_came in omega (arith, none));
}
