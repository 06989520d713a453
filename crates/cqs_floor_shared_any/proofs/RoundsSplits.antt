-- The passes of the rounds that workers share make others, one of each round.
use Rattle.std.proofs.Common.{◌≡◌, ◌≢◌, ◌⊎◌, inl, inr, ℕ, zero, suc, ◌+◌, ◌<◌, ◌≤◌, ◌&&◌, Bool, true, false, List, [], ◌∷◌, ◌++◌, drop, length, map, set, slice_get, slice_index_or, replicate, Some, refl, ap, sym, ◌∙◌, ◌==◌, subst, arith}
use Rattle.std.specs.Arc.{arc_value}
use Rattle.std.specs.List.{list_all}
use Rattle.std.proofs.lemmas.Bool.{cases_eq, eqb-true, false≢true}
use Rattle.std.proofs.lemmas.List.{append-nil, length-map, length-set, length_push}
use Rattle.std.proofs.lemmas.List.Elements.{filter-append}
use Rattle.cqs_barrier.specs.Calls.{IsMine}
use Rattle.cqs_barrier_object.specs.declared.entries.BarrierEntry.{BarrierEntry}
use Rattle.cqs_barrier_object.specs.BarrierEntries.{IsLegal}
use Rattle.cqs_barrier_object.specs.BarrierNames.{entry_names}
use Rattle.cqs_core.specs.Numbered.{EachAt}
use Rattle.cqs_core.specs.Parts.{Has, IsPrefix, part}
use Rattle.cqs_core.proofs.Places.{get-append_below, get-below, get-push_at, get-set_else, get-set_here, get-there}
use Rattle.cqs_plan.specs.Floor.{size_of}
use Rattle.cqs_plan.specs.FloorHistory.{entries_in, of_rounds}
use Rattle.cqs_rule_laws.specs.declared.view.Facts.{Facts}
use Rattle.cqs_rule_laws.specs.declared.view.Has.{Has as OwnHas}
use Rattle.cqs_rule_laws.specs.declared.view.Opening.{Opening}
use Rattle.cqs_rule_laws.specs.declared.view.View.{View}
use Rattle.cqs_rule_laws.specs.Hidden.{has_less}
use Rattle.cqs_rule_laws.specs.Lists.{IsDistinct}
use Rattle.cqs_floor_shared.specs.Entries.{are_nothing}
use Rattle.cqs_floor_shared_any.specs.declared.kinds.round.SharedRound.{SharedRound}
use Rattle.cqs_floor_shared_any.specs.declared.kinds.rounds.SharedRounds.{SharedRounds}
use Rattle.cqs_floor_shared_kinds.specs.Accounts.{over}
use Rattle.cqs_floor_shared_kinds.specs.Families.{queue_name}
use Rattle.cqs_floor_shared_any.specs.RoundsOne.{CanGive, Crew, HasSplitOff, IsRound, lasts, numbers_of, view_of}
use Rattle.cqs_floor_shared_any.specs.RoundsShares.{IsFunded, IsOfRounds, crew_at, crew_in, crew_of, held_in, held_of, name_of, names_in, seen_in, seen_of, share_rounds, waits_of}
use Rattle.cqs_floor_shared_kinds.specs.ShareCalls.{CanSplit, HasSplit}
use Rattle.cqs_floor_shared_kinds.proofs.Accounts.{over-none, over-parts}
use Rattle.cqs_floor_shared_kinds.proofs.Families.{name-same}
use Rattle.cqs_floor_shared_any.proofs.RoundsHistory.{stays-over}
use Rattle.cqs_floor_shared_any.proofs.RoundsLists.{at-either, map-all, map-at, map-same, map-there, past-is, sum-none, sum-same}
use Rattle.cqs_floor_shared_any.proofs.RoundsShares.{rounds-history}
use Rattle.cqs_barrier.specs.Barrier.{barrier_object}
use Rattle.cqs_rule_laws.proofs.Places.{goes-looked}
use Rattle.cqs_floor_shared_kinds.proofs.Runs.{waits-next}

less-held : (n : ℕ) (h : OwnHas) → n ≤ h.held → (has_less n h).held + n ≡ h.held
less-held zero h enough = omega arith
less-held (suc n) h enough = omega (arith, enough)

less-further : (n : ℕ) (h : OwnHas) → (has_less n h).further ≡ h.further
less-further zero h = refl
less-further (suc n) h = refl

-- Passes were made in the first rounds; those of the others are as they were.
pub record SplitSoFar (gives n : ℕ) (xs made ys : List SharedRound) : Type 0 where
  pub many : length ys ≡ length xs
  pub made_many : length made ≡ n
  pub called : (i : ℕ) (r m s : SharedRound) → slice_get xs i ≡ Some r → slice_get made i ≡ Some m
      → slice_get ys i ≡ Some s → HasSplitOff gives r m s
  pub behind : (i : ℕ) → n ≤ i → slice_get ys i ≡ slice_get xs i

same-some : {X : Type 0} {p q : X} → Some p ≡ Some q → p ≡ q
same-some same = cc

pub split-none : (gives : ℕ) (xs made : List SharedRound) → made ≡ [] → SplitSoFar gives 0 xs made xs
split-none gives xs made none = record {
  many = refl;
  made_many = ap (λ (l : List SharedRound). length l) none;
  called = λ i r m s there new here.
      let low = get-below made i m new in
      let zero_is = ap (λ (l : List SharedRound). length l) none in
      absurd (omega (arith, low, zero_is));
  behind = λ i low. refl;
}

pub split-more : (gives n : ℕ) (xs made ys : List SharedRound) (r m s : SharedRound) → SplitSoFar gives n xs made ys
    → slice_get ys n ≡ Some r → HasSplitOff gives r m s
    → SplitSoFar gives (n + 1) xs (made ++ m ∷ []) (set ys n s)
split-more gives n xs made ys r m s was there split = record {
  many = length-set ys n s ∙ was.many;
  made_many = length_push made m ∙ ap (λ k. k + 1) was.made_many;
  called = λ i a b c old new now. go i a b c old new now (cases_eq i n);
  behind = λ i high.
      get-set_else ys n i s (λ same. absurd (omega (arith, same, high))) ∙ was.behind i (omega (arith, high));
}
  where
    first : slice_get xs n ≡ Some r
    first = sym (was.behind n (omega arith)) ∙ there

    go : (i : ℕ) (a b c : SharedRound) → slice_get xs i ≡ Some a → slice_get (made ++ m ∷ []) i ≡ Some b
        → slice_get (set ys n s) i ≡ Some c → (i ≡ n) ⊎ (i ≢ n) → HasSplitOff gives a b c
    go i a b c old new now (inl same) =
        let one : r ≡ a = same-some (sym first ∙ ap (slice_get xs) (sym same) ∙ old) in
        let two : m ≡ b = same-some (sym (get-push_at made m i (same ∙ sym was.made_many)) ∙ new) in
        let three : s ≡ c
        = same-some (sym (get-set_here ys n r s there) ∙ ap (slice_get (set ys n s)) (sym same) ∙ now) in
        subst (λ z. HasSplitOff gives z b c) one (subst (λ z. HasSplitOff gives r z c) two
        (subst (λ z. HasSplitOff gives r m z) three split))
    go i a b c old new now (inr other) =
        let long = length_push made m in
        let high = get-below (made ++ m ∷ []) i b new in
        let some = was.made_many in
        let low : i < length made = omega (arith, long, high, other, some) in
        was.called i a b c old (sym (get-append_below made (m ∷ []) i low) ∙ new)
        (sym (get-set_else ys n i s (λ same. other (sym same))) ∙ now)

-- where the next one may be made
pub may-give : (gives n : ℕ) (x : SharedRounds) (made ys : List SharedRound) (r : SharedRound)
    → CanSplit share_rounds gives x → SplitSoFar gives n x.rounds.items made ys → slice_get ys n ≡ Some r
    → CanGive gives r
may-give gives n x made ys r can was there =
    let old : slice_get x.rounds.items n ≡ Some r = sym (was.behind n (omega arith)) ∙ there in
    record {
      parties = size_of (Some can.a.kind);
      crew = crew_of x;
      round = can.funded.each.at n r old;
      enough = can.enough n (view_of r).facts.has.held
          (map-there held_of x.rounds.items n r old);
    }

-- what a split leaves of one round
module _ (gives parties : ℕ) (crew : Crew) (r m s : SharedRound) (round : IsRound parties crew r)
    (enough : gives ≤ (view_of r).facts.has.held) (split : HasSplitOff gives r m s) where
  abbrev v : View BarrierEntry (Unit {0})
  v = view_of r

  abbrev u : View BarrierEntry (Unit {0})
  u = view_of m

  abbrev w : View BarrierEntry (Unit {0})
  w = view_of s

  grown : w.seen ≡ v.seen ++ split.gave.between
  grown = split.gave.seen ∙ append-nil (v.seen ++ split.gave.between)

  size-kept : w.opening.size ≡ parties
  size-kept = ap (λ (o : Opening). o.size) split.gave.same.opening ∙ round.size_is

  own-kept : (n : ℕ) → Has n (numbers_of crew) → part entry_names n w.seen ≡ part entry_names n v.seen
  own-kept n has =
      let none = split.gave.silent n (subst (Has n) (sym round.own) has) in
      ap (part entry_names n) grown ∙ filter-append (entry_names n) v.seen split.gave.between
      ∙ ap (λ es. part entry_names n v.seen ++ es) none ∙ append-nil (part entry_names n v.seen)

  waits-kept : w.facts.waits ≡ v.facts.waits
  waits-kept = ap (λ (f : Facts). f.waits) split.gave.facts_are

  crew-kept-there : crew_at s ≡ crew_at r
  crew-kept-there = λ j. record {
    number = split.gave.same.number j;
    met = drop 1 (split.gave.same.own j);
    passes = split.gave.same.passes j;
    limit = split.gave.same.limit j;
  }

  name-kept : queue_name s.pass ≡ queue_name r.pass
  name-kept = name-same r.pass s.pass (split.mine.table ∙ sym round.mine.table) split.gave.same.passes
      split.gave.same.limit split.gave.same.cells split.gave.same.opening

  legal-then : IsLegal parties w.seen
  legal-then = subst (λ n. IsLegal n w.seen) size-kept split.mine.live.legal

  round-kept : IsRound parties crew s
  round-kept = record {
    mine = subst (λ b. IsMine (arc_value b) s.pass) (sym split.same_one) split.mine;
    size_is = size-kept;
    ready = record {
      idle = ap (λ (f : Facts). f.doing) split.gave.facts_are ∙ round.ready.idle;
      further = ap (λ (f : Facts). f.has.further) split.gave.facts_are ∙ less-further gives v.facts.has
          ∙ round.ready.further;
    };
    number = split.gave.same.number ∙ round.number;
    own = split.gave.same.own ∙ round.own;
    distinct = round.distinct;
    passes = split.gave.same.passes ∙ round.passes;
    limit = split.gave.same.limit ∙ round.limit;
    told = λ is. stays-over parties v.seen split.gave.between w.seen grown legal-then
        (round.told (sym split.same_over ∙ is));
    untold = λ is.
        over-parts entry_names lasts (numbers_of crew) v.seen w.seen own-kept
        ∙ round.untold (sym split.same_over ∙ is);
  }

  sums : v.facts.has.held ≡ u.facts.has.held + w.facts.has.held
  sums =
      let less = ap (λ (f : Facts). f.has.held) split.gave.facts_are in
      let got = ap (λ (f : Facts). f.has.held) split.came.facts in
      omega (arith, less, got, less-held gives v.facts.has enough)

  made-name : queue_name m.pass ≡ queue_name r.pass
  made-name = name-same r.pass m.pass (split.made_mine.table ∙ sym round.mine.table)
      (split.made_mine.passes ∙ sym round.mine.passes) (split.made_mine.limit ∙ sym round.mine.limit)
      (split.made_mine.cells ∙ sym round.mine.cells) (split.made_mine.opening ∙ sym round.mine.opening)

  -- the new one is a round too, by its number
  made-round : (c : Crew) → u.number ≡ c.number → c.met ≡ [] → c.passes ≡ crew.passes → c.limit ≡ crew.limit
      → IsRound parties c m
  made-round c number met passes limit =
      let own : u.own ≡ numbers_of c = split.came.own ∙ (λ j. number j ∷ sym met j) in
      let size : u.opening.size ≡ parties
      = ap (λ (o : Opening). o.size) (split.made_mine.opening ∙ sym round.mine.opening) ∙ round.size_is in
      record {
        mine = subst (λ b. IsMine b m.pass) (sym split.shared) split.made_mine;
        size_is = size;
        ready = record {
          idle = ap (λ (f : Facts). f.doing) split.came.facts;
          further = ap (λ (f : Facts). f.has.further) split.came.facts;
        };
        number = number;
        own = own;
        distinct = subst (λ ms. IsDistinct (c.number ∷ ms)) (sym met) ((λ has. has), tt);
        passes = split.made_mine.passes ∙ sym round.mine.passes ∙ round.passes ∙ sym passes;
        limit = split.made_mine.limit ∙ sym round.mine.limit ∙ round.limit ∙ sym limit;
        told = λ is. absurd (false≢true (sym split.made_over ∙ is));
        untold = λ is.
            subst (λ ms. over entry_names lasts (c.number ∷ ms) u.seen ≡ 0) (sym met)
            (over-none entry_names lasts c.number u.seen
            (subst (λ n. part entry_names n u.seen ≡ []) number split.came.unnamed));
      }

-- what passes for all passes for each
each-passes : {X : Type 0} (p : X → Bool) (xs : List X) → list_all p xs ≡ true → (i : ℕ) (x : X)
    → slice_get xs i ≡ Some x → p x ≡ true
each-passes p [] all i x there = absurd (cc)
each-passes p (y ∷ xs) all zero x there =
    let is : y ≡ x = cc in subst (λ z. p z ≡ true) is (first (p y) (list_all p xs) all)
  where
    first : (b c : Bool) → (b && c) ≡ true → b ≡ true
    first true c is = refl
    first false c is = absurd (cc)
each-passes p (y ∷ xs) all (suc i) x there = each-passes p xs (rest (p y) (list_all p xs) all) i x there
  where
    rest : (b c : Bool) → (b && c) ≡ true → c ≡ true
    rest true c is = is
    rest false c is = absurd (cc)

-- what the new passes have in common
made-crew : (gives : ℕ) (xs made ys : List SharedRound) → length made ≡ length xs
    → ((i : ℕ) (r m s : SharedRound) → slice_get xs i ≡ Some r → slice_get made i ≡ Some m
    → slice_get ys i ≡ Some s → HasSplitOff gives r m s) → length ys ≡ length xs
    → ((i : ℕ) (r : SharedRound) → slice_get xs i ≡ Some r → IsMine (arc_value r.barrier) r.pass)
    → ((crew_in made).met ≡ []) × ((crew_in made).passes ≡ (crew_in xs).passes)
    × ((crew_in made).limit ≡ (crew_in xs).limit)
made-crew gives [] [] ys long called many mine = (refl, refl, refl)
made-crew gives [] (m ∷ made) ys long called many mine = absurd (cc)
made-crew gives (r ∷ xs) [] ys long called many mine = absurd (cc)
made-crew gives (r ∷ xs) (m ∷ made) [] long called many mine = absurd (cc)
made-crew gives (r ∷ xs) (m ∷ made) (s ∷ ys) long called many mine =
    let split = called 0 r m s refl refl refl in
    let is = mine 0 r refl in (
      ap (λ (own : List ℕ). drop 1 own) split.came.own,
      split.made_mine.passes ∙ sym is.passes,
      split.made_mine.limit ∙ sym is.limit,
    )

crew-kept-all : (xs ys : List SharedRound) → length ys ≡ length xs
    → ((i : ℕ) (r s : SharedRound) → slice_get xs i ≡ Some r → slice_get ys i ≡ Some s → crew_at s ≡ crew_at r)
    → crew_in ys ≡ crew_in xs
crew-kept-all [] [] long each = refl
crew-kept-all [] (s ∷ ys) long each = absurd (cc)
crew-kept-all (r ∷ xs) [] long each = absurd (cc)
crew-kept-all (r ∷ xs) (s ∷ ys) long each = each 0 r s refl refl

all-nothing : (hs : List (List BarrierEntry))
    → ((i : ℕ) (h : List BarrierEntry) → slice_get hs i ≡ Some h → h ≡ []) → are_nothing hs ≡ true
all-nothing [] none = refl
all-nothing ([] ∷ hs) none = all-nothing hs (λ i h there. none (suc i) h there)
all-nothing ((e ∷ es) ∷ hs) none = absurd (cc (none 0 (e ∷ es) refl))

module _ (gives : ℕ) (x made y : SharedRounds) (can : CanSplit share_rounds gives x)
    (was : SplitSoFar gives (length x.rounds.items) x.rounds.items made.rounds.items y.rounds.items)
    (all : list_all (λ r. (view_of r).number == (crew_of made).number) made.rounds.items ≡ true) where
  abbrev xs : List SharedRound
  xs = x.rounds.items

  abbrev ms : List SharedRound
  ms = made.rounds.items

  abbrev ys : List SharedRound
  ys = y.rounds.items

  -- the three of one round
  at-made : (i : ℕ) (r : SharedRound) → slice_get xs i ≡ Some r → (m : SharedRound) × (slice_get ms i ≡ Some m)
  at-made i r there = let low = get-below xs i r there in get-there ms i (omega (arith, low, was.made_many))

  at-then : (i : ℕ) (r : SharedRound) → slice_get xs i ≡ Some r → (s : SharedRound) × (slice_get ys i ≡ Some s)
  at-then i r there = let low = get-below xs i r there in get-there ys i (omega (arith, low, was.many))

  at-old : (i : ℕ) (s : SharedRound) → slice_get ys i ≡ Some s → (r : SharedRound) × (slice_get xs i ≡ Some r)
  at-old i s there = let low = get-below ys i s there in get-there xs i (omega (arith, low, was.many))

  at-first : (i : ℕ) (m : SharedRound) → slice_get ms i ≡ Some m → (r : SharedRound) × (slice_get xs i ≡ Some r)
  at-first i m there = let low = get-below ms i m there in get-there xs i (omega (arith, low, was.made_many))

  enough : (i : ℕ) (r : SharedRound) → slice_get xs i ≡ Some r → gives ≤ (view_of r).facts.has.held
  enough i r there = can.enough i _ (map-there held_of xs i r there)

  one : (i : ℕ) (m : SharedRound) → slice_get ms i ≡ Some m → (view_of m).number ≡ (crew_of made).number
  one i m there =
      eqb-true (view_of m).number (crew_of made).number
      (each-passes (λ (r : SharedRound). (view_of r).number == (crew_of made).number) ms all i m there)

  pub rounds-split : HasSplit share_rounds gives x made y
  rounds-split a funded =
      let size : ℕ = size_of (Some a.kind) in
      let each = funded.each.at in
      let split : (i : ℕ) (r m s : SharedRound) → slice_get xs i ≡ Some r → slice_get ms i ≡ Some m
      → slice_get ys i ≡ Some s → HasSplitOff gives r m s = was.called in
      let kept : crew_in ys ≡ crew_in xs
      = crew-kept-all xs ys was.many (λ i r s there after.
      let m = at-made i r there in
      crew-kept-there gives size (crew_of x) r m.0 s (each i r there) (enough i r there)
      (split i r m.0 s there m.1 after)) in
      let new = made-crew gives xs ms ys was.made_many split was.many (λ i r there. (each i r there).mine) in
      let names : names_in ys ≡ names_in xs
      = map-same name_of name_of ys xs was.many
      (λ i s r after there.
      let m = at-made i r there in
      name-kept gives size (crew_of x) r m.0 s (each i r there) (enough i r there) (split i r m.0 s there m.1 after)) in
      let funded' : IsFunded y a
      = record {
        sort = subst (IsOfRounds a.kind) (sym was.many) funded.sort;
        few = subst (λ n. n ≤ 64) (sym was.many) funded.few;
        some = funded.some;
        none_came = funded.none_came;
        each = subst (λ c. EachAt (λ i z. IsRound size c z) ys) (sym kept) (record {
          at = λ i s after.
              let r = at-old i s after in
              let m = at-made i r.0 r.1 in
              round-kept gives size (crew_of x) r.0 m.0 s (each i r.0 r.1) (enough i r.0 r.1)
              (split i r.0 m.0 s r.1 m.1 after);
        });
        waits_are = sum-same waits_of waits_of ys xs was.many
            (λ i s r after there.
            let m = at-made i r there in
            ap (λ (l : List ℕ). length l) (waits-kept gives size (crew_of x) r m.0 s (each i r there)
            (enough i r there) (split i r m.0 s there m.1 after)))
            ∙ funded.waits_are;
      } in
      record {
        looked = record {
          staying = λ i. before i (at-either xs i);
          mine = λ n has.
              ap of_rounds (own-same n has);
          legal = rounds-history y a funded';
          same = record {
            number = ap (λ (c : Crew). c.number) kept;
            met = ap (λ (c : Crew). c.met) kept;
            passes = ap (λ (c : Crew). c.passes) kept;
            limit = ap (λ (c : Crew). c.limit) kept;
            family = names;
          };
        };
        funded = funded';
        keeps = λ i wait has.
            let m = at-made i has.one has.there in
            let s = at-then i has.one has.there in
            let same = waits-kept gives size (crew_of x) has.one m.0 s.0 (each i has.one has.there)
            (enough i has.one has.there) (split i has.one m.0 s.0 has.there m.1 s.1) in
            record {
              one = s.0;
              there = s.1;
              waits = waits-next (view_of has.one) (view_of s.0) wait
                  (goes-looked barrier_object _ _ _ _ (split i has.one m.0 s.0 has.there m.1 s.1).gave) has.waits
                  (subst (Has wait.index) (sym same) has.waits.open_yet);
            };
        met = new.0;
        seen = ap of_rounds (map-same seen_of seen_of ms
            ys (was.made_many ∙ sym was.many) (λ i m s new_there after.
            let r = at-first i m new_there in (split i r.0 m s r.1 new_there after).came.seen));
        nothing = all-nothing _ nothing-there;
        passes = new.1;
        limit = new.2;
        family = map-same name_of name_of ms xs
            was.made_many (λ i m r new_there there.
            let s = at-then i r there in
            made-name gives size (crew_of x) r m s.0 (each i r there) (enough i r there)
            (split i r m s.0 there new_there s.1));
        parties = λ i. sums-there i (at-either xs i);
        gives_each = gives-there;
        made_funded = λ jobs. record {
          sort = subst (IsOfRounds a.kind) (sym was.made_many) funded.sort;
          few = subst (λ n. n ≤ 64) (sym was.made_many) funded.few;
          some = funded.some;
          none_came = refl;
          each = record {
            at = λ i m new_there.
                let r = at-first i m new_there in
                let s = at-then i r.0 r.1 in
                made-round gives size (crew_of x) r.0 m s.0 (each i r.0 r.1) (enough i r.0 r.1)
                (split i r.0 m s.0 r.1 new_there s.1) (crew_of made) (one i m new_there) new.0 new.1 new.2;
          };
          waits_are = sum-none waits_of ms (λ i m new_there.
              let r = at-first i m new_there in
              let s = at-then i r.0 r.1 in
              ap (λ (f : Facts). length f.waits) (split i r.0 m s.0 r.1 new_there s.1).came.facts);
        };
      }
    where
      before : (i : ℕ) → ((r : SharedRound) × (slice_get xs i ≡ Some r)) ⊎ (length xs ≤ i)
          → IsPrefix (entries_in (seen_in xs) i) (entries_in (seen_in ys) i)
      before i (inl (r, there)) =
          let m = at-made i r there in
          let s = at-then i r there in
          let split = was.called i r m.0 s.0 there m.1 s.1 in
          let old = map-at seen_of xs i r [] there in
          let now = map-at seen_of ys i s.0 [] s.1 in (
            split.gave.between,
            now ∙ grown gives (size_of (Some a.kind)) (crew_of x) r m.0 s.0 (funded.each.at i r there)
                (enough i r there) split
                ∙ ap (λ h. h ++ split.gave.between) (sym old),
          )
      before i (inr past) =
          let low = length-map xs seen_of in
          let low' = length-map ys seen_of in
          let many = was.many in
          let old = past-is (seen_in xs) i [] (omega (arith, low, past)) in
          let now = past-is (seen_in ys) i [] (omega (arith, low', many, past)) in
          ([], now ∙ sym old ∙ sym (append-nil (entries_in (seen_in xs) i)))

      own-same : (n : ℕ) → Has n (numbers_of (crew_of x)) → map (part entry_names n) (seen_in ys)
          ≡ map (part entry_names n) (seen_in xs)
      own-same n has =
          map-same (part entry_names n) (part entry_names n) (seen_in ys) (seen_in xs)
          (length-map ys seen_of ∙ was.many
          ∙ sym (length-map xs seen_of))
          (λ i h k after there. go i h k after there (at-either xs i))
        where
          go : (i : ℕ) (h k : List BarrierEntry) → slice_get (seen_in ys) i ≡ Some h → slice_get (seen_in xs) i ≡ Some k
              → ((r : SharedRound) × (slice_get xs i ≡ Some r)) ⊎ (length xs ≤ i)
              → part entry_names n h ≡ part entry_names n k
          go i h k after there (inl (r, at)) =
              let m = at-made i r at in
              let s = at-then i r at in
              let old : (view_of r).seen ≡ k
              = same-some (sym (map-there seen_of xs i r at) ∙ there) in
              let now : (view_of s.0).seen ≡ h
              = same-some (sym (map-there seen_of ys i s.0 s.1) ∙ after) in
              ap (part entry_names n) (sym now)
              ∙ own-kept gives (size_of (Some a.kind)) (crew_of x) r m.0 s.0 (funded.each.at i r at) (enough i r at)
              (was.called i r m.0 s.0 at m.1 s.1) n has
              ∙ ap (part entry_names n) old
          go i h k after there (inr past) =
              let low = length-map xs seen_of in
              let high = get-below (seen_in xs) i k there in absurd (omega (arith, low, past, high))

      nothing-there : (i : ℕ) (h : List BarrierEntry)
          → slice_get (map (part entry_names (crew_of made).number) (seen_in ms)) i ≡ Some h → h ≡ []
      nothing-there i h got =
          let low = get-below _ i h got in
          let long = length-map (seen_in ms) (part entry_names (crew_of made).number) in
          let long' = length-map ms seen_of in
          let m = get-there ms i (omega (arith, low, long, long')) in
          let r = at-first i m.0 m.1 in
          let s = at-then i r.0 r.1 in
          let is = map-there (part entry_names (crew_of made).number) (seen_in ms) i (view_of m.0).seen
          (map-there seen_of ms i m.0 m.1) in
          let here : part entry_names (crew_of made).number (view_of m.0).seen ≡ h = same-some (sym is ∙ got) in
          sym here
          ∙ subst (λ n. part entry_names n (view_of m.0).seen ≡ []) (one i m.0 m.1)
          (was.called i r.0 m.0 s.0 r.1 m.1 s.1).came.unnamed

      sums-there : (i : ℕ) → ((r : SharedRound) × (slice_get xs i ≡ Some r)) ⊎ (length xs ≤ i)
          → slice_index_or (held_in xs) i 0 ≡ slice_index_or (held_in ms) i 0 + slice_index_or (held_in ys) i 0
      sums-there i (inl (r, there)) =
          let m = at-made i r there in
          let s = at-then i r there in
          let sum = sums gives (size_of (Some a.kind)) (crew_of x) r m.0 s.0 (funded.each.at i r there)
          (enough i r there) (was.called i r m.0 s.0 there m.1 s.1) in
          let old = map-at held_of xs i r 0 there in
          let got = map-at held_of ms i m.0 0 m.1 in
          let now = map-at held_of ys i s.0 0 s.1 in
          omega (arith, sum, old, got, now)
      sums-there i (inr past) =
          let low = length-map xs held_of in
          let low' = length-map ms held_of in
          let low'' = length-map ys held_of in
          let many = was.many in
          let made_many = was.made_many in
          let old = past-is (held_in xs) i 0 (omega (arith, low, past)) in
          let got = past-is (held_in ms) i 0 (omega (arith, low', made_many, past)) in
          let now = past-is (held_in ys) i 0 (omega (arith, low'', many, past)) in
          omega (arith, old, got, now)

      gives-there : held_in ms ≡ map (λ n. gives) (held_in xs)
      gives-there =
          map-all held_of gives ms (λ i m new_there.
          let r = at-first i m new_there in
          let s = at-then i r.0 r.1 in
          ap (λ (f : Facts). f.has.held) (was.called i r.0 m s.0 r.1 new_there s.1).came.facts)
          ∙ ap (λ n. replicate n gives) (was.made_many ∙ sym (length-map xs held_of))
          ∙ sym (map-all (λ n. gives) gives (held_in xs) (λ i n there. refl))
