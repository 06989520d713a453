-- The rounds of a barrier that workers share are a resource as a floor needs it: a call of one round is one of all.
use Rattle.std.proofs.Common.{◌≡◌, ◌≢◌, ◌⊎◌, inl, inr, ℕ, ◌+◌, ◌-◌, ◌<◌, ◌≤◌, Bool, false, List, [], ◌∷◌, ◌++◌, count_by, drop, length, get_or, set, slice_get, slice_index_or, Option, Some, None, sum_by, refl, ap, sym, ◌∙◌, subst, arith}
use Rattle.std.specs.Bool.{if◌then◌else◌}
use Rattle.std.proofs.lemmas.Bool.{cases_eq, false≢true}
use Rattle.std.proofs.lemmas.List.{length-map, length-set, length_push, map-set}
use Rattle.std.proofs.lemmas.Option.{slice_get-get_or}
use Rattle.cqs_barrier_object.specs.declared.entries.BarrierEntry.{BarrierEntry}
use Rattle.cqs_barrier_object.specs.declared.entries.BarrierEntry.TheVariants as entry
use Rattle.cqs_barrier_object.specs.BarrierEntries.{IsLegal}
use Rattle.cqs_barrier_object.specs.BarrierNames.{entry_names}
use Rattle.cqs_core.specs.Numbered.{EachAt, IsIn}
use Rattle.cqs_core.specs.Parts.{Has, part}
use Rattle.cqs_core.proofs.EachAtLemmas.{EachAt-write}
use Rattle.cqs_core.proofs.Places.{get-below, get-set_else, get-set_here}
use Rattle.cqs_plan.specs.declared.plans.kind.Kind.{Kind}
use Rattle.cqs_plan.specs.declared.plans.kind.Kind.TheVariants as kind
use Rattle.cqs_plan.specs.declared.floors.answers.FloorLeave.{FloorLeave}
use Rattle.cqs_plan.specs.declared.floors.answers.FloorLeave.TheVariants as leave
use Rattle.cqs_plan.specs.declared.floors.answers.FloorLook.{FloorLook}
use Rattle.cqs_plan.specs.declared.floors.answers.FloorLook.TheVariants as look
use Rattle.cqs_plan.specs.declared.floors.answers.FloorTake.{FloorTake}
use Rattle.cqs_plan.specs.declared.floors.answers.FloorTake.TheVariants as take
use Rattle.cqs_plan.specs.Floor.{HasRound, size_of}
use Rattle.cqs_plan.specs.FloorHistory.{entries_in, of_rounds}
use Rattle.cqs_plan.specs.Language.{can_hold}
use Rattle.cqs_plan.specs.LegalFloor.{IsHistory}
use Rattle.cqs_rule_laws.specs.declared.config.Place.{Place}
use Rattle.cqs_rule_laws.specs.declared.view.View.{View}
use Rattle.cqs_rule_laws.specs.Lists.{without}
use Rattle.cqs_rule_laws.proofs.Lists.{has_left, without_has}
use Rattle.cqs_floor_shared.specs.AnswerEntries.{came_entries, leave_entries, look_entries, number_drawn, party_arrived, party_left, party_looked}
use Rattle.cqs_floor_shared.specs.Calls.{IsDrawn, IsElement}
use Rattle.cqs_floor_shared.specs.Entries.{enters_at_barrier, in_round}
use Rattle.cqs_floor_shared_any.specs.declared.kinds.round.SharedRound.{SharedRound}
use Rattle.cqs_floor_shared_any.specs.declared.kinds.rounds.SharedRounds.{SharedRounds}
use Rattle.cqs_floor_shared_kinds.specs.declared.resource.Came.{Came}
use Rattle.cqs_floor_shared_kinds.specs.declared.resource.Came.TheVariants as came
use Rattle.cqs_floor_shared_any.specs.RoundsOne.{CanCome, CanLeave, Crew, Goes, HasCome, HasLeft, HasLooked, IsRound, view_of}
use Rattle.cqs_floor_shared_any.specs.RoundsShares.{HasIn, IsFunded, IsOfRounds, crew_in, crew_of, held_in, held_of, name_of, names_in, seen_in, seen_of, share_rounds, waits_of}
use Rattle.cqs_floor_shared_kinds.specs.Runs.{WaitsAt}
use Rattle.cqs_floor_shared_kinds.specs.Shares.{Funds, KeepsAll, KeepsOthers, Sees, with_brought, with_more, with_wait}
use Rattle.cqs_floor_shared_kinds.specs.ShareCalls.{Arrives, CanArrive, CanEnd, Leaves, Looks, parties_left, party_more}
use Rattle.cqs_floor_shared_kinds.proofs.Elements.{no-element}
use Rattle.cqs_floor_shared_kinds.proofs.Families.{name-same}
use Rattle.cqs_floor_shared_any.proofs.RoundsLists.{crew-kept, map-at, map-kept, read-off, sum-there}
use Rattle.cqs_floor_shared_kinds.proofs.Runs.{none-more, not-before, waits-next}

-- what the answers have as entries of a barrier
come-is : (k : Kind) (many round c : ℕ) (answer : FloorTake) (drew : Option ℕ) → IsOfRounds k many
    → came_entries (Some k) round c (Some answer) drew ≡ in_round round (party_arrived c (number_drawn answer drew))
come-is (kind.Rounds parties rounds) many round c answer drew sort = refl
come-is (kind.Semaphore permits) many round c answer drew sort = absurd sort
come-is kind.Mutex many round c answer drew sort = absurd sort
come-is (kind.Pool elements) many round c answer drew sort = absurd sort
come-is (kind.Latch count) many round c answer drew sort = absurd sort

turned-is : (k : Kind) (many round c : ℕ) → IsOfRounds k many
    → came_entries (Some k) round c None None ≡ in_round round []
turned-is (kind.Rounds parties rounds) many round c sort = refl
turned-is (kind.Semaphore permits) many round c sort = absurd sort
turned-is kind.Mutex many round c sort = absurd sort
turned-is (kind.Pool elements) many round c sort = absurd sort
turned-is (kind.Latch count) many round c sort = absurd sort

look-is : (k : Kind) (many round c n : ℕ) (answer : FloorLook) → IsOfRounds k many
    → look_entries (Some k) round c n answer ≡ in_round round (party_looked c n answer)
look-is (kind.Rounds parties rounds) many round c n answer sort = refl
look-is (kind.Semaphore permits) many round c n answer sort = absurd sort
look-is kind.Mutex many round c n answer sort = absurd sort
look-is (kind.Pool elements) many round c n answer sort = absurd sort
look-is (kind.Latch count) many round c n answer sort = absurd sort

leave-is : (k : Kind) (many round c n : ℕ) (answer : FloorLeave) (stays : Bool) → IsOfRounds k many
    → leave_entries (Some k) round c n answer stays ≡ in_round round (party_left c n answer stays)
leave-is (kind.Rounds parties rounds) many round c n answer stays sort = refl
leave-is (kind.Semaphore permits) many round c n answer stays sort = absurd sort
leave-is kind.Mutex many round c n answer stays sort = absurd sort
leave-is (kind.Pool elements) many round c n answer stays sort = absurd sort
leave-is (kind.Latch count) many round c n answer stays sort = absurd sort

drawn-any : (k : Kind) (many : ℕ) (answer : Option FloorTake) (drew : Option ℕ) → IsOfRounds k many
    → IsDrawn (Some k) answer drew
drawn-any (kind.Rounds parties rounds) many answer drew sort = tt
drawn-any (kind.Semaphore permits) many answer drew sort = absurd sort
drawn-any kind.Mutex many answer drew sort = absurd sort
drawn-any (kind.Pool elements) many answer drew sort = absurd sort
drawn-any (kind.Latch count) many answer drew sort = absurd sort

-- nothing of a barrier is held
brought-is : (a : Funds) (many job e : ℕ) → IsOfRounds a.kind many → with_brought a job e ≡ a
brought-is a many job e sort = go a.kind sort
  where
    go : (k : Kind) → IsOfRounds k many → (if can_hold k then with_more a job e else a) ≡ a
    go (kind.Rounds parties rounds) sort = refl
    go (kind.Semaphore permits) sort = absurd sort
    go kind.Mutex sort = absurd sort
    go (kind.Pool elements) sort = absurd sort
    go (kind.Latch count) sort = absurd sort

left-gone : (k : Kind) (many : ℕ) (had : List ℕ) (round : ℕ) → IsOfRounds k many
    → party_more had round ≡ parties_left k had round leave.Gone
left-gone (kind.Rounds parties rounds) many had round sort = refl
left-gone (kind.Semaphore permits) many had round sort = absurd sort
left-gone kind.Mutex many had round sort = absurd sort
left-gone (kind.Pool elements) many had round sort = absurd sort
left-gone (kind.Latch count) many had round sort = absurd sort

left-late : (k : Kind) (many : ℕ) (had : List ℕ) (round e : ℕ) → IsOfRounds k many
    → had ≡ parties_left k had round (leave.Late e)
left-late (kind.Rounds parties rounds) many had round e sort = refl
left-late (kind.Semaphore permits) many had round e sort = absurd sort
left-late kind.Mutex many had round e sort = absurd sort
left-late (kind.Pool elements) many had round e sort = absurd sort
left-late (kind.Latch count) many had round e sort = absurd sort

-- the rounds are those of the barrier
round-below : (k : Kind) (many round : ℕ) → IsOfRounds k many → HasRound (Some k) round → round < many
round-below (kind.Rounds parties rounds) many round sort has = let is : many ≡ rounds = sort in omega (arith, has, is)
round-below (kind.Semaphore permits) many round sort has = absurd sort
round-below kind.Mutex many round sort has = absurd sort
round-below (kind.Pool elements) many round sort has = absurd sort
round-below (kind.Latch count) many round sort has = absurd sort

-- what the pass has seen is a legal history of each round
history-of : (k : Kind) (rounds : List SharedRound) (crew : Crew) → IsOfRounds k (length rounds)
    → EachAt (λ i r. IsRound (size_of (Some k)) crew r) rounds → IsHistory k (of_rounds (seen_in rounds))
history-of (kind.Rounds parties many) rounds crew sort each = record {
  many = length-map rounds seen_of ∙ sort;
  each = record {
    at = read-off (IsLegal parties) seen_of rounds (λ i r there. legal i r (each.at i r there));
  };
}
  where
    legal : (i : ℕ) (r : SharedRound) → IsRound parties crew r → IsLegal parties (view_of r).seen
    legal i r round = subst (λ n. IsLegal n (view_of r).seen) round.size_is round.mine.live.legal
history-of (kind.Semaphore permits) rounds crew sort each = absurd sort
history-of kind.Mutex rounds crew sort each = absurd sort
history-of (kind.Pool elements) rounds crew sort each = absurd sort
history-of (kind.Latch count) rounds crew sort each = absurd sort

pub rounds-history : (x : SharedRounds) (a : Funds) → IsFunded x a → IsHistory a.kind (share_rounds.seen x)
rounds-history x a funded = history-of a.kind x.rounds.items (crew_of x) funded.sort funded.each

-- One round went on.
module _ (x y : SharedRounds) (i : ℕ) (r s : SharedRound) (there : slice_get x.rounds.items i ≡ Some r)
    (items : y.rounds.items ≡ set x.rounds.items i s) (entries : List BarrierEntry) (held : ℕ) (waits : List ℕ)
    (g : Goes entries held waits r s) where
  abbrev xs : List SharedRound
  xs = x.rounds.items

  abbrev v : View BarrierEntry (Unit {0})
  v = view_of r

  abbrev w : View BarrierEntry (Unit {0})
  w = view_of s

  low : i < length xs
  low = get-below xs i r there

  crew-same : crew_of y ≡ crew_of x
  crew-same =
      ap crew_in items ∙ crew-kept xs i r s there (λ j. record {
        number = g.went.same.number j;
        met = drop 1 (g.went.same.own j);
        passes = g.went.same.passes j;
        limit = g.went.same.limit j;
      })

  names-same : (parties : ℕ) (crew : Crew) → IsRound parties crew r → names_in y.rounds.items ≡ names_in xs
  names-same parties crew round =
      ap names_in items
      ∙ map-kept name_of xs i r s there
      (name-same r.pass s.pass (g.mine.table ∙ sym round.mine.table) g.went.same.passes g.went.same.limit
      g.went.same.cells g.went.same.opening)

  parties-then : held_in y.rounds.items ≡ set (held_in xs) i held
  parties-then =
      ap held_in items ∙ map-set held_of xs i s
      ∙ ap (set (held_in xs) i) g.rests.held_is

  -- what the jobs have then
  have : (a b : Funds) → IsFunded x a → b.kind ≡ a.kind → b.came ≡ 0
      → length waits + a.waiting ≡ length v.facts.waits + b.waiting → IsFunded y b
  have a b funded same_kind none_came balance =
      let long : length y.rounds.items ≡ length xs
      = ap (λ (l : List SharedRound). length l) items ∙ length-set xs i s in
      let one = funded.each.at i r there in
      let each : EachAt (λ round z. IsRound (size_of (Some a.kind)) (crew_of x) z) (set xs i s)
      = EachAt-write (λ round z. IsRound (size_of (Some a.kind)) (crew_of x) z)
      (λ round z. IsRound (size_of (Some a.kind)) (crew_of x) z) xs i r s there
      (g.keeps (size_of (Some a.kind)) (crew_of x) one) (λ k z got other was. was) funded.each in
      let counted = sum-there waits_of xs i r s there in
      let new : waits_of s ≡ length waits = ap (λ (l : List ℕ). length l) g.rests.waits_are in
      let all : sum_by waits_of y.rounds.items ≡ sum_by waits_of (set xs i s) = ap (sum_by waits_of) items in
      record {
        sort = subst (λ k. IsOfRounds k (length y.rounds.items)) (sym same_kind)
            (subst (IsOfRounds a.kind) (sym long) funded.sort);
        few = subst (λ n. n ≤ 64) (sym long) funded.few;
        some = subst (λ k. 0 < size_of (Some k)) (sym same_kind) funded.some;
        none_came = none_came;
        each = subst (λ k. EachAt (λ round z. IsRound (size_of (Some k)) (crew_of y) z) y.rounds.items) (sym same_kind)
            (subst (λ c. EachAt (λ round z. IsRound (size_of (Some a.kind)) c z) y.rounds.items) (sym crew-same)
            (subst (λ zs. EachAt (λ round z. IsRound (size_of (Some a.kind)) (crew_of x) z) zs) (sym items) each));
        waits_are = omega (arith, counted, new, all, balance, funded.waits_are);
      }

  -- what the pass has seen more
  see : (a b : Funds) → IsFunded x a → IsFunded y b → b.kind ≡ a.kind
      → Sees share_rounds a.kind x (in_round i entries) y
  see a b funded after same_kind =
      let one = funded.each.at i r there in
      let met : drop 1 v.own ≡ (crew_of x).met = ap (λ (own : List ℕ). drop 1 own) one.own in
      let before : entries_in (seen_in xs) i ≡ v.seen = map-at seen_of xs i r [] there in
      record {
        more = in_round i g.went.more;
        words = subst (λ n. i < n) (sym (length-map xs seen_of)) low;
        seen = ap of_rounds (
            ap seen_in items ∙ map-set seen_of xs i s
            ∙ ap (set (seen_in xs) i) (g.went.seen ∙ ap (λ h. h ++ g.went.more) (sym before))
            );
        mine = ap (in_round i) (subst (λ n. part entry_names n g.went.more ≡ entries) one.number g.went.mine);
        others = λ n has. ap (in_round i) (g.went.others n (subst (Has n) (sym met) has));
        unnamed = λ n many.
            ap (in_round i) (none-more entry_names n v.seen g.went.more
            (ap (part entry_names n) (sym g.went.seen)
            ∙ g.mine.live.unnamed n (subst (λ p. p ≤ n) (sym (g.went.same.passes ∙ one.passes)) many)));
        legal = subst (λ k. IsHistory k (share_rounds.seen y)) same_kind (rounds-history y b after);
        same = record {
          number = ap (λ (c : Crew). c.number) crew-same;
          met = ap (λ (c : Crew). c.met) crew-same;
          passes = ap (λ (c : Crew). c.passes) crew-same;
          limit = ap (λ (c : Crew). c.limit) crew-same;
          family = names-same (size_of (Some a.kind)) (crew_of x) one;
        };
      }

  -- what the round has is its own, and that of another is as it was
  one-is : (z : SharedRound) → slice_get xs i ≡ Some z → z ≡ r
  one-is z got = same-some (sym got ∙ there)
    where
      same-some : {X : Type 0} {p q : X} → Some p ≡ Some q → p ≡ q
      same-some same = cc

  there-then : slice_get y.rounds.items i ≡ Some s
  there-then = ap (λ (l : List SharedRound). slice_get l i) items ∙ get-set_here xs i r s there

  else-then : (j : ℕ) (z : SharedRound) → i ≢ j → slice_get xs j ≡ Some z → slice_get y.rounds.items j ≡ Some z
  else-then j z other got =
      ap (λ (l : List SharedRound). slice_get l j) items ∙ get-set_else xs i j s other ∙ got

  has-then : (j : ℕ) (wait : Place) → HasIn x j wait → (j ≡ i → Has wait.index v.facts.waits → Has wait.index waits)
      → HasIn y j wait
  has-then j wait has on = go (cases_eq j i)
    where
      go : (j ≡ i) ⊎ (j ≢ i) → HasIn y j wait
      go (inl same) =
          let is = one-is has.one (ap (slice_get xs) (sym same) ∙ has.there) in
          let waits_on = subst (λ z. WaitsAt (view_of z) wait) is has.waits in
          record {
            one = s;
            there = ap (slice_get y.rounds.items) same ∙ there-then;
            waits = waits-next v w wait g.went.same.goes waits_on
                (subst (Has wait.index) (sym g.rests.waits_are)
                (on same waits_on.open_yet));
          }
      go (inr other) = record {
        one = has.one;
        there = else-then j has.one (λ same. other (sym same)) has.there;
        waits = has.waits;
      }

  keeps-all : ((k : ℕ) → Has k v.facts.waits → Has k waits) → KeepsAll share_rounds x y
  keeps-all on j wait has = has-then j wait has (λ same had. on wait.index had)

  keeps-others : (k : ℕ) → waits ≡ without k v.facts.waits → KeepsOthers share_rounds x i k y
  keeps-others k less j wait other has =
      has-then j wait has (λ same had. subst (Has wait.index) (sym less)
      (without_has wait.index k v.facts.waits (other same) had))

-- The calls of all rounds.
module _ (x y : SharedRounds) (i : ℕ) (r s : SharedRound) (there : slice_get x.rounds.items i ≡ Some r)
    (items : y.rounds.items ≡ set x.rounds.items i s) where
  abbrev v' : View BarrierEntry (Unit {0})
  v' = view_of r

  held-there : slice_index_or (held_in x.rounds.items) i 0 ≡ v'.facts.has.held
  held-there = map-at held_of x.rounds.items i r 0 there

  limit-there : (a : Funds) → IsFunded x a → (crew_of x).limit ≡ v'.limit
  limit-there a funded = sym (funded.each.at i r there).limit

  number-there : (a : Funds) → IsFunded x a → v'.number ≡ (crew_of x).number
  number-there a funded = (funded.each.at i r there).number

  same-held : (entries : List BarrierEntry) (waits : List ℕ) → Goes entries v'.facts.has.held waits r s
      → held_in y.rounds.items ≡ held_in x.rounds.items
  same-held entries waits g =
      ap held_in items
      ∙ map-kept held_of x.rounds.items i r s there g.rests.held_is

  pub rounds-arrive : (job : ℕ) (answer : Came) → HasCome r answer s → Arrives share_rounds job i x answer y
  rounds-arrive job (came.Now e) (zero_is, on) = λ a funded barrier job_there.
      let g = on.goes in
      let funded' = have x y i r s there items _ _ _ g a a funded refl funded.none_came refl in
      record {
        drew = on.drew;
        sees = subst (λ es. Sees share_rounds a.kind x es y)
            (ap (λ n. in_round i (party_arrived n on.drew)) (number-there a funded)
            ∙ sym (come-is a.kind _ i (crew_of x).number (take.Now e) on.drew funded.sort))
            (see x y i r s there items _ _ _ g a a funded funded' refl);
        funded = funded';
        parties_are = parties-then x y i r s there items _ _ _ g
            ∙ ap (λ n. set (held_in x.rounds.items) i (n - 1)) (sym held-there);
        keeps = keeps-all x y i r s there items _ _ _ g (λ k has. has);
        delivered = λ k with_it is. absurd (false≢true with_it);
        may = tt;
        element = subst (IsElement (Some a.kind)) (sym zero_is) (no-element a.kind);
        drawn = drawn-any a.kind _ (Some (take.Now e)) on.drew funded.sort;
        had = λ k f drew is. subst (IsIn (entry.Deliver k)) (sym seen-now) (on.had k drew);
        worn = λ none. absurd (cc);
      }
    where
      seen-now : entries_in (seen_in y.rounds.items) i ≡ (view_of s).seen
      seen-now = map-at seen_of y.rounds.items i s []
          (there-then x y i r s there items _ _ _ on.goes)
  rounds-arrive job (came.Under k) come = absurd come
  rounds-arrive job (came.Waits wait) (g, has) = λ a funded barrier job_there.
      let longer = length_push v'.facts.waits wait.index in
      let funded' = have x y i r s there items _ _ _ g a (with_wait a) funded refl funded.none_came
      (omega (arith, longer)) in (
        record {
          drew = None;
          sees = subst (λ es. Sees share_rounds a.kind x es y)
              (ap (λ n. in_round i (party_arrived n (Some wait.index))) (number-there a funded)
              ∙ sym (come-is a.kind _ i (crew_of x).number (take.Waits wait.index) None funded.sort))
              (see x y i r s there items _ _ _ g a (with_wait a) funded funded' refl);
          funded = funded';
          parties_are = parties-then x y i r s there items _ _ _ g
              ∙ ap (λ n. set (held_in x.rounds.items) i (n - 1)) (sym held-there);
          keeps = keeps-all x y i r s there items _ _ _ g
              (λ k had. has_left k v'.facts.waits (wait.index ∷ []) had);
          delivered = λ k with_it is. absurd (false≢true with_it);
          may = tt;
          element = tt;
          drawn = drawn-any a.kind _ (Some (take.Waits wait.index)) None funded.sort;
          had = λ k e none. absurd (cc);
          worn = λ none. absurd (cc);
        },
        record {
          has = record { one = s; there = there-then x y i r s there items _ _ _ g; waits = has };
          fresh = λ u had same.
              let is = one-is x y i r s there items _ _ _ g had.one had.there in
              not-before wait.index v'.facts.waits
              (subst (λ ws. length (without wait.index ws) + 1 ≡ length ws) g.rests.waits_are
              (s.pass.inside.once wait.index has.open_yet))
              (subst (λ n. Has n v'.facts.waits) same
              (subst (λ z. WaitsAt (view_of z) u) is had.waits).open_yet);
        },
      )
  rounds-arrive job came.Worn (g, worn) = λ a funded barrier job_there.
      let funded' = have x y i r s there items _ _ _ g a a funded refl funded.none_came refl in
      record {
        drew = None;
        sees = subst (λ es. Sees share_rounds a.kind x es y) (sym (turned-is a.kind _ i (crew_of x).number funded.sort))
            (see x y i r s there items _ _ _ g a a funded funded' refl);
        funded = funded';
        parties_are = same-held _ _ g;
        keeps = keeps-all x y i r s there items _ _ _ g (λ k has. has);
        delivered = λ k with_it is. absurd (false≢true with_it);
        may = tt;
        element = tt;
        drawn = drawn-any a.kind _ None None funded.sort;
        had = λ k e none. absurd (cc);
        worn = λ none.
            subst (λ n. n ≤ count_by enters_at_barrier (entries_in (seen_in y.rounds.items) i))
            (sym (limit-there a funded))
            (subst (λ h. v'.limit ≤ count_by enters_at_barrier h) (sym seen-now) worn);
      }
    where
      seen-now : entries_in (seen_in y.rounds.items) i ≡ (view_of s).seen
      seen-now = map-at seen_of y.rounds.items i s []
          (there-then x y i r s there items _ _ _ g)

  module _ (wait : Place) where
    abbrev k' : ℕ
    k' = wait.index

    -- one wait less is in the pass
    fewer : Has k' v'.facts.waits → length (without k' v'.facts.waits) + 1 ≡ length v'.facts.waits
    fewer had = r.pass.inside.once k' had

    pub rounds-look : (job : ℕ) (answer : FloorLook) → WaitsAt v' wait → HasLooked wait r answer s
        → Looks share_rounds job x i wait answer y
    rounds-look job look.Pending waits_on g = λ a funded job_there.
        let funded' = have x y i r s there items _ _ _ g (with_wait a) (with_wait a) funded refl funded.none_came
        refl in
        record {
          sees = subst (λ es. Sees share_rounds a.kind x es y)
              (ap (λ n. in_round i (party_looked n k' look.Pending)) (number-there (with_wait a) funded)
              ∙ sym (look-is a.kind _ i (crew_of x).number k' look.Pending funded.sort))
              (see x y i r s there items _ _ _ g (with_wait a) (with_wait a) funded funded' refl);
          funded = funded';
          parties_are = same-held _ _ g;
          keeps = keeps-all x y i r s there items _ _ _ g (λ k has. has);
        }
    rounds-look job (look.Granted e) waits_on (zero_is, g) = λ a funded job_there.
        let less = fewer waits_on.open_yet in
        let funded' = have x y i r s there items _ _ _ g (with_wait a) a funded refl funded.none_came
        (omega (arith, less)) in
        record {
          sees = subst (λ es. Sees share_rounds a.kind x es y)
              (ap (λ n. in_round i (party_looked n k' (look.Granted e))) (number-there (with_wait a) funded)
              ∙ sym (look-is a.kind _ i (crew_of x).number k' (look.Granted e) funded.sort))
              (see x y i r s there items _ _ _ g (with_wait a) a funded funded' refl);
          funded = subst (IsFunded y) (sym (brought-is a _ job e funded.sort)) funded';
          found = subst (IsElement (Some a.kind)) (sym zero_is) (no-element a.kind);
          parties_are = same-held _ _ g;
          keeps = keeps-others x y i r s there items _ _ _ g k' refl;
        }

    pub rounds-leave : (job : ℕ) (answer : FloorLeave) → WaitsAt v' wait → HasLeft wait r answer s
        → Leaves share_rounds job x i wait answer y
    rounds-leave job leave.Gone waits_on g = λ a funded job_there.
        let less = fewer waits_on.open_yet in
        let funded' = have x y i r s there items _ _ _ g (with_wait a) a funded refl funded.none_came
        (omega (arith, less)) in
        record {
          stays = false;
          sees = subst (λ es. Sees share_rounds a.kind x es y)
              (ap (λ n. in_round i (party_left n k' leave.Gone false)) (number-there (with_wait a) funded)
              ∙ sym (leave-is a.kind _ i (crew_of x).number k' leave.Gone false funded.sort))
              (see x y i r s there items _ _ _ g (with_wait a) a funded funded' refl);
          funded = funded';
          found = tt;
          parties_are = parties-then x y i r s there items _ _ _ g
              ∙ ap (λ n. set (held_in x.rounds.items) i (n + 1)) (sym held-there)
              ∙ left-gone a.kind _ (held_in x.rounds.items) i funded.sort;
          keeps = keeps-others x y i r s there items _ _ _ g k' refl;
        }
    rounds-leave job (leave.Late e) waits_on (zero_is, stays, g) = λ a funded job_there.
        let less = fewer waits_on.open_yet in
        let funded' = have x y i r s there items _ _ _ g (with_wait a) a funded refl funded.none_came
        (omega (arith, less)) in
        record {
          stays = stays;
          sees = subst (λ es. Sees share_rounds a.kind x es y)
              (ap (λ n. in_round i (party_left n k' (leave.Late e) stays)) (number-there (with_wait a) funded)
              ∙ sym (leave-is a.kind _ i (crew_of x).number k' (leave.Late e) stays funded.sort))
              (see x y i r s there items _ _ _ g (with_wait a) a funded funded' refl);
          funded = subst (IsFunded y) (sym (brought-is a _ job e funded.sort)) funded';
          found = subst (IsElement (Some a.kind)) (sym zero_is) (no-element a.kind);
          parties_are = same-held _ _ g ∙ left-late a.kind _ (held_in x.rounds.items) i e funded.sort;
          keeps = keeps-others x y i r s there items _ _ _ g k' refl;
        }

-- where a call of a round may be made
pub arrives-below : (x : SharedRounds) (job i : ℕ) → CanArrive share_rounds job i x → i < length x.rounds.items
arrives-below x job i can = round-below can.a.kind _ i can.funded.sort can.barrier

pub ends-below : (x : SharedRounds) (job i : ℕ) (wait : Place) → CanEnd share_rounds job i wait x
    → i < length x.rounds.items
ends-below x job i wait can = get-below x.rounds.items i can.has.one can.has.there

-- the round that an index finds
pub stands-there : (x : SharedRounds) (i : ℕ) (r : SharedRound) → i < length x.rounds.items
    → r ≡ get_or x.rounds.items i r → slice_get x.rounds.items i ≡ Some r
stands-there x i r below is = slice_get-get_or x.rounds.items i r below ∙ ap Some (sym is)

module _ (x : SharedRounds) (i : ℕ) (r : SharedRound) (there : slice_get x.rounds.items i ≡ Some r) where
  pub arrives-there : (job : ℕ) → CanArrive share_rounds job i x → CanCome r
  arrives-there job can = record {
    parties = size_of (Some can.a.kind);
    crew = crew_of x;
    round = can.funded.each.at i r there;
    holds = subst (λ n. 0 < n) (map-at held_of x.rounds.items i r 0 there)
        can.party;
  }

  pub waits-there : (job : ℕ) (wait : Place) → CanEnd share_rounds job i wait x → WaitsAt (view_of r) wait
  waits-there job wait can = subst (λ z. WaitsAt (view_of z) wait) (same-some (sym can.has.there ∙ there)) can.has.waits
    where
      same-some : {X : Type 0} {p q : X} → Some p ≡ Some q → p ≡ q
      same-some same = cc

  pub ends-there : (job : ℕ) (wait : Place) → CanEnd share_rounds job i wait x → CanLeave wait r
  ends-there job wait can = record {
    parties = size_of (Some can.a.kind);
    crew = crew_of x;
    round = can.funded.each.at i r there;
    has = waits-there job wait can;
  }
