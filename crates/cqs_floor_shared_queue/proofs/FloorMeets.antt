-- Two floors that meet: what that rests on, and what it leaves.
use Rattle.std.proofs.Common.{◌≡◌, ◌⊎◌, inl, inr, ℕ, suc, ◌+◌, ◌*◌, ◌<◌, ◌≤◌, true, false, List, [], ◌∷◌, ◌++◌, Some, None, drop, length, map, get_or, slice_get, refl, ap, sym, ◌∙◌, subst, sum, length-append, mul-add, arith}
use Rattle.std.specs.List.{list_any}
use Rattle.std.proofs.lemmas.Bool.{cases_lt}
use Rattle.std.proofs.lemmas.List.{length-map}
use Rattle.std.proofs.lemmas.List.Sums.{get_or-le-sum_by, sum_by-cons}
use Rattle.std.proofs.lemmas.Nat.{mul-le}
use Rattle.std.proofs.Math.Nat.{mul-le-mul_left}
use Rattle.cqs_core.specs.Parts.{Has}
use Rattle.cqs_core.proofs.Places.{get-below, get-there}
use Rattle.cqs_plan.specs.declared.plans.kind.Kind.{Kind}
use Rattle.cqs_plan.specs.FloorHistory.{of_permits}
use Rattle.cqs_plan.specs.LegalFloor.{IsHistory}
use Rattle.cqs_rule_laws.specs.Lists.{IsDistinct}
use Rattle.cqs_rule_laws.proofs.Lists.{few_below, has_append}
use Rattle.cqs_floor_common.specs.Holdings.{held_at}
use Rattle.cqs_floor_shared.specs.Calls as floor
use Rattle.cqs_floor_shared.specs.Entries.{IsBefore, is_nothing, own_history}
use Rattle.cqs_floor_shared.specs.Shared.{IsLegalAt, parties_at, seen_at}
use Rattle.cqs_floor_shared_queue.specs.declared.floors.spots.FloorWait.{FloorWait}
use Rattle.cqs_floor_shared_queue.specs.declared.floors.spots.Spot.{Spot}
use Rattle.cqs_floor_shared_queue.specs.FloorKept.{IsFundedAt, IsKept, StandsIn, funds_in, holdings_to_come}
use Rattle.cqs_floor_shared_queue.specs.Holdings.{held_by_jobs}
use Rattle.cqs_floor_shared_queue.specs.Ledgers.{Ledger, holds_in, own_name, own_rounds, shared_in}
use Rattle.cqs_floor_shared_queue.specs.Meeting.{CanJoin, HasJoined, has_wait}
use Rattle.cqs_floor_shared_kinds.specs.ShareCalls.{CanMeet, Joins, Meets}
use Rattle.cqs_floor_shared_kinds.specs.Shares.{IsLawful, Share, join_held, own}
use Rattle.cqs_floor_shared_queue.specs.Spots.{place_in, spot_in}
use Rattle.cqs_floor_shared_queue.proofs.FloorCrews.{index-past, whole-at}
use Rattle.cqs_floor_shared_queue.proofs.FloorEnds.{none-in}
use Rattle.cqs_floor_shared_queue.proofs.FloorLists.{get-mapped, index-mapped}
use Rattle.cqs_floor_shared_queue.proofs.FloorPlaces.{Well}
use Rattle.cqs_floor_shared_queue.proofs.JobHoldings.{held-joined, job-append, jobs-long, jobs-there}
use Rattle.cqs_floor_shared_kinds.proofs.Runs.{distinct-both}
use Rattle.cqs_floor_shared_queue.proofs.KindsTold.{same-kinds}
use Rattle.cqs_floor_shared_queue.proofs.FloorWaiters.{no-waits}

-- what is read off two lists alike
pub map-alike : {X Y : Type 0} (f : X → Y) (xs ys : List X) → length ys ≡ length xs
    → ((i : ℕ) (x y : X) → slice_get xs i ≡ Some x → slice_get ys i ≡ Some y → f y ≡ f x) → map f ys ≡ map f xs
map-alike f [] [] long same = refl
map-alike f [] (y ∷ ys) long same = absurd (omega arith)
map-alike f (x ∷ xs) [] long same = absurd (omega arith)
map-alike f (x ∷ xs) (y ∷ ys) long same =
    (λ i. same 0 x y refl refl i ∷ map-alike f xs ys (omega arith) (λ j a b one two. same (suc j) a b one two) i)

-- the sum of two lists is the sum of their sums
sums-all : (xs ys zs : List ℕ) → length ys ≡ length xs → length zs ≡ length xs
    → ((i : ℕ) → get_or zs i 0 ≡ get_or xs i 0 + get_or ys i 0) → sum zs ≡ sum xs + sum ys
sums-all [] [] [] long also each = refl
sums-all [] (y ∷ ys) zs long also each = absurd (omega arith)
sums-all [] [] (z ∷ zs) long also each = absurd (omega arith)
sums-all (x ∷ xs) [] zs long also each = absurd (omega arith)
sums-all (x ∷ xs) (y ∷ ys) [] long also each = absurd (omega arith)
sums-all (x ∷ xs) (y ∷ ys) (z ∷ zs) long also each =
    let here = each 0 in
    let rest = sums-all xs ys zs (omega arith) (omega arith) (λ i. each (suc i)) in
    let one = sum_by-cons (λ (n : ℕ). n) x xs in
    let two = sum_by-cons (λ (n : ℕ). n) y ys in
    let all = sum_by-cons (λ (n : ℕ). n) z zs in
    omega (arith, here, rest, one, two, all)

index-few : (xs : List ℕ) (i : ℕ) → get_or xs i 0 ≤ sum xs
index-few xs i = go (cases_lt i (length xs))
  where
    go : (i < length xs) ⊎ (length xs ≤ i) → get_or xs i 0 ≤ sum xs
    go (inl low) = get_or-le-sum_by (λ n. n) xs i 0 low
    go (inr past) = let none = index-past xs i 0 past in omega (arith, none)

-- Two floors that are of one family, and have no number in common; no job of the other has a wait.
module _ {X : Type 0} (s : Share X) (l given : Ledger X) (kept : IsKept s l) (their : IsKept s given)
    (family : (shared_in s given).family ≡ (shared_in s l).family)
    (apart : (n : ℕ) → Has n (l.number ∷ l.met) → Has n (given.number ∷ given.met) → ⊥)
    (waitless : list_any has_wait given.spots ≡ false) where
  same-name : own_name given ≡ own_name l
  same-name = ap (λ (f : List (List (List ℕ))). get_or f 0 []) family

  same-families : map s.family given.shares ≡ map s.family l.shares
  same-families = ap (λ (f : List (List (List ℕ))). drop 1 f) family

  numbers : length given.spots ∷ given.floors ∷ given.budget ∷ [] ≡ length l.spots ∷ l.floors ∷ l.budget ∷ []
  numbers = ap (λ (f : List (List ℕ)). get_or f 0 []) same-name

  pub same-jobs : length given.spots ≡ length l.spots
  same-jobs = ap (λ (f : List ℕ). get_or f 0 0) numbers

  same-floors : given.floors ≡ l.floors
  same-floors = ap (λ (f : List ℕ). get_or f 1 0) numbers

  same-budget : given.budget ≡ l.budget
  same-budget = ap (λ (f : List ℕ). get_or f 2 0) numbers

  one-kinds : given.kinds ≡ l.kinds
  one-kinds = same-kinds given.kinds l.kinds (ap (λ (f : List (List ℕ)). drop 1 f) same-name)

  kinds-long : length given.kinds ≡ length l.kinds
  kinds-long = ap (λ (ks : List Kind). length ks) one-kinds

  idle : (j : ℕ) (spot : Spot) → slice_get given.spots j ≡ Some spot → spot.wait ≡ None
  idle = no-waits given.spots waitless

  -- of what a resource is kept as the one may take in the other
  module _ (at : ℕ) (x one : X) (there : slice_get l.shares at ≡ Some x) (its : slice_get given.shares at ≡ Some one)
    where
      abbrev pub among_kinds : at < length l.kinds
      among_kinds = omega (arith, get-below l.shares at x there, kept.shares)

      abbrev pub k : Kind
      k = (get-there l.kinds at among_kinds).0

      pub kind-is : slice_get l.kinds at ≡ Some k
      kind-is = (get-there l.kinds at among_kinds).1

      mine : IsFundedAt s l at x
      mine = kept.funded.at at x there

      theirs : IsFundedAt s given at one
      theirs = their.funded.at at one its

      pub one-family : s.family one ≡ s.family x
      one-family =
          let found : Some (s.family one) ≡ Some (s.family x) =
          sym (get-mapped s.family given.shares at one its) ∙ ap (λ f. slice_get f at) same-families
          ∙ get-mapped s.family l.shares at x there in
          cc

      pub one-apart : (n : ℕ) → Has n (own s x) → Has n (own s one) → ⊥
      one-apart n a b =
          apart n (subst (λ m. Has n (l.number ∷ m)) mine.met (subst (λ m. Has n (m ∷ s.met x)) mine.number a))
          (subst (λ m. Has n (given.number ∷ m)) theirs.met (subst (λ m. Has n (m ∷ s.met one)) theirs.number b))

      pub their-funds : s.funded one (funds_in given at k)
      their-funds = theirs.funded k (ap (λ ks. slice_get ks at) one-kinds ∙ kind-is)

      pub can-meet : CanMeet s one x
      can-meet = record {
        a = funds_in l at k;
        b = funds_in given at k;
        funded = mine.funded k kind-is;
        given_funded = their-funds;
        kind = refl;
        waitless = (none-in given.spots idle at).0;
        all_seen = (none-in given.spots idle at).1;
        family = one-family;
        apart = one-apart;
      }

      pub joins : (y : X) → Meets s one x y → Joins s (funds_in l at k) (funds_in given at k) one x y
      joins y meets =
          meets (funds_in l at k) (funds_in given at k) (mine.funded k kind-is) their-funds refl
          (none-in given.spots idle at).0 (none-in given.spots idle at).1 one-family one-apart

  -- the numbers of both
  abbrev both : List ℕ
  both = (l.number ∷ l.met) ++ given.number ∷ given.met

  both-distinct : IsDistinct both
  both-distinct = distinct-both (l.number ∷ l.met) (given.number ∷ given.met) kept.distinct their.distinct apart

  both-below : (n : ℕ) → Has n both → n < l.floors
  both-below n has = go (has_append n (l.number ∷ l.met) (given.number ∷ given.met) has)
    where
      go : Has n (l.number ∷ l.met) ⊎ Has n (given.number ∷ given.met) → n < l.floors
      go (inl mine) = kept.below n mine
      go (inr theirs) = let low = their.below n theirs in omega (arith, low, same-floors)

  both-few : suc (length l.met) + suc (length given.met) ≤ l.floors
  both-few =
      let most = few_below l.floors both both-distinct both-below in
      let long = length-append (l.number ∷ l.met) (given.number ∷ given.met) in
      omega (arith, most, long)

  -- what both can still hold has room
  both-within : holdings_to_come l + holdings_to_come given
      ≤ l.budget * (suc (length l.met) + suc (length given.met))
  both-within =
      let theirs = subst (λ b. holdings_to_come given ≤ b * suc (length given.met)) same-budget their.within in
      let all = mul-add l.budget (suc (length l.met)) (suc (length given.met)) in
      omega (arith, kept.within, theirs, all)

  both-space : holdings_to_come l + holdings_to_come given ≤ l.budget * l.floors
  both-space = let most = mul-le-mul_left l.budget both-few in omega (arith, both-within, most)

  pub join-can : CanJoin s l given
  join-can = record {
    shares = record {
      long = omega (arith, kept.shares, their.shares, kinds-long);
      each = λ at x one there its. can-meet at x one there its;
    };
    rooms = omega (arith, kept.rooms, their.rooms, kinds-long);
    few = λ at.
        let most = mul-le l.budget l.floors 33554432 16 kept.few kept.few_floors in
        omega (arith, both-space, most, index-few l.room at, index-few given.room at);
    jobs = omega (arith, kept.jobs, their.jobs, same-jobs);
    each_round = λ job. go job (cases_lt job (length l.rounds));
    space = omega (arith, both-space, kept.space);
    seats = omega (arith, both-few, kept.seats);
  }
    where
      many : length given.rounds ≡ length l.rounds
      many = omega (arith, kept.jobs, their.jobs, same-jobs)

      go : (job : ℕ) → (job < length l.rounds) ⊎ (length l.rounds ≤ job)
          → length (own_rounds given.rounds job) ≡ length (own_rounds l.rounds job)
      go job (inl low) =
          omega (arith, kept.each_round job low, their.each_round job (omega (arith, low, many)), kinds-long)
      go job (inr past) =
          ap (λ (own : List ℕ). length own)
          (index-past given.rounds job [] (omega (arith, past, many)) ∙ sym (index-past l.rounds job [] past))

  -- What they are when they have met.
  module _ (n : Ledger X) (j : HasJoined s l given n) where
    abbrev met : Ledger X
    met = record l {
      shares = n.shares;
      room = n.room;
      rounds = n.rounds;
      holdings = l.holdings ++ given.holdings;
      met = l.met ++ given.number ∷ given.met;
    }

    -- what stands at a place now
    record Met (at : ℕ) (y : X) : Type 0 where
      x : X
      there : slice_get l.shares at ≡ Some x
      one : X
      its : slice_get given.shares at ≡ Some one
      joined_at : Joins s (funds_in l at (k at x one there its)) (funds_in given at (k at x one there its)) one x y

    met-at : (at : ℕ) (y : X) → slice_get n.shares at ≡ Some y → Met at y
    met-at at y got =
        let m = j.shares.each at y got in
        record {
          x = m.share;
          there = m.there;
          one = m.one;
          its = m.its;
          joined_at = joins at m.share m.one m.there m.its y m.meets;
        }

    long : length n.shares ≡ length l.shares
    long = j.shares.long

    -- the funds of both
    both-funds : (at : ℕ) (kind_is : Kind)
        → record (funds_in l at kind_is) { held = join_held (held_at (holds_in l) at) (held_at (holds_in given) at) }
        ≡ funds_in met at kind_is
    both-funds at kind_is i = record (funds_in l at kind_is) {
      held = (ap (λ m. join_held (held_at (holds_in l) at) (held_at (held_by_jobs m given.holdings) at)) same-jobs
          ∙ sym (held-joined (length l.spots) at l.holdings given.holdings)) i;
    }

    kept-met : IsKept s met
    kept-met = record {
      shares = omega (arith, long, kept.shares);
      rooms = omega (arith, j.rooms, kept.rooms);
      jobs = omega (arith, j.jobs, kept.jobs);
      each_round = λ job low. omega (arith, j.each_round job, kept.each_round job (omega (arith, low, j.jobs)));
      sized = kept.sized;
      funded = record { at = funded };
      waits = waits;
      placed = kept.placed;
      apart = kept.apart;
      distinct = both-distinct;
      below = both-below;
      few_floors = kept.few_floors;
      few = kept.few;
      within =
          let sums = sums-all l.room given.room n.room (omega (arith, kept.rooms, their.rooms, kinds-long)) j.rooms
          j.sums in
          let holdings = length-append l.holdings given.holdings in
          let seats = length-append l.met (given.number ∷ given.met) in
          let count : suc (length (l.met ++ given.number ∷ given.met))
          ≡ suc (length l.met) + suc (length given.met) = omega (arith, seats) in
          subst (λ m. holdings_to_come met ≤ l.budget * m) (sym count)
          (omega (arith, both-within, sums, holdings));
      space = kept.space;
      seats = kept.seats;
    }
      where
        funded : (at : ℕ) (y : X) → slice_get n.shares at ≡ Some y → IsFundedAt s met at y
        funded at y got =
            let m = met-at at y got in
            let mine = kept.funded.at at m.x m.there in
            let theirs = their.funded.at at m.one m.its in
            record {
              funded = λ other is.
                  let found : Some (k at m.x m.one m.there m.its) ≡ Some other =
                  sym (kind-is at m.x m.one m.there m.its) ∙ is in
                  let same : k at m.x m.one m.there m.its ≡ other = cc in
                  subst (λ q. s.funded y (funds_in met at q)) same
                  (subst (s.funded y) (both-funds at (k at m.x m.one m.there m.its)) m.joined_at.funded);
              number = m.joined_at.number ∙ mine.number;
              met = m.joined_at.met
                  ∙ (λ i. mine.met i ++ theirs.number i ∷ theirs.met i);
              passes = m.joined_at.passes ∙ mine.passes;
            }

        waits : (job : ℕ) (w : FloorWait) → slice_get l.spots job ≡ Some (spot_in w) → StandsIn s n.shares w
        waits job w got =
            let stands = kept.waits job w got in
            let low = get-below l.shares w.at stands.share stands.there in
            let there = get-there n.shares w.at (omega (arith, low, long)) in
            let m = met-at w.at there.0 there.1 in
            let found : Some stands.share ≡ Some m.x = sym stands.there ∙ m.there in
            let same : stands.share ≡ m.x = cc in
            record {
              share = there.0;
              there = there.1;
              has = m.joined_at.keeps w.round (place_in w)
                  (subst (λ (z : X). s.has z w.round (place_in w)) same stands.has);
            }

    -- what was seen of a resource, by each and by both
    seen-met : (at : ℕ) (y : X) → slice_get n.shares at ≡ Some y → seen_at (shared_in s met) at ≡ s.seen y
    seen-met at y got = index-mapped s.seen n.shares at y (of_permits []) got

    seen-mine : (at : ℕ) (x : X) → slice_get l.shares at ≡ Some x → seen_at (shared_in s l) at ≡ s.seen x
    seen-mine at x got = index-mapped s.seen l.shares at x (of_permits []) got

    seen-theirs : (at : ℕ) (x : X) → slice_get given.shares at ≡ Some x → seen_at (shared_in s given) at ≡ s.seen x
    seen-theirs at x got = index-mapped s.seen given.shares at x (of_permits []) got

    -- where there is no resource nothing was seen
    none-seen : (xs : List X) (at : ℕ) → length xs ≤ at → get_or (map s.seen xs) at (of_permits []) ≡ of_permits []
    none-seen xs at past = index-past (map s.seen xs) at (of_permits []) (omega (arith, past, length-map xs s.seen))

    -- a fact of each resource, and of places where there is none
    each-place : (P : ℕ → Type 0) → ((at : ℕ) (y : X) → slice_get n.shares at ≡ Some y → P at)
        → ((at : ℕ) → length l.shares ≤ at → P at) → (at : ℕ) → P at
    each-place P there past at = go (cases_lt at (length n.shares))
      where
        go : (at < length n.shares) ⊎ (length n.shares ≤ at) → P at
        go (inl low) = let got = get-there n.shares at low in there at got.0 got.1
        go (inr high) = past at (omega (arith, high, long))

    given-past : (at : ℕ) → length l.shares ≤ at → length given.shares ≤ at
    given-past at past = omega (arith, past, kept.shares, their.shares, kinds-long)

    met-past : (at : ℕ) → length l.shares ≤ at → length n.shares ≤ at
    met-past at past = omega (arith, past, long)

    pub meets-well : IsLawful s → floor.Meets (shared_in s l) (shared_in s given) (shared_in s met)
    meets-well lawful = record {
      staying = each-place (λ at. IsBefore (seen_at (shared_in s l) at) (seen_at (shared_in s met) at))
          (λ at y got.
          let m = met-at at y got in
          rw (seen-mine at m.x m.there, seen-met at y got) m.joined_at.staying)
          (λ at past. rw (none-seen l.shares at past, none-seen n.shares at (met-past at past)) ([], refl));
      coming = each-place (λ at. IsBefore (seen_at (shared_in s given) at) (seen_at (shared_in s met) at))
          (λ at y got.
          let m = met-at at y got in
          rw (seen-theirs at m.one m.its, seen-met at y got) m.joined_at.coming)
          (λ at past.
          rw (none-seen given.shares at (given-past at past), none-seen n.shares at (met-past at past)) ([], refl));
      legal = each-place (λ at. IsLegalAt (shared_in s met).board at (seen_at (shared_in s met) at))
          (λ at y got. record {
            legal = λ other is.
                let m = met-at at y got in
                let found : Some (k at m.x m.one m.there m.its) ≡ Some other =
                sym (kind-is at m.x m.one m.there m.its) ∙ is in
                let same : k at m.x m.one m.there m.its ≡ other = cc in
                rw (seen-met at y got)
                (subst (λ q. IsHistory q (s.seen y)) same m.joined_at.legal);
          })
          (λ at past. record {
            legal = λ other is. absurd (omega (arith, get-below l.kinds at other is, past, kept.shares));
          });
      mine = λ at m has. each-place
          (λ at. own_history m (seen_at (shared_in s met) at) ≡ own_history m (seen_at (shared_in s l) at))
          (λ at y got.
          let e = met-at at y got in
          let funded = kept.funded.at at e.x e.there in
          rw (seen-mine at e.x e.there, seen-met at y got)
          (e.joined_at.mine m
          (subst (λ q. Has m (s.number e.x ∷ q)) (sym funded.met)
          (subst (λ q. Has m (q ∷ l.met)) (sym funded.number) has))))
          (λ at past. rw (none-seen l.shares at past, none-seen n.shares at (met-past at past)) refl) at;
      theirs = λ at m has. each-place
          (λ at. own_history m (seen_at (shared_in s met) at) ≡ own_history m (seen_at (shared_in s given) at))
          (λ at y got.
          let e = met-at at y got in
          let funded = their.funded.at at e.one e.its in
          rw (seen-theirs at e.one e.its, seen-met at y got)
          (e.joined_at.theirs m
          (subst (λ q. Has m (s.number e.one ∷ q)) (sym funded.met)
          (subst (λ q. Has m (q ∷ given.met)) (sym funded.number) has))))
          (λ at past.
          rw (none-seen given.shares at (given-past at past), none-seen n.shares at (met-past at past)) refl) at;
      all = λ have at m. each-place
          (λ at. (is_nothing (own_history m (seen_at (shared_in s met) at)) ≡ true) ⊎ Has m both)
          (λ at y got.
          let e = met-at at y got in
          let funded = kept-met.funded.at at y got in
          rw (seen-met at y got)
          (subst (λ q. (is_nothing (own_history m (s.seen y)) ≡ true) ⊎ Has m (q ∷ l.met ++ given.number ∷ given.met))
          funded.number
          (subst (λ q. (is_nothing (own_history m (s.seen y)) ≡ true) ⊎ Has m (s.number y ∷ q)) funded.met
          (whole-at s met kept-met lawful have at y got (k at e.x e.one e.there e.its)
          (kind-is at e.x e.one e.there e.its) m))))
          (λ at past. rw (none-seen n.shares at (met-past at past)) (inl refl)) at;
      met = refl;
      waits = refl;
      holds = λ job. holds job (cases_lt job (length l.spots));
      rounds = j.raised;
      room = j.sums;
      parties = λ at round. each-place
          (λ at. parties_at (shared_in s met) at round
          ≡ parties_at (shared_in s l) at round + parties_at (shared_in s given) at round)
          (λ at y got.
          let e = met-at at y got in
          rw (
            index-mapped s.parties n.shares at y [] got,
            index-mapped s.parties l.shares at e.x [] e.there,
            index-mapped s.parties given.shares at e.one [] e.its,
          ) (e.joined_at.parties round))
          (λ at past. rw (
            index-past (map s.parties n.shares) at [] (omega (arith, met-past at past, length-map n.shares s.parties)),
            index-past (map s.parties l.shares) at [] (omega (arith, past, length-map l.shares s.parties)),
            index-past (map s.parties given.shares) at []
                (omega (arith, given-past at past, length-map given.shares s.parties)),
          ) refl) at;
      kinds = refl;
      came = refl;
      limits = map-alike s.limit l.shares n.shares long
          (λ at x y there got.
          let e = met-at at y got in
          let found : Some e.x ≡ Some x = sym e.there ∙ there in
          let same : e.x ≡ x = cc in
          e.joined_at.limit ∙ ap s.limit same);
      number = refl;
      floors = refl;
      family = ap (λ fs. own_name l ∷ fs) (map-alike s.family l.shares n.shares long
          (λ at x y there got.
          let e = met-at at y got in
          let found : Some e.x ≡ Some x = sym e.there ∙ there in
          let same : e.x ≡ x = cc in
          e.joined_at.family ∙ ap s.family same));
    }
      where
        holds : (job : ℕ) → (job < length l.spots) ⊎ (length l.spots ≤ job)
            → get_or (held_by_jobs (length l.spots) (l.holdings ++ given.holdings)) job []
            ≡ get_or (holds_in l) job [] ++ get_or (holds_in given) job []
        holds job (inl low) =
            jobs-there (length l.spots) (l.holdings ++ given.holdings) job [] low
            ∙ job-append job l.holdings given.holdings
            ∙ (λ i. sym (jobs-there (length l.spots) l.holdings job [] low) i
            ++ sym (jobs-there (length given.spots) given.holdings job [] (omega (arith, low, same-jobs))) i)
        holds job (inr past) =
            index-past (held_by_jobs (length l.spots) (l.holdings ++ given.holdings)) job []
            (omega (arith, past, jobs-long (length l.spots) (l.holdings ++ given.holdings)))
            ∙ (λ i. sym (index-past (holds_in l) job [] (omega (arith, past, jobs-long (length l.spots) l.holdings))) i
            ++ sym (index-past (holds_in given) job []
            (omega (arith, past, same-jobs, jobs-long (length given.spots) given.holdings))) i)

    pub meet-well : IsLawful s → Well s (floor.Meets (shared_in s l) (shared_in s given)) n
    meet-well lawful =
        subst (Well s (floor.Meets (shared_in s l) (shared_in s given))) (sym j.written)
        (record { kept = kept-met; does = meets-well lawful })
