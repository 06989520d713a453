-- A floor as it is made for a plan: what it keeps, and that it is one on which a worker can begin.
use Rattle.std.proofs.Common.{◌≡◌, ◌⊎◌, inl, inr, ℕ, zero, suc, ◌+◌, ◌*◌, ◌<◌, ◌≤◌, cond, Bool, true, false, List, [], ◌∷◌, Some, None, is_some, length, map, replicate, get_or, slice_get, refl, ap, sym, ◌∙◌, subst, sum, count_by, arith}
use Rattle.std.specs.List.{range_with_len}
use Rattle.std.specs.Option.{option_map}
use Rattle.std.proofs.lemmas.Bool.{cases_lt}
use Rattle.std.proofs.lemmas.List.{length-map, length-replicate}
use Rattle.std.proofs.lemmas.List.Folds.{sum_by-replicate}
use Rattle.std.proofs.lemmas.List.FromFn.{get_or-map-range_with_len, length-map-range_with_len}
use Rattle.cqs_core.specs.Parts.{Has}
use Rattle.cqs_core.proofs.Places.{get-below, get-past, get-there}
use Rattle.cqs_plan.specs.declared.plans.kind.Kind.{Kind}
use Rattle.cqs_plan.specs.declared.plans.plan.Plan.{Plan}
use Rattle.cqs_plan.specs.declared.plans.resource.Resource.{Resource}
use Rattle.cqs_plan.specs.Arriving.{rounds_of}
use Rattle.cqs_plan.specs.Floor.{HasRound, PlainFloor, room_at}
use Rattle.cqs_plan.specs.FloorHistory.{of_permits}
use Rattle.cqs_plan.specs.LegalFloor.{IsHistory}
use Rattle.cqs_plan.specs.Runnable.{AreSized, IsRunnable, kinds_of}
use Rattle.cqs_plan.specs.Validity.{IsKind}
use Rattle.cqs_floor_common.specs.Room.{room_of}
use Rattle.cqs_floor_common.specs.Holdings.{elements_of, held_at}
use Rattle.cqs_floor_shared.specs.Entries.{is_nothing, own_history}
use Rattle.cqs_floor_shared.specs.Shared.{IsLegalAt, parties_at, seen_at}
use Rattle.cqs_work.specs.Needs.{sum_of_needs, parties_needed, room_needed}
use Rattle.cqs_work.specs.Opening.{IsOpening, dealt}
use Rattle.cqs_floor_shared_queue.specs.declared.floors.spots.Spot.{Spot}
use Rattle.cqs_floor_shared_queue.specs.FloorKept.{IsFundedAt, IsKept, funds_in}
use Rattle.cqs_floor_shared_queue.specs.Holdings.{held_by_jobs}
use Rattle.cqs_floor_shared_queue.specs.Ledgers.{Ledger, holds_in, kind_numbers, shared_in}
use Rattle.cqs_floor_shared_queue.specs.Openings.{AreFresh, IsFresh, IsMade, own_arriving, plan_name}
use Rattle.cqs_floor_shared_kinds.specs.ShareCalls.{no_funds}
use Rattle.cqs_floor_shared_kinds.specs.Shares.{IsLawful, Share}
use Rattle.cqs_floor_shared_queue.specs.Spots.{came_at, job_wait, no_spot, spot_in, stands_at}
use Rattle.cqs_floor_shared_queue.proofs.FloorCounts.{room-past}
use Rattle.cqs_floor_shared_queue.proofs.FloorCrews.{index-past}
use Rattle.cqs_floor_shared_queue.proofs.FloorLists.{get-mapped, index-mapped, mapped-back}
use Rattle.cqs_floor_shared_queue.proofs.FloorProvides.{none-for, parties-enough, parties-none, room-enough, rounds-most}

-- all elements of a list of one element are that one
replicate-all : {X : Type 0} (n : ℕ) (x y : X) (i : ℕ) → slice_get (replicate n x) i ≡ Some y → y ≡ x
replicate-all zero x y i got = absurd (cc)
replicate-all (suc n) x y zero got = cc
replicate-all (suc n) x y (suc i) got = replicate-all n x y i got

replicate-there : {X : Type 0} (n : ℕ) (x d : X) (i : ℕ) → i < n → get_or (replicate n x) i d ≡ x
replicate-there zero x d i low = absurd (omega arith)
replicate-there (suc n) x d zero low = refl
replicate-there (suc n) x d (suc i) low = replicate-there n x d i (omega arith)

map-replicate : {X Y : Type 0} (f : X → Y) (n : ℕ) (x : X) → map f (replicate n x) ≡ replicate n (f x)
map-replicate f zero x = refl
map-replicate f (suc n) x = ap (λ ys. f x ∷ ys) (map-replicate f n x)

map-none : {Y : Type 0} (y : Y) (a n : ℕ) → map (λ (j : ℕ). y) (range_with_len a n) ≡ replicate n y
map-none y a zero = refl
map-none y a (suc n) = ap (λ ys. y ∷ ys) (map-none y (a + 1) n)

-- nobody waits, and nobody holds anything
count-no : (p : Spot → Bool) (n : ℕ) → p no_spot ≡ false → count_by p (replicate n no_spot) ≡ 0
count-no p n none =
    let all = sum_by-replicate (λ (q : Spot). cond {A = ℕ} (p q) 1 0) n no_spot in
    let one : cond {A = ℕ} (p no_spot) 1 0 ≡ 0 = ap (λ b. cond {A = ℕ} b 1 0) none in
    let nothing : n * 0 ≡ 0 = omega arith in
    let many : n * cond {A = ℕ} (p no_spot) 1 0 ≡ 0 = ap (λ m. n * m) one ∙ nothing in
    omega (arith, all, many)

held-none : (at n : ℕ) → held_at (held_by_jobs n []) at ≡ replicate n []
held-none at n = ap (map (elements_of at)) (map-none [] 0 n) ∙ map-replicate (elements_of at) n []

module _ {X : Type 0} (s : Share X) (plan : Plan) (workers worker : ℕ) (least : ℕ → ℕ) (shares : List X)
    (fresh : AreFresh s plan.resources workers worker least shares) (sized : AreSized plan.resources)
    (low : worker < workers) (few : workers ≤ 16) (budget space seats : ℕ)
    (enough : sum (map (room_of plan.jobs) (range_with_len 0 (length plan.resources))) ≡ budget)
    (small : budget ≤ 33554432) (roomy : budget * workers ≤ space) (seated : workers ≤ seats) where
  abbrev jobs : ℕ
  jobs = length plan.jobs

  abbrev pub made : Ledger X
  made = record {
    kinds = kinds_of plan.resources;
    shares = shares;
    room = map (room_of plan.jobs) (range_with_len 0 (length plan.resources));
    spots = replicate jobs no_spot;
    rounds = replicate jobs (replicate {A = ℕ} (length plan.resources) 0);
    holdings = [];
    number = worker;
    met = [];
    floors = workers;
    budget = budget;
    space = space;
    seats = seats;
  }

  kinds-long : length (kinds_of plan.resources) ≡ length plan.resources
  kinds-long = length-map plan.resources (λ (r : Resource). r.kind)

  room-long : length made.room ≡ length plan.resources
  room-long = length-map-range_with_len (room_of plan.jobs) 0 (length plan.resources)

  spots-long : length (replicate jobs no_spot) ≡ jobs
  spots-long = length-replicate jobs no_spot

  no-funds : (at : ℕ) (k : Kind) → no_funds s k jobs ≡ funds_in made at k
  no-funds at k i = record {
    kind = k;
    waiting = sym (count-no (stands_at at) jobs refl) i;
    came = sym (count-no (came_at at) jobs refl) i;
    held = (sym (ap (λ n. held_at (held_by_jobs n []) at) spots-long ∙ held-none at jobs)) i;
  }

  pub resource-of : (at : ℕ) (x : X) → slice_get shares at ≡ Some x
      → (r : Resource) × (slice_get plan.resources at ≡ Some r)
  resource-of at x got = get-there plan.resources at (omega (arith, get-below shares at x got, fresh.long))

  pub kept-made : IsKept s made
  kept-made = record {
    shares = fresh.long ∙ sym kinds-long;
    rooms = room-long ∙ sym kinds-long;
    jobs = length-replicate jobs (replicate {A = ℕ} (length plan.resources) 0) ∙ sym spots-long;
    each_round = λ job below.
        ap (λ (own : List ℕ). length own)
        (replicate-there jobs (replicate {A = ℕ} (length plan.resources) 0) [] job
        (omega (arith, below, length-replicate jobs (replicate {A = ℕ} (length plan.resources) 0))))
        ∙ length-replicate {A = ℕ} (length plan.resources) 0 ∙ sym kinds-long;
    sized = record {
      at = λ at k got.
          let r = mapped-back (λ (q : Resource). q.kind) plan.resources at k got in
          subst IsKind r.2 (sized.at at r.0 r.1);
    };
    funded = record { at = funded };
    waits = λ job w got.
        let none : spot_in w ≡ no_spot = replicate-all jobs no_spot (spot_in w) job got in
        let absent : Some w ≡ None = ap (λ (p : Spot). p.wait) none in
        absurd (cc);
    placed = λ job spot w got is.
        let none : spot ≡ no_spot = replicate-all jobs no_spot spot job got in
        let absent : Some w ≡ None = sym is ∙ ap (λ (p : Spot). p.wait) none in
        absurd (cc);
    apart = record {
      same = λ i j v w one other same.
          let none : spot_in v ≡ no_spot = replicate-all jobs no_spot (spot_in v) i one in
          let absent : Some v ≡ None = ap (λ (p : Spot). p.wait) none in
          absurd (cc);
    };
    distinct = ((λ has. has), tt);
    below = λ n has. below n has;
    few_floors = few;
    few = small;
    within =
        let none = count-no (λ (p : Spot). is_some p.wait) jobs refl in
        omega (arith, none, enough);
    space = roomy;
    seats = seated;
  }
    where
      below : (n : ℕ) → Has n (worker ∷ []) → n < workers
      below n (inl same) = omega (arith, same, low)
      below n (inr none) = absurd none

      funded : (at : ℕ) (x : X) → slice_get shares at ≡ Some x → IsFundedAt s made at x
      funded at x got =
          let r = resource-of at x got in
          let f = fresh.each at r.0 x r.1 got in
          record {
            funded = λ k is.
                let q = mapped-back (λ (p : Resource). p.kind) plan.resources at k is in
                let found : Some r.0 ≡ Some q.0 = sym r.1 ∙ q.1 in
                let same : r.0 ≡ q.0 = cc in
                subst (λ j. s.funded x (funds_in made at j)) (ap (λ (p : Resource). p.kind) same ∙ q.2)
                (subst (s.funded x) (no-funds at r.0.kind) (f.funded jobs));
            number = f.number;
            met = f.met;
            passes = f.passes;
          }

  -- and so it is made
  pub is-made : (l : Ledger X) → IsMade plan workers worker shares l → l.budget ≡ budget → l.space ≡ space
      → l.seats ≡ seats → l ≡ made
  is-made l m one two three i = record {
    kinds = m.kinds i;
    shares = m.shares i;
    room = m.room i;
    spots = m.spots i;
    rounds = m.rounds i;
    holdings = m.holdings i;
    number = m.number i;
    met = m.met i;
    floors = m.floors i;
    budget = one i;
    space = two i;
    seats = three i;
  }

  -- as it is seen
  pub waits-made : map (λ (p : Spot). option_map job_wait p.wait) (replicate jobs no_spot) ≡ replicate jobs None
  waits-made = map-replicate (λ (p : Spot). option_map job_wait p.wait) jobs no_spot

  pub holds-made : holds_in made ≡ replicate jobs []
  holds-made = ap (λ n. held_by_jobs n []) spots-long ∙ map-none [] 0 jobs

  pub name-made : (shared_in s made).family ≡ plan_name plan workers ∷ map s.family shares
  name-made i =
      ((spots-long i ∷ workers ∷ sym enough i ∷ []) ∷ map kind_numbers (kinds_of plan.resources))
      ∷ map s.family shares

  -- no job has arrived anywhere
  pub no-round : (job at : ℕ) → get_or (get_or made.rounds job []) at 0 ≡ 0
  no-round job at = go (cases_lt job jobs) (cases_lt at (length plan.resources))
    where
      zeros : List ℕ
      zeros = replicate {A = ℕ} (length plan.resources) 0

      go : (job < jobs) ⊎ (jobs ≤ job) → (at < length plan.resources) ⊎ (length plan.resources ≤ at)
          → get_or (get_or made.rounds job []) at 0 ≡ 0
      go (inr past) place =
          ap (λ (own : List ℕ). get_or own at 0)
          (index-past made.rounds job []
          (omega (arith, past, length-replicate jobs (replicate {A = ℕ} (length plan.resources) 0))))
      go (inl below) (inl there) =
          ap (λ (own : List ℕ). get_or own at 0)
          (replicate-there jobs (replicate {A = ℕ} (length plan.resources) 0) [] job below)
          ∙ replicate-there {X = ℕ} (length plan.resources) 0 0 at there
      go (inl below) (inr past) =
          ap (λ (own : List ℕ). get_or own at 0)
          (replicate-there jobs (replicate {A = ℕ} (length plan.resources) 0) [] job below)
          ∙ index-past (replicate {A = ℕ} (length plan.resources) 0) at 0
          (omega (arith, past, length-replicate {A = ℕ} (length plan.resources) 0))

  -- what its resources are kept as, one by one
  pub fresh-at : (at : ℕ) (x : X) → slice_get shares at ≡ Some x
      → (r : Resource) × (slice_get plan.resources at ≡ Some r) × IsFresh s r.kind workers worker x
  fresh-at at x got =
      let r = resource-of at x got in
      (r.0, r.1, fresh.each at r.0 x r.1 got)

  module _ (lawful : IsLawful s) (runnable : IsRunnable plan)
      (dealt_less : (at : ℕ) → least at ≡ own_arriving workers worker at plan.jobs) where
    room-there : (at : ℕ) → sum_of_needs (room_needed at) 0 plan.jobs (dealt plan workers worker)
        ≤ room_at (shared_in s made).board at
    room-there at = go (cases_lt at (length plan.resources))
      where
        go : (at < length plan.resources) ⊎ (length plan.resources ≤ at)
            → sum_of_needs (room_needed at) 0 plan.jobs (dealt plan workers worker)
            ≤ room_at (shared_in s made).board at
        go (inl there) =
            let here = get_or-map-range_with_len (room_of plan.jobs) 0 (length plan.resources) at at 0 there
            (omega arith) in
            omega (arith, room-enough workers worker at 0 plan.jobs, here)
        go (inr past) =
            let none = room-past plan runnable at past in
            omega (arith, room-enough workers worker at 0 plan.jobs, none)

    parties-there : (at round : ℕ)
        → sum_of_needs (parties_needed (shared_in s made).board at round) 0 plan.jobs (dealt plan workers worker)
        ≤ parties_at (shared_in s made) at round
    parties-there at round = go (cases_lt at (length shares))
      where
        b : PlainFloor
        b = (shared_in s made).board

        nobody : (bound : ℕ) → ((n : ℕ) → HasRound (slice_get (kinds_of plan.resources) at) n → n < bound)
            → bound ≤ round
            → sum_of_needs (parties_needed (shared_in s made).board at round) 0 plan.jobs
            (dealt plan workers worker) ≡ 0
        nobody bound most past =
            parties-none (shared_in s made).board no-round workers worker at round 0 plan.jobs
            (λ i job got. none-for (kinds_of plan.resources) job.steps at bound round (runnable.steps.at i job got) most
            past)

        go : (at < length shares) ⊎ (length shares ≤ at)
            → sum_of_needs (parties_needed (shared_in s made).board at round) 0 plan.jobs (dealt plan workers worker)
            ≤ parties_at (shared_in s made) at round
        go (inr past) =
            let nothing = get-past (kinds_of plan.resources) at (omega (arith, past, fresh.long, kinds-long)) in
            let none = nobody 0 (λ n has. absurd (subst (λ o. HasRound o n) nothing has)) (omega arith) in
            omega (arith, none)
        go (inl below) =
            let x = get-there shares at below in
            let r = resource-of at x.0 x.1 in
            let k_is : slice_get (kinds_of plan.resources) at ≡ Some r.0.kind =
            get-mapped (λ (q : Resource). q.kind) plan.resources at r.0 r.1 in
            let seen : get_or (map s.parties shares) at [] ≡ s.parties x.0 =
            index-mapped s.parties shares at x.0 [] x.1 in
            inside x.0 x.1 r.0 r.1 k_is seen (cases_lt round (rounds_of r.0.kind))
          where
            inside : (x : X) → slice_get shares at ≡ Some x → (r : Resource) → slice_get plan.resources at ≡ Some r
                → slice_get (kinds_of plan.resources) at ≡ Some r.kind
                → get_or (map s.parties shares) at [] ≡ s.parties x
                → (round < rounds_of r.kind) ⊎ (rounds_of r.kind ≤ round)
                → sum_of_needs (parties_needed (shared_in s made).board at round) 0 plan.jobs
                (dealt plan workers worker)
                ≤ parties_at (shared_in s made) at round
            inside x got r named k_is seen (inl early) =
                let has = fresh.parties at r x named got round early in
                let all = parties-enough (shared_in s made).board no-round workers worker at round 0 plan.jobs in
                let own = dealt_less at in
                let here = ap (λ (ps : List ℕ). get_or ps round 0) seen in
                omega (arith, has, all, own, here)
            inside x got r named k_is seen (inr late) =
                let none = nobody (rounds_of r.kind)
                (λ n has. rounds-most r.kind n (subst (λ o. HasRound o n) k_is has)) late in
                omega (arith, none)

    pub opening-made : IsOpening plan workers worker (shared_in s made)
    opening-made = record {
      kinds = refl;
      waits = waits-made;
      holds = holds-made;
      rounds = refl;
      provided = record { room = room-there; parties = parties-there };
      long = length-map shares s.seen ∙ fresh.long;
      legal = λ at. legal at (cases_lt at (length shares));
      unnamed = λ at n which. unnamed at n which (cases_lt at (length shares));
      number = refl;
      met = refl;
      floors = refl;
    }
      where
        legal : (at : ℕ) → (at < length shares) ⊎ (length shares ≤ at)
            → IsLegalAt (shared_in s made).board at (seen_at (shared_in s made) at)
        legal at (inr past) = record {
          legal = λ k is.
              absurd (omega (arith, get-below (kinds_of plan.resources) at k is, past, fresh.long, kinds-long));
        }
        legal at (inl below) = record {
          legal = λ k is.
              let x = get-there shares at below in
              let f = fresh-at at x.0 x.1 in
              let q = mapped-back (λ (p : Resource). p.kind) plan.resources at k is in
              let found : Some f.0 ≡ Some q.0 = sym f.1 ∙ q.1 in
              let same : f.0 ≡ q.0 = cc in
              subst (λ h. IsHistory k h) (sym (index-mapped s.seen shares at x.0 (of_permits []) x.1))
              (subst (λ j. IsHistory j (s.seen x.0)) (ap (λ (p : Resource). p.kind) same ∙ q.2)
              (lawful.legal x.0 (no_funds s f.0.kind 0) (f.2.funded 0)));
        }

        unnamed : (at n : ℕ) → (n ≡ worker) ⊎ (workers ≤ n) → (at < length shares) ⊎ (length shares ≤ at)
            → is_nothing (own_history n (seen_at (shared_in s made) at)) ≡ true
        unnamed at n which (inr past) =
            ap (λ h. is_nothing (own_history n h))
            (index-past (map s.seen shares) at (of_permits []) (omega (arith, past, length-map shares s.seen)))
        unnamed at n which (inl below) =
            let x = get-there shares at below in
            ap (λ h. is_nothing (own_history n h)) (index-mapped s.seen shares at x.0 (of_permits []) x.1)
            ∙ of_x x.0 (fresh-at at x.0 x.1) which
          where
            of_x : (x : X)
                → (r : Resource) × (slice_get plan.resources at ≡ Some r) × IsFresh s r.kind workers worker x
                → (n ≡ worker) ⊎ (workers ≤ n) → is_nothing (own_history n (s.seen x)) ≡ true
            of_x x f (inl own) = ap (λ m. is_nothing (own_history m (s.seen x))) own ∙ f.2.unnamed
            of_x x f (inr many) =
                lawful.unnamed x (no_funds s f.0.kind 0) (f.2.funded 0) n
                (subst (λ m. m ≤ n) (sym f.2.passes) many)

-- the desk of a worker, as it is made
module _ {X : Type 0} (s : Share X) (plan : Plan) (workers worker : ℕ) (shares : List X)
    (fresh : AreFresh s plan.resources workers worker (λ at. own_arriving workers worker at plan.jobs) shares)
    (sized : AreSized plan.resources) (low : worker < workers) (few : workers ≤ 16) (l : Ledger X)
    (m : IsMade plan workers worker shares l) where
  enough : sum (map (room_of plan.jobs) (range_with_len 0 (length plan.resources))) ≡ l.budget
  enough = ap (λ (room : List ℕ). sum room) (sym m.room) ∙ sym m.budget

  as-made : l
      ≡ made s plan workers worker (λ at. own_arriving workers worker at plan.jobs) shares fresh sized low few l.budget
      l.space l.seats enough m.few m.space m.seats
  as-made =
      is-made s plan workers worker (λ at. own_arriving workers worker at plan.jobs) shares fresh sized low few l.budget
      l.space l.seats enough m.few m.space m.seats l m refl refl refl

  pub kept-desk : IsKept s l
  kept-desk = subst (IsKept s) (sym as-made)
      (kept-made s plan workers worker (λ at. own_arriving workers worker at plan.jobs) shares fresh sized low few
      l.budget l.space l.seats enough m.few m.space m.seats)

  pub opens-desk : IsLawful s → IsRunnable plan → IsOpening plan workers worker (shared_in s l)
  opens-desk lawful runnable = subst (λ d. IsOpening plan workers worker (shared_in s d)) (sym as-made)
      (opening-made s plan workers worker (λ at. own_arriving workers worker at plan.jobs) shares fresh sized low few
      l.budget l.space l.seats enough m.few m.space m.seats lawful runnable (λ at. refl))

  pub name-desk : (shared_in s l).family ≡ plan_name plan workers ∷ map s.family shares
  name-desk = ap (λ d. (shared_in s d).family) as-made
      ∙ name-made s plan workers worker (λ at. own_arriving workers worker at plan.jobs) shares fresh sized low few
      l.budget l.space l.seats enough m.few m.space m.seats
