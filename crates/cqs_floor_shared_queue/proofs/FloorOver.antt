-- The wait of a job is over: it looked at what came, left the line, or was too late to leave.
use Rattle.std.proofs.Common.{◌≡◌, ◌≢◌, ◌⊎◌, inl, inr, ℕ, ◌+◌, ◌<◌, ◌≤◌, ◌==◌, Bool, true, false, not, ◌&&◌, List, Some, None, is_some, length, map, set, get_or, slice_get, refl, ap, sym, ◌∙◌, subst, length-set, count_by, arith}
use Rattle.std.specs.Prelude.{if◌then◌else◌}
use Rattle.std.specs.Option.{option_map, option_map_or}
use Rattle.std.proofs.lemmas.Bool.{cases_eq}
use Rattle.std.proofs.lemmas.List.{length_push, map-set}
use Rattle.std.proofs.lemmas.Option.{get_or_from_slice_get}
use Rattle.cqs_core.proofs.Counts.{bit}
use Rattle.cqs_core.proofs.Places.{get-below, get-set_here, get-set_else}
use Rattle.cqs_plan.specs.declared.plans.kind.Kind.{Kind}
use Rattle.cqs_plan.specs.Floor.{PlainFloor, wait_of, with_came as with_came_plain, with_newest}
use Rattle.cqs_plan.specs.Language.{can_hold}
use Rattle.cqs_turns_report.proofs.StepCounts.{bit-other, bit-same}
use Rattle.cqs_floor_common.specs.Holdings.{held_at}
use Rattle.cqs_floor_shared_queue.specs.declared.floors.holdings.JobHolding.{JobHolding}
use Rattle.cqs_floor_shared_queue.specs.declared.floors.spots.FloorWait.{FloorWait}
use Rattle.cqs_floor_shared_queue.specs.declared.floors.spots.Spot.{Spot}
use Rattle.cqs_floor_shared_queue.specs.FloorKept.{IsKept, came_in, funds_in, standing_in}
use Rattle.cqs_floor_shared_queue.specs.Holdings.{and_brought, and_more, held_by_jobs}
use Rattle.cqs_floor_shared_queue.specs.Ledgers.{Ledger, brought_to, holds_in, shared_in, with_grant, without_wait}
use Rattle.cqs_floor_shared_kinds.specs.Shares.{Funds, IsSame, KeepsOthers, Share, with_brought, with_came, with_more, with_wait}
use Rattle.cqs_floor_shared_queue.specs.Spots.{came_at, job_wait, no_spot, place_in, spot_in, spot_over, stands_at}
use Rattle.cqs_floor_shared_queue.proofs.FloorComes.{none-came, none-stands}
use Rattle.cqs_floor_shared_queue.proofs.FloorLists.{count-set, index-mapped, map-kept}
use Rattle.cqs_floor_shared_queue.proofs.FloorNext.{Follows, kept-next, next, stands-on}
use Rattle.cqs_floor_shared_queue.proofs.JobHoldings.{else-more, held-more, jobs-more}

-- A job with a wait, which stands in a cell or came with its number.
module _ {X : Type 0} (s : Share X) (l : Ledger X) (job : ℕ) (w : FloorWait) (c : Bool)
    (was : slice_get l.spots job ≡ Some (record { wait = Some w; came = c })) (kept : IsKept s l) where
  abbrev pub old : Spot
  old = record { wait = Some w; came = c }

  abbrev pub new : Spot
  new = record { wait = None; came = c }

  abbrev pub spots : List Spot
  spots = set l.spots job new

  pub own : job < length l.spots
  own = get-below l.spots job old was

  -- so the desk writes it
  pub writes-over : without_wait l job ≡ record l { spots = spots }
  writes-over =
      ap (λ (p : Spot). record l { spots = set l.spots job (spot_over p) })
      (get_or_from_slice_get l.spots job old no_spot was)

  pub same-long : length spots ≡ length l.spots
  same-long = length-set l.spots job new

  pub standing-over : (i : ℕ) → standing_in spots i + bit (stands_at i old) ≡ standing_in l.spots i
  standing-over i =
      let changed = count-set (stands_at i) l.spots job old new was in
      let none = none-stands i new refl in
      omega (arith, changed, none)

  pub came-over : (i : ℕ) → came_in spots i + bit (came_at i old) ≡ came_in l.spots i
  came-over i =
      let changed = count-set (came_at i) l.spots job old new was in
      let none = none-came i new refl in
      omega (arith, changed, none)

  pub fewer : count_by (λ (p : Spot). is_some p.wait) spots + 1 ≡ count_by (λ (p : Spot). is_some p.wait) l.spots
  fewer =
      let changed = count-set (λ (p : Spot). is_some p.wait) l.spots job old new was in
      omega (arith, changed)

  away-stands : (i : ℕ) → i ≢ w.at → bit (stands_at i old) ≡ 0
  away-stands i other = go c refl
    where
      go : (b : Bool) → c ≡ b → bit (stands_at i old) ≡ 0
      go true is = ap (λ b. bit (not b && (w.at == i))) is
      go false is = ap (λ b. bit (not b && (w.at == i))) is ∙ bit-other w.at i (λ e. other (sym e))

  away-came : (i : ℕ) → i ≢ w.at → bit (came_at i old) ≡ 0
  away-came i other = go c refl
    where
      go : (b : Bool) → c ≡ b → bit (came_at i old) ≡ 0
      go true is = ap (λ b. bit (b && (w.at == i))) is ∙ bit-other w.at i (λ e. other (sym e))
      go false is = ap (λ b. bit (b && (w.at == i))) is

  -- a wait that is left is another job's
  another : (j : ℕ) (spot : Spot) (v : FloorWait) → slice_get spots j ≡ Some spot → spot.wait ≡ Some v
      → (j ≢ job) × (slice_get l.spots j ≡ Some spot)
  another j spot v got is = go (cases_eq j job)
    where
      go : (j ≡ job) ⊎ (j ≢ job) → (j ≢ job) × (slice_get l.spots j ≡ Some spot)
      go (inl same) =
          let now : Some new ≡ Some spot =
          sym (get-set_here l.spots job old new was) ∙ ap (slice_get spots) (sym same) ∙ got in
          let one : new ≡ spot = cc in
          let none : None ≡ Some v = ap (λ (p : Spot). p.wait) one ∙ is in
          absurd (cc)
      go (inr other) =
          (other, sym (get-set_else l.spots job j new (λ e. other (sym e))) ∙ got)

  abbrev pub over : List JobHolding → Ledger X
  over holdings = record l { spots = spots; holdings = holdings }

  -- what the jobs have of the resource but for that wait
  abbrev pub left_funds : Kind → Funds
  left_funds k = funds_in (over l.holdings) w.at k

  same-held : (i : ℕ) → held_at (held_by_jobs (length spots) l.holdings) i ≡ held_at (holds_in l) i
  same-held i = ap (λ n. held_at (held_by_jobs n l.holdings) i) same-long

  pub stood : (k : Kind) → c ≡ false → with_wait (left_funds k) ≡ funds_in l w.at k
  stood k is i = record {
    kind = k;
    waiting = waiting i;
    came = came i;
    held = same-held w.at i;
  }
    where
      one : bit (stands_at w.at old) ≡ 1
      one = ap (λ b. bit (not b && (w.at == w.at))) is ∙ bit-same w.at

      none : bit (came_at w.at old) ≡ 0
      none = ap (λ b. bit (b && (w.at == w.at))) is

      waiting : standing_in spots w.at + 1 ≡ standing_in l.spots w.at
      waiting = let changed = standing-over w.at in omega (arith, changed, one)

      came : came_in spots w.at ≡ came_in l.spots w.at
      came = let changed = came-over w.at in omega (arith, changed, none)

  pub had_come : (k : Kind) → c ≡ true → with_came (left_funds k) ≡ funds_in l w.at k
  had_come k is i = record {
    kind = k;
    waiting = waiting i;
    came = came i;
    held = same-held w.at i;
  }
    where
      none : bit (stands_at w.at old) ≡ 0
      none = ap (λ b. bit (not b && (w.at == w.at))) is

      one : bit (came_at w.at old) ≡ 1
      one = ap (λ b. bit (b && (w.at == w.at))) is ∙ bit-same w.at

      waiting : standing_in spots w.at ≡ standing_in l.spots w.at
      waiting = let changed = standing-over w.at in omega (arith, changed, none)

      came : came_in spots w.at + 1 ≡ came_in l.spots w.at
      came = let changed = came-over w.at in omega (arith, changed, one)

  -- After a call of the resource, or none, that keeps all other waits.
  module _ (x y : X) (there : slice_get l.shares w.at ≡ Some x) (k : Kind) (is : slice_get l.kinds w.at ≡ Some k)
      (same : IsSame s x y)
      (keeps : (j : ℕ) (v : FloorWait) → j ≢ job → slice_get l.spots j ≡ Some (spot_in v) → v.at ≡ w.at
      → s.has x v.round (place_in v) → s.has y v.round (place_in v)) where
    abbrev pub later : List JobHolding → Ledger X
    later holdings = next s l w.at x y there l.room spots holdings l.rounds

    follows : (holdings : List JobHolding) → s.funded y (funds_in (later holdings) w.at k)
        → ((i : ℕ) → i ≢ w.at → held_at (held_by_jobs (length l.spots) holdings) i ≡ held_at (holds_in l) i)
        → length holdings ≤ 1 + length l.holdings
        → Follows s l w.at x y there l.room spots holdings l.rounds
    follows holdings funded held few = record {
      same = same;
      rooms = refl;
      jobs = same-long;
      rounds_long = refl;
      rounds_each = λ j. refl;
      funded = λ other got.
          let found : Some k ≡ Some other = sym is ∙ got in
          let kind : k ≡ other = cc in
          subst (λ j. s.funded y (funds_in (later holdings) w.at j)) kind funded;
      standing = λ i other. let changed = standing-over i in omega (arith, changed, away-stands i other);
      came = λ i other. let changed = came-over i in omega (arith, changed, away-came i other);
      held = λ i other. ap (λ n. held_at (held_by_jobs n holdings) i) same-long ∙ held i other;
      waits = λ j v got.
          let a = another j (spot_in v) v got refl in
          stands-on s l.shares w.at x y v there (λ here has. keeps j v a.0 a.1 here has) (kept.waits j v a.1);
      placed = λ j spot v got it. kept.placed j spot v (another j spot v got it).1 it;
      apart = record {
        same = λ i j v u one two same.
            kept.apart.same i j v u (another i (spot_in v) v one refl).1 (another j (spot_in u) u two refl).1 same;
      };
      within = omega (arith, fewer, few);
    }

    -- the job left the line, or only goes on
    pub kept-gone : s.funded y (left_funds k) → IsKept s (later l.holdings)
    kept-gone funded =
        kept-next s l w.at x y there l.room spots l.holdings l.rounds kept
        (follows l.holdings funded (λ i other. refl) (omega arith))

    -- it has what came, where that can be held
    brought-funds : (element : ℕ)
        → funds_in (later (and_brought k l.holdings w.at job element)) w.at k ≡ with_brought (left_funds k) job element
    brought-funds element = go (can_hold k) refl
      where
        go : (b : Bool) → can_hold k ≡ b
            → funds_in (later (and_brought k l.holdings w.at job element)) w.at k
            ≡ with_brought (left_funds k) job element
        go true can =
            ap (λ b. funds_in (later (if b then and_more l.holdings w.at job element else l.holdings)) w.at k) can
            ∙ (λ i. record (left_funds k) {
              held = (ap (λ holds. held_at holds w.at)
                  (jobs-more (length spots) l.holdings w.at job element (omega (arith, own, same-long)))
                  ∙ held-more (held_by_jobs (length spots) l.holdings) job w.at element) i;
            })
            ∙ ap (λ (b : Bool). if b then with_more (left_funds k) job element else left_funds k) (sym can)
        go false cant =
            ap (λ b. funds_in (later (if b then and_more l.holdings w.at job element else l.holdings)) w.at k) cant
            ∙ ap (λ (b : Bool). if b then with_more (left_funds k) job element else left_funds k) (sym cant)

    brought-held : (element i : ℕ) → i ≢ w.at
        → held_at (held_by_jobs (length l.spots) (and_brought k l.holdings w.at job element)) i
        ≡ held_at (holds_in l) i
    brought-held element i other = go (can_hold k) refl
      where
        go : (b : Bool) → can_hold k ≡ b
            → held_at (held_by_jobs (length l.spots) (and_brought k l.holdings w.at job element)) i
            ≡ held_at (holds_in l) i
        go true can =
            ap (λ b. held_at (held_by_jobs (length l.spots)
            (if b then and_more l.holdings w.at job element else l.holdings)) i) can
            ∙ ap (λ holds. held_at holds i) (jobs-more (length l.spots) l.holdings w.at job element own)
            ∙ else-more (holds_in l) job w.at element i (λ e. other (sym e))
        go false cant =
            ap (λ b. held_at (held_by_jobs (length l.spots)
            (if b then and_more l.holdings w.at job element else l.holdings)) i) cant

    brought-few : (element : ℕ) → length (and_brought k l.holdings w.at job element) ≤ 1 + length l.holdings
    brought-few element = go (can_hold k) refl
      where
        go : (b : Bool) → can_hold k ≡ b → length (and_brought k l.holdings w.at job element) ≤ 1 + length l.holdings
        go true can =
            let more = length_push l.holdings (record { job = job; at = w.at; element = element }) in
            rw can (omega (arith, more))
        go false cant = rw cant (omega arith)

    pub kept-came : (element : ℕ) → s.funded y (with_brought (left_funds k) job element)
        → IsKept s (later (and_brought k l.holdings w.at job element))
    kept-came element funded =
        kept-next s l w.at x y there l.room spots (and_brought k l.holdings w.at job element) l.rounds kept
        (follows (and_brought k l.holdings w.at job element) (subst (s.funded y) (sym (brought-funds element)) funded)
        (brought-held element) (brought-few element))

    -- as the floor is seen
    abbrev board : PlainFloor
    board = (shared_in s l).board

    abbrev waitless : PlainFloor
    waitless = record board { waits = set board.waits job None }

    gone-waits : map (λ (p : Spot). option_map job_wait p.wait) spots
        ≡ set (map (λ (p : Spot). option_map job_wait p.wait) l.spots) job None
    gone-waits = map-set (λ (p : Spot). option_map job_wait p.wait) l.spots job new

    pub board-gone : (shared_in s (later l.holdings)).board ≡ waitless
    board-gone i = record board {
      waits = gone-waits i;
      holds = held_by_jobs (same-long i) l.holdings;
    }

    pub board-came : (element : ℕ)
        → (shared_in s (later (and_brought k l.holdings w.at job element))).board
        ≡ with_came_plain waitless job w.at element
    board-came element = go (can_hold k) refl
      where
        go : (b : Bool) → can_hold k ≡ b
            → (shared_in s (later (and_brought k l.holdings w.at job element))).board
            ≡ with_came_plain waitless job w.at element
        go true can =
            ap (λ b. (shared_in s (later (if b then and_more l.holdings w.at job element else l.holdings))).board) can
            ∙ (λ i. record board {
              waits = gone-waits i;
              holds = (ap (λ n. held_by_jobs n (and_more l.holdings w.at job element)) same-long
                  ∙ jobs-more (length l.spots) l.holdings w.at job element own) i;
            })
            ∙ ap (λ (b : Bool). if b then with_newest waitless job w.at element else waitless)
            (sym (ap (λ o. option_map_or can_hold o false) is ∙ can))
        go false cant =
            ap (λ b. (shared_in s (later (if b then and_more l.holdings w.at job element else l.holdings))).board) cant
            ∙ board-gone
            ∙ ap (λ (b : Bool). if b then with_newest waitless job w.at element else waitless)
            (sym (ap (λ o. option_map_or can_hold o false) is ∙ cant))

    -- whether what a job waits for came with its number is known on
    pub came-on : map (λ (p : Spot). p.came) spots ≡ map (λ (p : Spot). p.came) l.spots
    came-on = map-kept (λ (p : Spot). p.came) l.spots job old new was refl

    -- and so the desk writes it
    pub writes-grant : (element : ℕ)
        → with_grant l w.at job element ≡ record l {
          spots = spots;
          holdings = and_brought k l.holdings w.at job element;
        }
    writes-grant element =
        ap (λ (m : Ledger X). record m { holdings = brought_to (slice_get l.kinds w.at) l.holdings w.at job element })
        writes-over
        ∙ ap (λ o. record l { spots = spots; holdings = brought_to o l.holdings w.at job element }) is

  -- its wait, as the floor is seen
  pub wait-seen : wait_of (shared_in s l).board job ≡ Some (job_wait w)
  wait-seen = index-mapped (λ (p : Spot). option_map job_wait p.wait) l.spots job old None was

  pub came-seen : get_or (map (λ (p : Spot). p.came) l.spots) job false ≡ c
  came-seen = index-mapped (λ (p : Spot). p.came) l.spots job old false was

  -- the waits of other jobs in the resource are others
  pub others-keep : (x y : X) → c ≡ false → KeepsOthers s x w.round w.index y
      → (j : ℕ) (v : FloorWait) → j ≢ job → slice_get l.spots j ≡ Some (spot_in v) → v.at ≡ w.at
      → s.has x v.round (place_in v) → s.has y v.round (place_in v)
  others-keep x y is keeps j v other got at has =
      keeps v.round (place_in v)
      (λ round number. other (kept.apart.same j job v w got
      (was ∙ ap (λ b. Some (record { wait = Some w; came = b })) is)
      (λ i. record { at = at i; round = round i; number = number i })))
      has
