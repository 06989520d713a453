-- A call that may have to wait there: what a floor keeps after it, and what it is then.
use Rattle.std.proofs.Common.{◌≡◌, ◌≢◌, ◌⊎◌, inl, inr, ℕ, ◌+◌, ◌-◌, ◌<◌, ◌≤◌, Bool, true, false, not, ◌&&◌, ne_eqb, List, Option, Some, None, is_some, length, map, set, slice_get, refl, ap, sym, ◌∙◌, subst, length-set, arith}
use Rattle.std.specs.Prelude.{slice_index}
use Rattle.std.specs.Option.{option_map}
use Rattle.std.proofs.lemmas.Bool.{cases_eq}
use Rattle.std.proofs.lemmas.List.{map-set}
use Rattle.cqs_core.proofs.CoreSteps.{loses-sum}
use Rattle.cqs_core.proofs.Counts.{bit}
use Rattle.cqs_core.proofs.Places.{get-set_here, get-set_else}
use Rattle.cqs_plan.specs.declared.plans.kind.Kind.{Kind}
use Rattle.cqs_plan.specs.Floor.{JobWait, PlainFloor}
use Rattle.cqs_floor_common.specs.Holdings.{held_at}
use Rattle.cqs_floor_shared.specs.Calls as floor
use Rattle.cqs_rule_laws.specs.declared.config.Place.{Place}
use Rattle.cqs_floor_shared.specs.AnswerEntries.{came_entries}
use Rattle.cqs_floor_shared.specs.Calls.{IsDrawn, MayCome, TakesElement, answer_of}
use Rattle.cqs_floor_shared.specs.Entries.{IsDelivered, drawn_in}
use Rattle.cqs_floor_shared.specs.Shared.{seen_at}
use Rattle.cqs_floor_shared_queue.specs.declared.floors.holdings.JobHolding.{JobHolding}
use Rattle.cqs_floor_shared_queue.specs.declared.floors.spots.FloorWait.{FloorWait}
use Rattle.cqs_floor_shared_queue.specs.declared.floors.spots.Spot.{Spot}
use Rattle.cqs_floor_shared_kinds.specs.declared.resource.Came.{Came}
use Rattle.cqs_floor_shared_kinds.specs.declared.resource.Came.TheVariants as came
use Rattle.cqs_floor_shared_queue.specs.FloorKept.{IsKept, StandsIn, came_in, funds_in, standing_in}
use Rattle.cqs_floor_shared_queue.specs.Holdings.{held_by_jobs}
use Rattle.cqs_floor_shared_queue.specs.Ledgers.{Ledger, holds_in, own_rounds, shared_in}
use Rattle.cqs_floor_shared_kinds.specs.ShareCalls.{Comes, ComesTo, Stands}
use Rattle.cqs_floor_shared_kinds.specs.Shares.{Funds, IsSame, Sees, Share, with_came, with_wait}
use Rattle.cqs_floor_shared_queue.specs.Spots.{answer_for, came_at, job_wait, place_in, spot_for, spot_in, stands_at, wait_for, waits_at}
use Rattle.cqs_floor_shared_queue.proofs.FloorLists.{count-set, index-mapped}
use Rattle.cqs_floor_shared_queue.proofs.FloorNext.{Follows, kept-next, next, sees-next, seen-next, stands-on}

and-false : (b : Bool) → bit (b && false) ≡ 0
and-false true = refl
and-false false = refl

-- who has no wait waits for nothing
pub none-stands : (i : ℕ) (spot : Spot) → spot.wait ≡ None → bit (stands_at i spot) ≡ 0
none-stands i spot none =
    ap (λ w. bit (not spot.came && waits_at i w)) none ∙ and-false (not spot.came)

pub none-came : (i : ℕ) (spot : Spot) → spot.wait ≡ None → bit (came_at i spot) ≡ 0
none-came i spot none = ap (λ w. bit (spot.came && waits_at i w)) none ∙ and-false spot.came

pub none-waits : (spot : Spot) → spot.wait ≡ None → bit (is_some spot.wait) ≡ 0
none-waits spot none = ap (λ w. bit (is_some w)) none

-- A job without a wait, and a resource with room that it comes to.
module _ {X : Type 0} (s : Share X) (l : Ledger X) (at job : ℕ) (x y : X) (there : slice_get l.shares at ≡ Some x)
    (kept : IsKept s l) (place : at < length l.room) (some : 0 < slice_index l.room at)
    (old : Spot) (was : slice_get l.spots job ≡ Some old) (idle : old.wait ≡ None) where
  abbrev room : List ℕ
  room = set l.room at (slice_index l.room at - 1)

  pub standing-after : (new : Spot) (i : ℕ)
      → standing_in (set l.spots job new) i ≡ standing_in l.spots i + bit (stands_at i new)
  standing-after new i =
      let changed = count-set (stands_at i) l.spots job old new was in
      let none = none-stands i old idle in
      omega (arith, changed, none)

  pub came-after : (new : Spot) (i : ℕ)
      → came_in (set l.spots job new) i ≡ came_in l.spots i + bit (came_at i new)
  came-after new i =
      let changed = count-set (came_at i) l.spots job old new was in
      let none = none-came i old idle in
      omega (arith, changed, none)

  -- the job stands there then, and the jobs hold this
  pub record Turns (new : Spot) (holdings : List JobHolding) (rounds : List (List ℕ)) : Type 0 where
    pub same : IsSame s x y
    pub funded : (k : Kind) → slice_get l.kinds at ≡ Some k
        → s.funded y (funds_in (next s l at x y there room (set l.spots job new) holdings rounds) at k)
    pub rounds_long : length rounds ≡ length l.rounds
    pub rounds_each : (j : ℕ) → length (own_rounds rounds j) ≡ length (own_rounds l.rounds j)
    pub held : (i : ℕ) → i ≢ at
        → held_at (held_by_jobs (length l.spots) holdings) i ≡ held_at (holds_in l) i
    pub placed_at : (w : FloorWait) → new.wait ≡ Some w → w.at ≡ at
    pub keeps : (round : ℕ) (p : Place) → s.has x round p → s.has y round p
    pub has : (w : FloorWait) → new ≡ spot_in w → s.has y w.round (place_in w)
    pub fresh : (w : FloorWait) → new ≡ spot_in w → (p : Place) → s.has x w.round p → p.index ≢ w.index
    pub few : bit (is_some new.wait) + length holdings ≤ 1 + length l.holdings

  module _ (new : Spot) (holdings : List JobHolding) (rounds : List (List ℕ)) (t : Turns new holdings rounds) where
    abbrev spots : List Spot
    spots = set l.spots job new

    abbrev later : Ledger X
    later = next s l at x y there room spots holdings rounds

    long : length spots ≡ length l.spots
    long = length-set l.spots job new

    -- what a job waits for: the new wait, or one that was there
    stands-for : (j : ℕ) (spot : Spot) → slice_get spots j ≡ Some spot
        → ((j ≡ job) × (new ≡ spot)) ⊎ ((j ≢ job) × (slice_get l.spots j ≡ Some spot))
    stands-for j spot got = go (cases_eq j job)
      where
        go : (j ≡ job) ⊎ (j ≢ job)
            → ((j ≡ job) × (new ≡ spot)) ⊎ ((j ≢ job) × (slice_get l.spots j ≡ Some spot))
        go (inl same) =
            let now : Some new ≡ Some spot =
            sym (get-set_here l.spots job old new was) ∙ ap (slice_get spots) (sym same) ∙ got in
            let is : new ≡ spot = cc in
            inl (same, is)
        go (inr other) =
            inr (other, sym (get-set_else l.spots job j new (λ e. other (sym e))) ∙ got)

    away-stands : (i : ℕ) → i ≢ at → bit (stands_at i new) ≡ 0
    away-stands i other = go new.wait refl
      where
        go : (w : Option FloorWait) → new.wait ≡ w → bit (stands_at i new) ≡ 0
        go None none = none-stands i new none
        go (Some w) is =
            let here = t.placed_at w is in
            ap (λ v. bit (not new.came && waits_at i v)) is
            ∙ ap (λ b. bit (not new.came && b)) (ne_eqb w.at i (λ e. other (sym e ∙ here)))
            ∙ and-false (not new.came)

    away-came : (i : ℕ) → i ≢ at → bit (came_at i new) ≡ 0
    away-came i other = go new.wait refl
      where
        go : (w : Option FloorWait) → new.wait ≡ w → bit (came_at i new) ≡ 0
        go None none = none-came i new none
        go (Some w) is =
            let here = t.placed_at w is in
            ap (λ v. bit (new.came && waits_at i v)) is
            ∙ ap (λ b. bit (new.came && b)) (ne_eqb w.at i (λ e. other (sym e ∙ here)))
            ∙ and-false new.came

    -- no wait that was there before is the new one
    other-wait : (v w : FloorWait) → new ≡ spot_in w → (j : ℕ) → slice_get l.spots j ≡ Some (spot_in v)
        → job_wait v ≢ job_wait w
    other-wait v w is j got same =
        let stands : StandsIn s l.shares v = kept.waits j v got in
        let here : v.at ≡ at = ap (λ (q : JobWait). q.at) same ∙ t.placed_at w (ap (λ (p : Spot). p.wait) is) in
        let found : Some stands.share ≡ Some x = sym stands.there ∙ ap (slice_get l.shares) here ∙ there in
        let one : stands.share ≡ x = cc in
        let has : s.has x v.round (place_in v) = subst (λ (z : X). s.has z v.round (place_in v)) one stands.has in
        t.fresh w is (place_in v) (subst (λ r. s.has x r (place_in v)) (ap (λ (q : JobWait). q.round) same) has)
        (ap (λ (q : JobWait). q.number) same)

    waits : (j : ℕ) (w : FloorWait)
        → ((j ≡ job) × (new ≡ spot_in w)) ⊎ ((j ≢ job) × (slice_get l.spots j ≡ Some (spot_in w)))
        → StandsIn s (set l.shares at y) w
    waits j w (inl (same, is)) = record {
      share = y;
      there = ap (slice_get (set l.shares at y)) (t.placed_at w (ap (λ (p : Spot). p.wait) is))
          ∙ get-set_here l.shares at x y there;
      has = t.has w is;
    }
    waits j w (inr (other, got)) =
        stands-on s l.shares at x y w there (λ same has. t.keeps w.round (place_in w) has) (kept.waits j w got)

    placed : (j : ℕ) (spot : Spot) (w : FloorWait) → spot.wait ≡ Some w
        → ((j ≡ job) × (new ≡ spot)) ⊎ ((j ≢ job) × (slice_get l.spots j ≡ Some spot)) → w.at < length l.kinds
    placed j spot w is (inl (same, now)) =
        let here = t.placed_at w (ap (λ (p : Spot). p.wait) now ∙ is) in
        omega (arith, here, place, kept.rooms)
    placed j spot w is (inr (other, got)) = kept.placed j spot w got is

    apart : (i j : ℕ) (v w : FloorWait) → job_wait v ≡ job_wait w
        → ((i ≡ job) × (new ≡ spot_in v)) ⊎ ((i ≢ job) × (slice_get l.spots i ≡ Some (spot_in v)))
        → ((j ≡ job) × (new ≡ spot_in w)) ⊎ ((j ≢ job) × (slice_get l.spots j ≡ Some (spot_in w))) → i ≡ j
    apart i j v w same (inl (here, is)) (inl (too, also)) = here ∙ sym too
    apart i j v w same (inl (here, is)) (inr (other, got)) = absurd (other-wait w v is j got (sym same))
    apart i j v w same (inr (other, got)) (inl (too, also)) = absurd (other-wait v w also i got same)
    apart i j v w same (inr (other, got)) (inr (too, also)) = kept.apart.same i j v w got also same

    pub follows : Follows s l at x y there room spots holdings rounds
    follows = record {
      same = t.same;
      rooms = length-set l.room at _;
      jobs = long;
      rounds_long = t.rounds_long;
      rounds_each = t.rounds_each;
      funded = t.funded;
      standing = λ i other. omega (arith, standing-after new i, away-stands i other);
      came = λ i other. omega (arith, came-after new i, away-came i other);
      held = λ i other. ap (λ n. held_at (held_by_jobs n holdings) i) long ∙ t.held i other;
      waits = λ j w got. waits j w (stands-for j (spot_in w) got);
      placed = λ j spot w got is. placed j spot w is (stands-for j spot got);
      apart = record {
        same = λ i j v w one two same.
            apart i j v w same (stands-for i (spot_in v) one) (stands-for j (spot_in w) two);
      };
      within =
          let changed = count-set (λ (p : Spot). is_some p.wait) l.spots job old new was in
          let none = none-waits old idle in
          let fewer = loses-sum l.room at place some in
          let few = t.few in
          omega (arith, changed, none, fewer, few);
    }

    -- where the jobs stand then, as the floor is seen
    pub waits-seen : map (λ (p : Spot). option_map job_wait p.wait) spots
        ≡ set (map (λ (p : Spot). option_map job_wait p.wait) l.spots) job (option_map job_wait new.wait)
    waits-seen = map-set (λ (p : Spot). option_map job_wait p.wait) l.spots job new

    pub came-seen : map (λ (p : Spot). p.came) spots ≡ set (map (λ (p : Spot). p.came) l.spots) job new.came
    came-seen = map-set (λ (p : Spot). p.came) l.spots job new

  -- What the jobs have of it after such a call, and which parties the pass holds.
  abbrev pub got : (ℕ → Funds → ℕ → Funds) → Funds → Came → Funds
  got gets a (came.Now element) = gets job a element
  got gets a (came.Under k) = with_came a
  got gets a (came.Waits p) = with_wait a
  got gets a came.Worn = a

  abbrev pub parties_then : List ℕ → Came → List ℕ
  parties_then after (came.Now element) = after
  parties_then after (came.Under k) = after
  parties_then after (came.Waits p) = after
  parties_then after came.Worn = s.parties x

  pub comes-of : (gets : ℕ → Funds → ℕ → Funds) (a : Funds) (round : ℕ) (after : List ℕ) (c : Came)
      → ComesTo s gets a job round after x c y
      → Comes s a x round (answer_of (answer_for c)) (spot_for at round c).came (got gets a c) (parties_then after c) y
  comes-of gets a round after (came.Now element) made = made
  comes-of gets a round after (came.Under k) made = made
  comes-of gets a round after (came.Waits p) made = made.0
  comes-of gets a round after came.Worn made = made

  spot-place : (round : ℕ) (c : Came) (w : FloorWait) → (spot_for at round c).wait ≡ Some w → w.at ≡ at
  spot-place round (came.Now element) w is = absurd (cc)
  spot-place round (came.Under k) w is =
      let same : wait_for at round (record { word = 0; index = k }) ≡ w = cc in ap (λ (v : FloorWait). v.at) (sym same)
  spot-place round (came.Waits p) w is =
      let same : wait_for at round p ≡ w = cc in ap (λ (v : FloorWait). v.at) (sym same)
  spot-place round came.Worn w is = absurd (cc)

  -- the cell in which the new wait stands
  record IsNew (round : ℕ) (w : FloorWait) : Type 0 where
    round_is : round ≡ w.round
    stands : Stands s round (place_in w) x y

  spot-stands : (gets : ℕ → Funds → ℕ → Funds) (a : Funds) (round : ℕ) (after : List ℕ) (c : Came) (w : FloorWait)
      → ComesTo s gets a job round after x c y → spot_for at round c ≡ spot_in w → IsNew round w
  spot-stands gets a round after (came.Now element) w made is =
      let none : None ≡ Some w = ap (λ (p : Spot). p.wait) is in absurd (cc)
  spot-stands gets a round after (came.Under k) w made is =
      let differ : true ≡ false = ap (λ (p : Spot). p.came) is in absurd (cc)
  spot-stands gets a round after (came.Waits p) w made is =
      let found : Some (wait_for at round p) ≡ Some w = ap (λ (q : Spot). q.wait) is in
      let same : wait_for at round p ≡ w = cc in
      record {
        round_is = ap (λ (v : FloorWait). v.round) same;
        stands = subst (λ q. Stands s round q x y) (ap place_in same) made.1;
      }
  spot-stands gets a round after came.Worn w made is =
      let none : None ≡ Some w = ap (λ (p : Spot). p.wait) is in absurd (cc)

  module _ (k : Kind) (is : slice_get l.kinds at ≡ Some k) (round : ℕ) (gets : ℕ → Funds → ℕ → Funds) (after : List ℕ)
      (c : Came) (made : ComesTo s gets (funds_in l at k) job round after x c y) (holdings : List JobHolding)
      (rounds : List (List ℕ)) (rounds_long : length rounds ≡ length l.rounds)
      (rounds_each : (j : ℕ) → length (own_rounds rounds j) ≡ length (own_rounds l.rounds j))
      (funds : funds_in (next s l at x y there room (set l.spots job (spot_for at round c)) holdings rounds) at k
      ≡ got gets (funds_in l at k) c)
      (held : (i : ℕ) → i ≢ at → held_at (held_by_jobs (length l.spots) holdings) i ≡ held_at (holds_in l) i)
      (few : bit (is_some (spot_for at round c).wait) + length holdings ≤ 1 + length l.holdings) where
    comes : Comes s (funds_in l at k) x round (answer_of (answer_for c)) (spot_for at round c).came
        (got gets (funds_in l at k) c) (parties_then after c) y
    comes = comes-of gets (funds_in l at k) round after c made

    turns : Turns (spot_for at round c) holdings rounds
    turns = record {
      same = comes.sees.same;
      funded = λ other got.
          let found : Some k ≡ Some other = sym is ∙ got in
          let same : k ≡ other = cc in
          subst
          (λ j. s.funded y
          (funds_in (next s l at x y there room (set l.spots job (spot_for at round c)) holdings rounds) at j)) same
          (subst (s.funded y) (sym funds) comes.funded);
      rounds_long = rounds_long;
      rounds_each = rounds_each;
      held = held;
      placed_at = spot-place round c;
      keeps = comes.keeps;
      has = λ w new.
          let n = spot-stands gets (funds_in l at k) round after c w made new in
          subst (λ r. s.has y r (place_in w)) n.round_is n.stands.has;
      fresh = λ w new p has.
          let n = spot-stands gets (funds_in l at k) round after c w made new in
          n.stands.fresh p (subst (λ r. s.has x r p) (sym n.round_is) has);
      few = few;
    }

    abbrev pub come : Ledger X
    come = next s l at x y there room (set l.spots job (spot_for at round c)) holdings rounds

    pub kept-come : IsKept s come
    kept-come =
        kept-next s l at x y there room (set l.spots job (spot_for at round c)) holdings rounds kept
        (follows (spot_for at round c) holdings rounds turns)

    pub floor-come : (board : PlainFloor) (parties : List (List ℕ)) → (shared_in s come).board ≡ board
        → map s.parties (set l.shares at y) ≡ parties
        → floor.Comes (shared_in s l) at round job board parties (answer_of (answer_for c)) (shared_in s come)
    floor-come board parties board_is parties_are =
        let funded = kept.funded.at at x there in
        let seen = seen-next s l at x y there room (set l.spots job (spot_for at round c)) holdings rounds in
        record {
          drew = comes.drew;
          with_it = (spot_for at round c).came;
          sees = sees-next s l at x y there room (set l.spots job (spot_for at round c)) holdings rounds k is funded
              (length-set l.spots job _) _
              (subst (λ es. Sees s k x es y)
              (λ i. came_entries (sym is i) round (funded.number i) (answer_of (answer_for c)) comes.drew) comes.sees);
          board = board_is;
          parties = parties_are;
          came = map-set (λ (p : Spot). p.came) l.spots job _;
          delivered = λ n with_it answer.
              let d = comes.delivered n with_it answer in
              (d.0, subst (λ h. IsDelivered h round n d.0) (sym seen) d.1);
          may = subst (MayCome (spot_for at round c).came) (sym is) comes.may;
          element = subst (λ o. TakesElement o (answer_of (answer_for c))) (sym is) comes.element;
          drawn = subst (λ o. IsDrawn o (answer_of (answer_for c)) comes.drew) (sym is) comes.drawn;
          had = λ n e drew answer. subst (λ h. IsDelivered h round n e) (sym seen) (comes.had n e drew answer);
          worn = λ none.
              subst (λ n. n ≤ drawn_in (seen_at (shared_in s come) at) round)
              (sym (index-mapped s.limit l.shares at x 0 there))
              (subst (λ h. s.limit x ≤ drawn_in h round) (sym seen) (comes.worn none));
        }
