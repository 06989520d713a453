-- A take, a wait at a latch, and an arrival at a barrier: what they rest on, and what they leave.
use Rattle.std.proofs.Common.{◌≡◌, ◌≢◌, ◌⊎◌, inl, inr, ℕ, ◌+◌, ◌-◌, ◌<◌, ◌≤◌, List, [], Option, Some, None, Result, length, map, set, get_or, slice_get, refl, ap, sym, ◌∙◌, subst, length-set, arith}
use Rattle.std.specs.Prelude.{slice_index}
use Rattle.std.specs.Option.{option_map}
use Rattle.std.proofs.lemmas.Bool.{cases_eq, cases_lt}
use Rattle.std.proofs.lemmas.List.{get_or-set_other, get_or-set_same}
use Rattle.cqs_core.proofs.CoreSteps.{held-within}
use Rattle.cqs_plan.specs.declared.floors.answers.FloorTake.{FloorTake}
use Rattle.cqs_plan.specs.declared.plans.kind.Kind.{Kind}
use Rattle.cqs_plan.specs.declared.plans.kind.Kind.TheVariants as kind
use Rattle.cqs_plan.specs.Floor.{HasRound, Holding, IsHoldable, IsIdle, IsJob, IsLatch, JobWait, PlainFloor, room_at}
use Rattle.cqs_plan.specs.Validity.{IsKind}
use Rattle.cqs_turns_report.proofs.KindsThere.{barrier-there, holdable-there, latch-there}
use Rattle.cqs_floor_common.specs.Holdings.{held_at}
use Rattle.cqs_floor_shared.specs.declared.shared.Turned.{Turned}
use Rattle.cqs_floor_shared.specs.Calls as floor
use Rattle.cqs_floor_shared.specs.Calls.{answer_of, board_arrived, board_taken, board_waited}
use Rattle.cqs_floor_shared.specs.Shared.{parties_at}
use Rattle.cqs_floor_shared_queue.specs.declared.floors.holdings.JobHolding.{JobHolding}
use Rattle.cqs_floor_shared_queue.specs.declared.floors.spots.Spot.{Spot}
use Rattle.cqs_floor_shared_kinds.specs.declared.resource.Came.{Came}
use Rattle.cqs_floor_shared_kinds.specs.declared.resource.Came.TheVariants as came
use Rattle.cqs_floor_shared_queue.specs.DeskCalls.{Arrives, HasAt, Takes, Waits}
use Rattle.cqs_floor_shared_queue.specs.FloorKept.{IsKept, funds_in}
use Rattle.cqs_floor_shared_queue.specs.Holdings.{and_taken, held_by_jobs}
use Rattle.cqs_floor_shared_queue.specs.Ledgers.{Ledger, and_arrived, holds_in, own_round, own_rounds, round_in, shared_in, with_arrival, with_come, with_shares}
use Rattle.cqs_floor_shared_kinds.specs.ShareCalls as calls
use Rattle.cqs_floor_shared_kinds.specs.ShareCalls.{party_less}
use Rattle.cqs_floor_shared_kinds.specs.Shares.{Share, with_more}
use Rattle.cqs_floor_shared_queue.specs.Spots.{answer_for, job_wait, spot_for}
use Rattle.cqs_floor_shared_queue.proofs.FloorComes.{comes-of, floor-come, kept-come}
use Rattle.cqs_floor_shared_queue.proofs.FloorCrews.{index-past, space-within}
use Rattle.cqs_floor_shared_queue.proofs.FloorLists.{index-mapped}
use Rattle.cqs_floor_shared_queue.proofs.FloorNext.{next}
use Rattle.cqs_floor_shared_queue.proofs.FloorPlaces.{Idles, Well, funds-long, here, idle-there, job-there}
use Rattle.cqs_floor_shared_queue.proofs.FloorComers.{less-parties, more-long, new-waits, pass-few, pass-funds, room, same-holds, same-parties, same-waits, spots, take-few, take-funds, take-held}

-- what the jobs have after each, as the floor is seen
module _ {X : Type 0} (s : Share X) (l : Ledger X) (at job : ℕ) (x y : X) (there : slice_get l.shares at ≡ Some x)
    (kept : IsKept s l) (place : at < length l.room) (some : 0 < slice_index l.room at)
    (old : Spot) (was : slice_get l.spots job ≡ Some old) (idle : old.wait ≡ None) (own : job < length l.spots)
    (k : Kind) (is : slice_get l.kinds at ≡ Some k) where
  abbrev less_room : List ℕ
  less_room = set l.room at (slice_index l.room at - 1)

  abbrev board : PlainFloor
  board = (shared_in s l).board

  -- a floor at which only this changed
  turned : (spots : List Spot) (holdings : List JobHolding) (rounds : List (List ℕ)) (waits : List (Option JobWait))
      (holds : List (List Holding)) → map (λ (p : Spot). option_map job_wait p.wait) spots ≡ waits
      → held_by_jobs (length spots) holdings ≡ holds
      → (shared_in s (next s l at x y there less_room spots holdings rounds)).board
      ≡ record { kinds = l.kinds; histories = []; room = less_room; waits = waits; holds = holds; rounds = rounds }
  turned spots holdings rounds waits holds waits_are holds_are i =
      record {
        kinds = l.kinds;
        histories = [];
        room = less_room;
        waits = waits_are i;
        holds = holds_are i;
        rounds = rounds;
      }

  pub taken-board : (c : Came)
      → (shared_in s (next s l at x y there less_room (set l.spots job (spot_for at 0 c))
      (and_taken l.holdings at job c) l.rounds)).board
      ≡ board_taken board at job (answer_of (answer_for c))
  taken-board (came.Now element) =
      turned _ _ _ _ _ (same-waits s l at job x y there kept place some old was idle own k is 0)
      (more-long s l at job x y there kept place some old was idle own k is 0 (came.Now element) element)
  taken-board (came.Under n) =
      turned _ _ _ _ _ (new-waits s l at job x y there kept place some old was idle own k is 0 (came.Under n))
      (same-holds s l at job x y there kept place some old was idle own k is 0 (came.Under n))
  taken-board (came.Waits p) =
      turned _ _ _ _ _ (new-waits s l at job x y there kept place some old was idle own k is 0 (came.Waits p))
      (same-holds s l at job x y there kept place some old was idle own k is 0 (came.Waits p))
  taken-board came.Worn =
      turned _ _ _ _ _ (same-waits s l at job x y there kept place some old was idle own k is 0)
      (same-holds s l at job x y there kept place some old was idle own k is 0 came.Worn)

  pub waited-board : (c : Came)
      → (shared_in s (next s l at x y there less_room (set l.spots job (spot_for at 0 c)) l.holdings l.rounds)).board
      ≡ board_waited board at job (answer_of (answer_for c))
  waited-board (came.Now element) =
      turned _ _ _ _ _ (same-waits s l at job x y there kept place some old was idle own k is 0)
      (same-holds s l at job x y there kept place some old was idle own k is 0 (came.Now element))
  waited-board (came.Under n) =
      turned _ _ _ _ _ (new-waits s l at job x y there kept place some old was idle own k is 0 (came.Under n))
      (same-holds s l at job x y there kept place some old was idle own k is 0 (came.Under n))
  waited-board (came.Waits p) =
      turned _ _ _ _ _ (new-waits s l at job x y there kept place some old was idle own k is 0 (came.Waits p))
      (same-holds s l at job x y there kept place some old was idle own k is 0 (came.Waits p))
  waited-board came.Worn =
      turned _ _ _ _ _ (same-waits s l at job x y there kept place some old was idle own k is 0)
      (same-holds s l at job x y there kept place some old was idle own k is 0 came.Worn)

  pub arrived-board : (c : Came)
      → (shared_in s (next s l at x y there less_room (set l.spots job (spot_for at (round_in l job at) c))
      l.holdings (and_arrived l.rounds at job c))).board
      ≡ board_arrived board at job (answer_of (answer_for c))
  arrived-board (came.Now element) =
      let round = round_in l job at in
      turned _ _ _ _ _ (same-waits s l at job x y there kept place some old was idle own k is round)
      (same-holds s l at job x y there kept place some old was idle own k is round (came.Now element))
  arrived-board (came.Under n) =
      let round = round_in l job at in
      turned _ _ _ _ _ (new-waits s l at job x y there kept place some old was idle own k is round (came.Under n))
      (same-holds s l at job x y there kept place some old was idle own k is round (came.Under n))
  arrived-board (came.Waits p) =
      let round = round_in l job at in
      turned _ _ _ _ _ (new-waits s l at job x y there kept place some old was idle own k is round (came.Waits p))
      (same-holds s l at job x y there kept place some old was idle own k is round (came.Waits p))
  arrived-board came.Worn =
      let round = round_in l job at in
      turned _ _ _ _ _ (same-waits s l at job x y there kept place some old was idle own k is round)
      (same-holds s l at job x y there kept place some old was idle own k is round came.Worn)

-- the rounds keep their lengths
arrival-each : (rounds : List (List ℕ)) (job at : ℕ) → job < length rounds
    → (j : ℕ) → length (own_rounds (with_arrival rounds job at) j) ≡ length (own_rounds rounds j)
arrival-each rounds job at below j = go (cases_eq j job)
  where
    new : List ℕ
    new = set (own_rounds rounds job) at (own_round rounds job at + 1)

    go : (j ≡ job) ⊎ (j ≢ job) → length (own_rounds (set rounds job new) j) ≡ length (own_rounds rounds j)
    go (inl same) =
        ap (λ i. length (own_rounds (set rounds job new) i)) same
        ∙ ap (λ (own : List ℕ). length own) (get_or-set_same rounds job new [] below)
        ∙ length-set (own_rounds rounds job) at _ ∙ ap (λ i. length (own_rounds rounds i)) (sym same)
    go (inr other) = ap (λ (own : List ℕ). length own) (get_or-set_other rounds job j new [] other)

pub arrived-each : (rounds : List (List ℕ)) (job at : ℕ) (c : Came) → job < length rounds
    → (j : ℕ) → length (own_rounds (and_arrived rounds at job c) j) ≡ length (own_rounds rounds j)
arrived-each rounds job at (came.Now element) below j = arrival-each rounds job at below j
arrived-each rounds job at (came.Under n) below j = arrival-each rounds job at below j
arrived-each rounds job at (came.Waits p) below j = arrival-each rounds job at below j
arrived-each rounds job at came.Worn below j = refl

pub arrived-long : (rounds : List (List ℕ)) (job at : ℕ) (c : Came)
    → length (and_arrived rounds at job c) ≡ length rounds
arrived-long rounds job at (came.Now element) = length-set rounds job _
arrived-long rounds job at (came.Under n) = length-set rounds job _
arrived-long rounds job at (came.Waits p) = length-set rounds job _
arrived-long rounds job at came.Worn = refl

module _ {X : Type 0} (s : Share X) (l : Ledger X) (at job : ℕ) (kept : IsKept s l)
    (is_job : IsJob (shared_in s l).board job) (some : 0 < room_at (shared_in s l).board at) where
  own : job < length l.spots
  own = job-there s l job is_job

  idles : IsIdle (shared_in s l).board job → Idles l job
  idles is_idle = idle-there s l job own is_idle

  long : (a : ℕ) → job < length (held_at (holds_in l) a)
  long a = omega (arith, own, funds-long s l a)

  pub take-well : (n : Ledger X) (answer : Result FloorTake Turned) → IsIdle (shared_in s l).board job
      → IsHoldable (slice_get l.kinds at) → Takes s l at job answer n
      → Well s (floor.Takes (shared_in s l) at job (answer_of answer)) n
  take-well n answer is_idle holdable d =
      let i = idles is_idle in
      let h = here s l at kept (holdable-there _ holdable) in
      let c = d.came in
      let x = d.calls.share in
      let y = d.calls.after in
      let there = d.calls.there in
      let funded = kept.funded.at at x there in
      let made = d.calls.made (funds_in l at h.kind) (funded.funded h.kind h.is)
      (subst IsHoldable h.is holdable) (long at) in
      let later : Ledger X = next s l at x y there (set l.room at (slice_index l.room at - 1))
      (set l.spots job (spot_for at 0 c)) (and_taken l.holdings at job c) l.rounds in
      let same : n ≡ later = d.written
      ∙ ap (with_shares (with_come l at 0 job c (and_taken l.holdings at job c) l.rounds)) d.calls.shares in
      let funds = take-funds s l at job x y there kept h.place some i.spot i.was i.idle own h.kind h.is 0
      l.rounds c in
      let held = take-held s l at job x y there kept h.place some i.spot i.was i.idle own h.kind h.is 0
      l.rounds c in
      let few = take-few s l at job x y there kept h.place some i.spot i.was i.idle own h.kind h.is 0
      l.rounds c in
      let parties = (comes-of s l at job x y there kept h.place some i.spot i.was i.idle
      (λ j a e. with_more a j e) (funds_in l at h.kind) 0 (s.parties x) c made).parties_are in
      record {
        kept = subst (IsKept s) (sym same)
            (kept-come s l at job x y there kept h.place some i.spot i.was i.idle h.kind h.is 0
            (λ j a e. with_more a j e) (s.parties x) c made (and_taken l.holdings at job c) l.rounds refl (λ j. refl)
            funds held few);
        does = subst (λ m. floor.Takes (shared_in s l) at job (answer_of answer) (shared_in s m)) (sym same)
            (subst (λ a. floor.Takes (shared_in s l) at job (answer_of a) (shared_in s later)) (sym d.answered)
            (floor-come s l at job x y there kept h.place some i.spot i.was i.idle h.kind h.is 0
            (λ j a e. with_more a j e) (s.parties x) c made (and_taken l.holdings at job c) l.rounds refl (λ j. refl)
            funds held few _ _
            (taken-board s l at job x y there kept h.place some i.spot i.was i.idle own h.kind h.is c)
            (same-parties s l at job x y there kept h.place some i.spot i.was i.idle own h.kind h.is 0 c
            parties)));
      }

  pub wait-well : (n : Ledger X) (answer : Result FloorTake Turned) → IsIdle (shared_in s l).board job
      → IsLatch (slice_get l.kinds at) → Waits s l at job answer n
      → Well s (floor.Waits (shared_in s l) at job (answer_of answer)) n
  wait-well n answer is_idle latch d =
      let i = idles is_idle in
      let h = here s l at kept (latch-there _ latch) in
      let c = d.came in
      let x = d.calls.share in
      let y = d.calls.after in
      let there = d.calls.there in
      let funded = kept.funded.at at x there in
      let made = d.calls.made (funds_in l at h.kind) (funded.funded h.kind h.is)
      (subst IsLatch h.is latch) (long at) in
      let later : Ledger X = next s l at x y there (set l.room at (slice_index l.room at - 1))
      (set l.spots job (spot_for at 0 c)) l.holdings l.rounds in
      let same : n ≡ later = d.written
      ∙ ap (with_shares (with_come l at 0 job c l.holdings l.rounds)) d.calls.shares in
      let funds = pass-funds s l at job x y there kept h.place some i.spot i.was i.idle own h.kind h.is 0
      l.rounds c in
      let few = pass-few s l at job x y there kept h.place some i.spot i.was i.idle own h.kind h.is 0
      l.rounds c in
      let parties = (comes-of s l at job x y there kept h.place some i.spot i.was i.idle
      (λ j a e. a) (funds_in l at h.kind) 0 (s.parties x) c made).parties_are in
      record {
        kept = subst (IsKept s) (sym same)
            (kept-come s l at job x y there kept h.place some i.spot i.was i.idle h.kind h.is 0
            (λ j a e. a) (s.parties x) c made l.holdings l.rounds refl (λ j. refl) funds (λ i other. refl) few);
        does = subst (λ m. floor.Waits (shared_in s l) at job (answer_of answer) (shared_in s m)) (sym same)
            (subst (λ a. floor.Waits (shared_in s l) at job (answer_of a) (shared_in s later)) (sym d.answered)
            (floor-come s l at job x y there kept h.place some i.spot i.was i.idle h.kind h.is 0
            (λ j a e. a) (s.parties x) c made l.holdings l.rounds refl (λ j. refl) funds (λ i other. refl) few _ _
            (waited-board s l at job x y there kept h.place some i.spot i.was i.idle own h.kind h.is c)
            (same-parties s l at job x y there kept h.place some i.spot i.was i.idle own h.kind h.is 0 c
            parties)));
      }

  pub arrive-well : (n : Ledger X) (answer : Result FloorTake Turned) → IsIdle (shared_in s l).board job
      → HasRound (slice_get l.kinds at) (round_in l job at) → Arrives s l at job answer n
      → Well s (floor.Arrives (shared_in s l) at job (answer_of answer)) n
  arrive-well n answer is_idle barrier d =
      let i = idles is_idle in
      let round = round_in l job at in
      let h = here s l at kept (barrier-there _ round barrier) in
      let c = d.came in
      let x = d.calls.share in
      let y = d.calls.after in
      let there = d.calls.there in
      let funded = kept.funded.at at x there in
      let made = d.calls.made (funds_in l at h.kind) (funded.funded h.kind h.is)
      (subst (λ o. HasRound o round) h.is barrier) (long at) in
      let rounds = and_arrived l.rounds at job c in
      let later : Ledger X = next s l at x y there (set l.room at (slice_index l.room at - 1))
      (set l.spots job (spot_for at round c)) l.holdings rounds in
      let same : n ≡ later = d.written
      ∙ ap (with_shares (with_come l at round job c l.holdings rounds)) d.calls.shares in
      let after = party_less (s.parties x) round in
      let rounds_long = arrived-long l.rounds job at c in
      let rounds_each = arrived-each l.rounds job at c is_job.rounds in
      let funds = pass-funds s l at job x y there kept h.place some i.spot i.was i.idle own h.kind h.is
      round rounds c in
      let few = pass-few s l at job x y there kept h.place some i.spot i.was i.idle own h.kind h.is
      round rounds c in
      let parties = (comes-of s l at job x y there kept h.place some i.spot i.was i.idle
      (λ j a e. a) (funds_in l at h.kind) round after c made).parties_are in
      record {
        kept = subst (IsKept s) (sym same)
            (kept-come s l at job x y there kept h.place some i.spot i.was i.idle h.kind h.is round
            (λ j a e. a) after c made l.holdings rounds rounds_long rounds_each funds (λ i other. refl) few);
        does = subst (λ m. floor.Arrives (shared_in s l) at job (answer_of answer) (shared_in s m)) (sym same)
            (subst (λ a. floor.Arrives (shared_in s l) at job (answer_of a) (shared_in s later)) (sym d.answered)
            (floor-come s l at job x y there kept h.place some i.spot i.was i.idle h.kind h.is round
            (λ j a e. a) after c made l.holdings rounds rounds_long rounds_each funds (λ i other. refl) few _ _
            (arrived-board s l at job x y there kept h.place some i.spot i.was i.idle own h.kind h.is c)
            (less-parties s l at job x y there kept h.place some i.spot i.was i.idle own h.kind h.is round
            c parties)));
      }

  -- what such a call rests on
  pub take-can : IsHoldable (slice_get l.kinds at) → HasAt l.shares at (calls.CanTake s job)
  take-can holdable =
      let h = here s l at kept (holdable-there _ holdable) in
      record {
        share = h.share;
        there = h.there;
        can = record {
          a = funds_in l at h.kind;
          funded = h.funded.funded h.kind h.is;
          holdable = subst IsHoldable h.is holdable;
          there = long at;
        };
      }

  pub wait-can : IsLatch (slice_get l.kinds at) → HasAt l.shares at (calls.CanWait s job)
  wait-can latch =
      let h = here s l at kept (latch-there _ latch) in
      record {
        share = h.share;
        there = h.there;
        can = record {
          a = funds_in l at h.kind;
          funded = h.funded.funded h.kind h.is;
          latch = subst IsLatch h.is latch;
          there = long at;
        };
      }

  pub arrive-can : HasRound (slice_get l.kinds at) (round_in l job at)
      → 0 < parties_at (shared_in s l) at (round_in l job at)
      → HasAt l.shares at (calls.CanArrive s job (round_in l job at))
  arrive-can barrier party =
      let h = here s l at kept (barrier-there _ (round_in l job at) barrier) in
      record {
        share = h.share;
        there = h.there;
        can = record {
          a = funds_in l at h.kind;
          funded = h.funded.funded h.kind h.is;
          barrier = subst (λ o. HasRound o (round_in l job at)) h.is barrier;
          there = long at;
          party = subst (λ own. 0 < get_or own (round_in l job at) 0)
              (index-mapped s.parties l.shares at h.share [] h.there) party;
        };
      }

  pub some-room : at < length l.room
  some-room = go (cases_lt at (length l.room))
    where
      go : (at < length l.room) ⊎ (length l.room ≤ at) → at < length l.room
      go (inl low) = low
      go (inr past) = let none = index-past l.room at 0 past in absurd (omega (arith, none, some))

  -- and there is room for what it may get
  pub take-space : length l.holdings < l.space
  take-space =
      let most = held-within l.room at some-room in
      let all = space-within s l kept in
      omega (arith, most, all, some)

  -- the job has a round at each resource, and few of them at each
  pub arrive-each : at < length (own_rounds l.rounds job)
  arrive-each = omega (arith, some-room, is_job.each, kept.rooms)

  pub arrive-few : HasRound (slice_get l.kinds at) (round_in l job at) → round_in l job at < 64
  arrive-few barrier =
      let there = barrier-there (slice_get l.kinds at) (round_in l job at) barrier in
      few there.0 (kept.sized.at at there.0 there.1) (subst (λ o. HasRound o (round_in l job at)) there.1 barrier)
    where
      few : (k : Kind) → IsKind k → HasRound (Some k) (round_in l job at) → round_in l job at < 64
      few (kind.Rounds parties rounds) sized has = omega (arith, sized.1, has)
      few (kind.Semaphore permits) sized has = absurd has
      few kind.Mutex sized has = absurd has
      few (kind.Pool elements) sized has = absurd has
      few (kind.Latch count) sized has = absurd has
