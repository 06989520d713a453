-- A job that waits could make the step again at which it waits, if the wait were gone.
use Rattle.std.proofs.Common.{◌≡◌, ℕ, ◌+◌, ◌-◌, ◌<◌, true, false, Option, Some, None, get_or, set, drop, slice_get, length, refl, sym, ap, subst, ◌∙◌, arith}
use Rattle.std.specs.Option.{option_map_or}
use Rattle.std.proofs.lemmas.List.{set-set, set-get_or}
use Rattle.cqs_core.proofs.Places.{get-below}
use Rattle.cqs_plan.specs.Language.{is_barrier}
use Rattle.cqs_plan.specs.declared.plans.kind.Kind.{Kind}
use Rattle.cqs_plan.specs.declared.plans.kind.Kind.TheVariants.{Semaphore, Mutex, Pool, Latch, Rounds}
use Rattle.cqs_plan.specs.declared.plans.step.Step.{Step}
use Rattle.cqs_plan.specs.declared.floors.answers.FloorTake.TheVariants.{Waits}
use Rattle.cqs_plan.specs.Floor.{PlainFloor, JobWait, IsHoldable, IsLatch, HasRound, own_rounds, round_of, is_barrier_in}
use Rattle.cqs_plan.specs.FloorCalls.{after_take, after_wait, after_arrive}
use Rattle.cqs_turns_report.specs.declared.actors.Actor.{Actor}
use Rattle.cqs_turns_report.specs.declared.states.Progress.TheVariants.{Stepping}
use Rattle.cqs_turns_report.specs.Ready.{IsBack, HasArrived, CanMake, row_back}
use Rattle.cqs_turns_report.specs.Turns.{places_held}
use Rattle.cqs_turns_report.proofs.ArrivalMoves.{arrived-own, arrived-here, has-place}
use Rattle.cqs_floor_shared.specs.Shared.{Shared, kind_at}
use Rattle.cqs_work.specs.Needs.{CanGoBack, IsPartyPlace}
use Rattle.cqs_work.specs.Doing.{CanAct}

-- what can be held, or is a latch, is no barrier; what has a round is one
held-plain : (k : Option Kind) → IsHoldable k → option_map_or is_barrier k false ≡ false
held-plain (Some (Semaphore permits)) holdable = refl
held-plain (Some Mutex) holdable = refl
held-plain (Some (Pool elements)) holdable = refl
held-plain (Some (Latch count)) holdable = absurd holdable
held-plain (Some (Rounds parties rounds)) holdable = absurd holdable
held-plain None holdable = absurd holdable

latch-plain : (k : Option Kind) → IsLatch k → option_map_or is_barrier k false ≡ false
latch-plain (Some (Latch count)) latch = refl
latch-plain (Some (Semaphore permits)) latch = absurd latch
latch-plain (Some Mutex) latch = absurd latch
latch-plain (Some (Pool elements)) latch = absurd latch
latch-plain (Some (Rounds parties rounds)) latch = absurd latch
latch-plain None latch = absurd latch

round-barrier : (k : Option Kind) (round : ℕ) → HasRound k round → option_map_or is_barrier k false ≡ true
round-barrier (Some (Rounds parties rounds)) round has = refl
round-barrier (Some (Semaphore permits)) round has = absurd has
round-barrier (Some Mutex) round has = absurd has
round-barrier (Some (Pool elements)) round has = absurd has
round-barrier (Some (Latch count)) round has = absurd has
round-barrier None round has = absurd has

module _ (a : Actor) (f : Shared) (next : ℕ) (step : Step) (can : CanAct a f (Stepping next))
    (its_step : slice_get a.job.now.steps next ≡ Some step) where
  -- on a board on which the job holds the same, and its row goes back to what it was
  back-to : (c : PlainFloor) (wait : JobWait) → c.kinds ≡ f.board.kinds
      → places_held c a.place ≡ places_held f.board a.place
      → row_back c.kinds (own_rounds c a.place) wait ≡ own_rounds f.board a.place
      → (is_barrier_in c.kinds wait.at ≡ true → HasArrived c a.place wait)
      → IsBack c a.place a.job.now.steps (next + 1) wait
  back-to c wait kinds held row arrived =
      let one : (next + 1) - 1 ≡ next = omega arith in
      record {
        some = omega arith;
        below = let inside : next < length a.job.now.steps = get-below a.job.now.steps next step its_step in
            omega (arith, inside);
        makeable = rw (kinds, held, one)
            (subst (λ own. CanMake f.board.kinds (places_held f.board a.place) own (drop next a.job.now.steps))
            (sym row ∙ ap (λ ks. row_back ks (own_rounds c a.place) wait) kinds) can.stands.ready.makeable);
        rounds = λ q. rw one (ap (λ own. get_or own q 0) row ∙ can.rounds q);
        arrived = arrived;
      }

  module _ (at number : ℕ) where
    -- a take that waits
    pub take-back : IsHoldable (kind_at f at) → (g : Shared) → g.board ≡ after_take f.board at a.place (Waits number)
        → CanGoBack g a.place a.job.now.steps (next + 1) (record { at = at; round = 0; number = number })
    take-back holdable g board =
        let none : is_barrier_in f.board.kinds at ≡ false = held-plain (slice_get f.board.kinds at) holdable in
        let c : PlainFloor = after_take f.board at a.place (Waits number) in
        record {
          back = rw board (back-to c (record { at = at; round = 0; number = number }) refl refl (rw none refl)
              (λ is. absurd (cc)));
          party = rw board (λ is. absurd (cc));
        }

    -- a wait at a latch
    pub wait-back : IsLatch (kind_at f at) → (g : Shared) → g.board ≡ after_wait f.board at a.place (Waits number)
        → CanGoBack g a.place a.job.now.steps (next + 1) (record { at = at; round = 0; number = number })
    wait-back latch g board =
        let none : is_barrier_in f.board.kinds at ≡ false = latch-plain (slice_get f.board.kinds at) latch in
        let c : PlainFloor = after_wait f.board at a.place (Waits number) in
        record {
          back = rw board (back-to c (record { at = at; round = 0; number = number }) refl refl (rw none refl)
              (λ is. absurd (cc)));
          party = rw board (λ is. absurd (cc));
        }

    -- an arrival that waits: taken back, the job is in its round again
    pub arrive-back : HasRound (kind_at f at) (round_of f.board a.place at) → (g : Shared)
        → g.board ≡ after_arrive f.board at a.place (Waits number)
        → IsPartyPlace g.parties at (round_of f.board a.place at)
        → CanGoBack g a.place a.job.now.steps (next + 1)
        (record { at = at; round = round_of f.board a.place at; number = number })
    arrive-back has g board place =
        let c : PlainFloor = after_arrive f.board at a.place (Waits number) in
        let round : ℕ = round_of f.board a.place at in
        let is : is_barrier_in f.board.kinds at ≡ true = round-barrier (slice_get f.board.kinds at) round has in
        let row : set (own_rounds c a.place) at round ≡ own_rounds f.board a.place
        = ap (λ xs. set xs at round) (arrived-own f.board a.place at can.stands.ready.job)
        ∙ set-set (own_rounds f.board a.place) at (round + 1) round
        ∙ set-get_or (own_rounds f.board a.place) at 0 in
        let arrived : HasArrived c a.place (record { at = at; round = round; number = number }) = record {
          round = has;
          last = omega (
            arith,
            arrived-here f.board a.place at can.stands.ready.job (has-place f.board.kinds at round has),
          );
        } in
        record {
          back = rw board (back-to c (record { at = at; round = round; number = number }) refl refl (rw is row)
              (λ barrier. arrived));
          party = λ barrier. place;
        }
