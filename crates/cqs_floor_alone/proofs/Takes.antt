-- A take: what it rests on, what it answers, and what it leaves.
use Rattle.std.proofs.Common.{◌≡◌, ℕ, ◌+◌, ◌-◌, ◌<◌, Some, length, set, slice_get, sum_by, refl, ap, sym, ◌∙◌, subst, length-set, arith, Option}
use Rattle.std.specs.Prelude.{slice_index}
use Rattle.std.proofs.lemmas.List.{length-map}
use Rattle.cqs_plan.specs.declared.plans.kind.Kind.{Kind}
use Rattle.cqs_plan.specs.declared.floors.answers.FloorTake.{FloorTake}
use Rattle.cqs_plan.specs.declared.floors.answers.FloorTake.TheVariants.{Now, Waits}
use Rattle.cqs_plan.specs.FloorHistory.{takes, first_free}
use Rattle.cqs_plan.specs.Floor.{PlainFloor, IsHoldable, IsJob, IsIdle, room_at, size_of}
use Rattle.cqs_plan.specs.FloorCalls.{take_answer, after_take}
use Rattle.cqs_turns_report.proofs.KindsThere.{holdable-there}
use Rattle.cqs_floor_common.specs.HeldElements.{with_more}
use Rattle.cqs_floor_common.specs.Holdings.{elements_of, held_at}
use Rattle.cqs_floor_alone.specs.declared.transfers.Transfer.TheVariants.{Got}
use Rattle.cqs_floor_alone.specs.DeskCalls.{HasAt, Takes}
use Rattle.cqs_floor_alone.specs.Kept.{IsKept, waiting_at}
use Rattle.cqs_floor_alone.specs.Ledger.{Ledger, plain_floor, with_taken, with_waiting, with_soles, holds_in, after_transfer}
use Rattle.cqs_floor_alone_kinds.specs.Stores.{Store, IsLawful, CanAcquire, Goes, KeepsAll}
use Rattle.cqs_floor_alone_kinds.specs.Waits.{place_in}
use Rattle.cqs_floor_alone.proofs.Holdings.{held-got, else-got, many-got, holds-transfer}
use Rattle.cqs_floor_alone.proofs.Joining.{fewer-room, kept-later, plain-later, room-else, room-here}
use Rattle.cqs_floor_alone.proofs.KeptNext.{funded-as, kept-next, stands-on, histories-next}
use Rattle.cqs_floor_alone.proofs.Resources.{Funds, funds-at, history-there, standing-there, place-room, job-there, idle-there}

module _ {X : Type 0} (s : Store X) where
  -- a resource with room can take one more call
  can-take : (l : Ledger X) (at job : ℕ) → IsKept s l → IsHoldable (slice_get l.kinds at)
      → job < length (holds_in l) → 0 < slice_index l.room at → HasAt l.soles at (CanAcquire s job)
  can-take l at job kept holdable holder room =
      let funds : Funds s l at = funds-at s l at kept (holdable-there (slice_get l.kinds at) holdable) in
      record {
        sole = funds.sole;
        there = funds.there;
        can = record {
          kind = _;
          room = _;
          waiting = _;
          held = _;
          holdable = holdable;
          funded = funds.funded;
          some = room;
          there = omega (arith, holder, length-map (holds_in l) (elements_of at));
        };
      }

  pub take-can : (l : Ledger X) (f : PlainFloor) (at job : ℕ) → plain_floor s l ≡ f → IsKept s l
      → IsHoldable (slice_get f.kinds at) → IsJob f job → 0 < room_at f at → HasAt l.soles at (CanAcquire s job)
  take-can l f at job view kept =
      let Allows : PlainFloor → Type 0 = λ g. IsHoldable (slice_get g.kinds at) → IsJob g job → 0 < room_at g at
      → HasAt l.soles at (CanAcquire s job) in
      subst Allows view (λ holdable is_job. can-take l at job kept holdable is_job.holds)

  -- a job that can take from a resource with room
  module _ (l : Ledger X) (at job : ℕ) (kept : IsKept s l) (place : at < length l.room)
      (room : 0 < slice_index l.room at) (holder : job < length (holds_in l)) where
    abbrev kind : Option Kind
    kind = slice_get l.kinds at

    module _ (sole after : X) (there : slice_get l.soles at ≡ Some sole) where
      -- the job has an element, or a permit
      module _ (element : ℕ) where
        abbrev now : Ledger X
        now = with_soles (with_taken l at job element) (set l.soles at after)

        transferred : holds_in now ≡ after_transfer (holds_in l) (Got job at element)
        transferred = holds-transfer (length l.waits) l.transfers (Got job at element)

        module _ (goes : Goes s sole 0 (takes element) kind (slice_index l.room at - 1) (waiting_at l.waits at)
            (with_more (held_at (holds_in l) at) job element) after) where
          kept-now : KeepsAll s sole after → IsKept s now
          kept-now keeps = kept-next s l now at sole after kept (record {
            there = there;
            kinds = refl;
            soles = refl;
            rooms = length-set l.room at _;
            funded = funded-as s after _ (sym (room-here l at place)) refl (sym held-here) goes.funded;
            room = room-else l at;
            waiting = λ i other. refl;
            held = λ i other. ap (λ hs. held_at hs i) transferred
                ∙ else-got (holds_in l) job at element i (λ e. other (sym e));
            waits = λ j wait got. stands-on s l.soles at sole after wait there
                (λ same has. keeps wait.round (place_in wait) has) (kept.waits j wait got);
            apart = kept.apart;
            spare = omega (arith, kept.spare, fewer-room l at place room, many);
          })
            where
              held-here : held_at (holds_in now) at ≡ with_more (held_at (holds_in l) at) job element
              held-here = ap (λ hs. held_at hs at) transferred ∙ held-got (holds_in l) job at element

              many : sum_by (λ hs. length hs) (holds_in now) ≡ sum_by (λ hs. length hs) (holds_in l) + 1
              many = ap (λ hss. sum_by (λ hs. length hs) hss) transferred
                  ∙ many-got (holds_in l) job at element holder

          plain-now : plain_floor s now ≡ after_take (plain_floor s l) at job (Now element)
          plain-now =
              let histories = histories-next s l.soles at sole after (size_of kind) 0 (takes element) there goes.done in
              rw (histories, transferred) refl

  -- what a take comes to: its answer is the plain floor's, and so is what it leaves
  pub record TakesWell (f : PlainFloor) (at job : ℕ) (answer : FloorTake) (n : Ledger X) : Type 0 where
    pub answers : answer ≡ take_answer f at job
    pub leaves : plain_floor s n ≡ after_take f at job answer
    pub kept : IsKept s n

  take-well : IsLawful s → (l n : Ledger X) (at job : ℕ) (answer : FloorTake) → IsKept s l
      → IsHoldable (slice_get l.kinds at) → IsJob (plain_floor s l) job → IsIdle (plain_floor s l) job
      → 0 < slice_index l.room at → Takes s l at job answer n → TakesWell (plain_floor s l) at job answer n
  take-well lawful l n at job (Now element) kept holdable is_job idle room (a, written) =
      let made = a.made _ _ _ _ (kept.funded.at at a.sole a.there) room
      (omega (arith, is_job.holds, length-map (holds_in l) (elements_of at))) in
      let place = place-room s l at kept (holdable-there (slice_get l.kinds at) holdable) in
      let waiter = job-there s l job is_job in
      let nobody = idle-there s l.waits job idle in
      let same : n ≡ with_soles (with_taken l at job element) (set l.soles at a.after) =
      written ∙ ap (with_soles (with_taken l at job element)) a.soles in
      record {
        answers = rw (standing-there s l at a.sole a.there, made.free)
            (ap Now (made.first ∙ ap (first_free (size_of (slice_get l.kinds at)))
            (sym (history-there s l.soles at a.sole a.there))));
        leaves = ap (plain_floor s) same
            ∙ plain-now l at job kept place room is_job.holds a.sole a.after a.there element
            made.goes;
        kept = subst (IsKept s) (sym same)
            (kept-now l at job kept place room is_job.holds a.sole a.after a.there element
            made.goes made.keeps);
      }
  take-well lawful l n at job (Waits number) kept holdable is_job idle room (cell, number_is, a, written) =
      let made = a.made _ _ _ _ (kept.funded.at at a.sole a.there) room
      (omega (arith, is_job.holds, length-map (holds_in l) (elements_of at))) in
      let place = place-room s l at kept (holdable-there (slice_get l.kinds at) holdable) in
      let waiter = job-there s l job is_job in
      let nobody = idle-there s l.waits job idle in
      let is : Waits number ≡ Waits cell.index = ap Waits number_is in
      let same : n ≡ with_soles (with_waiting l at job 0 cell) (set l.soles at a.after) =
      written ∙ ap (with_soles (with_waiting l at job 0 cell)) a.soles in
      record {
        answers = is ∙ rw (standing-there s l at a.sole a.there, made.none, made.joins.number) refl;
        leaves = ap (plain_floor s) same
            ∙ plain-later s lawful l at job 0 kept place room waiter nobody cell a.sole a.after a.there made.joins
            ∙ ap (after_take (plain_floor s l) at job) (sym is);
        kept = subst (IsKept s) (sym same)
            (kept-later s lawful l at job 0 kept place room waiter nobody cell a.sole a.after a.there made.joins);
      }

  -- the same where the floor is seen as its plain floor
  pub take-floor : IsLawful s → (l n : Ledger X) (f : PlainFloor) (at job : ℕ) (answer : FloorTake)
      → plain_floor s l ≡ f → IsKept s l
      → IsHoldable (slice_get f.kinds at) → IsJob f job → IsIdle f job → 0 < room_at f at
      → Takes s l at job answer n → TakesWell f at job answer n
  take-floor lawful l n f at job answer view kept =
      let Comes : PlainFloor → Type 0 = λ g. IsHoldable (slice_get g.kinds at) → IsJob g job → IsIdle g job
      → 0 < room_at g at → Takes s l at job answer n → TakesWell g at job answer n in
      subst Comes view (take-well lawful l n at job answer kept)
