-- A count down of a latch, and a wait there: what they rest on, what they answer, and what they leave.
use Rattle.std.proofs.Common.{◌≡◌, ℕ, ◌<◌, length, set, slice_get, refl, ap, sym, ◌∙◌, subst, arith}
use Rattle.std.specs.Prelude.{slice_index}
use Rattle.std.proofs.lemmas.List.{length-map}
use Rattle.cqs_plan.specs.declared.floors.answers.FloorDown.{FloorDown}
use Rattle.cqs_plan.specs.declared.floors.answers.FloorDown.TheVariants as down
use Rattle.cqs_plan.specs.declared.floors.answers.FloorTake.{FloorTake}
use Rattle.cqs_plan.specs.declared.floors.answers.FloorTake.TheVariants.{Now, Waits}
use Rattle.cqs_plan.specs.FloorHistory.{passes}
use Rattle.cqs_plan.specs.Floor.{PlainFloor, IsIdle, IsJob, IsLatch, room_at, with_done}
use Rattle.cqs_plan.specs.FloorCalls.{after_down, after_wait, down_answer, down_of, wait_answer}
use Rattle.cqs_turns_report.proofs.KindsThere.{latch-there}
use Rattle.cqs_floor_common.specs.Holdings.{elements_of}
use Rattle.cqs_floor_alone.specs.DeskCalls.{Awaits, Downs, HasAt}
use Rattle.cqs_floor_alone.specs.Kept.{IsKept}
use Rattle.cqs_floor_alone.specs.Ledger.{Ledger, holds_in, plain_floor, with_less_room, with_soles, with_waiting}
use Rattle.cqs_floor_alone_kinds.specs.Stores.{CanCount, CanWait, IsLawful, Store, deed_of}
use Rattle.cqs_floor_alone.proofs.Joining.{kept-later, plain-later}
use Rattle.cqs_floor_alone.proofs.Passing.{kept-passed, kept-through, plain-passed, plain-through}
use Rattle.cqs_floor_alone.proofs.Resources.{Funds, comes-there, funds-at, idle-there, job-there, place-room, standing-there}

-- a count down does this, by what it answers
down-does : (f : PlainFloor) (at : ℕ) (answer : FloorDown) → with_done f at (deed_of answer) ≡ after_down f at answer
down-does f at (down.Left n) = refl
down-does f at down.Last = refl
down-does f at down.Already = refl

module _ {X : Type 0} (s : Store X) where
  can-down : (l : Ledger X) (at : ℕ) → IsKept s l → IsLatch (slice_get l.kinds at) → HasAt l.soles at (CanCount s)
  can-down l at kept latch =
      let funds : Funds s l at = funds-at s l at kept (latch-there (slice_get l.kinds at) latch) in
      record {
        sole = funds.sole;
        there = funds.there;
        can = record { kind = _; room = _; waiting = _; held = _; latch = latch; funded = funds.funded };
      }

  can-wait : (l : Ledger X) (at job : ℕ) → IsKept s l → IsLatch (slice_get l.kinds at)
      → job < length (holds_in l) → 0 < slice_index l.room at → HasAt l.soles at (CanWait s job)
  can-wait l at job kept latch holder room =
      let funds : Funds s l at = funds-at s l at kept (latch-there (slice_get l.kinds at) latch) in
      record {
        sole = funds.sole;
        there = funds.there;
        can = record {
          kind = _;
          room = _;
          waiting = _;
          held = _;
          latch = latch;
          funded = funds.funded;
          some = room;
          there = omega (arith, holder, length-map (holds_in l) (elements_of at));
        };
      }

  -- what a count down comes to: its answer is the plain floor's, and so is what it leaves
  pub record DownsWell (f : PlainFloor) (at : ℕ) (answer : FloorDown) (n : Ledger X) : Type 0 where
    pub answers : answer ≡ down_answer f at
    pub leaves : plain_floor s n ≡ after_down f at answer
    pub kept : IsKept s n

  down-well : (l n : Ledger X) (at : ℕ) (answer : FloorDown) → IsKept s l → Downs s l at answer n
      → DownsWell (plain_floor s l) at answer n
  down-well l n at answer kept (a, written) =
      let made = a.made _ _ _ _ (kept.funded.at at a.sole a.there) in
      let same : n ≡ with_soles l (set l.soles at a.after) = written ∙ ap (with_soles l) a.soles in
      record {
        answers = made.0 ∙ ap down_of (sym (comes-there s l at a.sole 0 a.there));
        leaves = ap (plain_floor s) same
            ∙ plain-passed s l at 0 (deed_of answer) kept a.sole a.after a.there made.1
            ∙ down-does (plain_floor s l) at answer;
        kept = subst (IsKept s) (sym same)
            (kept-passed s l at 0 (deed_of answer) kept a.sole a.after a.there made.1);
      }

  -- what a wait at a latch comes to
  pub record WaitsWell (f : PlainFloor) (at job : ℕ) (answer : FloorTake) (n : Ledger X) : Type 0 where
    pub answers : answer ≡ wait_answer f at
    pub leaves : plain_floor s n ≡ after_wait f at job answer
    pub kept : IsKept s n

  wait-well : IsLawful s → (l n : Ledger X) (at job : ℕ) (answer : FloorTake) → IsKept s l
      → IsLatch (slice_get l.kinds at) → IsJob (plain_floor s l) job → IsIdle (plain_floor s l) job
      → 0 < slice_index l.room at → Awaits s l at job answer n → WaitsWell (plain_floor s l) at job answer n
  wait-well lawful l n at job (Now element) kept latch is_job idle room (none, a, written) =
      let made = a.made _ _ _ _ (kept.funded.at at a.sole a.there) room in
      let place = place-room s l at kept (latch-there (slice_get l.kinds at) latch) in
      let same : n ≡ with_soles (with_less_room l at) (set l.soles at a.after) =
      written ∙ ap (with_soles (with_less_room l at)) a.soles in
      record {
        answers = ap Now none ∙ rw (comes-there s l at a.sole 0 a.there, made.0) refl;
        leaves = ap (plain_floor s) same
            ∙ plain-through s l at 0 passes kept a.sole a.after a.there place room made.1;
        kept = subst (IsKept s) (sym same)
            (kept-through s l at 0 passes kept a.sole a.after a.there place room made.1);
      }
  wait-well lawful l n at job (Waits number) kept latch is_job idle room (cell, number_is, a, written) =
      let made = a.made _ _ _ _ (kept.funded.at at a.sole a.there) room in
      let place = place-room s l at kept (latch-there (slice_get l.kinds at) latch) in
      let waiter = job-there s l job is_job in
      let nobody = idle-there s l.waits job idle in
      let is : Waits number ≡ Waits cell.index = ap Waits number_is in
      let same : n ≡ with_soles (with_waiting l at job 0 cell) (set l.soles at a.after) =
      written ∙ ap (with_soles (with_waiting l at job 0 cell)) a.soles in
      record {
        answers = is
            ∙ rw (
              comes-there s l at a.sole 0 a.there,
              made.0,
              standing-there s l at a.sole a.there,
              made.1.number,
            ) refl;
        leaves = ap (plain_floor s) same
            ∙ plain-later s lawful l at job 0 kept place room waiter nobody cell a.sole a.after a.there made.1
            ∙ ap (after_wait (plain_floor s l) at job) (sym is);
        kept = subst (IsKept s) (sym same)
            (kept-later s lawful l at job 0 kept place room waiter nobody cell a.sole a.after a.there made.1);
      }

  -- the same where the floor is seen as its plain floor
  pub down-can : (l : Ledger X) (f : PlainFloor) (at : ℕ) → plain_floor s l ≡ f → IsKept s l
      → IsLatch (slice_get f.kinds at) → HasAt l.soles at (CanCount s)
  down-can l f at view kept =
      subst (λ (g : PlainFloor). IsLatch (slice_get g.kinds at) → HasAt l.soles at (CanCount s)) view
      (can-down l at kept)

  pub down-floor : (l n : Ledger X) (f : PlainFloor) (at : ℕ) (answer : FloorDown) → plain_floor s l ≡ f
      → IsKept s l → Downs s l at answer n → DownsWell f at answer n
  down-floor l n f at answer view kept called =
      subst (λ g. DownsWell g at answer n) view (down-well l n at answer kept called)

  pub wait-can : (l : Ledger X) (f : PlainFloor) (at job : ℕ) → plain_floor s l ≡ f → IsKept s l
      → IsLatch (slice_get f.kinds at) → IsJob f job → 0 < room_at f at → HasAt l.soles at (CanWait s job)
  wait-can l f at job view kept =
      let Allows : PlainFloor → Type 0 = λ g. IsLatch (slice_get g.kinds at) → IsJob g job → 0 < room_at g at
      → HasAt l.soles at (CanWait s job) in
      subst Allows view (λ latch is_job. can-wait l at job kept latch is_job.holds)

  pub wait-floor : IsLawful s → (l n : Ledger X) (f : PlainFloor) (at job : ℕ) (answer : FloorTake)
      → plain_floor s l ≡ f → IsKept s l
      → IsLatch (slice_get f.kinds at) → IsJob f job → IsIdle f job → 0 < room_at f at
      → Awaits s l at job answer n → WaitsWell f at job answer n
  wait-floor lawful l n f at job answer view kept =
      let Comes : PlainFloor → Type 0 = λ g. IsLatch (slice_get g.kinds at) → IsJob g job → IsIdle g job
      → 0 < room_at g at → Awaits s l at job answer n → WaitsWell g at job answer n in
      subst Comes view (wait-well lawful l n at job answer kept)
