-- An arrival at a barrier, in the job's round: what it rests on, what it answers, and what it leaves.
use Rattle.std.proofs.Common.{◌≡◌, ℕ, ◌+◌, ◌<◌, Some, length, set, slice_get, refl, ap, sym, ◌∙◌, subst, arith}
use Rattle.std.specs.Prelude.{slice_index, slice_set}
use Rattle.std.proofs.lemmas.List.{length-map}
use Rattle.cqs_core.proofs.Places.{get-below}
use Rattle.cqs_plan.specs.Validity.{IsKind}
use Rattle.cqs_plan.specs.declared.plans.kind.Kind.{Kind}
use Rattle.cqs_plan.specs.declared.plans.kind.Kind.TheVariants as kind
use Rattle.cqs_plan.specs.declared.floors.answers.FloorTake.{FloorTake}
use Rattle.cqs_plan.specs.declared.floors.answers.FloorTake.TheVariants.{Now, Waits}
use Rattle.cqs_plan.specs.FloorHistory.{completes}
use Rattle.cqs_plan.specs.Floor.{PlainFloor, HasRound, IsIdle, IsJob, room_at, round_of, to_come_at}
use Rattle.cqs_plan.specs.FloorCalls.{after_arrive, arrive_answer}
use Rattle.cqs_turns_report.proofs.KindsThere.{barrier-there}
use Rattle.cqs_floor_common.specs.Holdings.{elements_of}
use Rattle.cqs_floor_alone.specs.DeskCalls.{Comes, HasAt}
use Rattle.cqs_floor_alone.specs.Kept.{IsKept}
use Rattle.cqs_floor_alone.specs.Ledger.{Ledger, holds_in, plain_floor, round_in, rounds_of, with_arrived, with_less_room, with_soles, with_waiting}
use Rattle.cqs_floor_alone_kinds.specs.Stores.{CanArrive, IsLawful, Store}
use Rattle.cqs_floor_alone.proofs.Joining.{kept-later, plain-later}
use Rattle.cqs_floor_alone.proofs.KeptNext.{kept-rounds}
use Rattle.cqs_floor_alone.proofs.Passing.{kept-through, plain-through}
use Rattle.cqs_floor_alone.proofs.Resources.{Funds, comes-there, funds-at, idle-there, job-there, place-room, stands-there}

module _ {X : Type 0} (s : Store X) where
  can-arrive : (l : Ledger X) (at job : ℕ) → IsKept s l → HasRound (slice_get l.kinds at) (round_in l job at)
      → job < length (holds_in l) → 0 < slice_index l.room at
      → 0 < to_come_at (plain_floor s l) at (round_in l job at)
      → HasAt l.soles at (CanArrive s job (round_in l job at))
  can-arrive l at job kept barrier holder room come =
      let round = round_in l job at in
      let funds : Funds s l at = funds-at s l at kept (barrier-there (slice_get l.kinds at) round barrier) in
      record {
        sole = funds.sole;
        there = funds.there;
        can = record {
          kind = _;
          room = _;
          waiting = _;
          held = _;
          barrier = barrier;
          funded = funds.funded;
          some = room;
          there = omega (arith, holder, length-map (holds_in l) (elements_of at));
          to_come = subst (λ n. 0 < n) (comes-there s l at funds.sole round funds.there) come;
        };
      }

  -- what an arrival comes to: its answer is the plain floor's, and so is what it leaves
  pub record ArrivesWell (f : PlainFloor) (at job : ℕ) (answer : FloorTake) (n : Ledger X) : Type 0 where
    pub answers : answer ≡ arrive_answer f at job
    pub leaves : plain_floor s n ≡ after_arrive f at job answer
    pub kept : IsKept s n

  arrive-well : IsLawful s → (l n : Ledger X) (at job : ℕ) (answer : FloorTake) → IsKept s l
      → HasRound (slice_get l.kinds at) (round_in l job at) → IsJob (plain_floor s l) job
      → IsIdle (plain_floor s l) job → 0 < slice_index l.room at → Comes s l at job answer n
      → ArrivesWell (plain_floor s l) at job answer n
  arrive-well lawful l n at job (Now element) kept barrier is_job idle room (none, a, written) =
      let round = round_in l job at in
      let rounds = slice_set l.rounds job (slice_set (rounds_of l job) at (round + 1)) in
      let made = a.made _ _ _ _ (kept.funded.at at a.sole a.there) room in
      let place = place-room s l at kept (barrier-there (slice_get l.kinds at) round barrier) in
      let same : n ≡ with_soles (with_arrived (with_less_room l at) job at) (set l.soles at a.after) =
      written ∙ ap (with_soles (with_arrived (with_less_room l at) job at)) a.soles in
      let is : Now element ≡ Now 0 = ap Now none in
      record {
        answers = is ∙ rw (comes-there s l at a.sole round a.there, made.0) refl;
        leaves = ap (plain_floor s) same
            ∙ ap (λ (g : PlainFloor). record g { rounds = rounds })
            (plain-through s l at round completes kept a.sole a.after a.there place room made.1);
        kept = subst (IsKept s) (sym same)
            (kept-rounds s _ rounds
            (kept-through s l at round completes kept a.sole a.after a.there place room made.1));
      }
  arrive-well lawful l n at job (Waits number) kept barrier is_job idle room (cell, number_is, a, written) =
      let round = round_in l job at in
      let rounds = slice_set l.rounds job (slice_set (rounds_of l job) at (round + 1)) in
      let made = a.made _ _ _ _ (kept.funded.at at a.sole a.there) room in
      let place = place-room s l at kept (barrier-there (slice_get l.kinds at) round barrier) in
      let waiter = job-there s l job is_job in
      let nobody = idle-there s l.waits job idle in
      let is : Waits number ≡ Waits cell.index = ap Waits number_is in
      let same : n
      ≡ with_soles (with_arrived (with_waiting l at job round cell) job at) (set l.soles at a.after) =
      written ∙ ap (with_soles (with_arrived (with_waiting l at job round cell) job at)) a.soles in
      record {
        answers = is
            ∙ rw (
              comes-there s l at a.sole round a.there,
              made.0,
              stands-there s l at a.sole round a.there,
              made.1.number,
            ) refl;
        leaves = ap (plain_floor s) same
            ∙ ap (λ (g : PlainFloor). record g { rounds = rounds })
            (plain-later s lawful l at job round kept place room waiter nobody cell a.sole a.after a.there made.1)
            ∙ ap (after_arrive (plain_floor s l) at job) (sym is);
        kept = subst (IsKept s) (sym same)
            (kept-rounds s _ rounds
            (kept-later s lawful l at job round kept place room waiter nobody cell a.sole a.after a.there made.1));
      }

  -- the same where the floor is seen as its plain floor
  pub arrive-can : (l : Ledger X) (f : PlainFloor) (at job : ℕ) → plain_floor s l ≡ f → IsKept s l
      → HasRound (slice_get f.kinds at) (round_of f job at) → IsJob f job → 0 < room_at f at
      → 0 < to_come_at f at (round_of f job at) → HasAt l.soles at (CanArrive s job (round_in l job at))
  arrive-can l f at job view kept =
      let Allows : PlainFloor → Type 0 = λ g. HasRound (slice_get g.kinds at) (round_of g job at) → IsJob g job
      → 0 < room_at g at → 0 < to_come_at g at (round_of g job at)
      → HasAt l.soles at (CanArrive s job (round_in l job at)) in
      subst Allows view (λ barrier is_job. can-arrive l at job kept barrier is_job.holds)

  -- the job's round there can be counted on, and is one of the ledger's
  few-rounds : (k : Kind) (round : ℕ) → IsKind k → HasRound (Some k) round → round < 64
  few-rounds (kind.Rounds parties rounds) round sized barrier = omega (arith, barrier, sized.1.1)
  few-rounds (kind.Semaphore n) round sized barrier = absurd barrier
  few-rounds kind.Mutex round sized barrier = absurd barrier
  few-rounds (kind.Pool n) round sized barrier = absurd barrier
  few-rounds (kind.Latch n) round sized barrier = absurd barrier

  few-arrivals : (l : Ledger X) (at job : ℕ) → IsKept s l → HasRound (slice_get l.kinds at) (round_in l job at)
      → round_in l job at < 64
  few-arrivals l at job kept barrier =
      let is = barrier-there (slice_get l.kinds at) (round_in l job at) barrier in
      few-rounds is.0 (round_in l job at) (kept.sized.at at is.0 is.1)
      (subst (λ k. HasRound k (round_in l job at)) is.1 barrier)

  place-rounds : (l : Ledger X) (at job : ℕ) → IsJob (plain_floor s l) job
      → HasRound (slice_get l.kinds at) (round_in l job at) → at < length (rounds_of l job)
  place-rounds l at job is_job barrier =
      let is = barrier-there (slice_get l.kinds at) (round_in l job at) barrier in
      omega (arith, get-below l.kinds at is.0 is.1, is_job.each)

  pub arrive-few : (l : Ledger X) (f : PlainFloor) (at job : ℕ) → plain_floor s l ≡ f → IsKept s l
      → HasRound (slice_get f.kinds at) (round_of f job at) → round_in l job at < 64
  arrive-few l f at job view kept =
      subst (λ (g : PlainFloor). HasRound (slice_get g.kinds at) (round_of g job at) → round_in l job at < 64) view
      (few-arrivals l at job kept)

  pub arrive-each : (l : Ledger X) (f : PlainFloor) (at job : ℕ) → plain_floor s l ≡ f → IsJob f job
      → HasRound (slice_get f.kinds at) (round_of f job at) → at < length (rounds_of l job)
  arrive-each l f at job view =
      subst (λ (g : PlainFloor). IsJob g job → HasRound (slice_get g.kinds at) (round_of g job at)
      → at < length (rounds_of l job)) view (place-rounds l at job)

  pub arrive-own : (l : Ledger X) (f : PlainFloor) (job : ℕ) → plain_floor s l ≡ f → IsJob f job
      → job < length l.rounds
  arrive-own l f job view =
      subst (λ (g : PlainFloor). IsJob g job → job < length l.rounds) view (λ is_job. is_job.rounds)

  pub arrive-floor : IsLawful s → (l n : Ledger X) (f : PlainFloor) (at job : ℕ) (answer : FloorTake)
      → plain_floor s l ≡ f → IsKept s l
      → HasRound (slice_get f.kinds at) (round_of f job at) → IsJob f job → IsIdle f job → 0 < room_at f at
      → Comes s l at job answer n → ArrivesWell f at job answer n
  arrive-floor lawful l n f at job answer view kept =
      let Follows : PlainFloor → Type 0 = λ g. HasRound (slice_get g.kinds at) (round_of g job at) → IsJob g job
      → IsIdle g job → 0 < room_at g at → Comes s l at job answer n → ArrivesWell g at job answer n in
      subst Follows view (arrive-well lawful l n at job answer kept)
