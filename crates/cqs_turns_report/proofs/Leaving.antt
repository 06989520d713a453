-- A wait that is gone: an arrival is taken back with it, and its place in the round is free again.
use Rattle.std.proofs.Common.{◌≡◌, ◌≢◌, ◌⊎◌, inl, inr, ℕ, ◌+◌, ◌<◌, ◌≤◌, nat_lt, Bool, true, false, cond, List, [], ◌++◌, Some, None, length, set, get_or, slice_get, count_by, refl, sym, ap, ◌∙◌, lt-ltb, le-ltb, arith}
use Rattle.std.specs.Bool.{if◌then◌else◌}
use Rattle.std.proofs.lemmas.Bool.{cases_eq, cases_lt}
use Rattle.std.proofs.lemmas.List.{get_or-set_same, get_or-set_other, get_or_past, length-set}
use Rattle.cqs_barrier_object.specs.declared.entries.BarrierEntry.{BarrierEntry}
use Rattle.cqs_barrier_object.specs.BarrierObject.{Barrier}
use Rattle.cqs_plan.specs.declared.plans.kind.Kind.{Kind}
use Rattle.cqs_plan.specs.declared.plans.kind.Kind.TheVariants.{Semaphore, Mutex, Pool, Latch, Rounds}
use Rattle.cqs_plan.specs.FloorHistory.{History, Deed, of_permits, of_rounds, leaves, barrier_after, barrier_entries, entries_in, to_come, with_deed_in}
use Rattle.cqs_plan.specs.Floor.{PlainFloor, JobWait, IsJob, HasRound, is_barrier_in, history_at, own_rounds, round_of, size_at, to_come_at, with_done_in, with_wait}
use Rattle.cqs_plan.specs.FloorCalls.{with_left}
use Rattle.cqs_turns_report.specs.Ready.{HasArrived, row_back}
use Rattle.cqs_turns_report.specs.Running.{HasParties, HasRounds, count_arrived}
use Rattle.cqs_turns_report.proofs.ArrivalMoves.{has-place, rows-set}
use Rattle.cqs_turns_report.proofs.Moved.{Others}
use Rattle.cqs_turns_report.proofs.ToCome.{barrier-then, keeps-barriers, keeps-leaves, rounds-done}

-- one more is to come to the round from which a wait leaves
freed : (f : PlainFloor) (at round k : ℕ) (all : List (List BarrierEntry)) → history_at f at ≡ of_rounds all
    → round < length all
    → to_come_at (with_done_in f at round (leaves k)) at round ≡ to_come_at f at round + 1
freed f at round k all is below = go (cases_lt at (length f.histories))
  where
    deed : Deed
    deed = leaves k

    size : ℕ
    size = size_at f at

    entries : List BarrierEntry
    entries = entries_in all round

    now : List BarrierEntry
    now = entries ++ barrier_entries (barrier_after size entries).waiters.line deed

    go : (at < length f.histories) ⊎ (length f.histories ≤ at)
        → to_come_at (with_done_in f at round deed) at round ≡ to_come_at f at round + 1
    go (inl there) =
        let after : history_at (with_done_in f at round deed) at ≡ with_deed_in size (history_at f at) round deed
        = get_or-set_same f.histories at (with_deed_in size (history_at f at) round deed) (of_permits []) there in
        let told : history_at (with_done_in f at round deed) at ≡ of_rounds (set all round now)
        = after ∙ ap (λ h. with_deed_in size h round deed) is in
        let own : entries_in (set all round now) round ≡ now = get_or-set_same all round now [] below in
        let one : (barrier_after size now).remaining ≡ (barrier_after size entries).remaining + 1
        = ap (λ (o : Barrier). o.remaining) (barrier-then size entries deed) in
        ap (λ h. to_come size h round) told ∙ ap (λ es. (barrier_after size es).remaining) own ∙ one
        ∙ ap (λ h. to_come size h round + 1) (sym is)
    go (inr past) =
        let none : history_at f at ≡ of_permits [] = get_or_past f.histories at (of_permits []) past in
        absurd (cc)

-- a round of a barrier is below its rounds
below-rounds : (k : Kind) (round parties rounds : ℕ) → HasRound (Some k) round → k ≡ Rounds parties rounds
    → round < rounds
below-rounds (Semaphore permits) round parties rounds has is = absurd has
below-rounds Mutex round parties rounds has is = absurd has
below-rounds (Pool elements) round parties rounds has is = absurd has
below-rounds (Latch count) round parties rounds has is = absurd has
below-rounds (Rounds p n) round parties rounds has is = let same : n ≡ rounds = cc in omega (arith, has, same)

module _ (f : PlainFloor) (place : ℕ) (wait : JobWait) (job : IsJob f place) where
  abbrev row : List ℕ
  row = set (own_rounds f place) wait.at wait.round

  abbrev pub gone : PlainFloor
  gone = with_left f place (Some wait)

  -- by whether it is a barrier
  abbrev rows : Bool → List (List ℕ)
  rows b = if b then set f.rounds place row else f.rounds

  pub own-back : own_rounds gone place ≡ row_back f.kinds (own_rounds f place) wait
  own-back = by (is_barrier_in f.kinds wait.at)
    where
      by : (b : Bool) → get_or (rows b) place [] ≡ (if b then row else own_rounds f place)
      by true = get_or-set_same f.rounds place row [] job.rounds
      by false = refl

  row-long : length (row_back f.kinds (own_rounds f place) wait) ≡ length (own_rounds f place)
  row-long = by (is_barrier_in f.kinds wait.at)
    where
      by : (b : Bool) → length (if b then row else own_rounds f place) ≡ length (own_rounds f place)
      by true = length-set (own_rounds f place) wait.at wait.round
      by false = refl

  rows-long : length gone.rounds ≡ length f.rounds
  rows-long = by (is_barrier_in f.kinds wait.at)
    where
      by : (b : Bool) → length (rows b) ≡ length f.rounds
      by true = length-set f.rounds place row
      by false = refl

  pub left-job : IsJob gone place
  left-job = record {
    waits = omega (arith, job.waits, length-set f.waits place None);
    holds = job.holds;
    rounds = omega (arith, job.rounds, rows-long);
    each = ap length own-back ∙ row-long ∙ job.each;
  }

  rows-else : (j : ℕ) → j ≢ place → own_rounds gone j ≡ own_rounds f j
  rows-else j other = by (is_barrier_in f.kinds wait.at)
    where
      by : (b : Bool) → get_or (rows b) j [] ≡ own_rounds f j
      by true = get_or-set_other f.rounds place j row [] other
      by false = refl

  -- those still to come and those that have arrived are still all parties
  module _ (arrived : is_barrier_in f.kinds wait.at ≡ true → HasArrived f place wait) (parties : HasParties f) where
    abbrev told : PlainFloor
    told = with_done_in f wait.at wait.round (leaves wait.number)

    keeps : (q r many rounds : ℕ) → slice_get f.kinds q ≡ Some (Rounds many rounds)
        → to_come_at f q r ≤ to_come_at told q r
    keeps = keeps-barriers f wait.at wait.round (leaves wait.number) (keeps-leaves wait.number)

    -- how many rows are past a round
    abbrev past : List (List ℕ) → ℕ → ℕ → ℕ
    past all q r = count_by (λ x. nat_lt r (get_or x q 0)) all

    abbrev one : ℕ → ℕ → ℕ
    one r n = cond (nat_lt r n) 1 0

    one-past : (r n : ℕ) → r < n → one r n ≡ 1
    one-past r n below = ap (λ b. cond {A = ℕ} b 1 0) (lt-ltb r n below)

    one-none : (r n : ℕ) → n ≤ r → one r n ≡ 0
    one-none r n low = ap (λ b. cond {A = ℕ} b 1 0) (le-ltb r n low)

    one-most : (r n : ℕ) → one r n ≤ 1
    one-most r n = go (nat_lt r n)
      where
        go : (b : Bool) → cond {A = ℕ} b 1 0 ≤ 1
        go true = omega arith
        go false = omega arith

    rewritten : (q r : ℕ) → past (set f.rounds place row) q r + one r (round_of f place q)
        ≡ past f.rounds q r + one r (get_or row q 0)
    rewritten q r = rows-set f.rounds place q r row job.rounds

    elsewhere : (q r many rounds : ℕ) → slice_get f.kinds q ≡ Some (Rounds many rounds) → q ≢ wait.at
        → many ≤ to_come_at told q r + past (set f.rounds place row) q r
    elsewhere q r many rounds is other =
        let same : get_or row q 0 ≡ round_of f place q
        = get_or-set_other (own_rounds f place) wait.at q wait.round 0 other in
        omega (
          arith,
          parties.all q r many rounds is,
          keeps q r many rounds is,
          rewritten q r,
          ap (λ n. one r n) same,
        )

    here : (r many rounds : ℕ) → slice_get f.kinds wait.at ≡ Some (Rounds many rounds)
        → HasArrived f place wait
        → many ≤ to_come_at told wait.at r + past (set f.rounds place row) wait.at r
    here r many rounds is has = go (cases_eq r wait.round) (cases_lt r wait.round)
      where
        inside : wait.at < length (own_rounds f place)
        inside = omega (arith, has-place f.kinds wait.at wait.round has.round, job.each)

        now : get_or row wait.at 0 ≡ wait.round
        now = get_or-set_same (own_rounds f place) wait.at wait.round 0 inside

        now-one : one r (get_or row wait.at 0) ≡ one r wait.round
        now-one = ap (λ n. one r n) now

        histories : HasRounds rounds (history_at f wait.at)
        histories = parties.there wait.at many rounds is

        own : HasRound (Some (Rounds many rounds)) wait.round
        own = rw is at has.round

        go : (r ≡ wait.round) ⊎ (r ≢ wait.round) → (r < wait.round) ⊎ (wait.round ≤ r)
            → many ≤ to_come_at told wait.at r + past (set f.rounds place row) wait.at r
        go (inl same) either =
            let more : to_come_at told wait.at wait.round ≡ to_come_at f wait.at wait.round + 1
            = freed f wait.at wait.round wait.number histories.all histories.is (omega (arith, own, histories.many)) in
            omega (
              arith,
              parties.all wait.at r many rounds is,
              more,
              ap (λ n. to_come_at told wait.at n) same,
              ap (λ n. to_come_at f wait.at n) same,
              rewritten wait.at r,
              one-most r (round_of f place wait.at),
            )
        go (inr other) (inl below) =
            let more : one r wait.round ≡ 1 = one-past r wait.round below in
            omega (
              arith,
              parties.all wait.at r many rounds is,
              keeps wait.at r many rounds is,
              rewritten wait.at r,
              now-one,
              more,
              one-most r (round_of f place wait.at),
            )
        go (inr other) (inr low) =
            let none : one r (round_of f place wait.at) ≡ 0
            = one-none r (round_of f place wait.at) (omega (arith, has.last, low, other)) in
            omega (
              arith,
              parties.all wait.at r many rounds is,
              keeps wait.at r many rounds is,
              rewritten wait.at r,
              none,
            )

    left-parties : HasParties gone
    left-parties = by (is_barrier_in f.kinds wait.at) refl
      where
        still : (q many rounds : ℕ) → slice_get f.kinds q ≡ Some (Rounds many rounds)
            → HasRounds rounds (history_at told q)
        still q many rounds is =
            rounds-done f wait.at wait.round (leaves wait.number) q rounds (parties.there q many rounds is)

        both : (q r many rounds : ℕ) → slice_get f.kinds q ≡ Some (Rounds many rounds)
            → HasArrived f place wait → (q ≡ wait.at) ⊎ (q ≢ wait.at)
            → many ≤ to_come_at told q r + past (set f.rounds place row) q r
        both q r many rounds is has (inl same) = rw same (here r many rounds (rw same at is) has)
        both q r many rounds is has (inr other) = elsewhere q r many rounds is other

        by : (b : Bool) → is_barrier_in f.kinds wait.at ≡ b
            → HasParties (record (with_wait told place None) { rounds = rows b })
        by true is_barrier = record {
          there = still;
          all = λ q r many rounds is. both q r many rounds is (arrived is_barrier) (cases_eq q wait.at);
        }
        by false none = record {
          there = still;
          all = λ q r many rounds is.
              omega (arith, parties.all q r many rounds is, keeps q r many rounds is);
        }

  pub left-others : (is_barrier_in f.kinds wait.at ≡ true → HasArrived f place wait) → Others place f gone
  left-others arrived = record {
    kinds = refl;
    all_waits = length-set f.waits place None;
    all_holds = refl;
    all_rounds = rows-long;
    waits = λ j other. get_or-set_other f.waits place j None None other;
    holds = λ j other. refl;
    rounds = rows-else;
    parties = left-parties arrived;
  }
