-- Where an arrival is taken back there are as many rounds as before, and all else that a floor keeps is as it was.
use Rattle.std.proofs.Common.{◌≡◌, ◌≢◌, ◌⊎◌, inl, inr, ℕ, ◌<◌, ◌≤◌, Bool, true, false, List, [], length, set, get_or, refl, sym, ap, ◌∙◌, arith}
use Rattle.std.specs.Bool.{if◌then◌else◌}
use Rattle.std.proofs.lemmas.Bool.{cases_eq, cases_lt}
use Rattle.std.proofs.lemmas.List.{get_or-set_same, get_or-set_other, get_or_past, length-set}
use Rattle.cqs_plan.specs.declared.plans.kind.Kind.{Kind}
use Rattle.cqs_plan.specs.Floor.{JobWait, is_barrier_in, rounds_back}
use Rattle.cqs_floor_shared_kinds.specs.Shares.{Share}
use Rattle.cqs_floor_shared_queue.specs.FloorKept.{IsKept}
use Rattle.cqs_floor_shared_queue.specs.Ledgers.{Ledger, own_rounds}

module _ (kinds : List Kind) (rounds : List (List ℕ)) (job : ℕ) (wait : JobWait) where
  abbrev row : List ℕ
  row = set (own_rounds rounds job) wait.at wait.round

  abbrev rows : Bool → List (List ℕ)
  rows b = if b then set rounds job row else rounds

  pub back-long : length (rounds_back kinds rounds job wait) ≡ length rounds
  back-long = by (is_barrier_in kinds wait.at)
    where
      by : (b : Bool) → length (rows b) ≡ length rounds
      by true = length-set rounds job row
      by false = refl

  pub back-each : (j : ℕ) → length (own_rounds (rounds_back kinds rounds job wait) j) ≡ length (own_rounds rounds j)
  back-each j = by (is_barrier_in kinds wait.at)
    where
      set-each : (j ≡ job) ⊎ (j ≢ job) → (job < length rounds) ⊎ (length rounds ≤ job)
          → length (get_or (set rounds job row) j []) ≡ length (own_rounds rounds j)
      set-each (inr other) there = ap (λ (xs : List ℕ). length xs) (get_or-set_other rounds job j row [] other)
      set-each (inl same) (inl there) =
          ap (λ n. length (get_or (set rounds job row) n [])) same
          ∙ ap (λ (xs : List ℕ). length xs) (get_or-set_same rounds job row [] there)
          ∙ length-set (own_rounds rounds job) wait.at wait.round
          ∙ ap (λ n. length (own_rounds rounds n)) (sym same)
      set-each (inl same) (inr past) =
          ap (λ (xs : List ℕ). length xs) (get_or_past (set rounds job row) j []
          (omega (arith, same, past, length-set rounds job row))
          ∙ sym (get_or_past rounds j [] (omega (arith, same, past))))

      by : (b : Bool) → length (own_rounds (rows b) j) ≡ length (own_rounds rounds j)
      by true = set-each (cases_eq j job) (cases_lt job (length rounds))
      by false = refl

pub kept-rounds : {X : Type 0} (s : Share X) (l : Ledger X) (rounds : List (List ℕ)) → length rounds ≡ length l.rounds
    → ((job : ℕ) → length (own_rounds rounds job) ≡ length (own_rounds l.rounds job)) → IsKept s l
    → IsKept s (record l { rounds = rounds })
kept-rounds s l rounds long each kept = record {
  shares = kept.shares;
  rooms = kept.rooms;
  jobs = long ∙ kept.jobs;
  each_round = λ job below. each job ∙ kept.each_round job (omega (arith, below, long));
  sized = kept.sized;
  funded = record {
    at = λ i x got.
        let was = kept.funded.at i x got in
        record { funded = was.funded; number = was.number; met = was.met; passes = was.passes };
  };
  waits = kept.waits;
  placed = kept.placed;
  apart = kept.apart;
  distinct = kept.distinct;
  below = kept.below;
  few_floors = kept.few_floors;
  few = kept.few;
  within = kept.within;
  space = kept.space;
  seats = kept.seats;
}
