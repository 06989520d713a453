-- What a pass has seen goes on: each history begins as it was, and what was in it stays.
use Rattle.std.proofs.Common.{◌≡◌, ◌≢◌, ◌⊎◌, inl, inr, ℕ, ◌≤◌, ◌<◌, Bool, cond, List, [], ◌++◌, length, set, count_by, refl, sym, ap, ◌∙◌, append_assoc, arith}
use Rattle.std.proofs.lemmas.Bool.{cases_eq, cases_lt}
use Rattle.std.proofs.lemmas.List.{append-nil, get_or-set_same, get_or-set_other, get_or_past, length-set}
use Rattle.std.proofs.lemmas.List.Sums.{sum_by-append}
use Rattle.cqs_core.specs.Numbered.{IsIn}
use Rattle.cqs_core.specs.Parts.{IsPrefix}
use Rattle.cqs_core.proofs.Places.{get-append_left}
use Rattle.cqs_barrier_object.specs.declared.entries.BarrierEntry.{BarrierEntry}
use Rattle.cqs_plan.specs.FloorHistory.{History, of_permits, of_elements, of_latch, of_rounds, entries_in}
use Rattle.cqs_floor_shared.specs.Entries.{Entries, at_permits, at_elements, at_latch, in_round, with_entries, IsBefore, drawn_in, IsDelivered, enters_for_permit, enters_for_element, enters_at_latch, enters_at_barrier}
use Rattle.cqs_work.specs.Causes.{HasLeftLine, WasTooLate, WasServed}

-- all begins with itself
pub before-itself : (h : History) → IsBefore h h
before-itself (of_permits h) = ([], sym (append-nil h))
before-itself (of_elements h) = ([], sym (append-nil h))
before-itself (of_latch h) = ([], sym (append-nil h))
before-itself (of_rounds all) = λ round. ([], sym (append-nil (entries_in all round)))

prefix-through : {A : Type 0} (h mid all : List A) → IsPrefix h mid → IsPrefix mid all → IsPrefix h all
prefix-through h mid all (some, first) (more, second) =
    (some ++ more, second ∙ ap (λ l. l ++ more) first ∙ append_assoc h some more)

pub before-through : (h mid all : History) → IsBefore h mid → IsBefore mid all → IsBefore h all
before-through (of_permits h) (of_permits mid) (of_permits all) first second = prefix-through h mid all first second
before-through (of_elements h) (of_elements mid) (of_elements all) first second = prefix-through h mid all first second
before-through (of_latch h) (of_latch mid) (of_latch all) first second = prefix-through h mid all first second
before-through (of_rounds h) (of_rounds mid) (of_rounds all) first second =
    λ round. prefix-through (entries_in h round) (entries_in mid round) (entries_in all round) (first round)
    (second round)
before-through (of_permits h) (of_permits mid) (of_elements all) first second = absurd second
before-through (of_permits h) (of_permits mid) (of_latch all) first second = absurd second
before-through (of_permits h) (of_permits mid) (of_rounds all) first second = absurd second
before-through (of_elements h) (of_elements mid) (of_permits all) first second = absurd second
before-through (of_elements h) (of_elements mid) (of_latch all) first second = absurd second
before-through (of_elements h) (of_elements mid) (of_rounds all) first second = absurd second
before-through (of_latch h) (of_latch mid) (of_permits all) first second = absurd second
before-through (of_latch h) (of_latch mid) (of_elements all) first second = absurd second
before-through (of_latch h) (of_latch mid) (of_rounds all) first second = absurd second
before-through (of_rounds h) (of_rounds mid) (of_permits all) first second = absurd second
before-through (of_rounds h) (of_rounds mid) (of_elements all) first second = absurd second
before-through (of_rounds h) (of_rounds mid) (of_latch all) first second = absurd second
before-through (of_permits h) (of_elements mid) all first second = absurd first
before-through (of_permits h) (of_latch mid) all first second = absurd first
before-through (of_permits h) (of_rounds mid) all first second = absurd first
before-through (of_elements h) (of_permits mid) all first second = absurd first
before-through (of_elements h) (of_latch mid) all first second = absurd first
before-through (of_elements h) (of_rounds mid) all first second = absurd first
before-through (of_latch h) (of_permits mid) all first second = absurd first
before-through (of_latch h) (of_elements mid) all first second = absurd first
before-through (of_latch h) (of_rounds mid) all first second = absurd first
before-through (of_rounds h) (of_permits mid) all first second = absurd first
before-through (of_rounds h) (of_elements mid) all first second = absurd first
before-through (of_rounds h) (of_latch mid) all first second = absurd first

round-longer : (all : List (List BarrierEntry)) (round : ℕ) (entries : List BarrierEntry) (r : ℕ)
    → IsPrefix (entries_in all r) (entries_in (set all round (entries_in all round ++ entries)) r)
round-longer all round entries r = go (cases_eq r round) (cases_lt round (length all))
  where
    longer : List BarrierEntry
    longer = entries_in all round ++ entries

    go : (r ≡ round) ⊎ (r ≢ round) → (round < length all) ⊎ (length all ≤ round)
        → IsPrefix (entries_in all r) (entries_in (set all round (entries_in all round ++ entries)) r)
    go (inl same) (inl below) =
        rw same (entries, get_or-set_same all round (entries_in all round ++ entries) [] below)
    go (inl same) (inr past) =
        let long : length all ≤ r = omega (arith, same, past) in
        let now : length (set all round (entries_in all round ++ entries)) ≤ r
        = omega (arith, long, length-set all round (entries_in all round ++ entries)) in (
          [],
          get_or_past (set all round (entries_in all round ++ entries)) r [] now
              ∙ sym (get_or_past all r [] long) ∙ sym (append-nil (entries_in all r)),
        )
    go (inr other) there = (
      [],
      get_or-set_other all round r (entries_in all round ++ entries) [] other
          ∙ sym (append-nil (entries_in all r)),
    )

-- a history with more entries begins as it was
pub before-with : (h : History) (more : Entries) → IsBefore h (with_entries h more)
before-with (of_permits h) (at_permits more) = (more, refl)
before-with (of_permits h) (at_elements more) = before-itself (of_permits h)
before-with (of_permits h) (at_latch more) = before-itself (of_permits h)
before-with (of_permits h) (in_round round more) = before-itself (of_permits h)
before-with (of_elements h) (at_elements more) = (more, refl)
before-with (of_elements h) (at_permits more) = before-itself (of_elements h)
before-with (of_elements h) (at_latch more) = before-itself (of_elements h)
before-with (of_elements h) (in_round round more) = before-itself (of_elements h)
before-with (of_latch h) (at_latch more) = (more, refl)
before-with (of_latch h) (at_permits more) = before-itself (of_latch h)
before-with (of_latch h) (at_elements more) = before-itself (of_latch h)
before-with (of_latch h) (in_round round more) = before-itself (of_latch h)
before-with (of_rounds all) (in_round round more) = round-longer all round more
before-with (of_rounds all) (at_permits more) = before-itself (of_rounds all)
before-with (of_rounds all) (at_elements more) = before-itself (of_rounds all)
before-with (of_rounds all) (at_latch more) = before-itself (of_rounds all)

-- what was in a list is in one that begins with it
in-longer : {X : Type 0} (x : X) (h all : List X) → IsPrefix h all → IsIn x h → IsIn x all
in-longer x h all (more, is) there = record {
  place = there.place;
  there = rw is (get-append_left h more there.place x there.there);
}

count-longer : {X : Type 0} (p : X → Bool) (h all : List X) → IsPrefix h all → count_by p h ≤ count_by p all
count-longer p h all (more, is) =
    rw is (omega (arith, sum_by-append (λ x. cond {A = ℕ} (p x) 1 0) h more))

pub left-stays : (h all : History) (round c k : ℕ) → IsBefore h all → HasLeftLine h round c k
    → HasLeftLine all round c k
left-stays (of_permits h) (of_permits all) round c k before there = in-longer _ h all before there
left-stays (of_elements h) (of_elements all) round c k before there = in-longer _ h all before there
left-stays (of_latch h) (of_latch all) round c k before there = in-longer _ h all before there
left-stays (of_rounds h) (of_rounds all) round c k before there =
    in-longer _ (entries_in h round) (entries_in all round) (before round) there
left-stays (of_permits h) (of_elements all) round c k before there = absurd before
left-stays (of_permits h) (of_latch all) round c k before there = absurd before
left-stays (of_permits h) (of_rounds all) round c k before there = absurd before
left-stays (of_elements h) (of_permits all) round c k before there = absurd before
left-stays (of_elements h) (of_latch all) round c k before there = absurd before
left-stays (of_elements h) (of_rounds all) round c k before there = absurd before
left-stays (of_latch h) (of_permits all) round c k before there = absurd before
left-stays (of_latch h) (of_elements all) round c k before there = absurd before
left-stays (of_latch h) (of_rounds all) round c k before there = absurd before
left-stays (of_rounds h) (of_permits all) round c k before there = absurd before
left-stays (of_rounds h) (of_elements all) round c k before there = absurd before
left-stays (of_rounds h) (of_latch all) round c k before there = absurd before

pub late-stays : (h all : History) (round c k : ℕ) → IsBefore h all → WasTooLate h round c k → WasTooLate all round c k
late-stays (of_permits h) (of_permits all) round c k before there = in-longer _ h all before there
late-stays (of_elements h) (of_elements all) round c k before (e, there) = (e, in-longer _ h all before there)
late-stays (of_latch h) (of_latch all) round c k before there = in-longer _ h all before there
late-stays (of_rounds h) (of_rounds all) round c k before (inl there) =
    inl (in-longer _ (entries_in h round) (entries_in all round) (before round) there)
late-stays (of_rounds h) (of_rounds all) round c k before (inr there) =
    inr (in-longer _ (entries_in h round) (entries_in all round) (before round) there)
late-stays (of_permits h) (of_elements all) round c k before there = absurd before
late-stays (of_permits h) (of_latch all) round c k before there = absurd before
late-stays (of_permits h) (of_rounds all) round c k before there = absurd before
late-stays (of_elements h) (of_permits all) round c k before there = absurd before
late-stays (of_elements h) (of_latch all) round c k before there = absurd before
late-stays (of_elements h) (of_rounds all) round c k before there = absurd before
late-stays (of_latch h) (of_permits all) round c k before there = absurd before
late-stays (of_latch h) (of_elements all) round c k before there = absurd before
late-stays (of_latch h) (of_rounds all) round c k before there = absurd before
late-stays (of_rounds h) (of_permits all) round c k before there = absurd before
late-stays (of_rounds h) (of_elements all) round c k before there = absurd before
late-stays (of_rounds h) (of_latch all) round c k before there = absurd before

delivered-stays : (h all : History) (round k e : ℕ) → IsBefore h all → IsDelivered h round k e
    → IsDelivered all round k e
delivered-stays (of_permits h) (of_permits all) round k e before there = in-longer _ h all before there
delivered-stays (of_elements h) (of_elements all) round k e before there = in-longer _ h all before there
delivered-stays (of_latch h) (of_latch all) round k e before there = in-longer _ h all before there
delivered-stays (of_rounds h) (of_rounds all) round k e before there =
    in-longer _ (entries_in h round) (entries_in all round) (before round) there
delivered-stays (of_permits h) (of_elements all) round k e before there = absurd before
delivered-stays (of_permits h) (of_latch all) round k e before there = absurd before
delivered-stays (of_permits h) (of_rounds all) round k e before there = absurd before
delivered-stays (of_elements h) (of_permits all) round k e before there = absurd before
delivered-stays (of_elements h) (of_latch all) round k e before there = absurd before
delivered-stays (of_elements h) (of_rounds all) round k e before there = absurd before
delivered-stays (of_latch h) (of_permits all) round k e before there = absurd before
delivered-stays (of_latch h) (of_elements all) round k e before there = absurd before
delivered-stays (of_latch h) (of_rounds all) round k e before there = absurd before
delivered-stays (of_rounds h) (of_permits all) round k e before there = absurd before
delivered-stays (of_rounds h) (of_elements all) round k e before there = absurd before
delivered-stays (of_rounds h) (of_latch all) round k e before there = absurd before

pub served-stays : (h all : History) (round k : ℕ) → IsBefore h all → WasServed h round k → WasServed all round k
served-stays h all round k before (e, there) = (e, delivered-stays h all round k e before there)

pub drawn-stays : (h all : History) (round : ℕ) → IsBefore h all → drawn_in h round ≤ drawn_in all round
drawn-stays (of_permits h) (of_permits all) round before = count-longer enters_for_permit h all before
drawn-stays (of_elements h) (of_elements all) round before = count-longer enters_for_element h all before
drawn-stays (of_latch h) (of_latch all) round before = count-longer enters_at_latch h all before
drawn-stays (of_rounds h) (of_rounds all) round before =
    count-longer enters_at_barrier (entries_in h round) (entries_in all round) (before round)
drawn-stays (of_permits h) (of_elements all) round before = absurd before
drawn-stays (of_permits h) (of_latch all) round before = absurd before
drawn-stays (of_permits h) (of_rounds all) round before = absurd before
drawn-stays (of_elements h) (of_permits all) round before = absurd before
drawn-stays (of_elements h) (of_latch all) round before = absurd before
drawn-stays (of_elements h) (of_rounds all) round before = absurd before
drawn-stays (of_latch h) (of_permits all) round before = absurd before
drawn-stays (of_latch h) (of_elements all) round before = absurd before
drawn-stays (of_latch h) (of_rounds all) round before = absurd before
drawn-stays (of_rounds h) (of_permits all) round before = absurd before
drawn-stays (of_rounds h) (of_elements all) round before = absurd before
drawn-stays (of_rounds h) (of_latch all) round before = absurd before
