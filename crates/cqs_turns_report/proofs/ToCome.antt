-- What a deed makes of those that are still to come to a barrier.
use Rattle.std.proofs.Common.{◌≡◌, ◌≢◌, ◌⊎◌, inl, inr, ℕ, ◌+◌, ◌<◌, ◌≤◌, false, List, [], ◌++◌, Some, length, set, get_or, slice_get, sym, ap, ◌∙◌, arith}
use Rattle.std.specs.List.{fold}
use Rattle.std.proofs.lemmas.Bool.{cases_eq, cases_lt}
use Rattle.std.proofs.lemmas.List.Sums.{fold-append}
use Rattle.std.proofs.lemmas.List.{get_or-set_same, get_or-set_other, get_or_past, length-set}
use Rattle.cqs_latch_object.specs.declared.entries.LatchEntry.{LatchEntry}
use Rattle.cqs_latch_object.specs.LatchEntries.{after_entry as latch_entry}
use Rattle.cqs_latch_object.specs.LatchObject.{Latch}
use Rattle.cqs_latch_object.specs.LatchObject as latch
use Rattle.cqs_barrier_object.specs.declared.entries.BarrierEntry.{BarrierEntry}
use Rattle.cqs_barrier_object.specs.BarrierEntries.{after_entry as barrier_entry}
use Rattle.cqs_barrier_object.specs.BarrierObject.{Barrier}
use Rattle.cqs_barrier_object.specs.BarrierObject as barriers
use Rattle.cqs_plan.specs.declared.plans.kind.Kind.TheVariants.{Rounds}
use Rattle.cqs_plan.specs.FloorHistory.{History, of_permits, of_elements, of_latch, of_rounds, Deed, takes, joins, frees, sends, gets, leaves, is_late, completes, latch_entries, barrier_entries, latch_after, barrier_after, entries_in, with_deed_in, to_come}
use Rattle.cqs_plan.specs.Floor.{PlainFloor, history_at, size_at, to_come_at, with_done_in}
use Rattle.cqs_turns_report.specs.Running.{HasRounds}

-- what a latch, or a barrier, is after a deed
abbrev pub latch_then : Latch → Deed → Latch
latch_then o deed = fold latch_entry o (latch_entries o.waiters.line deed)

abbrev pub barrier_then : Barrier → Deed → Barrier
barrier_then o deed = fold barrier_entry o (barrier_entries o.waiters.line deed)

pub latch-then : (size : ℕ) (entries : List LatchEntry) (deed : Deed)
    → latch_after size (entries ++ latch_entries (latch_after size entries).waiters.line deed)
    ≡ latch_then (latch_after size entries) deed
latch-then size entries deed =
    fold-append latch_entry (latch.opening false size) entries
    (latch_entries (latch_after size entries).waiters.line deed)

pub barrier-then : (size : ℕ) (entries : List BarrierEntry) (deed : Deed)
    → barrier_after size (entries ++ barrier_entries (barrier_after size entries).waiters.line deed)
    ≡ barrier_then (barrier_after size entries) deed
barrier-then size entries deed =
    fold-append barrier_entry (barriers.opening size) entries
    (barrier_entries (barrier_after size entries).waiters.line deed)

-- of two rounds one is written, where it is there
pub round-set : (all : List (List BarrierEntry)) (round r : ℕ) (entries : List BarrierEntry)
    → (entries_in (set all round entries) r ≡ entries_in all r)
    ⊎ ((r ≡ round) × (entries_in (set all round entries) r ≡ entries))
round-set all round r entries = go (cases_eq r round) (cases_lt round (length all))
  where
    go : (r ≡ round) ⊎ (r ≢ round) → (round < length all) ⊎ (length all ≤ round)
        → (entries_in (set all round entries) r ≡ entries_in all r)
        ⊎ ((r ≡ round) × (entries_in (set all round entries) r ≡ entries))
    go (inr other) there = inl (get_or-set_other all round r entries [] other)
    go (inl same) (inl there) = inr (same, rw same (get_or-set_same all round entries [] there))
    go (inl same) (inr past) =
        inl (get_or_past (set all round entries) r [] (omega (arith, past, same, length-set all round entries))
        ∙ sym (get_or_past all r [] (omega (arith, past, same))))

-- the deed lowers no number of those to come
abbrev pub Keeps : Deed → Type 0
Keeps deed = (size : ℕ) (h : History) (round r : ℕ) → to_come size h r ≤ to_come size (with_deed_in size h round deed) r

keeps-by : (deed : Deed) → ((o : Latch) → o.count ≤ (latch_then o deed).count)
    → ((o : Barrier) → o.remaining ≤ (barrier_then o deed).remaining) → Keeps deed
keeps-by deed latches barriers size (of_permits entries) round r = omega arith
keeps-by deed latches barriers size (of_elements entries) round r = omega arith
keeps-by deed latches barriers size (of_latch entries) round r =
    omega (
      arith,
      ap (λ (o : Latch). o.count) (latch-then size entries deed),
      latches (latch_after size entries),
    )
keeps-by deed latches barriers size (of_rounds all) round r =
    go (round-set all round r (entries ++ barrier_entries (barrier_after size entries).waiters.line deed))
  where
    entries : List BarrierEntry
    entries = entries_in all round

    now : List BarrierEntry
    now = entries ++ barrier_entries (barrier_after size entries).waiters.line deed

    go : (entries_in (set all round now) r ≡ entries_in all r)
        ⊎ ((r ≡ round) × (entries_in (set all round now) r ≡ now))
        → (barrier_after size (entries_in all r)).remaining
        ≤ (barrier_after size (entries_in (set all round now) r)).remaining
    go (inl same) = omega (arith, ap (λ es. (barrier_after size es).remaining) same)
    go (inr (here, is)) =
        omega (
          arith,
          ap (λ n. (barrier_after size (entries_in all n)).remaining) here,
          ap (λ es. (barrier_after size es).remaining) is,
          ap (λ (o : Barrier). o.remaining) (barrier-then size entries deed),
          barriers (barrier_after size entries),
        )

pub keeps-takes : (e : ℕ) → Keeps (takes e)
keeps-takes e = keeps-by (takes e) (λ o. omega arith) (λ o. omega arith)

pub keeps-frees : (e : ℕ) → Keeps (frees e)
keeps-frees e = keeps-by (frees e) (λ o. omega arith) (λ o. omega arith)

pub keeps-sends : (e k : ℕ) → Keeps (sends e k)
keeps-sends e k = keeps-by (sends e k) (λ o. omega arith) (λ o. omega arith)

pub keeps-gets : (k e : ℕ) → Keeps (gets k e)
keeps-gets k e = keeps-by (gets k e) (λ o. omega arith) (λ o. omega arith)

pub keeps-late : (k e : ℕ) → Keeps (is_late k e)
keeps-late k e = keeps-by (is_late k e) (λ o. omega arith) (λ o. omega arith)

pub keeps-leaves : (k : ℕ) → Keeps (leaves k)
keeps-leaves k = keeps-by (leaves k) (λ o. omega arith) (λ o. omega arith)

-- the deed takes at most one of those to come, in its own round
pub record CostsOne (size : ℕ) (h : History) (round : ℕ) (deed : Deed) : Type 0 where
  pub here : to_come size h round ≤ to_come size (with_deed_in size h round deed) round + 1
  pub away : (r : ℕ) → r ≢ round → to_come size h r ≤ to_come size (with_deed_in size h round deed) r

costs-by : (size : ℕ) (h : History) (round : ℕ) (deed : Deed)
    → ((o : Latch) → o.count ≤ (latch_then o deed).count)
    → ((o : Barrier) → o.remaining ≤ to_come size h round → o.remaining ≤ (barrier_then o deed).remaining + 1)
    → CostsOne size h round deed
costs-by size (of_permits entries) round deed latches barriers =
    record { here = omega arith; away = λ r other. omega arith }
costs-by size (of_elements entries) round deed latches barriers =
    record { here = omega arith; away = λ r other. omega arith }
costs-by size (of_latch entries) round deed latches barriers =
    let kept : (latch_after size entries).count
    ≤ (latch_after size (entries ++ latch_entries (latch_after size entries).waiters.line deed)).count
    = omega (
      arith,
      ap (λ (o : Latch). o.count) (latch-then size entries deed),
      latches (latch_after size entries),
    ) in
    record { here = omega (arith, kept); away = λ r other. kept }
costs-by size (of_rounds all) round deed latches barriers = record {
  here = here (round-set all round round now);
  away = λ r other. away r other (round-set all round r now);
}
  where
    entries : List BarrierEntry
    entries = entries_in all round

    now : List BarrierEntry
    now = entries ++ barrier_entries (barrier_after size entries).waiters.line deed

    here : (entries_in (set all round now) round ≡ entries_in all round)
        ⊎ ((round ≡ round) × (entries_in (set all round now) round ≡ now))
        → (barrier_after size (entries_in all round)).remaining
        ≤ (barrier_after size (entries_in (set all round now) round)).remaining + 1
    here (inl same) = omega (arith, ap (λ es. (barrier_after size es).remaining) same)
    here (inr (own, is)) =
        omega (
          arith,
          ap (λ es. (barrier_after size es).remaining) is,
          ap (λ (o : Barrier). o.remaining) (barrier-then size entries deed),
          barriers (barrier_after size entries) (omega arith),
        )

    away : (r : ℕ) → r ≢ round
        → (entries_in (set all round now) r ≡ entries_in all r)
        ⊎ ((r ≡ round) × (entries_in (set all round now) r ≡ now))
        → (barrier_after size (entries_in all r)).remaining
        ≤ (barrier_after size (entries_in (set all round now) r)).remaining
    away r other (inl same) = omega (arith, ap (λ es. (barrier_after size es).remaining) same)
    away r other (inr (here, is)) = absurd (other here)

-- one who arrives is one of those to come, and the last was the only one
pub joins-costs : (size : ℕ) (h : History) (round k : ℕ) → CostsOne size h round (joins k)
joins-costs size h round k = costs-by size h round (joins k) (λ o. omega arith) (λ o low. omega arith)

pub completes-costs : (size : ℕ) (h : History) (round : ℕ) → to_come size h round ≤ 1
    → CostsOne size h round completes
completes-costs size h round one =
    costs-by size h round completes (λ o. omega arith) (λ o low. omega (arith, low, one))

-- a floor at another place is as it was; at its own the deed was done, if the place is there
pub done-history : (f : PlainFloor) (at round : ℕ) (deed : Deed) (q : ℕ)
    → (history_at (with_done_in f at round deed) q ≡ history_at f q)
    ⊎ ((q ≡ at)
    × (history_at (with_done_in f at round deed) q ≡ with_deed_in (size_at f at) (history_at f at) round deed))
done-history f at round deed q = go (cases_eq q at) (cases_lt at (length f.histories))
  where
    now : History
    now = with_deed_in (size_at f at) (history_at f at) round deed

    go : (q ≡ at) ⊎ (q ≢ at) → (at < length f.histories) ⊎ (length f.histories ≤ at)
        → (get_or (set f.histories at now) q (of_permits []) ≡ get_or f.histories q (of_permits []))
        ⊎ ((q ≡ at) × (get_or (set f.histories at now) q (of_permits []) ≡ now))
    go (inr other) there = inl (get_or-set_other f.histories at q now (of_permits []) other)
    go (inl same) (inl there) = inr (same, rw same (get_or-set_same f.histories at now (of_permits []) there))
    go (inl same) (inr past) =
        inl (get_or_past (set f.histories at now) q (of_permits [])
        (omega (arith, past, same, length-set f.histories at now))
        ∙ sym (get_or_past f.histories q (of_permits []) (omega (arith, past, same))))

-- the deed at a place lowers no number of those to come to a barrier
abbrev pub KeepsBarriers : PlainFloor → ℕ → ℕ → Deed → Type 0
KeepsBarriers f at round deed =
    (q r parties rounds : ℕ) → slice_get f.kinds q ≡ Some (Rounds parties rounds)
    → to_come_at f q r ≤ to_come_at (with_done_in f at round deed) q r

pub keeps-barriers : (f : PlainFloor) (at round : ℕ) (deed : Deed) → Keeps deed → KeepsBarriers f at round deed
keeps-barriers f at round deed keeps q r parties rounds barrier = go (done-history f at round deed q)
  where
    go : (history_at (with_done_in f at round deed) q ≡ history_at f q)
        ⊎ ((q ≡ at)
        × (history_at (with_done_in f at round deed) q ≡ with_deed_in (size_at f at) (history_at f at) round deed))
        → to_come_at f q r ≤ to_come_at (with_done_in f at round deed) q r
    go (inl same) = omega (arith, ap (λ h. to_come (size_at f q) h r) same)
    go (inr (here, is)) =
        omega (
          arith,
          ap (λ n. to_come_at f n r) here,
          ap (λ h. to_come (size_at f q) h r) is,
          ap (λ n. to_come (size_at f n) (with_deed_in (size_at f at) (history_at f at) round deed) r) here,
          keeps (size_at f at) (history_at f at) round r,
        )

-- a deed leaves each barrier the histories of its rounds
pub rounds-done : (f : PlainFloor) (at round : ℕ) (deed : Deed) (q rounds : ℕ) → HasRounds rounds (history_at f q)
    → HasRounds rounds (history_at (with_done_in f at round deed) q)
rounds-done f at round deed q rounds has = go (done-history f at round deed q)
  where
    entries : List BarrierEntry
    entries = entries_in has.all round

    now : List BarrierEntry
    now = entries ++ barrier_entries (barrier_after (size_at f at) entries).waiters.line deed

    go : (history_at (with_done_in f at round deed) q ≡ history_at f q)
        ⊎ ((q ≡ at)
        × (history_at (with_done_in f at round deed) q ≡ with_deed_in (size_at f at) (history_at f at) round deed))
        → HasRounds rounds (history_at (with_done_in f at round deed) q)
    go (inl same) = record { all = has.all; is = same ∙ has.is; many = has.many }
    go (inr (here, is)) = record {
      all = set has.all round now;
      is = is
          ∙ ap (λ h. with_deed_in (size_at f at) h round deed) (ap (λ n. history_at f n) (sym here) ∙ has.is);
      many = omega (arith, has.many, length-set has.all round now);
    }

-- no barrier is at the place
abbrev pub IsNoBarrier : PlainFloor → ℕ → Type 0
IsNoBarrier f at = (parties rounds : ℕ) → slice_get f.kinds at ≢ Some (Rounds parties rounds)

pub keeps-elsewhere : (f : PlainFloor) (at round : ℕ) (deed : Deed) → IsNoBarrier f at → KeepsBarriers f at round deed
keeps-elsewhere f at round deed none q r parties rounds barrier = go (done-history f at round deed q)
  where
    go : (history_at (with_done_in f at round deed) q ≡ history_at f q)
        ⊎ ((q ≡ at)
        × (history_at (with_done_in f at round deed) q ≡ with_deed_in (size_at f at) (history_at f at) round deed))
        → to_come_at f q r ≤ to_come_at (with_done_in f at round deed) q r
    go (inl same) = omega (arith, ap (λ h. to_come (size_at f q) h r) same)
    go (inr (here, is)) = absurd (none parties rounds (rw (← here) barrier))
