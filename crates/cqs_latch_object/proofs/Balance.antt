-- The laws of the count-down latch, entry by entry and over every legal history.
use Rattle.std.proofs.Common.{◌≡◌, ℕ, zero, suc, ◌+◌, ◌<◌, ◌≤◌, eqb-true, Bool, true, false, List, [], ◌∷◌, ◌++◌, length, take, Some, slice_get, refl, ap, subst, arith}
use Rattle.std.specs.List.{count_by}
use Rattle.std.proofs.lemmas.Bool.{both_ways}
use Rattle.std.proofs.lemmas.List.{length_push, take_all}
use Rattle.cqs_core.specs.Numbered.{IsIn}
use Rattle.cqs_core.specs.Keyed.{insert_by, without}
use Rattle.cqs_core.specs.QueueLine.{Waiting}
use Rattle.cqs_core.specs.QueueWaiters.{Waits}
use Rattle.cqs_core.proofs.Counts.{bit, count_by-push}
use Rattle.cqs_core.proofs.Histories.{before, walk, walk-end, walk-all, take-next}
use Rattle.cqs_core.proofs.Places.{get-below}
use Rattle.cqs_core.proofs.Rising.{length-without, length-placed}
use Rattle.cqs_latch_object.specs.declared.entries.LatchEntry.{LatchEntry}
use Rattle.cqs_latch_object.specs.declared.entries.LatchEntry.TheVariants as entry
use Rattle.cqs_latch_object.specs.LatchObject.{Latch, opening}
use Rattle.cqs_latch_object.specs.LatchEntries.{IsAllowed, after_entry, object_after, IsLegal, way_left, holes_left}
use Rattle.cqs_latch_object.specs.LatchLaws.{IsBalanced, EveryLegalHistoryIsBalanced, counts_down, EveryCountIsKept, LetsThrough, NobodyComesPastEarly}

-- a wait of the line leaves it: one fewer waits
line-shorter : (k c : ℕ) (line : List Waiting) → Waits k c line
    → length (without (λ w. w.wait) k line) + 1 ≡ length line
line-shorter k c line waits = length-without (λ w. w.wait) k (record { wait = k; pass = c }) line refl waits

hole-fewer : (k : ℕ) (holes : List ℕ) → IsIn k holes → length (without (λ h. h) k holes) + 1 ≡ length holes
hole-fewer k holes is = length-without (λ h. h) k k holes refl is

-- who leaves takes a resumption with him, or leaves a hole behind
balanced-left : (simple opened : Bool) (way line fewer door : ℕ) (k : ℕ) (holes : List ℕ)
    → fewer + 1 ≡ line → (opened ≡ true → way ≡ door + line + length holes) → opened ≡ true
    → way_left simple opened way ≡ door + fewer + length (holes_left simple k holes)
balanced-left true opened way line fewer door k holes shorter ways is =
    let longer : length (insert_by (λ h. h) k holes) ≡ length holes + 1 = length-placed (λ h. h) k holes in
    let all = ways is in
    omega arith
balanced-left false true way line fewer door k holes shorter ways is = let all = ways refl in omega arith
balanced-left false false way line fewer door k holes shorter ways is = absurd (cc)

none-left : (simple opened : Bool) (way : ℕ) → (opened ≡ false → way ≡ 0) → opened ≡ false
    → way_left simple opened way ≡ 0
none-left true opened way none shut = none shut
none-left false true way none shut = absurd (cc)
none-left false false way none shut = none refl

no-hole : (simple : Bool) (k : ℕ) (holes : List ℕ) → (simple ≡ false → holes ≡ []) → simple ≡ false
    → holes_left simple k holes ≡ []
no-hole true k holes whole smart = absurd (cc)
no-hole false k holes whole smart = whole refl

-- each entry, where it may come, keeps the latch balanced
balanced-entry : (o : Latch) (e : LatchEntry) → IsAllowed o e → IsBalanced o → IsBalanced (after_entry o e)
balanced-entry o (entry.DownLeft c n) (more, some) b = record {
  used = λ is. let none = b.used is in absurd (omega arith);
  ways = b.ways;
  none = b.none;
  whole = b.whole;
}
balanced-entry o (entry.DownLast c) one b = record {
  used = λ is. refl;
  ways = b.ways;
  none = b.none;
  whole = b.whole;
}
balanced-entry o (entry.DownAlready c) none b = b
balanced-entry o (entry.Open c) (none, shut) b = record {
  used = λ is. none;
  ways = λ is. refl;
  none = λ not_open. absurd (cc);
  whole = b.whole;
}
balanced-entry o (entry.Passed c) none b = b
balanced-entry o (entry.AwaitDoor c) shut b = record {
  used = b.used;
  ways = λ is. absurd (both_ways o.opened shut is);
  none = b.none;
  whole = b.whole;
}
balanced-entry o (entry.Enter c k) (stands, next) b =
    let shorter : length (without (λ d. d) c o.waiters.door) + 1 ≡ length o.waiters.door =
    length-without (λ d. d) c c o.waiters.door refl stands in
    let longer : length (o.waiters.line ++ record { wait = k; pass = c } ∷ []) ≡ length o.waiters.line + 1 =
    length_push o.waiters.line (record { wait = k; pass = c }) in
    record { used = b.used; ways = λ is. let all = b.ways is in omega arith; none = b.none; whole = b.whole }
balanced-entry o (entry.Deliver k) (is_open, (c, waits)) b =
    let shorter = line-shorter k c o.waiters.line waits in
    record {
      used = b.used;
      ways = λ is. let all = b.ways is in omega arith;
      none = λ shut. absurd (both_ways o.opened shut is_open);
      whole = b.whole;
    }
balanced-entry o (entry.Leave c k) waits b =
    let shorter = line-shorter k c o.waiters.line waits in
    record {
      used = b.used;
      ways = balanced-left o.simple o.opened o.way (length o.waiters.line)
          (length (without (λ w. w.wait) k o.waiters.line)) (length o.waiters.door) k o.holes shorter b.ways;
      none = none-left o.simple o.opened o.way b.none;
      whole = no-hole o.simple k o.holes b.whole;
    }
balanced-entry o (entry.Miss k) (is_simple, is_open, stands) b =
    let fewer = hole-fewer k o.holes stands in
    record {
      used = b.used;
      ways = λ is. let all = b.ways is in omega arith;
      none = λ shut. absurd (both_ways o.opened shut is_open);
      whole = λ smart. absurd (both_ways o.simple smart is_simple);
    }
balanced-entry o (entry.Late c k) served b =
    record { used = b.used; ways = b.ways; none = b.none; whole = b.whole }
balanced-entry o (entry.LookGranted c k) served b =
    record { used = b.used; ways = b.ways; none = b.none; whole = b.whole }
balanced-entry o (entry.LookPending c k) waits b = b

balanced-opening : (simple : Bool) (size : ℕ) → IsBalanced (opening simple size)
balanced-opening simple size = record {
  used = λ is. eqb-true size 0 is;
  ways = λ is. refl;
  none = λ shut. refl;
  whole = λ smart. refl;
}

pub every-history-is-balanced : EveryLegalHistoryIsBalanced
every-history-is-balanced simple size history legal =
    walk-end IsAllowed after_entry (opening simple size) history IsBalanced legal balanced-entry
    (balanced-opening simple size)

-- What is left and how often it was counted down, entry by entry.
counted-entry : (o : Latch) (e : LatchEntry) → IsAllowed o e → (after_entry o e).count + bit (counts_down e) ≡ o.count
counted-entry o (entry.DownLeft c n) (more, some) = omega arith
counted-entry o (entry.DownLast c) one = omega arith
counted-entry o (entry.DownAlready c) none = omega arith
counted-entry o (entry.Open c) may = omega arith
counted-entry o (entry.Passed c) none = omega arith
counted-entry o (entry.AwaitDoor c) shut = omega arith
counted-entry o (entry.Enter c k) may = omega arith
counted-entry o (entry.Deliver k) may = omega arith
counted-entry o (entry.Leave c k) waits = omega arith
counted-entry o (entry.Miss k) may = omega arith
counted-entry o (entry.Late c k) served = omega arith
counted-entry o (entry.LookGranted c k) served = omega arith
counted-entry o (entry.LookPending c k) waits = omega arith

module _ (simple : Bool) (size : ℕ) (history : List LatchEntry) (legal : IsLegal simple size history) where
  abbrev counts-so-far : ℕ → Latch → Type 0
  counts-so-far n o = o.count + count_by counts_down (take n history) ≡ size

  counted-next : (n : ℕ) (e : LatchEntry) → slice_get history n ≡ Some e
      → IsAllowed (before IsAllowed after_entry (opening simple size) history n) e
      → counts-so-far n (before IsAllowed after_entry (opening simple size) history n)
      → counts-so-far (suc n) (after_entry (before IsAllowed after_entry (opening simple size) history n) e)
  counted-next n e got may was =
      let more = count_by-push counts_down (take n history) e in
      let one = counted-entry (before IsAllowed after_entry (opening simple size) history n) e may in
      let next : count_by counts_down (take (suc n) history) ≡ count_by counts_down (take n history ++ e ∷ []) =
      ap (count_by counts_down) (take-next history n e got) in
      omega arith

  pub counted-before : (n : ℕ) → n ≤ length history
      → counts-so-far n (before IsAllowed after_entry (opening simple size) history n)
  counted-before n within =
      walk IsAllowed after_entry (opening simple size) history counts-so-far legal counted-next zero (omega arith) n n
      (omega arith) within

pub every-count-is-kept : EveryCountIsKept
every-count-is-kept simple size history legal =
    subst (λ (h : List LatchEntry). (object_after simple size h).count + count_by counts_down h ≡ size)
    (take_all (length history) history (omega arith))
    (counted-before simple size history legal (length history) (omega arith))

-- by whatever entry somebody comes past a latch, its count is used up
used-there : (o : Latch) (e : LatchEntry) → IsAllowed o e → IsBalanced o → LetsThrough e → o.count ≡ 0
used-there o (entry.Open c) may b lets = may.0
used-there o (entry.Passed c) none b lets = none
used-there o (entry.Deliver k) may b lets = b.used may.0
used-there o (entry.DownLeft c n) may b lets = absurd lets
used-there o (entry.DownLast c) may b lets = absurd lets
used-there o (entry.DownAlready c) may b lets = absurd lets
used-there o (entry.AwaitDoor c) may b lets = absurd lets
used-there o (entry.Enter c k) may b lets = absurd lets
used-there o (entry.Leave c k) may b lets = absurd lets
used-there o (entry.Miss k) may b lets = absurd lets
used-there o (entry.Late c k) may b lets = absurd lets
used-there o (entry.LookGranted c k) may b lets = absurd lets
used-there o (entry.LookPending c k) may b lets = absurd lets

pub nobody-comes-past-early : NobodyComesPastEarly
nobody-comes-past-early simple size history n e legal got lets =
    let below : n < length history = get-below history n e got in
    let o : Latch = before IsAllowed after_entry (opening simple size) history n in
    let balanced : IsBalanced o =
    walk-all IsAllowed after_entry (opening simple size) history IsBalanced legal balanced-entry
    (balanced-opening simple size) n (omega arith) in
    let none : o.count ≡ 0 = used-there o e (legal.at n e got) balanced lets in
    let kept = counted-before simple size history legal n (omega arith) in
    omega arith
