-- The history of one round of a barrier: when it is over, and how many numbers were drawn.
use Rattle.std.proofs.Common.{◌≡◌, ◌⊎◌, inl, inr, ℕ, suc, ◌+◌, ◌<◌, cond, List, [], ◌∷◌, ◌++◌, count_by, length, length-append, slice_get, Some, sum_by, take, take_at, refl, ap, sym, ◌∙◌, subst, arith}
use Rattle.std.specs.List.{fold}
use Rattle.std.proofs.lemmas.List.{take_all}
use Rattle.std.proofs.lemmas.List.Sums.{fold_push, sum_by-cons, sum_by_push}
use Rattle.cqs_barrier_object.specs.declared.entries.BarrierEntry.{BarrierEntry}
use Rattle.cqs_barrier_object.specs.declared.entries.BarrierEntry.TheVariants as entry
use Rattle.cqs_barrier_object.specs.BarrierEntries.{IsAllowed, IsLegal, after_entry, object_after}
use Rattle.cqs_barrier_object.specs.BarrierNames.{entry_names}
use Rattle.cqs_barrier_object.specs.BarrierObject.{Barrier, opening}
use Rattle.cqs_core.specs.Parts.{Has, part}
use Rattle.cqs_core.proofs.Histories.{take-next, walk}
use Rattle.cqs_core.proofs.Places.{get-push_at}
use Rattle.cqs_rule_laws.specs.Lists.{IsDistinct}
use Rattle.cqs_floor_shared.specs.Entries.{enters_at_barrier}
use Rattle.cqs_floor_shared_kinds.specs.Accounts.{NamesOne, over}
use Rattle.cqs_floor_shared_any.specs.RoundsOne.{lasts, to_arrive}
use Rattle.cqs_floor_shared_kinds.proofs.Accounts.{over-whole}

-- where none is still to arrive, none comes back
stays-none : (o : Barrier) (e : BarrierEntry) → IsAllowed o e → o.remaining ≡ 0 → (after_entry o e).remaining ≡ 0
stays-none o (entry.ArriveLast c) may none = refl
stays-none o (entry.ArriveDoor c) may none = absurd (omega arith)
stays-none o (entry.Enter c k) may none = none
stays-none o (entry.Deliver k) may none = none
stays-none o (entry.Withdraw c k) may none = absurd (omega (arith, may.0))
stays-none o (entry.Stay c k) may none = none
stays-none o (entry.Late c k) may none = none
stays-none o (entry.LookGranted c k) may none = none
stays-none o (entry.LookPending c k) may none = none

-- a round that was over is over after whatever comes
pub stays-over : (parties : ℕ) (h more all : List BarrierEntry) → all ≡ h ++ more → IsLegal parties all
    → to_arrive parties h ≡ 0 → to_arrive parties all ≡ 0
stays-over parties h more all is legal none =
    let m : ℕ = length h in
    let long : length all ≡ m + length more = ap (λ (l : List BarrierEntry). length l) is ∙ length-append h more in
    let front : take m all ≡ h = ap (take m) is ∙ take_at h more m refl in
    let start : (fold after_entry (opening parties) (take m all)).remaining ≡ 0
    = ap (λ l. to_arrive parties l) front ∙ none in
    let whole : (fold after_entry (opening parties) (take (length all) all)).remaining ≡ 0
    = walk IsAllowed after_entry (opening parties) all (λ n o. o.remaining ≡ 0) legal
    (λ n e got may was. stays-none (fold after_entry (opening parties) (take n all)) e may was)
    m start (length more) (length all) long (omega arith) in
    ap (λ l. to_arrive parties l) (sym (take_all (length all) all (omega arith))) ∙ whole

-- after the last has arrived it is over
pub last-over : (parties c : ℕ) (before rest all : List BarrierEntry)
    → all ≡ (before ++ entry.ArriveLast c ∷ []) ++ rest → IsLegal parties all → to_arrive parties all ≡ 0
last-over parties c before rest all is legal =
    stays-over parties (before ++ entry.ArriveLast c ∷ []) rest all is legal
    (ap (λ (o : Barrier). o.remaining) (fold_push after_entry (opening parties) before (entry.ArriveLast c)))

-- so it is where a resumption reached its wait
pub delivered-over : (parties k : ℕ) (before all : List BarrierEntry) → all ≡ before ++ entry.Deliver k ∷ []
    → IsLegal parties all → to_arrive parties all ≡ 0
delivered-over parties k before all is legal =
    let front : take (length before) all ≡ before
    = ap (take (length before)) is ∙ take_at before (entry.Deliver k ∷ []) (length before) refl in
    let there : slice_get all (length before) ≡ Some (entry.Deliver k)
    = ap (λ (l : List BarrierEntry). slice_get l (length before)) is
    ∙ get-push_at before (entry.Deliver k) (length before) refl in
    let may : IsAllowed (object_after parties before) (entry.Deliver k)
    = subst (λ h. IsAllowed (object_after parties h) (entry.Deliver k)) front
    (legal.at (length before) (entry.Deliver k) there) in
    stays-over parties before (entry.Deliver k ∷ []) all is legal may.0

-- Where no party was the last, some are still to arrive.
some-left : (o : Barrier) (e : BarrierEntry) (last : ℕ) → IsAllowed o e → 0 < o.remaining + last
    → 0 < (after_entry o e).remaining + (last + lasts e)
some-left o (entry.ArriveLast c) last may some = omega arith
some-left o (entry.ArriveDoor c) last may some = omega (arith, may)
some-left o (entry.Enter c k) last may some = omega (arith, some)
some-left o (entry.Deliver k) last may some = omega (arith, some)
some-left o (entry.Withdraw c k) last may some = omega (arith, some)
some-left o (entry.Stay c k) last may some = omega (arith, some)
some-left o (entry.Late c k) last may some = omega (arith, some)
some-left o (entry.LookGranted c k) last may some = omega (arith, some)
some-left o (entry.LookPending c k) last may some = omega (arith, some)

some-next : (h : List BarrierEntry) (n : ℕ) (e : BarrierEntry) (o : Barrier) → slice_get h n ≡ Some e
    → IsAllowed o e → 0 < o.remaining + sum_by lasts (take n h)
    → 0 < (after_entry o e).remaining + sum_by lasts (take (suc n) h)
some-next h n e o got may some =
    let front : List BarrierEntry = take n h in
    rw (take-next h n e got, sum_by_push lasts front e) (some-left o e (sum_by lasts front) may some)

some-yet : (parties : ℕ) (h : List BarrierEntry) → 0 < parties → IsLegal parties h
    → 0 < to_arrive parties h + sum_by lasts h
some-yet parties h some legal =
    let whole : 0 < to_arrive parties (take (length h) h) + sum_by lasts (take (length h) h)
    = walk IsAllowed after_entry (opening parties) h (λ n o. 0 < o.remaining + sum_by lasts (take n h)) legal
    (λ n e got may was. some-next h n e (fold after_entry (opening parties) (take n h)) got may was)
    0 (omega (arith, some)) (length h) (length h) (omega arith) (omega arith) in
    subst (λ l. 0 < to_arrive parties l + sum_by lasts l) (take_all (length h) h (omega arith)) whole

by-name : NamesOne entry_names lasts
by-name (entry.ArriveLast c) = inr (c, λ n. refl)
by-name (entry.ArriveDoor c) = inl refl
by-name (entry.Enter c k) = inl refl
by-name (entry.Deliver k) = inl refl
by-name (entry.Withdraw c k) = inl refl
by-name (entry.Stay c k) = inl refl
by-name (entry.Late c k) = inl refl
by-name (entry.LookGranted c k) = inl refl
by-name (entry.LookPending c k) = inl refl

-- where nobody but these callers is named, and none of them was the last, it isn't over
pub none-last : (parties : ℕ) (own : List ℕ) (h : List BarrierEntry) → 0 < parties → IsLegal parties h
    → IsDistinct own → ((n : ℕ) → (part entry_names n h ≡ []) ⊎ Has n own) → over entry_names lasts own h ≡ 0
    → 0 < to_arrive parties h
none-last parties own h some legal distinct whole none =
    let all = over-whole entry_names lasts by-name own distinct h whole in
    let yet = some-yet parties h some legal in
    omega (arith, all, none, yet)

-- the next number is how many were drawn
next-from : (h : List BarrierEntry) (o : Barrier)
    → (fold after_entry o h).waiters.next ≡ o.waiters.next + count_by enters_at_barrier h
next-from [] o = omega arith
next-from (e ∷ h) o =
    let later = next-from h (after_entry o e) in
    let one = sum_by-cons (λ (x : BarrierEntry). cond (enters_at_barrier x) 1 0) e h in
    omega (arith, later, one, here o e)
  where
    here : (o : Barrier) (e : BarrierEntry)
        → (after_entry o e).waiters.next ≡ o.waiters.next + cond (enters_at_barrier e) 1 0
    here o (entry.Enter c k) = refl
    here o (entry.ArriveLast c) = omega arith
    here o (entry.ArriveDoor c) = omega arith
    here o (entry.Deliver k) = omega arith
    here o (entry.Withdraw c k) = omega arith
    here o (entry.Stay c k) = omega arith
    here o (entry.Late c k) = omega arith
    here o (entry.LookGranted c k) = omega arith
    here o (entry.LookPending c k) = omega arith

pub drawn-is : (parties : ℕ) (h : List BarrierEntry)
    → (object_after parties h).waiters.next ≡ count_by enters_at_barrier h
drawn-is parties h = let all = next-from h (opening parties) in omega (arith, all)
