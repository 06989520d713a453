-- What the callers of a latch did: after one call, and after a meet.
use Rattle.std.proofs.Common.{◌≡◌, ◌⊎◌, inl, inr, ℕ, zero, suc, ◌+◌, ◌≤◌, ◌==◌, Bool, true, false, List, [], ◌∷◌, ◌++◌, Some, filter, sum_by, count_by, refl, ap, sym, ◌∙◌, subst, arith, eq-eqb, eqb-true, ne_eqb}
use Rattle.std.specs.Bool.{if◌then◌else◌}
use Rattle.std.proofs.lemmas.Bool.{false≢true}
use Rattle.std.proofs.lemmas.List.Sums.{sum_by-cons}
use Rattle.cqs_core.specs.Keyed.{without}
use Rattle.cqs_core.specs.Numbered.{IsIn}
use Rattle.cqs_core.specs.Parts.{Has, IsPrefix, part}
use Rattle.cqs_core.proofs.Places.{get-append_left}
use Rattle.cqs_core.proofs.Rising.{in-behind, in-none}
use Rattle.cqs_latch_object.specs.declared.entries.LatchEntry.{LatchEntry}
use Rattle.cqs_latch_object.specs.declared.entries.LatchEntry.TheVariants as entry
use Rattle.cqs_latch_object.specs.LatchEntries.{IsLegal, object_after}
use Rattle.cqs_latch_object.specs.LatchLaws.{counts_down}
use Rattle.cqs_latch_object.specs.LatchNames.{entry_names}
use Rattle.cqs_latch_object.proofs.Balance.{every-count-is-kept}
use Rattle.cqs_rule_laws.specs.Lists.{IsDistinct}
use Rattle.cqs_rule_laws.proofs.Lists.{has_append}
use Rattle.cqs_floor_shared_kinds.specs.Accounts.{NamesOne, over}
use Rattle.cqs_floor_shared_any.specs.LatchAccounts.{IsAccounted, IsOver, downs}
use Rattle.cqs_floor_shared_kinds.proofs.Accounts.{over-both, over-next, over-none, over-parts}

-- What is in a list that is put together, or in what is kept of one.
in-later : {X : Type 0} (x z : X) (xs : List X) → IsIn x xs → IsIn x (z ∷ xs)
in-later x z xs is = record { place = suc is.place; there = is.there }

pub in-front : {X : Type 0} (x : X) (xs ys : List X) → IsIn x xs → IsIn x (xs ++ ys)
in-front x xs ys is = record { place = is.place; there = get-append_left xs ys is.place x is.there }

pub in-back : {X : Type 0} (x : X) (xs ys : List X) → IsIn x ys → IsIn x (xs ++ ys)
in-back x [] ys is = is
in-back x (z ∷ xs) ys is = in-later x z (xs ++ ys) (in-back x xs ys is)

pub in-either : {X : Type 0} (x : X) (xs ys : List X) → IsIn x (xs ++ ys) → IsIn x xs ⊎ IsIn x ys
in-either x [] ys is = inr is
in-either x (z ∷ xs) ys is = go (in-behind x z (xs ++ ys) is) (in-either x xs ys)
  where
    go : (x ≡ z) ⊎ IsIn x (xs ++ ys) → (IsIn x (xs ++ ys) → IsIn x xs ⊎ IsIn x ys) → IsIn x (z ∷ xs) ⊎ IsIn x ys
    go (inl same) rest = inl (record { place = zero; there = ap Some (sym same) })
    go (inr there) rest = at (rest there)
      where
        at : IsIn x xs ⊎ IsIn x ys → IsIn x (z ∷ xs) ⊎ IsIn x ys
        at (inl here) = inl (in-later x z xs here)
        at (inr back) = inr back

pub in-kept : {X : Type 0} (p : X → Bool) (x : X) (xs : List X) → p x ≡ true → IsIn x xs → IsIn x (filter p xs)
in-kept p x [] test is = absurd (in-none x is)
in-kept p x (z ∷ xs) test is = go (p z) refl (in-behind x z xs is) (in-kept p x xs test)
  where
    go : (b : Bool) → p z ≡ b → (x ≡ z) ⊎ IsIn x xs → (IsIn x xs → IsIn x (filter p xs)) → IsIn x (filter p (z ∷ xs))
    go true passes stands rest =
        let kept : filter p (z ∷ xs) ≡ z ∷ filter p xs = rw passes refl in subst (IsIn x) (sym kept) (first stands)
      where
        first : (x ≡ z) ⊎ IsIn x xs → IsIn x (z ∷ filter p xs)
        first (inl same) = record { place = zero; there = ap Some (sym same) }
        first (inr there) = in-later x z (filter p xs) (rest there)
    go false fails (inl same) rest = absurd (false≢true (sym fails ∙ ap p (sym same) ∙ test))
    go false fails (inr there) rest =
        let left : filter p (z ∷ xs) ≡ filter p xs = rw fails refl in subst (IsIn x) (sym left) (rest there)

pub in-whole : {X : Type 0} (p : X → Bool) (x : X) (xs : List X) → IsIn x (filter p xs) → IsIn x xs
in-whole p x [] is = absurd (in-none x is)
in-whole p x (z ∷ xs) is = go (p z) refl (in-whole p x xs)
  where
    go : (b : Bool) → p z ≡ b → (IsIn x (filter p xs) → IsIn x xs) → IsIn x (z ∷ xs)
    go true passes rest =
        let kept : filter p (z ∷ xs) ≡ z ∷ filter p xs = rw passes refl in
        first (in-behind x z (filter p xs) (subst (IsIn x) kept is))
      where
        first : (x ≡ z) ⊎ IsIn x (filter p xs) → IsIn x (z ∷ xs)
        first (inl same) = record { place = zero; there = ap Some (sym same) }
        first (inr there) = in-later x z xs (rest there)
    go false fails rest =
        let left : filter p (z ∷ xs) ≡ filter p xs = rw fails refl in
        in-later x z xs (rest (subst (IsIn x) left is))

pub in-without : {X : Type 0} (key : X → ℕ) (n : ℕ) (x : X) (xs : List X) → IsIn x (without key n xs) → IsIn x xs
in-without key n x [] is = absurd (in-none x is)
in-without key n x (z ∷ xs) is = go (n == key z) is (in-without key n x xs)
  where
    go : (b : Bool) → IsIn x (if b then xs else z ∷ without key n xs) → (IsIn x (without key n xs) → IsIn x xs)
        → IsIn x (z ∷ xs)
    go true is rest = in-later x z xs is
    go false is rest = at (in-behind x z (without key n xs) is)
      where
        at : (x ≡ z) ⊎ IsIn x (without key n xs) → IsIn x (z ∷ xs)
        at (inl same) = record { place = zero; there = ap Some (sym same) }
        at (inr there) = in-later x z xs (rest there)

-- Some callers have no more of a history than all.
module _ {E : Type 0} (names : ℕ → E → Bool) (f : E → ℕ) where
  abbrev share : E → ℕ → ℕ
  share e n = if names n e then f e else 0

  first-part : (n : ℕ) (e : E) (h : List E) (b : Bool) → names n e ≡ b
      → sum_by f (part names n (e ∷ h)) ≡ share e n + sum_by f (part names n h)
  first-part n e h true is = rw is (sum_by-cons f e (part names n h))
  first-part n e h false is = rw is (omega arith)

  over-first : (own : List ℕ) (e : E) (h : List E)
      → over names f own (e ∷ h) ≡ sum_by (share e) own + over names f own h
  over-first [] e h = refl
  over-first (n ∷ own) e h =
      omega (
        arith,
        over-first own e h,
        first-part n e h (names n e) refl,
        sum_by-cons (λ m. sum_by f (part names m (e ∷ h))) n own,
        sum_by-cons (share e) n own,
        sum_by-cons (λ m. sum_by f (part names m h)) n own,
      )

  shares-none : (e : E) (own : List ℕ) → ((n : ℕ) → Has n own → share e n ≡ 0) → sum_by (share e) own ≡ 0
  shares-none e [] none = refl
  shares-none e (n ∷ own) none =
      let here : share e n ≡ 0 = none n (inl refl) in
      omega (arith, here, shares-none e own (λ m has. none m (inr has)), sum_by-cons (share e) n own)

  shares-within : (e : E) → (f e ≡ 0) ⊎ ((c : ℕ) × ((n : ℕ) → names n e ≡ (c == n))) → (own : List ℕ)
      → IsDistinct own → sum_by (share e) own ≤ f e
  shares-within e (inl none) own distinct =
      let all : sum_by (share e) own ≡ 0 = shares-none e own (λ n has. go n (names n e)) in omega (arith, all)
    where
      go : (n : ℕ) (b : Bool) → (if b then f e else 0) ≡ 0
      go n true = none
      go n false = refl
  shares-within e (inr one) [] distinct = let none : sum_by (share e) [] ≡ 0 = refl in omega (arith, none)
  shares-within e (inr one) (n ∷ own) distinct =
      go (names n e) refl (shares-within e (inr one) own distinct.1)
    where
      else-none : names n e ≡ true → (m : ℕ) → Has m own → share e m ≡ 0
      else-none named m has =
          let is : one.0 ≡ n = eqb-true one.0 n (sym (one.1 n) ∙ named) in
          ap (λ b. if b then f e else 0)
          (one.1 m ∙ ne_eqb one.0 m (λ same. distinct.0 (subst (λ k. Has k own) (sym same ∙ is) has)))

      go : (b : Bool) → names n e ≡ b → sum_by (share e) own ≤ f e → sum_by (share e) (n ∷ own) ≤ f e
      go true named rest =
          let here : share e n ≡ f e = ap (λ b. if b then f e else 0) named in
          omega (arith, here, shares-none e own (else-none named), sum_by-cons (share e) n own)
      go false other rest =
          let here : share e n ≡ 0 = ap (λ b. if b then f e else 0) other in
          omega (arith, here, rest, sum_by-cons (share e) n own)

  over-within : NamesOne names f → (own : List ℕ) → IsDistinct own → (h : List E) → over names f own h ≤ sum_by f h
  over-within one own distinct [] = let none = empty own in omega (arith, none)
    where
      empty : (ns : List ℕ) → over names f ns [] ≡ 0
      empty [] = refl
      empty (n ∷ ns) = omega (arith, empty ns, sum_by-cons (λ m. sum_by f (part names m [])) n ns)
  over-within one own distinct (e ∷ h) =
      omega (
        arith,
        over-within one own distinct h,
        shares-within e (one e) own distinct,
        over-first own e h,
        sum_by-cons f e h,
      )

-- who counts down is named
pub names-one : NamesOne entry_names downs
names-one (entry.DownLeft c n) = inr (c, λ m. refl)
names-one (entry.DownLast c) = inr (c, λ m. refl)
names-one (entry.DownAlready c) = inl refl
names-one (entry.Open c) = inl refl
names-one (entry.Passed c) = inl refl
names-one (entry.AwaitDoor c) = inl refl
names-one (entry.Enter c k) = inl refl
names-one (entry.Deliver k) = inl refl
names-one (entry.Leave c k) = inl refl
names-one (entry.Miss k) = inl refl
names-one (entry.Late c k) = inl refl
names-one (entry.LookGranted c k) = inl refl
names-one (entry.LookPending c k) = inl refl

-- What is over stays over.
pub over-front : (k : ℕ) (h more : List LatchEntry) → IsOver k h → IsOver k (h ++ more)
over-front k h more over = record { by = over.by; there = in-front over.by h more over.there; ends = over.ends }

over-prefix : (k : ℕ) (h all : List LatchEntry) → IsPrefix h all → IsOver k h → IsOver k all
over-prefix k h all prefix over = subst (IsOver k) (sym prefix.1) (over-front k h prefix.0 over)

-- One of the callers went on, and has these waits then.
pub account-next : (number : ℕ) (rest waits still : List ℕ) (seen more entries : List LatchEntry) (counted after : ℕ)
    → part entry_names number more ≡ entries → ((n : ℕ) → Has n rest → part entry_names n more ≡ [])
    → counted + sum_by downs entries ≡ after
    → ((k : ℕ) → Has k waits → Has k still ⊎ IsOver k (seen ++ more))
    → ((c k : ℕ) → IsIn (entry.Enter c k) entries → Has k still ⊎ IsOver k (seen ++ more))
    → IsAccounted (number ∷ rest) waits seen counted → IsAccounted (number ∷ rest) still (seen ++ more) after
account-next number rest waits still seen more entries counted after mine none balance old new account = record {
  counted_is = omega (
    arith,
    account.counted_is,
    balance,
    over-next entry_names downs number rest seen more entries mine none,
  );
  kept = λ c k has is. either c k has (in-either (entry.Enter c k) seen more is);
}
  where
    on : (k : ℕ) → Has k waits ⊎ IsOver k seen → Has k still ⊎ IsOver k (seen ++ more)
    on k (inl has) = old k has
    on k (inr over) = inr (over-front k seen more over)

    came : (c k : ℕ) → Has c (number ∷ rest) → IsIn (entry.Enter c k) more → Has k still ⊎ IsOver k (seen ++ more)
    came c k (inl same) is =
        let here : IsIn (entry.Enter c k) (part entry_names c more)
        = in-kept (entry_names c) (entry.Enter c k) more (eq-eqb c c refl) is in
        new c k (subst (IsIn (entry.Enter c k)) mine
        (subst (λ n. IsIn (entry.Enter c k) (part entry_names n more)) same here))
    came c k (inr later) is =
        let here : IsIn (entry.Enter c k) (part entry_names c more)
        = in-kept (entry_names c) (entry.Enter c k) more (eq-eqb c c refl) is in
        absurd (in-none (entry.Enter c k) (subst (IsIn (entry.Enter c k)) (none c later) here))

    either : (c k : ℕ) → Has c (number ∷ rest) → IsIn (entry.Enter c k) seen ⊎ IsIn (entry.Enter c k) more
        → Has k still ⊎ IsOver k (seen ++ more)
    either c k has (inl before) = on k (account.kept c k has before)
    either c k has (inr now) = came c k has now

-- Two lists of callers meet, of which the others have no wait.
pub account-both : (own others waits : List ℕ) (h theirs all : List LatchEntry) (counted more : ℕ)
    → IsPrefix h all → IsPrefix theirs all
    → ((n : ℕ) → Has n own → part entry_names n all ≡ part entry_names n h)
    → ((n : ℕ) → Has n others → part entry_names n all ≡ part entry_names n theirs)
    → IsAccounted own waits h counted → IsAccounted others [] theirs more
    → IsAccounted (own ++ others) waits all (counted + more)
account-both own others waits h theirs all counted more before also_before mine also a b = record {
  counted_is = omega (
    arith,
    a.counted_is,
    b.counted_is,
    over-both entry_names downs own others all,
    over-parts entry_names downs own h all mine,
    over-parts entry_names downs others theirs all also,
  );
  kept = λ c k has is. either c k (has_append c own others has) is;
}
  where
    on : (k : ℕ) → Has k waits ⊎ IsOver k h → Has k waits ⊎ IsOver k all
    on k (inl has) = inl has
    on k (inr over) = inr (over-prefix k h all before over)

    done : (k : ℕ) → Has k [] ⊎ IsOver k theirs → Has k waits ⊎ IsOver k all
    done k (inl none) = absurd none
    done k (inr over) = inr (over-prefix k theirs all also_before over)

    read : (c k : ℕ) (part_of : List LatchEntry) → part entry_names c all ≡ part entry_names c part_of
        → IsIn (entry.Enter c k) all → IsIn (entry.Enter c k) part_of
    read c k part_of same is =
        in-whole (entry_names c) (entry.Enter c k) part_of
        (subst (IsIn (entry.Enter c k)) same
        (in-kept (entry_names c) (entry.Enter c k) all (eq-eqb c c refl) is))

    either : (c k : ℕ) → Has c own ⊎ Has c others → IsIn (entry.Enter c k) all → Has k waits ⊎ IsOver k all
    either c k (inl has) is = on k (a.kept c k has (read c k h (mine c has) is))
    either c k (inr has) is = done k (b.kept c k has (read c k theirs (also c has) is))

-- a caller that no entry names did nothing
pub account-none : (n : ℕ) (h : List LatchEntry) (own waits : List ℕ) → own ≡ n ∷ [] → part entry_names n h ≡ []
    → IsAccounted own waits h 0
account-none n h own waits is none =
    subst (λ o. IsAccounted o waits h 0) (sym is) (record {
      counted_is = over-none entry_names downs n h none;
      kept = λ c k has there. absurd (nowhere c k has there);
    })
  where
    nowhere : (c k : ℕ) → Has c (n ∷ []) → IsIn (entry.Enter c k) h → ⊥
    nowhere c k (inl same) there =
        let here : IsIn (entry.Enter c k) (part entry_names c h)
        = in-kept (entry_names c) (entry.Enter c k) h (eq-eqb c c refl) there in
        in-none (entry.Enter c k)
        (subst (IsIn (entry.Enter c k)) none (subst (λ m. IsIn (entry.Enter c k) (part entry_names m h)) same here))
    nowhere c k (inr nobody) there = absurd nobody

-- it was counted down no more often than it opened with
pub counts-fit : (size : ℕ) (own : List ℕ) (h : List LatchEntry) (counted : ℕ) → IsLegal false size h
    → IsDistinct own → over entry_names downs own h ≡ counted → counted ≤ size
counts-fit size own h counted legal distinct is =
    let all : (object_after false size h).count + count_by counts_down h ≡ size
    = every-count-is-kept false size h legal in
    omega (arith, all, is, over-within entry_names downs names-one own distinct h)
