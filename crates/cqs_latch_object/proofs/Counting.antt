-- The count of a latch: what is left of it, whether it is used up, and how far below 0 it may come.
use Rattle.std.proofs.Common.{◌≡◌, ◌⊎◌, inl, inr, ℕ, ◌+◌, ◌<◌, ◌≤◌, ℤ, pos, ◌≤ℤ◌, ◌<ℤ◌, ◌-ℤ◌, ◌+ℤ◌, int_le, Bool, true, false, List, Some, length, set, slice_get, ap, sym, subst, arith}
use Rattle.std.specs.List.{count_by}
use Rattle.std.proofs.lemmas.Bool.{cases_Bool}
use Rattle.std.proofs.lemmas.Int.{ints}
use Rattle.std.proofs.lemmas.List.{length-set}
use Rattle.std.proofs.lemmas.List.Sums.{count_by-le-length}
use Rattle.cqs_core.specs.declared.doings.Doing.{Doing}
use Rattle.cqs_core.specs.declared.doings.Doing.TheVariants as doing
use Rattle.cqs_core.proofs.Counts.{bit, count_by-write}
use Rattle.cqs_latch_object.specs.LatchShown.{left_of, has_loaded, one_where}

pub above-not : (z : ℤ) → pos 0 <ℤ z → int_le z (pos 0) ≡ false
above-not z above = grind (arith, ints)

pub used-none : (z : ℤ) → z ≤ℤ pos 0 → left_of z ≡ 0
used-none z used = grind (arith, ints)

pub used-yes : (z : ℤ) → z ≤ℤ pos 0 → int_le z (pos 0) ≡ true
used-yes z used = grind (arith, ints)

pub used-less : (z : ℤ) → z ≤ℤ pos 0 → left_of (z -ℤ pos 1) ≡ 0
used-less z used = grind (arith, ints)

pub used-still : (z : ℤ) → z ≤ℤ pos 0 → int_le (z -ℤ pos 1) (pos 0) ≡ true
used-still z used = grind (arith, ints)

pub used-below : (z : ℤ) → z ≤ℤ pos 0 → (z -ℤ pos 1) ≤ℤ pos 0
used-below z used = omega (arith, ints)

pub less-high : (z size : ℤ) → z ≤ℤ size → (z -ℤ pos 1) ≤ℤ size
less-high z size high = omega (arith, ints)

pub down-more : (z : ℤ) → pos 1 <ℤ z → left_of z ≡ left_of (z -ℤ pos 1) + 1
down-more z many = grind (arith, ints)

pub down-some : (z : ℤ) → pos 1 <ℤ z → 0 < left_of (z -ℤ pos 1)
down-some z many = grind (arith, ints)

pub down-above : (z : ℤ) → pos 1 <ℤ z → int_le z (pos 0) ≡ false
down-above z many = grind (arith, ints)

pub down-still : (z : ℤ) → pos 1 <ℤ z → int_le (z -ℤ pos 1) (pos 0) ≡ false
down-still z many = grind (arith, ints)

pub one-where_le : (b : Bool) → one_where b ≤ 1
one-where_le true = omega arith
one-where_le false = omega arith

le-used : (z : ℤ) → int_le z (pos 0) ≡ true → z ≤ℤ pos 0
le-used z is = grind (arith, ints)

pub one-used : (z : ℤ) → 0 < one_where (int_le z (pos 0)) → z ≤ℤ pos 0
one-used z some = go (cases_Bool (int_le z (pos 0)))
  where
    go : (int_le z (pos 0) ≡ true) ⊎ (int_le z (pos 0) ≡ false) → z ≤ℤ pos 0
    go (inl is) = le-used z is
    go (inr isnt) = let none : one_where (int_le z (pos 0)) ≡ 0 = ap one_where isnt in absurd (omega arith)

-- a test of the passes counts as before, where one pass goes on that it counts as before
pub same-count : (f : Doing → Bool) (passes : List Doing) (p : ℕ) (from to : Doing) → slice_get passes p ≡ Some from
    → f from ≡ f to → count_by f (set passes p to) ≡ count_by f passes
same-count f passes p from to does same =
    let write = count_by-write f passes p from to does in
    let bits : bit (f from) ≡ bit (f to) = ap bit same in
    omega arith

-- the floor stays where as many passes may still take one
pub floor-same : (z : ℤ) (passes after : List Doing) → count_by has_loaded after ≡ count_by has_loaded passes
    → length after ≡ length passes
    → pos (count_by has_loaded passes) <ℤ (z +ℤ pos (length passes))
    → pos (count_by has_loaded after) <ℤ (z +ℤ pos (length after))
floor-same z passes after loaded long low = rw (loaded, long) low

-- a pass loads a count above 0
pub floor-above : (z : ℤ) (passes : List Doing) → pos 0 <ℤ z
    → pos (count_by has_loaded passes) <ℤ (z +ℤ pos (length passes))
floor-above z passes above =
    let within = count_by-le-length has_loaded passes in
    below (count_by has_loaded passes) (length passes) within
  where
    below : (n m : ℕ) → n ≤ m → pos n <ℤ (z +ℤ pos m)
    below n m within = grind (arith, ints)

-- a pass that had loaded it goes on: one fewer may take one
pub fewer-loaded : (passes : List Doing) (p : ℕ) (v : ℤ) (to : Doing)
    → slice_get passes p ≡ Some (doing.TryAt v) → has_loaded (doing.TryAt v) ≡ true → has_loaded to ≡ false
    → count_by has_loaded (set passes p to) + 1 ≡ count_by has_loaded passes
fewer-loaded passes p v to does was now =
    let write = count_by-write has_loaded passes p (doing.TryAt v) to does in
    let one : bit (has_loaded (doing.TryAt v)) ≡ 1 = ap bit was in
    let none : bit (has_loaded to) ≡ 0 = ap bit now in
    omega arith

-- it takes one
pub floor-takes : (z y : ℤ) (passes : List Doing) (p : ℕ) (v : ℤ) (to : Doing)
    → slice_get passes p ≡ Some (doing.TryAt v) → has_loaded (doing.TryAt v) ≡ true → has_loaded to ≡ false
    → y ≡ z -ℤ pos 1
    → pos (count_by has_loaded passes) <ℤ (z +ℤ pos (length passes))
    → pos (count_by has_loaded (set passes p to)) <ℤ (y +ℤ pos (length (set passes p to)))
floor-takes z y passes p v to does was now less low =
    go (count_by has_loaded (set passes p to)) (count_by has_loaded passes) (length (set passes p to)) (length passes)
    (fewer-loaded passes p v to does was now) (length-set passes p to) low
  where
    go : (a b m n : ℕ) → a + 1 ≡ b → m ≡ n → pos b <ℤ (z +ℤ pos n) → pos a <ℤ (y +ℤ pos m)
    go a b m n fewer same low = rw (less, same) (down a n (subst (λ c. pos c <ℤ (z +ℤ pos n)) (sym fewer) low))
      where
        down : (a n : ℕ) → pos (a + 1) <ℤ (z +ℤ pos n) → pos a <ℤ ((z -ℤ pos 1) +ℤ pos n)
        down a n low = grind (arith, ints)

-- it goes on and takes none
pub floor-leaves : (z : ℤ) (passes : List Doing) (p : ℕ) (v : ℤ) (to : Doing)
    → slice_get passes p ≡ Some (doing.TryAt v) → has_loaded (doing.TryAt v) ≡ true → has_loaded to ≡ false
    → pos (count_by has_loaded passes) <ℤ (z +ℤ pos (length passes))
    → pos (count_by has_loaded (set passes p to)) <ℤ (z +ℤ pos (length (set passes p to)))
floor-leaves z passes p v to does was now low =
    go (count_by has_loaded (set passes p to)) (count_by has_loaded passes) (length (set passes p to)) (length passes)
    (fewer-loaded passes p v to does was now) (length-set passes p to) low
  where
    go : (a b m n : ℕ) → a + 1 ≡ b → m ≡ n → pos b <ℤ (z +ℤ pos n) → pos a <ℤ (z +ℤ pos m)
    go a b m n fewer same low = rw same (down a n (subst (λ c. pos c <ℤ (z +ℤ pos n)) (sym fewer) low))
      where
        down : (a n : ℕ) → pos (a + 1) <ℤ (z +ℤ pos n) → pos a <ℤ (z +ℤ pos n)
        down a n low = grind (arith, ints)
