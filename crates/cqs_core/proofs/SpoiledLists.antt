-- The broken numbers of a semaphore: whether one is broken, and how many are early, as entries come.
use Rattle.std.proofs.Common.{◌≡◌, ◌≢◌, ◌⊎◌, inl, inr, ℕ, zero, suc, ◌+◌, ◌<◌, ◌≤◌, ◌==◌, nat_le, nat_lt, ◌||◌, Bool, true, false, List, [], ◌∷◌, ◌++◌, Some, if◌then◌else◌, refl, ap, ap₂, sym, ◌∙◌, arith, eq-eqb, ne_eqb, eqb-true, le-leb}
use Rattle.std.proofs.lemmas.Bool.{cases_Bool, cases_lt, cases_eq, lt-leb, eqb-false}
use Rattle.std.proofs.lemmas.List.Sums.{sum_by-cons}
use Rattle.cqs_core.specs.Numbered.{IsIn}
use Rattle.cqs_core.specs.Keyed.{insert_by, without, change_by}
use Rattle.cqs_core.specs.QueueLine.{Spoiled}
use Rattle.cqs_core.specs.SemaphoreObject.{early_of}
use Rattle.cqs_core.specs.SemaphoreEntries.{has_spoiled}
use Rattle.cqs_core.proofs.Counts.{bit}
use Rattle.cqs_core.proofs.Keys.{AllBelow, AllAbove}
use Rattle.cqs_core.proofs.Rising.{in-behind, in-none, Lacks}
use Rattle.cqs_core.proofs.Distinct.{AreDistinct}

abbrev pub spoiled_key : Spoiled → ℕ
spoiled_key b = b.wait

pub below-lacks : (n : ℕ) (bs : List Spoiled) → AllBelow spoiled_key n bs → has_spoiled n bs ≡ false
below-lacks n [] low = refl
below-lacks n (b ∷ bs) low =
    ap₂ (λ x y. x || y) (ne_eqb b.wait n (λ e. omega (arith, low.0, e))) (below-lacks n bs low.1)

pub above-lacks : (n : ℕ) (bs : List Spoiled) → AllAbove spoiled_key n bs → has_spoiled n bs ≡ false
above-lacks n [] high = refl
above-lacks n (b ∷ bs) high =
    ap₂ (λ x y. x || y) (ne_eqb b.wait n (λ e. omega (arith, high.0, e))) (above-lacks n bs high.1)

pub has_spoiled-append : (n : ℕ) (bs cs : List Spoiled)
    → has_spoiled n (bs ++ cs) ≡ (has_spoiled n bs || has_spoiled n cs)
has_spoiled-append n [] cs = refl
has_spoiled-append n (b ∷ bs) cs = go (b.wait == n) (has_spoiled-append n bs cs)
  where
    go : (x : Bool) → has_spoiled n (bs ++ cs) ≡ (has_spoiled n bs || has_spoiled n cs)
        → (x || has_spoiled n (bs ++ cs)) ≡ ((x || has_spoiled n bs) || has_spoiled n cs)
    go true rest = refl
    go false rest = rest

-- where the next number isn't broken, as many are early once it is drawn
pub early-next : (next : ℕ) (bs : List Spoiled) → has_spoiled next bs ≡ false
    → early_of (next + 1) bs ≡ early_of next bs
early-next next [] whole = refl
early-next next (b ∷ bs) whole = go (cases_eq b.wait next) (early-next next bs)
  where
    first : (n : ℕ) → early_of n (b ∷ bs) ≡ bit (nat_le n b.wait) + early_of n bs
    first n = sum_by-cons (λ (c : Spoiled). bit (nat_le n c.wait)) b bs

    go : (b.wait ≡ next) ⊎ (b.wait ≢ next)
        → (has_spoiled next bs ≡ false → early_of (next + 1) bs ≡ early_of next bs)
        → early_of (next + 1) (b ∷ bs) ≡ early_of next (b ∷ bs)
    go (inl same) tail =
        let here : (b.wait == next) ≡ true = eq-eqb b.wait next same in
        let broken : true ≡ false = ap (λ x. x || has_spoiled next bs) (sym here) ∙ whole in
        absurd (cc (broken))
    go (inr other) tail =
        let away : (b.wait == next) ≡ false = ne_eqb b.wait next other in
        let rest : has_spoiled next bs ≡ false = ap (λ x. x || has_spoiled next bs) (sym away) ∙ whole in
        let later : early_of (next + 1) bs ≡ early_of next bs = tail rest in
        let same : nat_le (next + 1) b.wait ≡ nat_le next b.wait = counter (cases_lt b.wait next) in
        let bits : bit (nat_le (next + 1) b.wait) ≡ bit (nat_le next b.wait) = ap bit same in
        omega (arith, first (next + 1), first next, later, bits)
      where
        counter : (b.wait < next) ⊎ (next ≤ b.wait) → nat_le (next + 1) b.wait ≡ nat_le next b.wait
        counter (inl below) = lt-leb (next + 1) b.wait (omega arith) ∙ sym (lt-leb next b.wait below)
        counter (inr past) = le-leb (next + 1) b.wait (omega (arith, other)) ∙ sym (le-leb next b.wait past)

-- who is in the list, by the test
pub spoiled-there : (k : ℕ) (bs : List Spoiled) → has_spoiled k bs ≡ true
    → (b : Spoiled) × IsIn b bs × (b.wait ≡ k)
spoiled-there k [] is = absurd (cc)
spoiled-there k (b ∷ bs) is = go (cases_Bool (b.wait == k)) (spoiled-there k bs)
  where
    go : ((b.wait == k) ≡ true) ⊎ ((b.wait == k) ≡ false)
        → (has_spoiled k bs ≡ true → (c : Spoiled) × IsIn c bs × (c.wait ≡ k))
        → (c : Spoiled) × IsIn c (b ∷ bs) × (c.wait ≡ k)
    go (inl here) tail = (b, record { place = zero; there = refl }, eqb-true b.wait k here)
    go (inr other) tail =
        let rest = tail (ap (λ x. x || has_spoiled k bs) (sym other) ∙ is) in
        (rest.0, record { place = suc rest.1.place; there = rest.1.there }, rest.2)

pub spoiled-absent : (k : ℕ) (b : Spoiled) (bs : List Spoiled) → has_spoiled k bs ≡ false → IsIn b bs → b.wait ≢ k
spoiled-absent k b [] whole stands = absurd (in-none b stands)
spoiled-absent k b (c ∷ bs) whole stands =
    go (cases_Bool (c.wait == k)) (in-behind b c bs stands) (λ rest there. spoiled-absent k b bs rest there)
  where
    go : ((c.wait == k) ≡ true) ⊎ ((c.wait == k) ≡ false) → (b ≡ c) ⊎ IsIn b bs
        → (has_spoiled k bs ≡ false → IsIn b bs → b.wait ≢ k) → b.wait ≢ k
    go (inl here) place tail =
        let broken : true ≡ false = ap (λ x. x || has_spoiled k bs) (sym here) ∙ whole in absurd (cc (broken))
    go (inr other) (inl same) tail = λ e. absurd (eqb-false c.wait k other (ap spoiled_key (sym same) ∙ e))
    go (inr other) (inr later) tail = tail (ap (λ x. x || has_spoiled k bs) (sym other) ∙ whole) later

pub spoiled-lacks : (k : ℕ) (bs : List Spoiled) → Lacks spoiled_key k bs → has_spoiled k bs ≡ false
spoiled-lacks k [] lacks = refl
spoiled-lacks k (b ∷ bs) lacks = ap₂ (λ x y. x || y) (ne_eqb b.wait k lacks.0) (spoiled-lacks k bs lacks.1)

-- How many are early after an entry.

early-cons : (n : ℕ) (b : Spoiled) (bs : List Spoiled) → early_of n (b ∷ bs) ≡ bit (nat_le n b.wait) + early_of n bs
early-cons n b bs = sum_by-cons (λ (c : Spoiled). bit (nat_le n c.wait)) b bs

pub early-placed : (n : ℕ) (b : Spoiled) (bs : List Spoiled)
    → early_of n (insert_by spoiled_key b bs) ≡ early_of n bs + bit (nat_le n b.wait)
early-placed n b [] = let one = early-cons n b [] in omega (arith, one)
early-placed n b (c ∷ bs) = go (nat_lt b.wait c.wait) (early-placed n b bs)
  where
    go : (t : Bool) → early_of n (insert_by spoiled_key b bs) ≡ early_of n bs + bit (nat_le n b.wait)
        → early_of n (if t then b ∷ c ∷ bs else c ∷ insert_by spoiled_key b bs)
        ≡ early_of n (c ∷ bs) + bit (nat_le n b.wait)
    go true rest = let one = early-cons n b (c ∷ bs) in omega (arith, one)
    go false rest =
        let one = early-cons n c (insert_by spoiled_key b bs) in
        let two = early-cons n c bs in
        omega (arith, one, two, rest)

pub early-without : (n : ℕ) (b : Spoiled) (bs : List Spoiled) → IsIn b bs
    → early_of n (without spoiled_key b.wait bs) + bit (nat_le n b.wait) ≡ early_of n bs
early-without n b [] stands = absurd (in-none b stands)
early-without n b (c ∷ bs) stands =
    go (cases_Bool (b.wait == c.wait)) (in-behind b c bs stands) (λ there. early-without n b bs there)
  where
    go : ((b.wait == c.wait) ≡ true) ⊎ ((b.wait == c.wait) ≡ false) → (b ≡ c) ⊎ IsIn b bs
        → (IsIn b bs → early_of n (without spoiled_key b.wait bs) + bit (nat_le n b.wait) ≡ early_of n bs)
        → early_of n (without spoiled_key b.wait (c ∷ bs)) + bit (nat_le n b.wait) ≡ early_of n (c ∷ bs)
    go (inl here) place tail =
        let same : bit (nat_le n b.wait) ≡ bit (nat_le n c.wait) =
        ap (λ k. bit (nat_le n k)) (eqb-true b.wait c.wait here) in
        let one = early-cons n c bs in
        rw here (omega (arith, one, same))
    go (inr other) (inl same) tail = absurd (eqb-false b.wait c.wait other (ap spoiled_key same))
    go (inr other) (inr later) tail =
        let rest = tail later in
        let one = early-cons n c (without spoiled_key b.wait bs) in
        let two = early-cons n c bs in
        rw other (omega (arith, one, two, rest))

pub early-changed : (n k : ℕ) (f : Spoiled → Spoiled) → ((b : Spoiled) → (f b).wait ≡ b.wait) → (bs : List Spoiled)
    → early_of n (change_by spoiled_key k f bs) ≡ early_of n bs
early-changed n k f same [] = refl
early-changed n k f same (c ∷ bs) = go (k == c.wait) (early-changed n k f same bs)
  where
    go : (t : Bool) → early_of n (change_by spoiled_key k f bs) ≡ early_of n bs
        → early_of n (if t then f c ∷ bs else c ∷ change_by spoiled_key k f bs) ≡ early_of n (c ∷ bs)
    go true rest =
        let one = early-cons n (f c) bs in
        let two = early-cons n c bs in
        let as_much : bit (nat_le n (f c).wait) ≡ bit (nat_le n c.wait) = ap (λ m. bit (nat_le n m)) (same c) in
        omega (arith, one, two, as_much)
    go false rest =
        let one = early-cons n c (change_by spoiled_key k f bs) in
        let two = early-cons n c bs in
        omega (arith, one, two, rest)

-- where the next number is broken, one fewer is early once it is drawn
pub early-passed : (n : ℕ) (bs : List Spoiled) → AreDistinct spoiled_key bs → has_spoiled n bs ≡ true
    → early_of (n + 1) bs + 1 ≡ early_of n bs
early-passed n [] apart is = absurd (cc)
early-passed n (b ∷ bs) apart is = go (cases_eq b.wait n) (λ rest. early-passed n bs apart.1 rest)
  where
    go : (b.wait ≡ n) ⊎ (b.wait ≢ n)
        → (has_spoiled n bs ≡ true → early_of (n + 1) bs + 1 ≡ early_of n bs)
        → early_of (n + 1) (b ∷ bs) + 1 ≡ early_of n (b ∷ bs)
    go (inl same) tail =
        let rest : early_of (n + 1) bs ≡ early_of n bs =
        early-next n bs (spoiled-lacks n bs (rw same at apart.0)) in
        let one = early-cons (n + 1) b bs in
        let two = early-cons n b bs in
        let out : bit (nat_le (n + 1) b.wait) ≡ 0 = ap bit (lt-leb (n + 1) b.wait (omega arith)) in
        let in_ : bit (nat_le n b.wait) ≡ 1 = ap bit (le-leb n b.wait (omega arith)) in
        omega (arith, one, two, out, in_, rest)
    go (inr other) tail =
        let away : (b.wait == n) ≡ false = ne_eqb b.wait n other in
        let rest = tail (ap (λ x. x || has_spoiled n bs) (sym away) ∙ is) in
        let one = early-cons (n + 1) b bs in
        let two = early-cons n b bs in
        let bits : bit (nat_le (n + 1) b.wait) ≡ bit (nat_le n b.wait) = ap bit (counter (cases_lt b.wait n)) in
        omega (arith, one, two, bits, rest)
      where
        counter : (b.wait < n) ⊎ (n ≤ b.wait) → nat_le (n + 1) b.wait ≡ nat_le n b.wait
        counter (inl below) = lt-leb (n + 1) b.wait (omega arith) ∙ sym (lt-leb n b.wait below)
        counter (inr past) = le-leb (n + 1) b.wait (omega (arith, other)) ∙ sym (le-leb n b.wait past)

-- What is in a list stays there, when one is placed, another left out, or one changed.
module _ {Y : Type 0} (key : Y → ℕ) where
  behind : (y z : Y) (ys : List Y) → IsIn y ys → IsIn y (z ∷ ys)
  behind y z ys there = record { place = suc there.place; there = there.there }

  pub placed-new : (y : Y) (ys : List Y) → IsIn y (insert_by key y ys)
  placed-new y [] = record { place = zero; there = refl }
  placed-new y (z ∷ zs) = go (nat_lt (key y) (key z)) (placed-new y zs)
    where
      go : (b : Bool) → IsIn y (insert_by key y zs) → IsIn y (if b then y ∷ z ∷ zs else z ∷ insert_by key y zs)
      go true rest = record { place = zero; there = refl }
      go false rest = behind y z (insert_by key y zs) rest

  pub placed-there : (x y : Y) (ys : List Y) → IsIn y ys → IsIn y (insert_by key x ys)
  placed-there x y [] there = absurd (in-none y there)
  placed-there x y (z ∷ zs) there = go (nat_lt (key x) (key z)) (in-behind y z zs there) (λ h. placed-there x y zs h)
    where
      go : (b : Bool) → (y ≡ z) ⊎ IsIn y zs → (IsIn y zs → IsIn y (insert_by key x zs))
          → IsIn y (if b then x ∷ z ∷ zs else z ∷ insert_by key x zs)
      go true place rest = behind y x (z ∷ zs) there
      go false (inl same) rest = record { place = zero; there = ap Some (sym same) }
      go false (inr later) rest = behind y z (insert_by key x zs) (rest later)

  pub without-there : (n : ℕ) (y : Y) (ys : List Y) → key y ≢ n → IsIn y ys → IsIn y (without key n ys)
  without-there n y [] other there = absurd (in-none y there)
  without-there n y (z ∷ zs) other there =
      go (cases_Bool (n == key z)) (in-behind y z zs there) (λ h. without-there n y zs other h)
    where
      go : ((n == key z) ≡ true) ⊎ ((n == key z) ≡ false) → (y ≡ z) ⊎ IsIn y zs
          → (IsIn y zs → IsIn y (without key n zs)) → IsIn y (without key n (z ∷ zs))
      go (inl here) (inl same) rest = absurd (other (ap key same ∙ sym (eqb-true n (key z) here)))
      go (inl here) (inr later) rest = rw here later
      go (inr away) (inl same) rest = rw away (record { place = zero; there = ap Some (sym same) })
      go (inr away) (inr later) rest = rw away (behind y z (without key n zs) (rest later))

  -- one that is changed keeps its key
  pub changed-there : (f : Y → Y) → ((y : Y) → key (f y) ≡ key y) → (n : ℕ) (y : Y) (ys : List Y) → IsIn y ys
      → (x : Y) × IsIn x (change_by key n f ys) × (key x ≡ key y)
  changed-there f same n y [] there = absurd (in-none y there)
  changed-there f same n y (z ∷ zs) there =
      go (n == key z) (in-behind y z zs there) (λ h. changed-there f same n y zs h)
    where
      go : (b : Bool) → (y ≡ z) ⊎ IsIn y zs
          → (IsIn y zs → (x : Y) × IsIn x (change_by key n f zs) × (key x ≡ key y))
          → (x : Y) × IsIn x (if b then f z ∷ zs else z ∷ change_by key n f zs) × (key x ≡ key y)
      go true (inl is) rest = (f z, record { place = zero; there = refl }, same z ∙ ap key (sym is))
      go true (inr later) rest = (y, behind y (f z) zs later, refl)
      go false (inl is) rest = (z, record { place = zero; there = refl }, ap key (sym is))
      go false (inr later) rest =
          let found = rest later in (found.0, behind found.0 z (change_by key n f zs) found.1, found.2)
