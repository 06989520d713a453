-- How often a caller is in a list, where one comes and where one goes.
use Rattle.std.proofs.Common.{◌≡◌, ◌≢◌, ◌⊎◌, inl, inr, ℕ, zero, suc, ◌+◌, ◌<◌, ◌≤◌, Bool, true, false, nat_lt, List, [], ◌∷◌, length, Some, slice_get, refl, sym, ap, ◌∙◌, subst, arith, eq-eqb, ne_eqb, if◌then◌else◌}
use Rattle.std.proofs.lemmas.Bool.{cases_eq}
use Rattle.cqs_core.specs.Numbered.{IsIn}
use Rattle.cqs_core.specs.Keyed.{insert_by, without}
use Rattle.cqs_core.proofs.Keys.{length-placed}
use Rattle.cqs_check.specs.declared.door.Door.{Door}
use Rattle.cqs_check.specs.Doors.{times, many_of, total_of, IsDoor, HasDoor, Comes, Goes}

times-same : (c x : ℕ) (xs : List ℕ) → c ≡ x → times c (x ∷ xs) ≡ suc (times c xs)
times-same c x xs same = rw (eq-eqb c x same) refl

times-other : (c x : ℕ) (xs : List ℕ) → c ≢ x → times c (x ∷ xs) ≡ times c xs
times-other c x xs other = rw (ne_eqb c x other) refl

-- the head of a list, and one more behind it
times-swap : (c x y : ℕ) (xs : List ℕ) → times c (x ∷ y ∷ xs) ≡ times c (y ∷ x ∷ xs)
times-swap c x y xs = go (cases_eq c x) (cases_eq c y)
  where
    go : (c ≡ x) ⊎ (c ≢ x) → (c ≡ y) ⊎ (c ≢ y) → times c (x ∷ y ∷ xs) ≡ times c (y ∷ x ∷ xs)
    go (inl a) (inl b) = times-same c x (y ∷ xs) a ∙ ap suc (times-same c y xs b) ∙ ap suc (sym (times-same c x xs a))
        ∙ sym (times-same c y (x ∷ xs) b)
    go (inl a) (inr b) = times-same c x (y ∷ xs) a ∙ ap suc (times-other c y xs b) ∙ sym (times-same c x xs a)
        ∙ sym (times-other c y (x ∷ xs) b)
    go (inr a) (inl b) = times-other c x (y ∷ xs) a ∙ times-same c y xs b ∙ ap suc (sym (times-other c x xs a))
        ∙ sym (times-same c y (x ∷ xs) b)
    go (inr a) (inr b) = times-other c x (y ∷ xs) a ∙ times-other c y xs b ∙ sym (times-other c x xs a)
        ∙ sym (times-other c y (x ∷ xs) b)

times-cons : (c x : ℕ) (xs ys : List ℕ) → times c xs ≡ times c ys → times c (x ∷ xs) ≡ times c (x ∷ ys)
times-cons c x xs ys same = go (cases_eq c x)
  where
    go : (c ≡ x) ⊎ (c ≢ x) → times c (x ∷ xs) ≡ times c (x ∷ ys)
    go (inl a) = times-same c x xs a ∙ ap suc same ∙ sym (times-same c x ys a)
    go (inr a) = times-other c x xs a ∙ same ∙ sym (times-other c x ys a)

-- one that is put in is there as if it were first
pub times-insert : (c d : ℕ) (xs : List ℕ) → times c (insert_by (λ e. e) d xs) ≡ times c (d ∷ xs)
times-insert c d [] = refl
times-insert c d (x ∷ xs) = go (nat_lt d x) (times-insert c d xs)
  where
    go : (b : Bool) → times c (insert_by (λ e. e) d xs) ≡ times c (d ∷ xs)
        → times c (if b then d ∷ x ∷ xs else x ∷ insert_by (λ e. e) d xs) ≡ times c (d ∷ x ∷ xs)
    go true rest = refl
    go false rest = times-cons c x (insert_by (λ e. e) d xs) (d ∷ xs) rest ∙ times-swap c x d xs

-- one that is there is as if it were first
pub times-without : (c d : ℕ) (xs : List ℕ) → 0 < times d xs → times c xs ≡ times c (d ∷ without (λ e. e) d xs)
times-without c d [] some = absurd (omega (arith, some))
times-without c d (x ∷ xs) some = go (cases_eq d x) (λ more. times-without c d xs more)
  where
    go : (d ≡ x) ⊎ (d ≢ x) → (0 < times d xs → times c xs ≡ times c (d ∷ without (λ e. e) d xs))
        → times c (x ∷ xs) ≡ times c (d ∷ without (λ e. e) d (x ∷ xs))
    go (inl same) onward =
        let out : without (λ e. e) d (x ∷ xs) ≡ xs = rw (eq-eqb d x same) refl in
        sym (ap (λ l. times c (d ∷ l)) out ∙ ap (λ y. times c (y ∷ xs)) same)
    go (inr other) onward =
        let out : without (λ e. e) d (x ∷ xs) ≡ x ∷ without (λ e. e) d xs = rw (ne_eqb d x other) refl in
        let more : 0 < times d xs = subst (λ n. 0 < n) (times-other d x xs other) some in
        times-cons c x xs (d ∷ without (λ e. e) d xs) (onward more) ∙ times-swap c x d (without (λ e. e) d xs)
        ∙ sym (ap (λ l. times c (d ∷ l)) out)

pub length-without : (d : ℕ) (xs : List ℕ) → 0 < times d xs → length xs ≡ length (without (λ e. e) d xs) + 1
length-without d [] some = absurd (omega (arith, some))
length-without d (x ∷ xs) some = go (cases_eq d x) (λ more. length-without d xs more)
  where
    go : (d ≡ x) ⊎ (d ≢ x) → (0 < times d xs → length xs ≡ length (without (λ e. e) d xs) + 1)
        → length (x ∷ xs) ≡ length (without (λ e. e) d (x ∷ xs)) + 1
    go (inl same) onward =
        let out : without (λ e. e) d (x ∷ xs) ≡ xs = rw (eq-eqb d x same) refl in
        omega (arith, ap length out)
    go (inr other) onward =
        let out : without (λ e. e) d (x ∷ xs) ≡ x ∷ without (λ e. e) d xs = rw (ne_eqb d x other) refl in
        let more : 0 < times d xs = subst (λ n. 0 < n) (times-other d x xs other) some in
        omega (arith, ap length out, onward more)

pub times-few : (c : ℕ) (xs : List ℕ) → times c xs ≤ length xs
times-few c [] = omega arith
times-few c (x ∷ xs) = go (cases_eq c x) (times-few c xs)
  where
    go : (c ≡ x) ⊎ (c ≢ x) → times c xs ≤ length xs → times c (x ∷ xs) ≤ length (x ∷ xs)
    go (inl same) rest = omega (arith, times-same c x xs same, rest)
    go (inr other) rest = omega (arith, times-other c x xs other, rest)

-- a caller that is there, and back
pub times-in : (c : ℕ) (xs : List ℕ) → 0 < times c xs → IsIn c xs
times-in c [] some = absurd (omega (arith, some))
times-in c (x ∷ xs) some = go (cases_eq c x) (λ more. times-in c xs more)
  where
    go : (c ≡ x) ⊎ (c ≢ x) → (0 < times c xs → IsIn c xs) → IsIn c (x ∷ xs)
    go (inl same) onward = record { place = 0; there = ap (λ y. Some y) (sym same) }
    go (inr other) onward =
        let is = onward (subst (λ n. 0 < n) (times-other c x xs other) some) in
        record { place = suc is.place; there = is.there }

pub in-times : (c : ℕ) (xs : List ℕ) → IsIn c xs → 0 < times c xs
in-times c xs is = go xs is.place is.there
  where
    go : (ys : List ℕ) (place : ℕ) → slice_get ys place ≡ Some c → 0 < times c ys
    go [] place there = absurd (cc there)
    go (y ∷ ys) zero there = let same : c ≡ y = cc there in omega (arith, times-same c y ys same)
    go (y ∷ ys) (suc place) there = later (cases_eq c y) (go ys place there)
      where
        later : (c ≡ y) ⊎ (c ≢ y) → 0 < times c ys → 0 < times c (y ∷ ys)
        later (inl same) rest = omega (arith, times-same c y ys same)
        later (inr other) rest = omega (arith, times-other c y ys other, rest)

pub door-comes : (old new : Door) (caller : ℕ) → Comes old caller new → (callers : List ℕ) → IsDoor old callers
    → IsDoor new (insert_by (λ e. e) caller callers)
door-comes old new caller comes callers door = record {
  many = λ c. go c (cases_eq c caller);
  total = omega (arith, comes.total, door.total, length-placed (λ e. e) caller callers);
}
  where
    go : (c : ℕ) → (c ≡ caller) ⊎ (c ≢ caller) → many_of new c ≡ times c (insert_by (λ e. e) caller callers)
    go c (inl same) =
        let at : many_of new c ≡ many_of old c + 1 = rw same comes.here in
        omega (arith, at, door.many c, times-insert c caller callers, times-same c caller callers same)
    go c (inr other) =
        comes.others c other ∙ door.many c ∙ sym (times-other c caller callers other)
        ∙ sym (times-insert c caller callers)

pub door-goes : (old new : Door) (caller : ℕ) → Goes old caller new → (callers : List ℕ) → IsDoor old callers
    → IsDoor new (without (λ e. e) caller callers)
door-goes old new caller goes callers door = record {
  many = λ c. go c (cases_eq c caller);
  total = omega (
    arith,
    goes.total,
    door.total,
    length-without caller callers
        (omega (arith, goes.here, door.many caller)),
  );
}
  where
    go : (c : ℕ) → (c ≡ caller) ⊎ (c ≢ caller) → many_of new c ≡ times c (without (λ e. e) caller callers)
    go c (inl same) =
        let at : many_of old c ≡ many_of new c + 1 = rw same goes.here in
        let out = times-without c caller callers (omega (arith, goes.here, door.many caller)) in
        omega (arith, at, door.many c, out, times-same c caller (without (λ e. e) caller callers) same)
    go c (inr other) =
        let out = times-without c caller callers (omega (arith, goes.here, door.many caller)) in
        goes.others c other ∙ door.many c ∙ out ∙ times-other c caller (without (λ e. e) caller callers) other

pub door-few : (d : Door) (c : ℕ) → HasDoor d → many_of d c ≤ total_of d
door-few d c has = omega (arith, has.door.many c, has.door.total, times-few c has.callers)
