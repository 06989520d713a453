-- Lists of rounds: what of all is read off the first, and one that is written.
use Rattle.std.proofs.Common.{◌≡◌, ◌⊎◌, inl, inr, ℕ, zero, suc, ◌+◌, ◌≤◌, List, [], ◌∷◌, length, map, replicate, set, slice_get, slice_index_or, Some, sum_by, refl, ap, sym, ◌∙◌, subst, arith}
use Rattle.std.specs.Option.{option_map}
use Rattle.std.proofs.lemmas.List.{map-set}
use Rattle.std.proofs.lemmas.List.Sums.{sum_by-cons, sum_by-set}
use Rattle.std.proofs.lemmas.Option.{get_or_from_slice_get, slice_get-map}
use Rattle.cqs_core.proofs.Places.{get-below, set-same}
use Rattle.cqs_floor_shared_any.specs.declared.kinds.round.SharedRound.{SharedRound}
use Rattle.cqs_floor_shared_any.specs.RoundsShares.{crew_at, crew_in}

-- what stands at a place of what is read off each
pub map-there : {X Y : Type 0} (f : X → Y) (xs : List X) (i : ℕ) (x : X) → slice_get xs i ≡ Some x
    → slice_get (map f xs) i ≡ Some (f x)
map-there f xs i x there = slice_get-map f xs i ∙ ap (option_map f) there

pub map-at : {X Y : Type 0} (f : X → Y) (xs : List X) (i : ℕ) (x : X) (d : Y) → slice_get xs i ≡ Some x
    → slice_index_or (map f xs) i d ≡ f x
map-at f xs i x d there = get_or_from_slice_get (map f xs) i (f x) d (map-there f xs i x there)

-- one was written that is read the same
pub map-kept : {X Y : Type 0} (f : X → Y) (xs : List X) (i : ℕ) (x y : X) → slice_get xs i ≡ Some x → f y ≡ f x
    → map f (set xs i y) ≡ map f xs
map-kept f xs i x y there same =
    map-set f xs i y ∙ ap (set (map f xs) i) same ∙ set-same (map f xs) i (f x) (map-there f xs i x there)

-- one was written of which more or less is counted
pub sum-there : {X : Type 0} (f : X → ℕ) (xs : List X) (i : ℕ) (x y : X) → slice_get xs i ≡ Some x
    → sum_by f (set xs i y) + f x ≡ sum_by f xs + f y
sum-there f xs i x y there =
    subst (λ z. sum_by f (set xs i y) + f z ≡ sum_by f xs + f y) (get_or_from_slice_get xs i x y there)
    (sum_by-set f xs i y y (get-below xs i x there))

-- a fact of each, of what is read off each
pub read-off : {X Y : Type 0} (P : Y → Type 0) (f : X → Y) (xs : List X)
    → ((i : ℕ) (x : X) → slice_get xs i ≡ Some x → P (f x)) → (i : ℕ) (y : Y) → slice_get (map f xs) i ≡ Some y → P y
read-off P f [] each i y got = absurd (cc)
read-off P f (x ∷ xs) each zero y got = let is : f x ≡ y = cc in subst P is (each 0 x refl)
read-off P f (x ∷ xs) each (suc i) y got = read-off P f xs (λ j z there. each (suc j) z there) i y got

-- what is read off the first, after one was written that is read the same
abbrev first-of : {X Y : Type 0} → (X → Y) → Y → List X → Y
first-of f d [] = d
first-of f d (x ∷ xs) = f x

first-kept : {X Y : Type 0} (f : X → Y) (d : Y) (xs : List X) (i : ℕ) (x y : X) → slice_get xs i ≡ Some x
    → f y ≡ f x → first-of f d (set xs i y) ≡ first-of f d xs
first-kept f d [] i x y there same = absurd (cc)
first-kept f d (z ∷ xs) zero x y there same = let is : z ≡ x = cc in same ∙ ap f (sym is)
first-kept f d (z ∷ xs) (suc i) x y there same = refl

crew-first : (rounds : List SharedRound) → crew_in rounds ≡ first-of crew_at (crew_in []) rounds
crew-first [] = refl
crew-first (r ∷ rounds) = refl

-- what the passes have in common after one call
pub crew-kept : (rounds : List SharedRound) (i : ℕ) (r s : SharedRound) → slice_get rounds i ≡ Some r
    → crew_at s ≡ crew_at r → crew_in (set rounds i s) ≡ crew_in rounds
crew-kept rounds i r s there same =
    crew-first (set rounds i s)
    ∙ (first-kept crew_at (crew_in []) rounds i r s there same ∙ sym (crew-first rounds))

-- two lists as long as each other, of which the same is read off at each place
pub map-same : {X Y Z : Type 0} (f : X → Z) (g : Y → Z) (xs : List X) (ys : List Y) → length xs ≡ length ys
    → ((i : ℕ) (x : X) (y : Y) → slice_get xs i ≡ Some x → slice_get ys i ≡ Some y → f x ≡ g y)
    → map f xs ≡ map g ys
map-same f g [] [] long each = refl
map-same f g [] (y ∷ ys) long each = absurd (cc)
map-same f g (x ∷ xs) [] long each = absurd (cc)
map-same f g (x ∷ xs) (y ∷ ys) long each =
    let rest = map-same f g xs ys (omega (arith, long)) (λ i p q there here. each (suc i) p q there here) in
    (λ j. each 0 x y refl refl j ∷ rest j)

-- and counted
pub sum-same : {X Y : Type 0} (f : X → ℕ) (g : Y → ℕ) (xs : List X) (ys : List Y) → length xs ≡ length ys
    → ((i : ℕ) (x : X) (y : Y) → slice_get xs i ≡ Some x → slice_get ys i ≡ Some y → f x ≡ g y)
    → sum_by f xs ≡ sum_by g ys
sum-same f g [] [] long each = refl
sum-same f g [] (y ∷ ys) long each = absurd (cc)
sum-same f g (x ∷ xs) [] long each = absurd (cc)
sum-same f g (x ∷ xs) (y ∷ ys) long each =
    let rest = sum-same f g xs ys (omega (arith, long)) (λ i p q there here. each (suc i) p q there here) in
    let first = each 0 x y refl refl in
    omega (arith, rest, first, sum_by-cons f x xs, sum_by-cons g y ys)

-- of which nothing is counted, and of each nothing
pub sum-none : {X : Type 0} (f : X → ℕ) (xs : List X)
    → ((i : ℕ) (x : X) → slice_get xs i ≡ Some x → f x ≡ 0) → sum_by f xs ≡ 0
sum-none f [] none = refl
sum-none f (x ∷ xs) none =
    let rest = sum-none f xs (λ i y there. none (suc i) y there) in
    let first = none 0 x refl in
    omega (arith, rest, first, sum_by-cons f x xs)

pub none-counted : {X : Type 0} (f : X → ℕ) (xs : List X) (i : ℕ) (x : X) → sum_by f xs ≡ 0
    → slice_get xs i ≡ Some x → f x ≡ 0
none-counted f [] i x none there = absurd (cc)
none-counted f (y ∷ xs) zero x none there =
    let is : y ≡ x = cc in
    let here : f y ≡ 0 = omega (arith, none, sum_by-cons f y xs) in subst (λ z. f z ≡ 0) is here
none-counted f (y ∷ xs) (suc i) x none there =
    none-counted f xs i x (omega (arith, none, sum_by-cons f y xs)) there

-- the same of each
pub map-all : {X Y : Type 0} (f : X → Y) (y : Y) (xs : List X)
    → ((i : ℕ) (x : X) → slice_get xs i ≡ Some x → f x ≡ y) → map f xs ≡ replicate (length xs) y
map-all f y [] each = refl
map-all f y (x ∷ xs) each =
    let rest = map-all f y xs (λ i z there. each (suc i) z there) in
    (λ j. each 0 x refl j ∷ rest j)

-- there is an element at a place, and none past the end
pub at-either : {X : Type 0} (xs : List X) (i : ℕ) → ((x : X) × (slice_get xs i ≡ Some x)) ⊎ (length xs ≤ i)
at-either [] i = inr (omega arith)
at-either (x ∷ xs) zero = inl (x, refl)
at-either {X = X} (x ∷ xs) (suc i) = go (at-either xs i)
  where
    go : ((z : X) × (slice_get xs i ≡ Some z)) ⊎ (length xs ≤ i)
        → ((z : X) × (slice_get (x ∷ xs) (suc i) ≡ Some z)) ⊎ (suc (length xs) ≤ suc i)
    go (inl there) = inl there
    go (inr past) = inr (omega (arith, past))

pub past-is : {X : Type 0} (xs : List X) (i : ℕ) (d : X) → length xs ≤ i → slice_index_or xs i d ≡ d
past-is [] i d past = refl
past-is (x ∷ xs) zero d past = absurd (omega (arith, past))
past-is (x ∷ xs) (suc i) d past = past-is xs i d (omega (arith, past))
