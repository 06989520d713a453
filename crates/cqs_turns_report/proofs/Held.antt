-- What a job holds, as the list of its places.
use Rattle.std.proofs.Common.{◌≡◌, ℕ, suc, ◌+◌, List, [], ◌∷◌, Bool, true, false, ◌==◌, Some, None, IsSome, map, refl, sym, ap, eq-eqb, arith}
use Rattle.std.specs.List.{position_from, remove}
use Rattle.cqs_core.specs.Keyed.{without}
use Rattle.cqs_plan.specs.Floor.{Holding, oldest}
use Rattle.cqs_turns_report.specs.Ready.{is_held}

-- something is held of a place that stands in the list of places
oldest-there_by : (at : ℕ) (h : Holding) (holds : List Holding) (b : Bool) → h.at == at ≡ b
    → (is_held at (map (λ h. h.at) holds) ≡ true → IsSome (oldest at holds))
    → is_held at (map (λ h. h.at) (h ∷ holds)) ≡ true → IsSome (oldest at (h ∷ holds))
oldest-there_by at h holds true same later held = rw same refl
oldest-there_by at h holds false other later held = rw other (later (rw other at held))

pub oldest-there : (at : ℕ) (holds : List Holding) → is_held at (map (λ h. h.at) holds) ≡ true
    → IsSome (oldest at holds)
oldest-there at [] held = absurd (cc)
oldest-there at (h ∷ holds) held = oldest-there_by at h holds (h.at == at) refl (oldest-there at holds) held

map-without_by : (at : ℕ) (h : Holding) (holds : List Holding) (b : Bool) → at == h.at ≡ b
    → map (λ h. h.at) (without (λ h. h.at) at holds) ≡ without (λ place. place) at (map (λ h. h.at) holds)
    → map (λ h. h.at) (without (λ h. h.at) at (h ∷ holds)) ≡ without (λ place. place) at (map (λ h. h.at) (h ∷ holds))
map-without_by at h holds true same later = rw same refl
map-without_by at h holds false other later = rw other (ap (λ places. h.at ∷ places) later)

-- to take the oldest out of what is held is to take its place out
pub map-without : (at : ℕ) (holds : List Holding)
    → map (λ h. h.at) (without (λ h. h.at) at holds) ≡ without (λ place. place) at (map (λ h. h.at) holds)
map-without at [] = refl
map-without at (h ∷ holds) = map-without_by at h holds (at == h.at) refl (map-without at holds)

-- the first of the list goes first
pub without-head : (at : ℕ) (places : List ℕ) → without (λ place. place) at (at ∷ places) ≡ places
without-head at places = let same : at == at ≡ true = eq-eqb at at refl in rw same refl

-- the oldest is found by its place
remove-found_by : (at p : ℕ) (places : List ℕ) (i n : ℕ) (b : Bool) → at == p ≡ b
    → position_from (λ q. at == q) i (p ∷ places) ≡ Some n
    → (position_from (λ q. at == q) (i + 1) places ≡ Some n
    → (k : ℕ) × (n ≡ (i + 1) + k) × (remove places k ≡ without (λ q. q) at places))
    → (k : ℕ) × (n ≡ i + k) × (remove (p ∷ places) k ≡ without (λ q. q) at (p ∷ places))
remove-found_by at p places i n true same found later =
    let here : Some i ≡ Some n = rw same at found in
    let first : i ≡ n = cc in
    (0, omega (arith, first), rw same refl)
remove-found_by at p places i n false other found later =
    let further : position_from (λ q. at == q) (i + 1) places ≡ Some n = rw other at found in
    let rest : (k : ℕ) × (n ≡ (i + 1) + k) × (remove places k ≡ without (λ q. q) at places) = later further in
    (suc rest.0, omega (arith, rest.1), rw other (ap (λ xs. p ∷ xs) rest.2))

remove-found : (at : ℕ) (places : List ℕ) (i n : ℕ) → position_from (λ q. at == q) i places ≡ Some n
    → (k : ℕ) × (n ≡ i + k) × (remove places k ≡ without (λ q. q) at places)
remove-found at [] i n found = absurd (cc)
remove-found at (p ∷ places) i n found =
    remove-found_by at p places i n (at == p) refl found (remove-found at places (i + 1) n)

pub remove-oldest : (at : ℕ) (places : List ℕ) (n : ℕ) → Some n ≡ position_from (λ q. at == q) 0 places
    → remove places n ≡ without (λ q. q) at places
remove-oldest at places n found =
    let there : (k : ℕ) × (n ≡ 0 + k) × (remove places k ≡ without (λ q. q) at places)
    = remove-found at places 0 n (sym found) in
    let same : n ≡ there.0 = omega (arith, there.1) in
    rw same there.2

without-none_by : (at p : ℕ) (places : List ℕ) (i : ℕ) (b : Bool) → at == p ≡ b
    → position_from (λ q. at == q) i (p ∷ places) ≡ None
    → (position_from (λ q. at == q) (i + 1) places ≡ None → without (λ q. q) at places ≡ places)
    → without (λ q. q) at (p ∷ places) ≡ p ∷ places
without-none_by at p places i true same none later =
    let here : Some i ≡ None = rw same at none in absurd (cc)
without-none_by at p places i false other none later =
    let further : position_from (λ q. at == q) (i + 1) places ≡ None = rw other at none in
    rw other (ap (λ xs. p ∷ xs) (later further))

-- where none is held, none goes
pub without-none : (at : ℕ) (places : List ℕ) (i : ℕ) → position_from (λ q. at == q) i places ≡ None
    → without (λ q. q) at places ≡ places
without-none at [] i none = refl
without-none at (p ∷ places) i none =
    without-none_by at p places i (at == p) refl none (without-none at places (i + 1))
