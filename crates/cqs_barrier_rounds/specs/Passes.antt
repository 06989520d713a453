-- Lists of passes, one for each round: what a call leaves of those of some rounds, or of all.
use Rattle.std.specs.Prelude.{◌≡◌, ℕ, ◌<◌, ◌≤◌, List, length, Some, slice_get}

module _ {P : Type 0} where
  -- this holds of the pass of each round
  abbrev pub EachIs : (P → Type 0) → List P → Type 0
  EachIs fact ps = (r : ℕ) (p : P) → slice_get ps r ≡ Some p → fact p

  -- in each of these rounds, from the one to below the other, a call led its pass from p to q
  abbrev pub EachWithin : (ℕ → P → P → Type 0) → ℕ → ℕ → List P → List P → Type 0
  EachWithin call from to ps qs =
      (r : ℕ) (p q : P) → from ≤ r → r < to → slice_get ps r ≡ Some p → slice_get qs r ≡ Some q
      → call r p q

  -- Calls led the passes of these rounds from the one to the other; those of all other rounds are
  -- as they were.
  pub record AreCalledWithin (call : ℕ → P → P → Type 0) (from to : ℕ) (ps qs : List P)
      : Type 0 where
    pub many : length qs ≡ length ps
    pub called : EachWithin call from to ps qs
    pub before : (r : ℕ) → r < from → slice_get qs r ≡ slice_get ps r
    pub behind : (r : ℕ) → to ≤ r → slice_get qs r ≡ slice_get ps r

  -- the same in all rounds
  pub record AreCalled (call : ℕ → P → P → Type 0) (ps qs : List P) : Type 0 where
    pub many : length qs ≡ length ps
    pub called : (r : ℕ) (p q : P) → slice_get ps r ≡ Some p → slice_get qs r ≡ Some q
        → call r p q
