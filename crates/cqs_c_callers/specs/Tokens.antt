-- What a pass has several of, by number: the tokens of its waits, and elements of a pool.
use Rattle.std.specs.Prelude.{◌≡◌, ◌≢◌, ℕ, ◌<◌, List, [], ◌∷◌, All, Some, length, slice_get, slice_index_or}
use Rattle.std.specs.List.{remove}
use Rattle.cqs_rule.specs.declared.queue.tokens.Wait.{Wait}
use Rattle.cqs_rule_laws.specs.declared.view.View.{View}
use Rattle.cqs_rule.specs.Waits.{place_of, HasWait}

module _ {X : Type 0} (index : X → ℕ) where
  -- no number stands there twice
  abbrev pub Apart : List X → Type 0
  Apart [] = Unit {0}
  Apart (x ∷ xs) = All (λ y. index y ≢ index x) xs × Apart xs

  -- the one of this number stands at i
  pub record IsAt (number : ℕ) (xs : List X) (i : ℕ) : Type 0 where
    pub below : i < length xs
    pub at : X
    pub is : slice_get xs i ≡ Some at
    pub number_is : index at ≡ number

  -- the one of this number was taken out of them, and the others stayed
  pub record IsTaken (number : ℕ) (before : List X) (token : X) (after : List X) : Type 0 where
    pub at : ℕ
    pub below : at < length before
    pub is : token ≡ slice_index_or before at token
    pub number_is : index token ≡ number
    pub others : after ≡ remove before at

-- the number of a wait
abbrev pub wait_index : Wait → ℕ
wait_index wait = (place_of wait).index

-- the pass has each of the waits that these are tokens of, and no two are the same
pub record HasTokens {X E S : Type 0} (of : X → Wait) (v : View E S) (xs : List X) : Type 0 where
  pub has : All (λ x. HasWait v (of x)) xs
  pub apart : Apart (λ x. wait_index (of x)) xs
