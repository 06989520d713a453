-- The pool as a plain object: its elements are on their way to a taker, or held by one.
use Rattle.std.specs.Prelude.{ℕ, zero, suc, ◌==◌, Bool, true, List, [], ◌∷◌, count_by}
use Rattle.cqs_core.specs.Numbered.{IsIn}
use Rattle.cqs_core.specs.QueueLine.{Waiting}

-- a wait that was served: its number, the pass that drew it, the element that came, and whether
-- that hasn't been looked at
pub record Given : Type 0 where
  pub wait : ℕ
  pub pass : ℕ
  pub element : ℕ
  pub is_open : Bool

pub record Pool : Type 0 where
  -- the elements on their way: free ones, and those that were put and have reached nobody yet
  pub way : List ℕ
  -- the waits that were neither served nor left, in order of number
  pub line : List Waiting
  -- the next wait's number
  pub next : ℕ
  -- the waits that were served, in order of number
  pub served : List Given
  -- the elements that callers have
  pub held : List ℕ

-- so many numbers, from k on
abbrev pub numbers_from : ℕ → ℕ → List ℕ
numbers_from k zero = []
numbers_from k (suc n) = k ∷ numbers_from (suc k) n

-- the elements are the numbers below the size, and all of them are on their way
abbrev pub opening : ℕ → Pool
opening size =
    record { way = numbers_from 0 size; line = []; next = 0; served = []; held = [] }

-- wait k was served for c with this element, and c hasn't looked
abbrev pub IsGiven : ℕ → ℕ → ℕ → List Given → Type 0
IsGiven k c element served =
    IsIn (record { wait = k; pass = c; element = element; is_open = true }) served

-- how often an element is in a list
abbrev pub times : ℕ → List ℕ → ℕ
times element list = count_by (λ e. e == element) list
