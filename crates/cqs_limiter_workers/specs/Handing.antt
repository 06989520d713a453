-- The tokens of workers, and those of all lines.
use Rattle.std.specs.Prelude.{◌≡◌, ℕ, ◌%◌, ◌==◌, Bool, List, Some, filter, length, map, slice_get}
use Rattle.cqs_limiter_requests.specs.declared.asks.Line.{Line}
use Rattle.cqs_limiter_requests.specs.declared.asks.LimitOutcome.{LimitOutcome}
use Rattle.cqs_limiter_requests.specs.Replies.{Tenancy, outcomes}
use Rattle.cqs_limiter_workers.specs.declared.notes.Notes.{Notes}
use Rattle.cqs_limiter_workers.specs.declared.notes.Noted.{Noted}
use Rattle.cqs_limiter_workers.specs.declared.works.Told.{Told}
use Rattle.cqs_limiter_workers.specs.Noting.{AreOf, noted_value}

-- the outcomes of the tenants of one of so many workers
abbrev pub is_of : ℕ → ℕ → LimitOutcome → Bool
is_of workers w o = o.tenant % workers == w

abbrev pub outcomes_of : ℕ → ℕ → (ℕ → Tenancy) → List Line → List LimitOutcome
outcomes_of workers w all lines = filter (is_of workers w) (outcomes all lines)

module _ {X : Type 0} where
  -- each worker's tokens are of this list, and are those of its lines, in order
  pub record AreHandsOf (notes : Notes) (all : ℕ → Tenancy) (lines : List Line)
      (hands : List (Told X)) : Type 0 where
    pub of : (w : ℕ) (told : Told X) → slice_get hands w ≡ Some told → AreOf notes told.tokens.items
    pub values : (w : ℕ) (told : Told X) → slice_get hands w ≡ Some told
        → map noted_value told.tokens.items ≡ outcomes_of (length hands) w all lines

  abbrev pub AreHands : Notes → List Line → List (Told X) → Type 0
  AreHands notes lines hands = (all : ℕ → Tenancy) × AreHandsOf notes all lines hands

  -- the tokens are of this list, and are those of the lines, in order
  pub record HasInOrder (notes : Notes) (lines : List Line) (hands : List (Told X))
      (tokens : List Noted) : Type 0 where
    pub of : AreOf notes tokens
    pub values : (all : ℕ → Tenancy) → AreHandsOf notes all lines hands
        → map noted_value tokens ≡ outcomes all lines
