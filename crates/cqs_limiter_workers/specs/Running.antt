-- What a run of workers is to do, and what it has done.
use Rattle.std.specs.Prelude.{◌≡◌, ℕ, ◌<◌, ◌≤◌, Bool, true, List, [], Some, length, map, slice_get}
use Rattle.cqs_limiter_requests.specs.declared.asks.Line.{Line}
use Rattle.cqs_limiter_requests.specs.Replies.{Tenancy, after_asks, entries_in, outcomes}
use Rattle.cqs_limiter_requests.specs.Told.{outcomes_text}
use Rattle.cqs_limiter_workers.specs.declared.runs.Ran.{Ran}
use Rattle.cqs_limiter_workers.specs.Noting.{AreOf, noted_value}
use Rattle.cqs_limiter_workers.specs.Handing.{outcomes_of}
use Rattle.cqs_limiter_workers.specs.Serving.{AllBelow}
use Rattle.cqs_limiter_workers.specs.Sights.{Sight, own}

module _ {X : Type 0} (s : Sight X) where
  -- the tenants stand so, have seen nothing, and have room for their lines
  pub record AreOpen (all : ℕ → Tenancy) (lines : List Line) (tenants : List X) : Type 0 where
    pub at : (t : ℕ) (x : X) → slice_get tenants t ≡ Some x
        → (s.standing x ≡ all t) × (s.seen x ≡ []) × s.fits x (own t lines)

  pub record CanRun (lines : List Line) (tenants : List X) : Type 0 where
    pub all : ℕ → Tenancy
    pub below : AllBelow (length tenants) lines
    pub open_at : AreOpen all lines tenants

  -- each tenant stands as one thread leaves it that asks all lines, and its pass has seen just the
  -- entries of the replies to its own
  pub record AreAfter (all : ℕ → Tenancy) (lines : List Line) (tenants : List X) : Type 0 where
    pub at : (t : ℕ) (x : X) → slice_get tenants t ≡ Some x
        → (s.standing x ≡ after_asks all lines t) × (s.seen x ≡ entries_in all t lines)

  pub record HasRun (told : ℕ → ℕ → Bool) (lines : List Line) (tenants : List X) (workers : ℕ)
      (ran : Ran X) : Type 0 where
    -- all tenants are there
    pub many : length ran.tenants.items ≡ length tenants
    -- the tokens are of the list, and what was recorded under each is its line with its reply
    pub of : AreOf ran.notes ran.tokens.items
    pub values : (all : ℕ → Tenancy) → AreOpen all lines tenants
        → map noted_value ran.tokens.items ≡ outcomes all lines
    pub after : (all : ℕ → Tenancy) → AreOpen all lines tenants
        → AreAfter all lines ran.tenants.items
    -- the text is what was recorded
    pub text : ran.text.items ≡ outcomes_text (map noted_value ran.tokens.items)
    -- the gate was told of each request of each worker
    pub gated : (all : ℕ → Tenancy) → AreOpen all lines tenants → (w request : ℕ) → w < workers
        → 0 < request → request ≤ length (outcomes_of workers w all lines)
        → told w request ≡ true
