-- What a run of the limiter leaves.
use Rattle.std.specs.Prelude.{◌≡◌, ℕ, ◌<◌, ◌≤◌, Bool, true, List, Some, length, map, slice_get, slice_index}
use Rattle.cqs_limiter_requests.specs.declared.requests.Requests.{Requests}
use Rattle.cqs_limiter_requests.specs.Replies.{Tenancy, opened, after_asks, entries_in, outcomes}
use Rattle.cqs_limiter_requests.specs.Told.{outcomes_text}
use Rattle.cqs_limiter_workers.specs.declared.runs.Ran.{Ran}
use Rattle.cqs_limiter_workers.specs.Noting.{AreOf, noted_value}
use Rattle.cqs_limiter_workers.specs.Handing.{outcomes_of}
use Rattle.cqs_limiter_tenant.specs.declared.tenant.Tenant.{Tenant}
use Rattle.cqs_limiter_tenant.specs.Made.{IsNew}
use Rattle.cqs_limiter_tenant.specs.Tenants.{view_of, standing_of}
use Rattle.cqs_limiter.specs.declared.limits.Limited.{Limited}

-- each tenant as it was opened
abbrev pub all_opened : Requests → ℕ → Tenancy
all_opened r t = opened (slice_index r.permits.items t)

-- these are all tenants, and new
pub record AreNew (r : Requests) (tenants : List Tenant) : Type 0 where
  pub many : length tenants ≡ length r.permits.items
  pub at : (t : ℕ) (x : Tenant) → slice_get tenants t ≡ Some x → IsNew r t x

-- A tenant stands as one thread leaves it that asks all lines, and its pass has seen just the
-- entries of the replies to its own: those of a refused line are none.
pub record IsAfter (r : Requests) (t : ℕ) (x : Tenant) : Type 0 where
  pub standing : standing_of x ≡ after_asks (all_opened r) r.asks.items t
  pub seen : (view_of x).seen ≡ entries_in (all_opened r) t r.asks.items

-- what a run of workers left, handed on
abbrev pub limited_by : Ran Tenant → Limited
limited_by ran =
    record { tenants = ran.tenants; notes = ran.notes; tokens = ran.tokens; text = ran.text }

pub record HasLimited (r : Requests) (told : ℕ → ℕ → Bool) (workers : ℕ) (l : Limited)
    : Type 0 where
  -- the tenants are all tenants, in order of place
  pub many : length l.tenants.items ≡ length r.permits.items
  pub tenants : (t : ℕ) (x : Tenant) → slice_get l.tenants.items t ≡ Some x → IsAfter r t x
  -- there is one token of the list for each line, in order, and what was recorded under it is the
  -- line with the reply that one thread gives
  pub of : AreOf l.notes l.tokens.items
  pub values : map noted_value l.tokens.items ≡ outcomes (all_opened r) r.asks.items
  -- the text is, for each line, the line with what was recorded under its token
  pub text : l.text.items ≡ outcomes_text (map noted_value l.tokens.items)
  -- the gate was told of each request of each worker, before and after
  pub gated : (w request : ℕ) → w < workers → 0 < request
      → request ≤ length (outcomes_of workers w (all_opened r) r.asks.items)
      → told w request ≡ true
