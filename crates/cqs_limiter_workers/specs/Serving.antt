-- What a worker is to do, and what it has done.
use Rattle.std.specs.Prelude.{◌≡◌, ℕ, ◌<◌, ◌≤◌, Bool, true, false, List, [], ◌∷◌, Option, Some, None, Result, IfOk, filter, length, map, slice_get}
use Rattle.std.specs.declared.alloc.AllocError.{AllocError}
use Rattle.cqs_core.specs.declared.entries.Entry.{Entry}
use Rattle.cqs_limiter_requests.specs.declared.asks.Line.{Line}
use Rattle.cqs_limiter_requests.specs.declared.asks.LimitOutcome.{LimitOutcome}
use Rattle.cqs_limiter_requests.specs.Replies.{Tenancy, answer_of, after_asks, entries_in, outcomes}
use Rattle.cqs_limiter_workers.specs.declared.notes.Notes.{Notes}
use Rattle.cqs_limiter_workers.specs.declared.notes.Noted.{Noted}
use Rattle.cqs_limiter_workers.specs.declared.works.Post.{Post}
use Rattle.cqs_limiter_workers.specs.declared.works.Told.{Told}
use Rattle.cqs_limiter_workers.specs.Noting.{AreOf, noted_value}
use Rattle.cqs_limiter_workers.specs.Sights.{Sight, own}

-- the outcome of a line at a tenant that stands so
abbrev pub outcome_at : Tenancy → Line → LimitOutcome
outcome_at t line =
    record { tenant = line.tenant; client = line.client; ask = line.ask; answer = answer_of t line }

-- there is a tenant at the place
abbrev pub is_there : {X : Type 0} → Option (Option X) → Bool
is_there None = false
is_there (Some None) = false
is_there (Some (Some x)) = true

abbrev pub has : {X : Type 0} → List (Option X) → ℕ → Bool
has desks t = is_there (slice_get desks t)

abbrev pub AllBelow : ℕ → List Line → Type 0
AllBelow n [] = Unit {0}
AllBelow n (line ∷ lines) = (line.tenant < n) × AllBelow n lines

module _ {X : Type 0} (s : Sight X) where
  -- the tenants that are there stand so, have seen these entries, and have room for their lines
  pub record AreSeated (all : ℕ → Tenancy) (came : ℕ → List Entry) (lines : List Line)
      (desks : List (Option X)) : Type 0 where
    pub at : (t : ℕ) (x : X) → slice_get desks t ≡ Some (Some x)
        → (s.standing x ≡ all t) × (s.seen x ≡ came t) × s.fits x (own t lines)

  -- the tenants stand as they opened, and their lines are all to come
  pub record CanServe (lines : List Line) (desks : List (Option X)) : Type 0 where
    pub all : ℕ → Tenancy
    pub below : AllBelow (length desks) lines
    pub seated : AreSeated all (λ t. []) lines desks

  -- The worker's tenants, and no others, stand as all lines left them; its tokens are those of its
  -- lines, in order; and its gate was told of each.
  pub record HasServed (notes : Notes) (told : ℕ → Bool) (lines : List Line)
      (first last : List (Option X)) (tokens : List Noted) : Type 0 where
    pub long : length last ≡ length first
    pub same : (t : ℕ) → has last t ≡ has first t
    pub of : AreOf notes tokens
    pub each : (all : ℕ → Tenancy) → AreSeated all (λ t. []) lines first
        → AreSeated (after_asks all lines) (λ t. entries_in all t lines) [] last
        × (map noted_value tokens ≡ filter (λ o. has first o.tenant) (outcomes all lines))
    pub gated : (request : ℕ) → 0 < request → request ≤ length tokens → told request ≡ true

  -- each worker has
  pub record AllServed (notes : Notes) (told : ℕ → ℕ → Bool) (lines : List Line)
      (posts : List (Post X)) (all : List (Result (Told X) AllocError)) : Type 0 where
    pub at : (i : ℕ) (post : Post X) (r : Result (Told X) AllocError)
        → slice_get posts i ≡ Some post → slice_get all i ≡ Some r
        → IfOk r (λ x. HasServed notes (told post.worker) lines post.desks.items x.desks.items
        x.tokens.items)
