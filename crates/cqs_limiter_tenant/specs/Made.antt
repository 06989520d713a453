-- A tenant that was made.
use Rattle.std.specs.Prelude.{◌≡◌, ℕ, ◌<◌, ◌==◌, true, List, [], Some, slice_get, slice_index, if◌then◌else◌}
use Rattle.cqs_rule_laws.specs.CallRule.{IsReady}
use Rattle.cqs_semaphore.specs.Calls.{IsMine}
use Rattle.cqs_limiter_requests.specs.declared.asks.Line.{Line}
use Rattle.cqs_limiter_requests.specs.declared.requests.Requests.{Requests}
use Rattle.cqs_limiter_requests.specs.Replies.{opened}
use Rattle.cqs_limiter_workers.specs.Sights.{own}
use Rattle.cqs_limiter_tenant.specs.declared.tenant.Seat.TheVariants.{Out}
use Rattle.cqs_limiter_tenant.specs.declared.tenant.Tenant.{Tenant}
use Rattle.cqs_limiter_tenant.specs.Seats.{seat_of, IsKnown}
use Rattle.cqs_limiter_tenant.specs.Tenants.{view_of, standing_of, HasRoom, draws}

-- how many numbers a line may draw of this tenant
abbrev pub draws_at : ℕ → Line → ℕ
draws_at t line = if t == line.tenant then draws line.ask else 0

-- All its permits are free, nobody waits or holds one, and it has more numbers than so many.
pub record IsMade (permits waits : ℕ) (t : Tenant) : Type 0 where
  pub mine : IsMine t.semaphore t.pass
  pub size_is : (view_of t).opening.size ≡ permits
  pub number : (view_of t).number ≡ 0
  pub alone : (view_of t).alone ≡ true
  pub ready : IsReady (view_of t).facts
  pub seen_is : (view_of t).seen ≡ []
  pub waits_are : (view_of t).facts.waits ≡ []
  pub numbers : waits < (view_of t).limit
  pub outs : (j : ℕ) → seat_of t j ≡ Out

-- Each client of these lines of the tenant has a seat; who was out still is, and else nothing
-- changed.
pub record HasSeats (x : Tenant) (t : ℕ) (lines : List Line) (y : Tenant) : Type 0 where
  pub semaphore : y.semaphore ≡ x.semaphore
  pub pass : y.pass ≡ x.pass
  pub outs : (j : ℕ) → seat_of x j ≡ Out → seat_of y j ≡ Out
  pub known : (i : ℕ) (line : Line) → slice_get lines i ≡ Some line → t ≡ line.tenant
      → IsKnown y line.client

-- It stands as a plain tenant that was opened, has seen nothing, and has room for its lines.
pub record IsNew (r : Requests) (t : ℕ) (x : Tenant) : Type 0 where
  pub standing : standing_of x ≡ opened (slice_index r.permits.items t)
  pub seen : (view_of x).seen ≡ []
  pub room : HasRoom x (own t r.asks.items)
