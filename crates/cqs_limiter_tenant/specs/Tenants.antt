-- What contracts see of a tenant.
use Rattle.std.specs.Prelude.{◌≡◌, ℕ, ◌+◌, ◌<◌, ◌≤◌, true, List, [], ◌∷◌, length}
use Rattle.cqs_core.specs.declared.entries.Entry.{Entry}
use Rattle.cqs_rule_laws.specs.declared.config.Place.{Place as At}
use Rattle.cqs_rule_laws.specs.declared.view.View.{View}
use Rattle.cqs_rule_laws.specs.Lists.{Has}
use Rattle.cqs_rule_laws.specs.Placed.{KnowsPlace}
use Rattle.cqs_rule_laws.specs.CallRule.{IsReady}
use Rattle.cqs_rule.specs.Passes.{pass_view}
use Rattle.cqs_semaphore.specs.Calls.{IsMine, plain_after}
use Rattle.cqs_semaphore.specs.Causes.{drawn_in}
use Rattle.cqs_limiter_requests.specs.declared.asks.Ask.{Ask}
use Rattle.cqs_limiter_requests.specs.declared.asks.Ask.TheVariants.{Enter, Look, Quit, Leave}
use Rattle.cqs_limiter_requests.specs.declared.asks.Line.{Line}
use Rattle.cqs_limiter_requests.specs.Replies.{Place, out, waiting, holding, Tenancy}
use Rattle.cqs_limiter_workers.specs.Sights.{Sight}
use Rattle.cqs_limiter_tenant.specs.declared.tenant.Seat.{Seat}
use Rattle.cqs_limiter_tenant.specs.declared.tenant.Seat.TheVariants.{Out, Waiting, Holding}
use Rattle.cqs_limiter_tenant.specs.declared.tenant.Tenant.{Tenant}
use Rattle.cqs_limiter_tenant.specs.Seats.{seat_of, IsKnown}

-- the pass of the tenant, as contracts of the queue see it
abbrev pub view_of : Tenant → View Entry (Unit {0})
view_of t = pass_view t.pass

abbrev pub place_at : Seat → Place
place_at Out = out
place_at (Waiting at) = waiting at.index
place_at Holding = holding

abbrev pub standing_of : Tenant → Tenancy
standing_of t = record {
  semaphore = plain_after (view_of t);
  place = λ j. place_at (seat_of t j);
}

-- a client is among these
abbrev pub IsAmong : ℕ → List ℕ → Type 0
IsAmong j js = Has j js

-- The pass is alone and between two calls, and makes them as pass 0. Each client that waits has a
-- wait of the pass, no two the same, and for each that holds a permit the pass holds one.
pub record IsKept (t : Tenant) : Type 0 where
  pub mine : IsMine t.semaphore t.pass
  pub number : (view_of t).number ≡ 0
  pub alone : (view_of t).alone ≡ true
  pub ready : IsReady (view_of t).facts
  pub still : (plain_after (view_of t)).way ≡ 0
  pub drawn : (k : ℕ) → Has k (view_of t).facts.waits → k < (plain_after (view_of t)).next
  pub waits : (j : ℕ) (at : At) → seat_of t j ≡ Waiting at
      → Has at.index (view_of t).facts.waits × KnowsPlace (view_of t) at
  pub apart : (i j : ℕ) (at other : At) → seat_of t i ≡ Waiting at → seat_of t j ≡ Waiting other
      → at.index ≡ other.index → i ≡ j
  pub holders : List ℕ
  pub holding_are : (j : ℕ) → seat_of t j ≡ Holding → IsAmong j holders
  pub enough : length holders ≤ (view_of t).facts.has.held

-- how many numbers these requests may draw
abbrev pub draws : Ask → ℕ
draws Enter = 1
draws Look = 0
draws Quit = 0
draws Leave = 0

abbrev pub enters : List Line → ℕ
enters [] = 0
enters (line ∷ lines) = draws line.ask + enters lines

abbrev pub AreKnown : Tenant → List Line → Type 0
AreKnown t [] = Unit {0}
AreKnown t (line ∷ lines) = IsKnown t line.client × AreKnown t lines

-- the tenant has a number for each of these that asks to enter, and a seat for each client
pub record HasRoom (t : Tenant) (lines : List Line) : Type 0 where
  pub kept : IsKept t
  pub numbers : drawn_in (view_of t).seen + enters lines < (view_of t).limit
  pub known : AreKnown t lines

abbrev pub tenant_sight : Sight Tenant
tenant_sight = record {
  standing = standing_of;
  seen = λ t. (view_of t).seen;
  fits = HasRoom;
}
