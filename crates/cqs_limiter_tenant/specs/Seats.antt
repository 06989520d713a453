-- Where a tenant's clients are.
use Rattle.std.specs.Prelude.{◌≡◌, ◌≢◌, ℕ, Option, IsSome, Some, unwrap_or}
use Rattle.std.specs.Ordering.{nat_cmp}
use Rattle.std.specs.BTreeMap.{get}
use Rattle.cqs_limiter_tenant.specs.declared.tenant.Seat.{Seat}
use Rattle.cqs_limiter_tenant.specs.declared.tenant.Seat.TheVariants.{Out}
use Rattle.cqs_limiter_tenant.specs.declared.tenant.Tenant.{Tenant}

abbrev pub seat_of : Tenant → ℕ → Seat
seat_of t j = unwrap_or (get nat_cmp t.seats j) Out

-- the tenant has a seat for the client
abbrev pub IsKnown : Tenant → ℕ → Type 0
IsKnown t j = IsSome (get nat_cmp t.seats j)

-- the client is there now, and each other where it was
pub record IsSeatedSo (old : Tenant) (j : ℕ) (seat : Seat) (new : Tenant) : Type 0 where
  pub here : seat_of new j ≡ seat
  pub others : (i : ℕ) → i ≢ j → seat_of new i ≡ seat_of old i
  pub known : (i : ℕ) → IsKnown old i → IsKnown new i
