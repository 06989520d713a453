-- Tenants that are new can run, and what they leave.
use Rattle.std.proofs.Common.{◌≡◌, ◌⊎◌, inl, inr, ℕ, zero, suc, ◌+◌, ◌<◌, Bool, List, [], ◌∷◌, ◌++◌, length, slice_get, Some, refl, sym, ap, ◌∙◌, subst, arith, length-append}
use Rattle.cqs_core.proofs.Places.{get-below}
use Rattle.cqs_limiter_requests.specs.declared.asks.Line.{Line}
use Rattle.cqs_limiter_requests.specs.declared.requests.Requests.{Requests}
use Rattle.cqs_limiter_requests.specs.Requests.{AreLines, IsValid}
use Rattle.cqs_limiter_workers.specs.declared.runs.Ran.{Ran}
use Rattle.cqs_limiter_workers.specs.Serving.{AllBelow}
use Rattle.cqs_limiter_workers.specs.Running.{AreOpen, CanRun, HasRun}
use Rattle.cqs_limiter_workers.proofs.Dealt.{push-last}
use Rattle.cqs_limiter_tenant.specs.declared.tenant.Tenant.{Tenant}
use Rattle.cqs_limiter_tenant.specs.Made.{IsNew}
use Rattle.cqs_limiter_tenant.specs.Tenants.{tenant_sight}
use Rattle.cqs_limiter.specs.Limits.{all_opened, limited_by, AreNew, IsAfter, HasLimited}

-- so many tenants are made
pub record AreFirst (r : Requests) (many : ℕ) (tenants : List Tenant) : Type 0 where
  pub long : length tenants ≡ many
  pub at : (t : ℕ) (x : Tenant) → slice_get tenants t ≡ Some x → IsNew r t x

pub first-none : (r : Requests) (tenants : List Tenant) → tenants ≡ [] → AreFirst r 0 tenants
first-none r tenants none = rw none (record { long = refl; at = λ t x got. absurd (cc got) })

pub first-push : (r : Requests) (many : ℕ) (tenants : List Tenant) (x : Tenant) → AreFirst r many tenants
    → IsNew r many x → AreFirst r (many + 1) (tenants ++ x ∷ [])
first-push r many tenants x are new = record {
  long = length-append tenants (x ∷ []) ∙ ap (λ n. n + 1) are.long;
  at = λ t y got. which t y (push-last tenants x t y got);
}
  where
    which : (t : ℕ) (y : Tenant) → (slice_get tenants t ≡ Some y) ⊎ ((t ≡ length tenants) × (y ≡ x)) → IsNew r t y
    which t y (inl was) = are.at t y was
    which t y (inr last) =
        subst (λ z. IsNew r t z) (sym last.1)
        (subst (λ n. IsNew r n x) (sym are.long ∙ sym last.0) new)

pub first-all : (r : Requests) (many : ℕ) (tenants : List Tenant) → many ≡ length r.permits.items
    → AreFirst r many tenants → AreNew r tenants
first-all r many tenants all are = record { many = are.long ∙ all; at = are.at }

lines-below : (n m : ℕ) (lines : List Line) → m ≡ n → AreLines n lines → AllBelow m lines
lines-below n m [] same are = tt
lines-below n m (line ∷ lines) same are =
    let low = are.0.tenant in (omega (arith, low, same), lines-below n m lines same are.1)

are-open : (r : Requests) (tenants : List Tenant) → AreNew r tenants
    → AreOpen tenant_sight (all_opened r) r.asks.items tenants
are-open r tenants are = record {
  at = λ t x got. let new = are.at t x got in (new.standing, new.seen, new.room);
}

pub can-run : (r : Requests) (tenants : List Tenant) → IsValid r → AreNew r tenants
    → CanRun tenant_sight r.asks.items tenants
can-run r tenants valid are = record {
  all = all_opened r;
  below = lines-below (length r.permits.items) (length tenants) r.asks.items are.many valid.are.lines;
  open_at = are-open r tenants are;
}

pub has-limited : (r : Requests) (told : ℕ → ℕ → Bool) (tenants : List Tenant) (workers : ℕ) (l : Ran Tenant)
    → AreNew r tenants → HasRun tenant_sight told r.asks.items tenants workers l
    → HasLimited r told workers (limited_by l)
has-limited r told tenants workers l are ran = record {
  many = ran.many ∙ are.many;
  tenants = λ t x got.
      let is = (ran.after (all_opened r) (are-open r tenants are)).at t x got in
      record { standing = is.0; seen = is.1 };
  of = ran.of;
  values = ran.values (all_opened r) (are-open r tenants are);
  text = ran.text;
  gated = ran.gated (all_opened r) (are-open r tenants are);
}
