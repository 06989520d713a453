-- The floor of a ledger is legal: what happened to what each resource is kept as is.
use Rattle.std.proofs.Common.{◌≡◌, ℕ, ◌<◌, Option, Some, length, slice_get, sym, subst, arith}
use Rattle.cqs_core.proofs.Places.{get-below, get-there}
use Rattle.cqs_plan.specs.declared.plans.kind.Kind.{Kind}
use Rattle.cqs_plan.specs.Floor.{PlainFloor, history_at}
use Rattle.cqs_plan.specs.LegalFloor.{IsHistory, IsLegalFloor}
use Rattle.cqs_floor_common.specs.Holdings.{held_at}
use Rattle.cqs_floor_alone.specs.Kept.{IsKept, waiting_at}
use Rattle.cqs_floor_alone.specs.Ledger.{Ledger, holds_in, plain_floor}
use Rattle.cqs_floor_alone_kinds.specs.Stores.{Store, IsLawful}
use Rattle.cqs_floor_alone.proofs.Resources.{history-there}
use Rattle.std.specs.Prelude.{slice_index}

module _ {X : Type 0} (s : Store X) (lawful : IsLawful s) where
  legal-at : (l : Ledger X) → IsKept s l → (at : ℕ) (k : Kind) → slice_get l.kinds at ≡ Some k
      → IsHistory k (history_at (plain_floor s l) at)
  legal-at l kept at k is =
      let below : at < length l.soles = omega (arith, get-below l.kinds at k is, kept.soles) in
      let there = get-there l.soles at below in
      let funded : s.funded there.0 (Some k) (slice_index l.room at) (waiting_at l.waits at) (held_at (holds_in l) at)
      = subst
      (λ (o : Option Kind). s.funded there.0 o (slice_index l.room at) (waiting_at l.waits at)
      (held_at (holds_in l) at)) is (kept.funded.at at there.0 there.1) in
      subst (IsHistory k) (sym (history-there s l.soles at there.0 there.1)) (lawful.legal there.0 k _ _ _ funded)

  pub legal-floor : (l : Ledger X) (f : PlainFloor) → plain_floor s l ≡ f → IsKept s l → IsLegalFloor f
  legal-floor l f view kept = subst IsLegalFloor view (record { at = legal-at l kept })
