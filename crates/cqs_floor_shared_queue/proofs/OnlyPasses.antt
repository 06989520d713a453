-- Where all floors have met in one, its passes are the only live ones of their tables.
use Rattle.std.proofs.Common.{◌≡◌, ℕ, suc, ◌<◌, ◌∷◌, Some, length, slice_get, sym, subst, arith}
use Rattle.cqs_core.specs.Parts.{Has}
use Rattle.cqs_core.proofs.Places.{get-below, get-there}
use Rattle.cqs_plan.specs.declared.plans.kind.Kind.{Kind}
use Rattle.cqs_floor_shared_any.specs.AnyShares.{share_any}
use Rattle.cqs_floor_shared_any.specs.declared.kinds.any.AnyShared.{AnyShared}
use Rattle.cqs_floor_shared_any.proofs.OnlyPasses.{only-pass}
use Rattle.cqs_floor_shared_kinds.specs.Shares.{own}
use Rattle.cqs_floor_shared_queue.specs.FloorKept.{IsFundedAt, IsKept, funds_in}
use Rattle.cqs_floor_shared_queue.specs.Ledgers.{Ledger}
use Rattle.cqs_floor_shared_queue.specs.OnlyPasses.{HasOnlyPass, HasOnlyPasses}
use Rattle.cqs_floor_shared_queue.proofs.FloorCrews.{all-there}

module _ (l : Ledger AnyShared) (kept : IsKept share_any l) (met : suc (length l.met) ≡ l.floors) where
  -- the pass of a resource has the numbers of all passes that may be made there
  has-all : (at : ℕ) (x : AnyShared) → slice_get l.shares at ≡ Some x → (n : ℕ) → n < share_any.passes x
      → Has n (own share_any x)
  has-all at x there n below =
      let its : IsFundedAt share_any l at x = kept.funded.at at x there in
      let has = all-there l.floors (l.number ∷ l.met) kept.distinct kept.below met n
      (subst (λ m. n < m) its.passes below) in
      subst (λ m. Has n (share_any.number x ∷ m)) (sym its.met)
      (subst (λ m. Has n (m ∷ l.met)) (sym its.number) has)

  pub only-passes : HasOnlyPasses l
  only-passes = record { at = at }
    where
      at : (at : ℕ) (k : Kind) → slice_get l.kinds at ≡ Some k → HasOnlyPass l at k
      at place k is =
          let found : (x : AnyShared) × (slice_get l.shares place ≡ Some x)
          = get-there l.shares place (omega (arith, get-below l.kinds place k is, kept.shares)) in
          record {
            share = found.0;
            there = found.1;
            only = only-pass found.0 (funds_in l place k)
                ((kept.funded.at place found.0 found.1).funded k is) (has-all place found.0 found.1);
          }
