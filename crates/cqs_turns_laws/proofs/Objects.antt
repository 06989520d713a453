-- What happened at a resource of a floor, after something happened there or elsewhere.
use Rattle.std.proofs.Common.{◌≡◌, ◌≢◌, ℕ, zero, suc, ◌<◌, List, [], ◌∷◌, Option, None, length, slice_get, ap, arith}
use Rattle.std.proofs.lemmas.List.{get_or-set_same, get_or-set_other}
use Rattle.cqs_plan.specs.declared.plans.kind.Kind.{Kind}
use Rattle.cqs_plan.specs.FloorHistory.{History, of_permits, Deed, standing_in, with_deed_in}
use Rattle.cqs_plan.specs.Floor.{PlainFloor, IsHoldable, IsLatch, HasRound, history_at, size_at, stands_in, with_done_in}

-- a place at which something is asked of a kind is there
below-by : (P : Option Kind → Type 0) → (P None → ⊥) → (kinds : List Kind) (at : ℕ) → P (slice_get kinds at)
    → at < length kinds
below-by P not [] at some = absurd (not some)
below-by P not (k ∷ kinds) zero some = omega arith
below-by P not (k ∷ kinds) (suc at) some =
    let below : at < length kinds = below-by P not kinds at some in omega (arith, below)

pub holdable-below : (kinds : List Kind) (at : ℕ) → IsHoldable (slice_get kinds at) → at < length kinds
holdable-below kinds at holdable = below-by IsHoldable (λ none. none) kinds at holdable

pub latch-below : (kinds : List Kind) (at : ℕ) → IsLatch (slice_get kinds at) → at < length kinds
latch-below kinds at latch = below-by IsLatch (λ none. none) kinds at latch

pub round-below : (kinds : List Kind) (at round : ℕ) → HasRound (slice_get kinds at) round → at < length kinds
round-below kinds at round has = below-by (λ k. HasRound k round) (λ none. none) kinds at has

module _ (f : PlainFloor) (at round : ℕ) (deed : Deed) where
  abbrev then : History
  then = with_deed_in (size_at f at) (history_at f at) round deed

  pub history-here : at < length f.histories → history_at (with_done_in f at round deed) at ≡ then
  history-here below = get_or-set_same f.histories at then (of_permits []) below

  pub history-else : (q : ℕ) → q ≢ at → history_at (with_done_in f at round deed) q ≡ history_at f q
  history-else q other = get_or-set_other f.histories at q then (of_permits []) other

  pub standing-here : (r : ℕ) → at < length f.histories
      → stands_in (with_done_in f at round deed) at r ≡ standing_in (size_at f at) then r
  standing-here r below = ap (λ h. standing_in (size_at f at) h r) (history-here below)

  pub standing-else : (q r : ℕ) → q ≢ at → stands_in (with_done_in f at round deed) q r ≡ stands_in f q r
  standing-else q r other = ap (λ h. standing_in (size_at f q) h r) (history-else q other)
