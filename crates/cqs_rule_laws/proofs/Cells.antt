-- How the cells go on: lists of cells with one written or made, what stands in them, and what was found there once.
use Rattle.std.proofs.Common.{◌≡◌, ◌≢◌, ◌⊎◌, ℕ, Bool, zero, suc, ◌<◌, List, [], ◌∷◌, ◌++◌, set, sym, refl, ap, ◌∙◌, subst, inl, inr, ⊎_elim, arith, Option, Some, None, slice_get}
use mathlib.Core.Logic.{dite}
use native.Mathlib.Decide.{ℕ_discrete}
use Rattle.std.proofs.lemmas.Option.{same_Some}
use Rattle.std.specs.Option.{option_and_then}
use Rattle.cqs_core.specs.declared.cells.CoreCell.{CoreCell}
use Rattle.cqs_core.specs.declared.cells.CoreState.{CoreState}
use Rattle.cqs_core.specs.declared.cells.CoreState.TheVariants as state
use Rattle.cqs_core.specs.declared.doings.Doing.TheVariants as doing
use Rattle.cqs_core.specs.QueueCells.{rank, IsInstalled, IsStanding}
use Rattle.cqs_core.specs.QueueState.{Queue, owner_doing}
use Rattle.cqs_core.specs.QueueAsUnbroken.{as_unbroken, unbroken_cell}
use Rattle.cqs_core.specs.QueueEither.{IsSoundEither}
use Rattle.cqs_core.specs.QueueSound.{IsLeft}
use Rattle.cqs_core.proofs.EitherCells.{intact-sound}
use Rattle.cqs_core.proofs.UnbrokenMoves.{does-read}
use Rattle.cqs_core.proofs.Places.{get-set_here, get-set_else}
use Rattle.cqs_rule_laws.specs.declared.view.Glimpse.{Glimpse}
use Rattle.cqs_rule_laws.specs.Hidden.{Hidden, state_in, state_at}
use Rattle.cqs_rule_laws.specs.Ruled.{IsSince}

pub same-or-not : (m n : ℕ) → (m ≡ n) ⊎ (m ≢ n)
same-or-not m n = dite (ℕ_discrete m n) (λ e. inl e) (λ a. inr a)

-- a cell of the same state is written
pub written_same : (cells : List CoreCell) (k j : ℕ) (old new : CoreCell) → slice_get cells k ≡ Some old
    → new.state ≡ old.state → state_in (slice_get (set cells k new) j) ≡ state_in (slice_get cells j)
written_same cells k j old new e same = ⊎_elim
    (λ (q : j ≡ k). subst (λ z. state_in (slice_get (set cells k new) z) ≡ state_in (slice_get cells z)) (sym q)
    (ap state_in (get-set_here cells k old new e) ∙ (same ∙ ap state_in (sym e))))
    (λ (a : j ≢ k). ap state_in (get-set_else cells k j new (λ q. a (sym q))))
    (same-or-not j k)

-- an empty cell is made behind the others
pub made_same : (cells : List CoreCell) (new : CoreCell) (j : ℕ) → new.state ≡ state.Empty
    → state_in (slice_get (cells ++ new ∷ []) j) ≡ state_in (slice_get cells j)
made_same [] new zero empty = empty
made_same [] new (suc j) empty = refl
made_same (x ∷ xs) new zero empty = refl
made_same (x ∷ xs) new (suc j) empty = made_same xs new j empty

-- what stands in a list with one more stood there before, or is the one
pub pushed-back : (cells : List CoreCell) (new : CoreCell) (j : ℕ) (x : CoreCell)
    → slice_get (cells ++ new ∷ []) j ≡ Some x → (slice_get cells j ≡ Some x) ⊎ (x ≡ new)
pushed-back [] new zero x e = inr (sym (same_Some new x e))
pushed-back [] new (suc j) x e = absurd (cc)
pushed-back (y ∷ ys) new zero x e = inl e
pushed-back (y ∷ ys) new (suc j) x e = pushed-back ys new j x e

module _ {sync : Bool} (q : Queue) (sound : IsSoundEither sync q) where
  -- a waiter stands only in the cell of a number that was drawn to suspend at
  pub installed-drawn : (k : ℕ) (cell : CoreCell) (x : CoreState) → slice_get q.cells k ≡ Some cell → cell.state ≡ x
      → IsInstalled x → k < q.suspends
  installed-drawn k cell state.Waiter there at i = (intact-sound sync q sound k cell state.Waiter there at tt).0.drawn
  installed-drawn k cell state.Resumed there at i = (intact-sound sync q sound k cell state.Resumed there at tt).0.drawn
  installed-drawn k cell state.Cancelling there at i =
      (intact-sound sync q sound k cell state.Cancelling there at tt).0.entered.drawn
  installed-drawn k cell state.Delegated there at i =
      (intact-sound sync q sound k cell state.Delegated there at tt).0.entered.drawn
  installed-drawn k cell state.Empty there at i = absurd i
  installed-drawn k cell state.Value there at i = absurd i
  installed-drawn k cell state.Taken there at i = absurd i
  installed-drawn k cell state.Broken there at i = absurd i
  installed-drawn k cell state.Cancelled there at i = absurd i
  installed-drawn k cell state.Refused there at i = absurd i

  not-leaving : (p k : ℕ) (cell : CoreCell) → IsLeft (as_unbroken q) k (unbroken_cell cell) → cell.owner ≡ Some p
      → slice_get q.doing p ≡ Some doing.Idle → ⊥
  not-leaving p k cell left owner idle =
      let does : owner_doing (as_unbroken q).doing (unbroken_cell cell) ≡ Some doing.Idle =
      ap (λ (o : Option ℕ). option_and_then (λ n. slice_get (as_unbroken q).doing n) o) owner
      ∙ does-read q p doing.Idle idle in
      ⊎_elim
      (λ (leaves : owner_doing (as_unbroken q).doing (unbroken_cell cell) ≡ Some (doing.Leaving k)).
      let both = sym does ∙ leaves in absurd (cc))
      (λ (decided : (on : Bool)
      × (owner_doing (as_unbroken q).doing (unbroken_cell cell) ≡ Some (doing.Decided k on))).
      let both = sym does ∙ decided.1 in absurd (cc))
      left.stage

  -- in the cell of an idle pass's wait nobody is leaving
  pub idle-stands : (p k : ℕ) (cell : CoreCell) (x : CoreState) → slice_get q.cells k ≡ Some cell → cell.state ≡ x
      → IsInstalled x
      → cell.owner ≡ Some p → slice_get q.doing p ≡ Some doing.Idle → IsStanding x
  idle-stands p k cell state.Waiter there at i owner idle = tt
  idle-stands p k cell state.Resumed there at i owner idle = tt
  idle-stands p k cell state.Cancelling there at i owner idle =
      absurd (not-leaving p k cell (intact-sound sync q sound k cell state.Cancelling there at tt).0 owner idle)
  idle-stands p k cell state.Delegated there at i owner idle =
      absurd (not-leaving p k cell (intact-sound sync q sound k cell state.Delegated there at tt).0 owner idle)
  idle-stands p k cell state.Empty there at i owner idle = absurd i
  idle-stands p k cell state.Value there at i owner idle = absurd i
  idle-stands p k cell state.Taken there at i owner idle = absurd i
  idle-stands p k cell state.Broken there at i owner idle = absurd i
  idle-stands p k cell state.Cancelled there at i owner idle = absurd i
  idle-stands p k cell state.Refused there at i owner idle = absurd i

-- a cell is as it was, or has gone on
abbrev pub GoesOn : Hidden → Hidden → ℕ → Type 0
GoesOn c d j = ((state_at d.queue j ≡ state_at c.queue j) × (d.payloads j ≡ c.payloads j))
    ⊎ (rank (state_at c.queue j) < rank (state_at d.queue j))

-- what was found in a cell once is there still, or the cell has gone on
pub since-on : (c d : Hidden) (last : Option Glimpse) → ((j : ℕ) → GoesOn c d j) → IsSince c last → IsSince d last
since-on c d None goes since = tt
since-on c d (Some g) goes since = by (goes g.number) since
  where
    by : GoesOn c d g.number → IsSince c (Some g) → IsSince d (Some g)
    by (inl same) (inl is) = inl (same.0 ∙ is.0, same.1 ∙ is.1)
    by (inl same) (inr rose) = inr (subst (λ (z : CoreState). rank g.state < rank z) (sym same.0) rose)
    by (inr rises) (inl is) = inr (subst (λ (z : CoreState). rank z < rank (state_at d.queue g.number)) is.0 rises)
    by (inr rises) (inr rose) = inr (omega arith)
