-- Which cells are settled, where the queue is synchronous or isn't: those that are settled in the reading of the queue
-- and that nobody watches.
use Rattle.std.proofs.Common.{◌≡◌, ◌≢◌, ◌↔◌, ℕ, ◌<◌, Bool, true, false, List, Some, set, slice_get, refl, sym, ap, ◌∙◌, subst}
use Rattle.std.proofs.lemmas.Option.{same_Some}
use mathlib.Core.Logic.{dite}
use native.Mathlib.Decide.{ℕ_discrete}
use Rattle.cqs_core.specs.declared.cells.CoreCell.{CoreCell}
use Rattle.cqs_core.specs.declared.cells.CoreState.{CoreState}
use Rattle.cqs_core.specs.declared.cells.CoreState.TheVariants as state
use Rattle.cqs_core.specs.declared.doings.Doing.{Doing}
use Rattle.cqs_core.specs.declared.doings.Doing.TheVariants as doing
use Rattle.cqs_core.specs.QueueAsUnbroken.{as_unbroken, unbroken_cell, unbroken_state, IsUnbroken}
use Rattle.cqs_core.specs.QueueEither.{HoldsWatched, IsSoundEither}
use Rattle.cqs_core.specs.QueueEitherSettled.{IsUnwatched, IsSettledEitherAt, IsSettledEither}
use Rattle.cqs_core.specs.QueueSettled.{IsSettledAt, IsSettled}
use Rattle.cqs_core.specs.QueueState.{Queue}
use Rattle.cqs_core.specs.QueueStages.{IsWatched}
use Rattle.cqs_core.proofs.EitherFacts.{plain-read}
use Rattle.cqs_core.proofs.Places.{get-set_here, get-set_else}
use Rattle.cqs_core.proofs.QueueAsUnbroken.{IsMapped, map-get, get-map, has_ticket-unwatching}
use Rattle.cqs_core.proofs.QueueFrozen.{settled-drawn}

module _ (q : Queue) (k : ℕ) where
  abbrev v : Queue
  v = as_unbroken q

  at-read : (cell : CoreCell) (s : CoreState) → IsSettledEitherAt q k cell s
      → IsSettledAt v k (unbroken_cell cell) (unbroken_state s cell.collected)
  at-read cell state.Taken at = tt
  at-read cell state.Broken at =
      subst (λ b. IsSettledAt v k (unbroken_cell cell) (unbroken_state state.Broken b)) (sym at) tt
  at-read cell state.Resumed at = at
  at-read cell state.Cancelled at = tt
  at-read cell state.Refused at = (at.0, has_ticket-unwatching k q.doing ∙ at.1)
  at-read cell state.Empty at = at
  at-read cell state.Waiter at = at
  at-read cell state.Value at = at
  at-read cell state.Cancelling at = at
  at-read cell state.Delegated at = at

  at-back : (cell : CoreCell) (s : CoreState) (b : Bool) → cell.collected ≡ b → IsUnwatched q k
      → IsSettledAt v k (unbroken_cell cell) (unbroken_state s b) → IsSettledEitherAt q k cell s
  at-back cell state.Taken b has none at = none
  at-back cell state.Broken true has none at = has
  at-back cell state.Broken false has none at = absurd at
  at-back cell state.Resumed b has none at = at
  at-back cell state.Cancelled b has none at = tt
  at-back cell state.Refused b has none at = (at.0, sym (has_ticket-unwatching k q.doing) ∙ at.1)
  at-back cell state.Empty b has none at = at
  at-back cell state.Waiter b has none at = at
  at-back cell state.Value b has none at = at
  at-back cell state.Cancelling b has none at = at
  at-back cell state.Delegated b has none at = at

  -- a settled cell is settled in the reading
  pub settled-read : IsSettledEither q k → IsSettled v k
  settled-read s = record {
    cell = unbroken_cell s.cell;
    there = get-map unbroken_cell q.cells k s.cell s.there;
    at = at-read s.cell s.cell.state s.at;
  }

  -- and back, where nobody watches it
  pub read-settled : IsSettled v k → IsUnwatched q k → IsSettledEither q k
  read-settled s none =
      let from : IsMapped unbroken_cell q.cells k s.cell = map-get unbroken_cell q.cells k s.cell s.there in
      record {
        cell = from.element;
        there = from.there;
        at = at-back from.element from.element.state from.element.collected refl none
            (subst (λ (c : CoreCell). IsSettledAt v k c c.state) (sym from.is) s.at);
      }

-- a settled cell that may be watched is one that was taken
unwatched-at : (q : Queue) (k : ℕ) (cell : CoreCell) (s : CoreState) → IsSettledEitherAt q k cell s → IsWatched s
    → IsUnwatched q k
unwatched-at q k cell state.Taken at w = at
unwatched-at q k cell state.Value at w = absurd at
unwatched-at q k cell state.Empty at w = absurd w
unwatched-at q k cell state.Waiter at w = absurd w
unwatched-at q k cell state.Broken at w = absurd w
unwatched-at q k cell state.Resumed at w = absurd w
unwatched-at q k cell state.Cancelling at w = absurd w
unwatched-at q k cell state.Delegated at w = absurd w
unwatched-at q k cell state.Cancelled at w = absurd w
unwatched-at q k cell state.Refused at w = absurd w

-- nobody watches a settled cell
pub settled-unwatched : (sync : Bool) (q : Queue) (k : ℕ) → IsSoundEither sync q → IsSettledEither q k
    → IsUnwatched q k
settled-unwatched sync q k is s p does =
    let h : HoldsWatched q k = is.watches p k does in
    unwatched-at q k s.cell s.cell.state s.at
    (subst (λ (c : CoreCell). IsWatched c.state) (same_Some h.cell s.cell (sym h.there ∙ s.there)) h.at) p does

-- it was drawn by a suspend
pub either-drawn : (sync : Bool) (q : Queue) (k : ℕ) → IsSoundEither sync q → IsSettledEither q k → k < q.suspends
either-drawn sync q k is s = settled-drawn (as_unbroken q) k is.reads (settled-read q k s)

-- a queue with no broken cell and no watcher reads as itself
pub settled-alike : (q : Queue) (k : ℕ) → IsUnbroken q → IsSettledEither q k ↔ IsSettled q k
settled-alike q k plain = (
  λ s. subst (λ (r : Queue). IsSettled r k) (plain-read q plain) (settled-read q k s),
  λ s. read-settled q k (subst (λ (r : Queue). IsSettled r k) (sym (plain-read q plain)) s)
      (λ p does. plain.passes.at p (doing.Watching k) does),
)

-- WHO WATCHES, AS A PASS GOES ON.

module _ (q d : Queue) (p : ℕ) (from to : Doing) (does : slice_get q.doing p ≡ Some from)
    (now : d.doing ≡ set q.doing p to) (j : ℕ) where
  -- nobody comes to watch the number where the pass doesn't
  pub unwatched-then : to ≢ doing.Watching j → IsUnwatched q j → IsUnwatched d j
  unwatched-then none un r watches =
      let then : slice_get (set q.doing p to) r ≡ Some (doing.Watching j) =
      ap (λ (l : List Doing). slice_get l r) (sym now) ∙ watches in
      dite (ℕ_discrete r p)
      (λ (e : r ≡ p). none (same_Some to (doing.Watching j) (sym (get-set_here q.doing p from to does)
      ∙ (ap (slice_get (set q.doing p to)) (sym e) ∙ then))))
      (λ (a : r ≢ p). un r (sym (get-set_else q.doing p r to (λ e. a (sym e))) ∙ then))

  -- nor ceases to
  pub unwatched-before : from ≢ doing.Watching j → IsUnwatched d j → IsUnwatched q j
  unwatched-before none un r watches = dite (ℕ_discrete r p)
      (λ (e : r ≡ p). none (same_Some from (doing.Watching j) (sym does ∙ (ap (slice_get q.doing) (sym e) ∙ watches))))
      (λ (a : r ≢ p). un r (ap (λ (l : List Doing). slice_get l r) now
      ∙ (get-set_else q.doing p r to (λ e. a (sym e)) ∙ watches)))
