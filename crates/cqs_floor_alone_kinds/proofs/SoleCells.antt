-- The cells of a core whose one pass is between two calls: what stands in them of a wait.
use Rattle.std.proofs.Common.{◌≡◌, ◌≢◌, ◌⊎◌, inl, inr, ℕ, suc, ◌<◌, ◌≤◌, not, List, [], ◌∷◌, Option, Some, None, is_some, length, slice_get, refl, subst, arith}
use Rattle.cqs_core.specs.declared.cells.CoreState.{CoreState}
use Rattle.cqs_core.specs.declared.cells.CoreState.TheVariants as state
use Rattle.cqs_core.specs.Numbered.{cons_option, pick_each}
use Rattle.cqs_core.specs.QueueLine.{line, in_line}
use Rattle.cqs_core.specs.Resting.{IsResting}
use Rattle.cqs_core.specs.SemaphoreEntries.{find_wait}
use Rattle.cqs_core.specs.SemaphoreShown.{shown_semaphore}
use Rattle.cqs_core.specs.SemaphoreTable.{Shape, last_number}
use Rattle.cqs_core.specs.SoleCaller.{HasWait}
use Rattle.cqs_core.proofs.Quiet.{IsQuietAt, IsQuiet, quiet-cell, quiet-core}
use Rattle.cqs_core.proofs.SoleLine.{found-in_line, gone-from_line}
use Rattle.cqs_core.proofs.WaitCells.{IsOwnWait, has-wait}
use Rattle.cqs_floor_alone_kinds.specs.SoleCore.{IsSole, is_served_at}

-- at rest, where a further number may be drawn
pub sole-rests : (s : Shape) → IsSole s → s.queue.suspends < last_number → IsResting s
sole-rests s sole few = record { idle = sole.idle; numbers = few }

-- A wait's number was drawn, by the one pass; and its cell was served where it isn't in the line.
pub record IsRead (s : Shape) (k p : ℕ) : Type 0 where
  pub alone : p ≡ 0
  pub drawn : k < s.queue.suspends
  pub reads : is_served_at (slice_get s.queue.cells k) ≡ not (is_some (find_wait k (line s.queue)))

pub read-wait : (s : Shape) → IsSole s → IsResting s → (k p : ℕ) → HasWait k p (shown_semaphore s) → IsRead s k p
read-wait s sole rests k p has = go (has-wait s p k sole.core rests sole.untaken has)
  where
    quiet-at : (at : CoreState) (own : IsOwnWait s.queue p k at) → IsQuietAt s.queue k own.cell at
    quiet-at at own =
        subst (λ (x : CoreState). IsQuietAt s.queue k own.cell x) own.stands
        (quiet-cell s.queue sole.core.sound sole.idle k own.cell own.found)

    go : (IsOwnWait s.queue p k state.Waiter) ⊎ (IsOwnWait s.queue p k state.Resumed) → IsRead s k p
    go (inl own) =
        let there = found-in_line s.queue k own.cell sole.core.sound own.found own.stands in
        let quiet = quiet-at state.Waiter own in
        record {
          alone = omega (arith, own.there, sole.one);
          drawn = quiet.0;
          reads = rw (own.found, own.stands, there.1) refl;
        }
    go (inr own) =
        let other : own.cell.state ≢ state.Waiter = λ waits. let served = own.stands in absurd (cc (waits, served)) in
        let gone = gone-from_line s.queue k own.cell sole.core.sound sole.idle own.found other in
        let quiet = quiet-at state.Resumed own in
        record {
          alone = omega (arith, own.there, sole.one);
          drawn = quiet.0;
          reads = rw (own.found, own.stands, gone) refl;
        }

module _ {X Y : Type 0} (f : ℕ → X → Option Y) where
  length-picked-le : (n : ℕ) (xs : List X) → length (pick_each f n xs) ≤ length xs
  length-picked-le n [] = omega arith
  length-picked-le n (x ∷ xs) = go (f n x) (length-picked-le (suc n) xs)
    where
      go : (o : Option Y) → length (pick_each f (suc n) xs) ≤ length xs
          → length (cons_option o (pick_each f (suc n) xs)) ≤ length (x ∷ xs)
      go None few = omega arith
      go (Some y) few = omega arith

-- no more wait than numbers were drawn
pub line-few : (s : Shape) → IsSole s → IsResting s → length (shown_semaphore s).line ≤ s.queue.suspends
line-few s sole rests =
    let quiet : IsQuiet s = quiet-core s sole.core rests in
    omega (arith, quiet.made, length-picked-le (in_line s.queue.doing) 0 s.queue.cells)
