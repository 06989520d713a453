-- A sole caller polls or cancels a wait: it stands in the line where its cell still waits, and else was served.
use Rattle.std.proofs.Common.{◌≡◌, ◌≢◌, ◌⊎◌, inl, inr, ℕ, ◌+◌, ◌≤◌, Bool, true, false, pos, [], ◌∷◌, ◌++◌, Option, Some, None, slice_get, set, refl, ap, sym, ◌∙◌, arith}
use Rattle.std.specs.Prelude.{int_lt, if◌then◌else◌}
use Rattle.std.specs.Option.{option_and_then}
use Rattle.std.proofs.lemmas.List.{set-set}
use Rattle.cqs_core.specs.declared.calls.Call.TheVariants as call
use Rattle.cqs_core.specs.declared.calls.Reply.TheVariants as reply
use Rattle.cqs_core.specs.declared.cells.CoreCell.{CoreCell}
use Rattle.cqs_core.specs.declared.cells.CoreState.{CoreState}
use Rattle.cqs_core.specs.declared.cells.CoreState.TheVariants as state
use Rattle.cqs_core.specs.declared.doings.Doing.TheVariants as doing
use Rattle.cqs_core.specs.declared.entries.Entry.TheVariants as entry
use Rattle.cqs_core.specs.declared.events.Event.TheVariants as event
use Rattle.cqs_core.specs.declared.outcomes.Outcome.TheVariants as outcome
use Rattle.cqs_core.specs.Numbered.{EachAt}
use Rattle.cqs_core.specs.QueueLine.{Waiting, line}
use Rattle.cqs_core.specs.QueueMoves as move
use Rattle.cqs_core.specs.QueueMoves.{at_state}
use Rattle.cqs_core.specs.Resting.{IsResting}
use Rattle.cqs_core.specs.SemaphoreCalls.{replied, first, onward, cancels_at, after_look, after_leave, after_decide, after_settle}
use Rattle.cqs_core.specs.SemaphoreEntries.{find_wait}
use Rattle.cqs_core.specs.SemaphoreShown.{IsCore, shown_semaphore}
use Rattle.cqs_core.specs.SemaphoreTable.{Shape, step, look_at, look_with, look_row, leave_at, leave_with, leave_row, adds, records, moves, is_with}
use Rattle.cqs_core.specs.SoleCaller.{HasWait, NoneTaken}
use Rattle.cqs_core.proofs.EachAtLemmas.{EachAt-write}
use Rattle.cqs_core.proofs.Places.{get-set_here}
use Rattle.cqs_core.proofs.SoleLine.{found-in_line, gone-from_line}
use Rattle.cqs_core_run.proofs.SoleStart.{IsSoleCourse, sole-along, idle-again, write-thrice, cases_idle, pass-there}
use Rattle.cqs_core.proofs.EitherTable.{owns-from}
use Rattle.cqs_core.proofs.WaitCells.{IsOwnWait, has-wait, waiter-waits, resumed-served}

-- the line has the wait of a cell that waits, and not that of one that was served
line-has : (s : Shape) (k : ℕ) (cell : CoreCell) → IsCore s → slice_get s.queue.cells k ≡ Some cell
    → state.Waiter ≡ cell.state → (w : Waiting) × (find_wait k (line s.queue) ≡ Some w)
line-has s k cell core found waits = found-in_line s.queue k cell core.sound found (sym waits)

line-lacks : (s : Shape) (k : ℕ) (cell : CoreCell) → IsCore s → IsResting s → slice_get s.queue.cells k ≡ Some cell
    → state.Resumed ≡ cell.state → find_wait k (line s.queue) ≡ None
line-lacks s k cell core rests found served =
    gone-from_line s.queue k cell core.sound rests.idle found (λ waits. absurd (cc (served, waits)))

-- a wait that is allowed to be asked for is the pass's own
has-waiter : (s : Shape) (p k : ℕ) (cell : CoreCell) → slice_get s.queue.cells k ≡ Some cell → is_with p cell ≡ true
    → state.Waiter ≡ cell.state → HasWait k p (shown_semaphore s)
has-waiter s p k cell found own waits =
    inl (waiter-waits s.queue p k cell found (owns-from p cell own).owner (sym waits))

has-served : (s : Shape) (p k : ℕ) (cell : CoreCell) → slice_get s.queue.cells k ≡ Some cell → is_with p cell ≡ true
    → state.Resumed ≡ cell.state → HasWait k p (shown_semaphore s)
has-served s p k cell found own served =
    let owns = owns-from p cell own in
    inr (resumed-served s.queue p k cell found owns.owner owns.uncollected (sym served))

-- a call that finds no such cell, or none of the pass's, or none that waits or was resumed, is refused rightly
no-pass : (s : Shape) (p k : ℕ) → IsCore s → IsResting s → slice_get s.queue.doing p ≡ None → NoneTaken s
    → ¬ HasWait k p (shown_semaphore s)
no-pass s p k core rests none untaken may = go (has-wait s p k core rests untaken may)
  where
    go : (IsOwnWait s.queue p k state.Waiter) ⊎ (IsOwnWait s.queue p k state.Resumed) → ⊥
    go (inl own) = pass-there s.queue.doing p none own.there
    go (inr own) = pass-there s.queue.doing p none own.there

no-cell : (s : Shape) (p k : ℕ) → IsCore s → IsResting s → slice_get s.queue.cells k ≡ None → NoneTaken s
    → ¬ HasWait k p (shown_semaphore s)
no-cell s p k core rests none untaken may = go (has-wait s p k core rests untaken may)
  where
    go : (IsOwnWait s.queue p k state.Waiter) ⊎ (IsOwnWait s.queue p k state.Resumed) → ⊥
    go (inl own) = absurd (cc (none, own.found))
    go (inr own) = absurd (cc (none, own.found))

not-own : (s : Shape) (p k : ℕ) (cell : CoreCell) → IsCore s → IsResting s → slice_get s.queue.cells k ≡ Some cell
    → is_with p cell ≡ false → NoneTaken s → ¬ HasWait k p (shown_semaphore s)
not-own s p k cell core rests found other untaken may = go (has-wait s p k core rests untaken may)
  where
    another : (at : CoreState) → IsOwnWait s.queue p k at → ⊥
    another at own =
        let same : own.cell ≡ cell = cc (found, own.found) in
        absurd (cc (other, ap (is_with p) (sym same), own.own))

    go : (IsOwnWait s.queue p k state.Waiter) ⊎ (IsOwnWait s.queue p k state.Resumed) → ⊥
    go (inl own) = another state.Waiter own
    go (inr own) = another state.Resumed own

neither-own : (s : Shape) (p k : ℕ) (cell : CoreCell) → IsCore s → IsResting s → slice_get s.queue.cells k ≡ Some cell
    → cell.state ≢ state.Waiter → cell.state ≢ state.Resumed → NoneTaken s → ¬ HasWait k p (shown_semaphore s)
neither-own s p k cell core rests found waits served untaken may = go (has-wait s p k core rests untaken may)
  where
    stands : (at : CoreState) → IsOwnWait s.queue p k at → cell.state ≡ at
    stands at own =
        let same : own.cell ≡ cell = cc (found, own.found) in ap (λ x. x.state) (sym same) ∙ own.stands

    go : (IsOwnWait s.queue p k state.Waiter) ⊎ (IsOwnWait s.queue p k state.Resumed) → ⊥
    go (inl own) = waits (stands state.Waiter own)
    go (inr own) = served (stands state.Resumed own)

-- a write that closes a wait takes no value
untaken-write : (s : Shape) (k : ℕ) (old new : CoreCell) → slice_get s.queue.cells k ≡ Some old
    → new.state ≢ state.Taken
    → NoneTaken s → EachAt (λ j c. c.state ≢ state.Taken) (set s.queue.cells k new)
untaken-write s k old new found fresh none =
    EachAt-write (λ j c. c.state ≢ state.Taken) (λ j c. c.state ≢ state.Taken) s.queue.cells k old new found fresh
    (λ j x got other is. is) none

untaken-collected : (s : Shape) (k : ℕ) (cell : CoreCell) → slice_get s.queue.cells k ≡ Some cell
    → state.Resumed ≡ cell.state
    → NoneTaken s
    → EachAt (λ j c. c.state ≢ state.Taken)
    (set s.queue.cells k (record { state = cell.state; owner = cell.owner; collected = true }))
untaken-collected s k cell found served none =
    untaken-write s k cell (record { state = cell.state; owner = cell.owner; collected = true }) found
    (λ taken. absurd (cc (served, taken))) none

sole-look : (s : Shape) (p k : ℕ) (cell : CoreCell) (at : CoreState) → IsCore s → IsResting s
    → slice_get s.queue.cells k ≡ Some cell → is_with p cell ≡ true → at ≡ cell.state
    → IsSoleCourse s (call.Poll p k) (first (look_at s p k cell at) after_look)
sole-look s p k cell state.Waiter core rests found own is =
    let there = line-has s k cell core found is in
    record {
      held = refl;
      numbers = omega arith;
      permits = refl;
      allowed = has-waiter s p k cell found own is;
      appended = rw there.1 refl;
      replied = rw there.1 refl;
      idle = rests.idle;
      untaken = λ untaken. untaken;
    }
sole-look s p k cell state.Resumed core rests found own is =
    let gone = line-lacks s k cell core rests found is in
    record {
      held = refl;
      numbers = omega arith;
      permits = refl;
      allowed = has-served s p k cell found own is;
      appended = rw gone refl;
      replied = rw gone refl;
      idle = rests.idle;
      untaken = untaken-collected s k cell found is;
    }
sole-look s p k cell _ core rests found own is =
    neither-own s p k cell core rests found (λ waits. absurd (cc (is, waits))) (λ served. absurd (cc (is, served)))

sole-look_with : (s : Shape) (p k : ℕ) (cell : CoreCell) (mine : Bool) → IsCore s → IsResting s
    → slice_get s.queue.cells k ≡ Some cell → is_with p cell ≡ mine
    → IsSoleCourse s (call.Poll p k) (first (if mine then look_at s p k cell cell.state else None) after_look)
sole-look_with s p k cell true core rests found own = sole-look s p k cell cell.state core rests found own refl
sole-look_with s p k cell false core rests found own = not-own s p k cell core rests found own

pub sole-poll : (s : Shape) (p k : ℕ) → IsCore s → IsResting s
    → IsSoleCourse s (call.Poll p k) (first (look_row s p k (slice_get s.queue.doing p)) after_look)
sole-poll s p k core rests = go (cases_idle s.queue.doing p rests.idle)
  where
    at : (c : Option CoreCell) → slice_get s.queue.cells k ≡ c
        → IsSoleCourse s (call.Poll p k) (first (option_and_then (λ cell. look_with s p k cell) c) after_look)
    at None found = no-cell s p k core rests found
    at (Some cell) found = sole-look_with s p k cell (is_with p cell) core rests found refl

    go : (slice_get s.queue.doing p ≡ None) ⊎ (slice_get s.queue.doing p ≡ Some doing.Idle)
        → IsSoleCourse s (call.Poll p k) (first (look_row s p k (slice_get s.queue.doing p)) after_look)
    go (inl none) =
        sole-along s (call.Poll p k) _ _ (ap (λ o. first (look_row s p k o) after_look) none)
        (no-pass s p k core rests none)
    go (inr does) =
        sole-along s (call.Poll p k) _ _ (ap (λ o. first (look_row s p k o) after_look) does)
        (at (slice_get s.queue.cells k) refl)

-- a core whose pass has begun to cancel wait k
abbrev leaving : Shape → ℕ → ℕ → CoreCell → Shape
leaving s p k cell = moves s (move.begin_cancel p k cell)

-- and after the state has answered
abbrev decided : Shape → ℕ → ℕ → CoreCell → Bool → Shape
decided s p k cell on = records (moves (adds (leaving s p k cell)) (move.decide p k on)) (entry.Leave p k)

-- and after its cell is settled
abbrev settled : Shape → ℕ → ℕ → CoreCell → Bool → Shape
settled s p k cell true = moves (decided s p k cell true) (move.cancel p k (at_state cell state.Cancelling))
settled s p k cell false = moves (decided s p k cell false) (move.refuse p k (at_state cell state.Cancelling))

decides : (s : Shape) (p k : ℕ) (cell : CoreCell) (on : Bool) → slice_get s.queue.doing p ≡ Some doing.Idle
    → int_lt s.state (pos 0) ≡ on
    → step (leaving s p k cell) (event.Decide p)
    ≡ Some (record { shape = decided s p k cell on; outcome = outcome.Decided on })
decides s p k cell true does is = rw (get-set_here s.queue.doing p doing.Idle (doing.Leaving k) does, is) refl
decides s p k cell false does is = rw (get-set_here s.queue.doing p doing.Idle (doing.Leaving k) does, is) refl

settles : (s : Shape) (p k : ℕ) (cell : CoreCell) (on : Bool) → slice_get s.queue.doing p ≡ Some doing.Idle
    → slice_get s.queue.cells k ≡ Some cell
    → onward (step (decided s p k cell on) (event.Settle p)) (after_settle p)
    ≡ replied (settled s p k cell on) reply.Cancelled
settles s p k cell true does found =
    rw (
      get-set_here (set s.queue.doing p (doing.Leaving k)) p (doing.Leaving k) (doing.Decided k true)
          (get-set_here s.queue.doing p doing.Idle (doing.Leaving k) does),
      get-set_here s.queue.cells k cell (at_state cell state.Cancelling) found,
    ) refl
settles s p k cell false does found =
    rw (
      get-set_here (set s.queue.doing p (doing.Leaving k)) p (doing.Leaving k) (doing.Decided k false)
          (get-set_here s.queue.doing p doing.Idle (doing.Leaving k) does),
      get-set_here s.queue.cells k cell (at_state cell state.Cancelling) found,
    ) refl

settled-idle : (s : Shape) (p k : ℕ) (cell : CoreCell) (on : Bool)
    → (settled s p k cell on).queue.doing ≡ set s.queue.doing p doing.Idle
settled-idle s p k cell true = write-thrice s.queue.doing p (doing.Leaving k) (doing.Decided k true) doing.Idle
settled-idle s p k cell false = write-thrice s.queue.doing p (doing.Leaving k) (doing.Decided k false) doing.Idle

settled-history : (s : Shape) (p k : ℕ) (cell : CoreCell) (on : Bool)
    → (settled s p k cell on).history ≡ s.history ++ entry.Leave p k ∷ []
settled-history s p k cell true = refl
settled-history s p k cell false = refl

untaken-settled : (s : Shape) (p k : ℕ) (cell : CoreCell) (on : Bool) → slice_get s.queue.cells k ≡ Some cell
    → NoneTaken s → NoneTaken (settled s p k cell on)
untaken-settled s p k cell true found none =
    rw (set-set s.queue.cells k (at_state cell state.Cancelling) (at_state cell state.Cancelled))
    (untaken-write s k cell (at_state cell state.Cancelled) found (λ e. absurd (cc)) none)
untaken-settled s p k cell false found none =
    rw (set-set s.queue.cells k (at_state cell state.Cancelling) (at_state cell state.Refused))
    (untaken-write s k cell (at_state cell state.Refused) found (λ e. absurd (cc)) none)

settled-held : (s : Shape) (p k : ℕ) (cell : CoreCell) (on : Bool) → (settled s p k cell on).held ≡ s.held
settled-held s p k cell true = refl
settled-held s p k cell false = refl

settled-permits : (s : Shape) (p k : ℕ) (cell : CoreCell) (on : Bool) → (settled s p k cell on).permits ≡ s.permits
settled-permits s p k cell true = refl
settled-permits s p k cell false = refl

settled-numbers : (s : Shape) (p k : ℕ) (cell : CoreCell) (on : Bool)
    → (settled s p k cell on).queue.suspends ≤ s.queue.suspends + 1
settled-numbers s p k cell true = omega arith
settled-numbers s p k cell false = omega arith

sole-cancelling : (s : Shape) (p k : ℕ) (cell : CoreCell) (on : Bool) → IsCore s → IsResting s
    → slice_get s.queue.doing p ≡ Some doing.Idle → slice_get s.queue.cells k ≡ Some cell → is_with p cell ≡ true
    → state.Waiter ≡ cell.state → int_lt s.state (pos 0) ≡ on
    → IsSoleCourse s (call.Cancel p k) (cancels_at p (leaving s p k cell))
sole-cancelling s p k cell on core rests does found own waits is =
    let there = line-has s k cell core found waits in
    sole-along s (call.Cancel p k) _ _
    (ap (λ row. onward row (after_decide p)) (decides s p k cell on does is) ∙ settles s p k cell on does found)
    (record {
      held = settled-held s p k cell on;
      numbers = settled-numbers s p k cell on;
      permits = settled-permits s p k cell on;
      allowed = has-waiter s p k cell found own waits;
      appended = settled-history s p k cell on ∙ rw there.1 refl;
      replied = rw there.1 refl;
      idle = rw (settled-idle s p k cell on) (idle-again s.queue.doing p doing.Idle does rests.idle);
      untaken = untaken-settled s p k cell on found;
    })

sole-leave : (s : Shape) (p k : ℕ) (cell : CoreCell) (at : CoreState) → IsCore s → IsResting s
    → slice_get s.queue.doing p ≡ Some doing.Idle → slice_get s.queue.cells k ≡ Some cell → is_with p cell ≡ true
    → at ≡ cell.state → IsSoleCourse s (call.Cancel p k) (first (leave_at s p k cell at) (after_leave p))
sole-leave s p k cell state.Waiter core rests does found own is =
    sole-cancelling s p k cell (int_lt s.state (pos 0)) core rests does found own is refl
sole-leave s p k cell state.Resumed core rests does found own is =
    let gone = line-lacks s k cell core rests found is in
    record {
      held = refl;
      numbers = omega arith;
      permits = refl;
      allowed = has-served s p k cell found own is;
      appended = rw gone refl;
      replied = rw gone refl;
      idle = rests.idle;
      untaken = untaken-collected s k cell found is;
    }
sole-leave s p k cell _ core rests does found own is =
    neither-own s p k cell core rests found (λ waits. absurd (cc (is, waits))) (λ served. absurd (cc (is, served)))

sole-leave_with : (s : Shape) (p k : ℕ) (cell : CoreCell) (mine : Bool) → IsCore s → IsResting s
    → slice_get s.queue.doing p ≡ Some doing.Idle → slice_get s.queue.cells k ≡ Some cell → is_with p cell ≡ mine
    → IsSoleCourse s (call.Cancel p k)
    (first (if mine then leave_at s p k cell cell.state else None) (after_leave p))
sole-leave_with s p k cell true core rests does found own =
    sole-leave s p k cell cell.state core rests does found own refl
sole-leave_with s p k cell false core rests does found own = not-own s p k cell core rests found own

pub sole-cancel : (s : Shape) (p k : ℕ) → IsCore s → IsResting s
    → IsSoleCourse s (call.Cancel p k) (first (leave_row s p k (slice_get s.queue.doing p)) (after_leave p))
sole-cancel s p k core rests = go (cases_idle s.queue.doing p rests.idle)
  where
    at : slice_get s.queue.doing p ≡ Some doing.Idle → (c : Option CoreCell) → slice_get s.queue.cells k ≡ c
        → IsSoleCourse s (call.Cancel p k) (first (option_and_then (λ cell. leave_with s p k cell) c) (after_leave p))
    at does None found = no-cell s p k core rests found
    at does (Some cell) found = sole-leave_with s p k cell (is_with p cell) core rests does found refl

    go : (slice_get s.queue.doing p ≡ None) ⊎ (slice_get s.queue.doing p ≡ Some doing.Idle)
        → IsSoleCourse s (call.Cancel p k) (first (leave_row s p k (slice_get s.queue.doing p)) (after_leave p))
    go (inl none) =
        sole-along s (call.Cancel p k) _ _ (ap (λ o. first (leave_row s p k o) (after_leave p)) none)
        (no-pass s p k core rests none)
    go (inr does) =
        sole-along s (call.Cancel p k) _ _ (ap (λ o. first (leave_row s p k o) (after_leave p)) does)
        (at does (slice_get s.queue.cells k) refl)
