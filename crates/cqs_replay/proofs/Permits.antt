-- No event changes with how many permits the core was made.
use Rattle.std.proofs.Common.{◌≡◌, ℕ, nat_lt, pos, int_lt, int_le, Bool, true, false, List, [], ◌∷◌, Option, Some, None, refl, ◌∙◌, subst, slice_get, slice_index, if◌then◌else◌}
use Rattle.std.specs.Ordering.{int_eq}
use Rattle.std.specs.Option.{option_and_then, option_map_or}
use Rattle.cqs_core.specs.declared.cells.CoreCell.{CoreCell}
use Rattle.cqs_core.specs.declared.cells.CoreState.{CoreState}
use Rattle.cqs_core.specs.declared.cells.CoreState.TheVariants as state
use Rattle.cqs_core.specs.declared.doings.Doing.{Doing}
use Rattle.cqs_core.specs.declared.doings.Doing.TheVariants as doing
use Rattle.cqs_core.specs.declared.events.Event.{Event}
use Rattle.cqs_core.specs.declared.events.Event.TheVariants as event
use Rattle.cqs_core.specs.declared.entries.Entry.TheVariants as entry
use Rattle.cqs_core.specs.declared.outcomes.Outcome.TheVariants as outcome
use Rattle.cqs_core.specs.QueueMoves as move
use Rattle.cqs_core.specs.QueueMoves.{at_state}
use Rattle.cqs_core.specs.SemaphoreEntries.{IsLegal}
use Rattle.cqs_core.specs.SemaphoreTable.{Shape, Stepped, gains, loses, adds, takes, records, moves, writes, answers, lowest, last_number, is_with, step, take_row, try_load_row, try_swap_row, draw_row, install_at, install_row, give_row, reach_row, meet_at, meet_row, see_at, see_row, break_at, break_row, leave_at, leave_with, leave_row, decide_row, settle_at, settle_row, look_at, look_with, look_row}
use Rattle.cqs_replay.specs.declared.schedules.Schedule.{Schedule}
use Rattle.cqs_replay.specs.Runs.{after_events, after_run, opened}

-- what an event makes has as many permits
abbrev Keeps : Shape → Option Stepped → Type 0
Keeps s None = Unit {0}
Keeps s (Some row) = row.shape.permits ≡ s.permits

if-kept : (s : Shape) (b : Bool) (x y : Option Stepped) → Keeps s x → Keeps s y
    → Keeps s (if b then x else y)
if-kept s true x y first second = first
if-kept s false x y first second = second

and-kept : {A : Type 0} (s : Shape) (made : A → Option Stepped) (found : Option A)
    → ((a : A) → Keeps s (made a))
    → Keeps s (option_and_then made found)
and-kept s made None each = tt
and-kept s made (Some a) each = each a

take-row-kept : (s : Shape) (p : ℕ) (d : Option Doing) → Keeps s (take_row s p d)
take-row-kept s p (Some doing.Idle) = if-kept s (int_lt lowest s.state)
    (if int_lt (pos 0) s.state then answers (records (gains (takes s) p) (entry.TakeNow p))
    outcome.Now else answers (records (moves (takes s) (move.turn p doing.Idle doing.Door))
    (entry.TakeDoor p)) outcome.Door) None
    (if-kept s (int_lt (pos 0) s.state)
    (answers (records (gains (takes s) p) (entry.TakeNow p)) outcome.Now)
    (answers (records (moves (takes s) (move.turn p doing.Idle doing.Door))
    (entry.TakeDoor p)) outcome.Door) refl refl) tt
take-row-kept s p (Some (doing.TryAt v)) = tt
take-row-kept s p (Some doing.Door) = tt
take-row-kept s p (Some (doing.Drawn n)) = tt
take-row-kept s p (Some doing.Owes) = tt
take-row-kept s p (Some (doing.Ticket n)) = tt
take-row-kept s p (Some (doing.Leaving n)) = tt
take-row-kept s p (Some (doing.Watching n)) = tt
take-row-kept s p (Some (doing.Decided n on)) = tt
take-row-kept s p None = tt

try-load-row-kept : (s : Shape) (p : ℕ) (d : Option Doing) → Keeps s (try_load_row s p d)
try-load-row-kept s p (Some doing.Idle) = if-kept s (int_le s.state (pos 0))
    (answers (records s (entry.TryBusy p)) outcome.Busy)
    (answers (moves s (move.turn p doing.Idle (doing.TryAt s.state)))
    (outcome.Loaded s.state)) refl refl
try-load-row-kept s p (Some (doing.TryAt v)) = tt
try-load-row-kept s p (Some doing.Door) = tt
try-load-row-kept s p (Some (doing.Drawn n)) = tt
try-load-row-kept s p (Some doing.Owes) = tt
try-load-row-kept s p (Some (doing.Ticket n)) = tt
try-load-row-kept s p (Some (doing.Leaving n)) = tt
try-load-row-kept s p (Some (doing.Watching n)) = tt
try-load-row-kept s p (Some (doing.Decided n on)) = tt
try-load-row-kept s p None = tt

try-swap-row-kept : (s : Shape) (p : ℕ) (d : Option Doing) → Keeps s (try_swap_row s p d)
try-swap-row-kept s p (Some (doing.TryAt v)) = if-kept s (int_eq s.state v) (answers (records
    (gains (moves (takes s) (move.turn p (doing.TryAt v) doing.Idle)) p) (entry.TryGot p))
    outcome.Got) (answers (moves s (move.turn p (doing.TryAt v) doing.Idle))
    (outcome.Contended v s.state)) refl refl
try-swap-row-kept s p (Some doing.Idle) = tt
try-swap-row-kept s p (Some doing.Door) = tt
try-swap-row-kept s p (Some (doing.Drawn n)) = tt
try-swap-row-kept s p (Some doing.Owes) = tt
try-swap-row-kept s p (Some (doing.Ticket n)) = tt
try-swap-row-kept s p (Some (doing.Leaving n)) = tt
try-swap-row-kept s p (Some (doing.Watching n)) = tt
try-swap-row-kept s p (Some (doing.Decided n on)) = tt
try-swap-row-kept s p None = tt

draw-row-kept : (s : Shape) (p : ℕ) (d : Option Doing) → Keeps s (draw_row s p d)
draw-row-kept s p (Some doing.Door) = if-kept s (nat_lt s.queue.suspends last_number)
    (answers (records (moves s (move.draw p s.queue.suspends
    (slice_get s.queue.cells s.queue.suspends))) (entry.Enter p s.queue.suspends))
    (outcome.Drew s.queue.suspends)) None refl tt
draw-row-kept s p (Some doing.Idle) = tt
draw-row-kept s p (Some (doing.TryAt v)) = tt
draw-row-kept s p (Some (doing.Drawn n)) = tt
draw-row-kept s p (Some doing.Owes) = tt
draw-row-kept s p (Some (doing.Ticket n)) = tt
draw-row-kept s p (Some (doing.Leaving n)) = tt
draw-row-kept s p (Some (doing.Watching n)) = tt
draw-row-kept s p (Some (doing.Decided n on)) = tt
draw-row-kept s p None = tt

install-at-kept : (s : Shape) (p : ℕ) (k : ℕ) (cell : CoreCell) (x : CoreState)
    → Keeps s (install_at s p k cell x)
install-at-kept s p k cell state.Empty = refl
install-at-kept s p k cell state.Value = refl
install-at-kept s p k cell state.Waiter = tt
install-at-kept s p k cell state.Taken = tt
install-at-kept s p k cell state.Broken = refl
install-at-kept s p k cell state.Resumed = tt
install-at-kept s p k cell state.Cancelling = tt
install-at-kept s p k cell state.Delegated = tt
install-at-kept s p k cell state.Cancelled = tt
install-at-kept s p k cell state.Refused = tt

install-row-kept : (s : Shape) (p : ℕ) (d : Option Doing) → Keeps s (install_row s p d)
install-row-kept s p (Some (doing.Drawn k)) = and-kept s
    (λ cell. install_at s p k cell cell.state) (slice_get s.queue.cells k)
    (λ cell. install-at-kept s p k cell cell.state)
install-row-kept s p (Some doing.Idle) = tt
install-row-kept s p (Some (doing.TryAt v)) = tt
install-row-kept s p (Some doing.Door) = tt
install-row-kept s p (Some doing.Owes) = tt
install-row-kept s p (Some (doing.Ticket n)) = tt
install-row-kept s p (Some (doing.Leaving n)) = tt
install-row-kept s p (Some (doing.Watching n)) = tt
install-row-kept s p (Some (doing.Decided n on)) = tt
install-row-kept s p None = tt

give-row-kept : (s : Shape) (p : ℕ) (d : Option Doing) → Keeps s (give_row s p d)
give-row-kept s p (Some doing.Idle) = if-kept s (nat_lt 0 (slice_index s.held p))
    (if int_lt s.state (pos 0) then answers (records
    (moves (loses (adds s) p) (move.turn p doing.Idle doing.Owes)) (entry.GiveSent p))
    outcome.Owes else answers (records (loses (adds s) p) (entry.GiveFreed p))
    outcome.Freed) None (if-kept s (int_lt s.state (pos 0))
    (answers (records (moves (loses (adds s) p)
    (move.turn p doing.Idle doing.Owes)) (entry.GiveSent p)) outcome.Owes)
    (answers
    (records (loses (adds s) p) (entry.GiveFreed p)) outcome.Freed)
    refl refl) tt
give-row-kept s p (Some (doing.TryAt v)) = tt
give-row-kept s p (Some doing.Door) = tt
give-row-kept s p (Some (doing.Drawn n)) = tt
give-row-kept s p (Some doing.Owes) = tt
give-row-kept s p (Some (doing.Ticket n)) = tt
give-row-kept s p (Some (doing.Leaving n)) = tt
give-row-kept s p (Some (doing.Watching n)) = tt
give-row-kept s p (Some (doing.Decided n on)) = tt
give-row-kept s p None = tt

reach-row-kept : (s : Shape) (p : ℕ) (d : Option Doing) → Keeps s (reach_row s p d)
reach-row-kept s p (Some doing.Owes) = if-kept s (nat_lt s.queue.resumes last_number)
    (answers (moves s (move.reach p s.queue.resumes (slice_get s.queue.cells s.queue.resumes)))
    (outcome.Reached s.queue.resumes)) None refl tt
reach-row-kept s p (Some doing.Idle) = tt
reach-row-kept s p (Some (doing.TryAt v)) = tt
reach-row-kept s p (Some doing.Door) = tt
reach-row-kept s p (Some (doing.Drawn n)) = tt
reach-row-kept s p (Some (doing.Ticket n)) = tt
reach-row-kept s p (Some (doing.Leaving n)) = tt
reach-row-kept s p (Some (doing.Watching n)) = tt
reach-row-kept s p (Some (doing.Decided n on)) = tt
reach-row-kept s p None = tt

meet-at-kept : (s : Shape) (p : ℕ) (k : ℕ) (cell : CoreCell) (x : CoreState)
    → Keeps s (meet_at s p k cell x)
meet-at-kept s p k cell state.Waiter = refl
meet-at-kept s p k cell state.Empty = if-kept s s.sync
    (answers (writes s p k (at_state cell state.Value) (doing.Watching k)) (outcome.Left k))
    (answers (moves s (move.leave_value p k cell)) (outcome.Left k)) refl refl
meet-at-kept s p k cell state.Cancelling = if-kept s s.sync (answers s (outcome.Handling k))
    (answers (moves s (move.delegate p k cell)) (outcome.Left k)) refl refl
meet-at-kept s p k cell state.Cancelled = refl
meet-at-kept s p k cell state.Refused = refl
meet-at-kept s p k cell state.Value = tt
meet-at-kept s p k cell state.Taken = tt
meet-at-kept s p k cell state.Broken = tt
meet-at-kept s p k cell state.Resumed = tt
meet-at-kept s p k cell state.Delegated = tt

meet-row-kept : (s : Shape) (p : ℕ) (d : Option Doing) → Keeps s (meet_row s p d)
meet-row-kept s p (Some (doing.Ticket k)) = and-kept s (λ cell. meet_at s p k cell cell.state)
    (slice_get s.queue.cells k) (λ cell. meet-at-kept s p k cell cell.state)
meet-row-kept s p (Some doing.Idle) = tt
meet-row-kept s p (Some (doing.TryAt v)) = tt
meet-row-kept s p (Some doing.Door) = tt
meet-row-kept s p (Some (doing.Drawn n)) = tt
meet-row-kept s p (Some doing.Owes) = tt
meet-row-kept s p (Some (doing.Leaving n)) = tt
meet-row-kept s p (Some (doing.Watching n)) = tt
meet-row-kept s p (Some (doing.Decided n on)) = tt
meet-row-kept s p None = tt

see-at-kept : (s : Shape) (p : ℕ) (k : ℕ) (x : CoreState) → Keeps s (see_at s p k x)
see-at-kept s p k state.Value = refl
see-at-kept s p k state.Taken = refl
see-at-kept s p k state.Empty = tt
see-at-kept s p k state.Waiter = tt
see-at-kept s p k state.Broken = tt
see-at-kept s p k state.Resumed = tt
see-at-kept s p k state.Cancelling = tt
see-at-kept s p k state.Delegated = tt
see-at-kept s p k state.Cancelled = tt
see-at-kept s p k state.Refused = tt

see-row-kept : (s : Shape) (p : ℕ) (d : Option Doing) → Keeps s (see_row s p d)
see-row-kept s p (Some (doing.Watching k)) = and-kept s (λ cell. see_at s p k cell.state)
    (slice_get s.queue.cells k) (λ cell. see-at-kept s p k cell.state)
see-row-kept s p (Some doing.Idle) = tt
see-row-kept s p (Some (doing.TryAt v)) = tt
see-row-kept s p (Some doing.Door) = tt
see-row-kept s p (Some (doing.Drawn n)) = tt
see-row-kept s p (Some doing.Owes) = tt
see-row-kept s p (Some (doing.Ticket n)) = tt
see-row-kept s p (Some (doing.Leaving n)) = tt
see-row-kept s p (Some (doing.Decided n on)) = tt
see-row-kept s p None = tt

break-at-kept : (s : Shape) (p : ℕ) (k : ℕ) (cell : CoreCell) (x : CoreState)
    → Keeps s (break_at s p k cell x)
break-at-kept s p k cell state.Value = refl
break-at-kept s p k cell state.Taken = refl
break-at-kept s p k cell state.Empty = tt
break-at-kept s p k cell state.Waiter = tt
break-at-kept s p k cell state.Broken = tt
break-at-kept s p k cell state.Resumed = tt
break-at-kept s p k cell state.Cancelling = tt
break-at-kept s p k cell state.Delegated = tt
break-at-kept s p k cell state.Cancelled = tt
break-at-kept s p k cell state.Refused = tt

break-row-kept : (s : Shape) (p : ℕ) (d : Option Doing) → Keeps s (break_row s p d)
break-row-kept s p (Some (doing.Watching k)) = and-kept s (λ cell. break_at s p k cell cell.state)
    (slice_get s.queue.cells k) (λ cell. break-at-kept s p k cell cell.state)
break-row-kept s p (Some doing.Idle) = tt
break-row-kept s p (Some (doing.TryAt v)) = tt
break-row-kept s p (Some doing.Door) = tt
break-row-kept s p (Some (doing.Drawn n)) = tt
break-row-kept s p (Some doing.Owes) = tt
break-row-kept s p (Some (doing.Ticket n)) = tt
break-row-kept s p (Some (doing.Leaving n)) = tt
break-row-kept s p (Some (doing.Decided n on)) = tt
break-row-kept s p None = tt

leave-at-kept : (s : Shape) (p : ℕ) (k : ℕ) (cell : CoreCell) (x : CoreState)
    → Keeps s (leave_at s p k cell x)
leave-at-kept s p k cell state.Waiter = refl
leave-at-kept s p k cell state.Resumed = refl
leave-at-kept s p k cell state.Empty = tt
leave-at-kept s p k cell state.Value = tt
leave-at-kept s p k cell state.Taken = tt
leave-at-kept s p k cell state.Broken = tt
leave-at-kept s p k cell state.Cancelling = tt
leave-at-kept s p k cell state.Delegated = tt
leave-at-kept s p k cell state.Cancelled = tt
leave-at-kept s p k cell state.Refused = tt

leave-with-kept : (s : Shape) (p : ℕ) (k : ℕ) (cell : CoreCell) → Keeps s (leave_with s p k cell)
leave-with-kept s p k cell = if-kept s (is_with p cell) (leave_at s p k cell cell.state) None
    (leave-at-kept s p k cell cell.state) tt

leave-row-kept : (s : Shape) (p : ℕ) (k : ℕ) (d : Option Doing) → Keeps s (leave_row s p k d)
leave-row-kept s p k (Some doing.Idle) = and-kept s (λ cell. leave_with s p k cell)
    (slice_get s.queue.cells k) (λ cell. leave-with-kept s p k cell)
leave-row-kept s p k (Some (doing.TryAt v)) = tt
leave-row-kept s p k (Some doing.Door) = tt
leave-row-kept s p k (Some (doing.Drawn n)) = tt
leave-row-kept s p k (Some doing.Owes) = tt
leave-row-kept s p k (Some (doing.Ticket n)) = tt
leave-row-kept s p k (Some (doing.Leaving n)) = tt
leave-row-kept s p k (Some (doing.Watching n)) = tt
leave-row-kept s p k (Some (doing.Decided n on)) = tt
leave-row-kept s p k None = tt

decide-row-kept : (s : Shape) (p : ℕ) (d : Option Doing) → Keeps s (decide_row s p d)
decide-row-kept s p (Some (doing.Leaving k)) = if-kept s (int_lt s.state (pos 0)) (answers
    (records (moves (adds s) (move.decide p k true)) (entry.Leave p k)) (outcome.Decided true))
    (answers (records (moves (adds s) (move.decide p k false)) (entry.Leave p k))
    (outcome.Decided false)) refl refl
decide-row-kept s p (Some doing.Idle) = tt
decide-row-kept s p (Some (doing.TryAt v)) = tt
decide-row-kept s p (Some doing.Door) = tt
decide-row-kept s p (Some (doing.Drawn n)) = tt
decide-row-kept s p (Some doing.Owes) = tt
decide-row-kept s p (Some (doing.Ticket n)) = tt
decide-row-kept s p (Some (doing.Watching n)) = tt
decide-row-kept s p (Some (doing.Decided n on)) = tt
decide-row-kept s p None = tt

settle-at-kept : (s : Shape) (p : ℕ) (k : ℕ) (on : Bool) (cell : CoreCell) (x : CoreState)
    → Keeps s (settle_at s p k on cell x)
settle-at-kept s p k true cell state.Cancelling = refl
settle-at-kept s p k true cell state.Delegated = refl
settle-at-kept s p k false cell state.Cancelling = refl
settle-at-kept s p k false cell state.Delegated = refl
settle-at-kept s p k on cell state.Empty = tt
settle-at-kept s p k on cell state.Waiter = tt
settle-at-kept s p k on cell state.Value = tt
settle-at-kept s p k on cell state.Taken = tt
settle-at-kept s p k on cell state.Broken = tt
settle-at-kept s p k on cell state.Resumed = tt
settle-at-kept s p k on cell state.Cancelled = tt
settle-at-kept s p k on cell state.Refused = tt

settle-row-kept : (s : Shape) (p : ℕ) (d : Option Doing) → Keeps s (settle_row s p d)
settle-row-kept s p (Some (doing.Decided k on)) = and-kept s
    (λ cell. settle_at s p k on cell cell.state) (slice_get s.queue.cells k)
    (λ cell. settle-at-kept s p k on cell cell.state)
settle-row-kept s p (Some doing.Idle) = tt
settle-row-kept s p (Some (doing.TryAt v)) = tt
settle-row-kept s p (Some doing.Door) = tt
settle-row-kept s p (Some (doing.Drawn n)) = tt
settle-row-kept s p (Some doing.Owes) = tt
settle-row-kept s p (Some (doing.Ticket n)) = tt
settle-row-kept s p (Some (doing.Leaving n)) = tt
settle-row-kept s p (Some (doing.Watching n)) = tt
settle-row-kept s p None = tt

look-at-kept : (s : Shape) (p : ℕ) (k : ℕ) (cell : CoreCell) (x : CoreState)
    → Keeps s (look_at s p k cell x)
look-at-kept s p k cell state.Waiter = refl
look-at-kept s p k cell state.Resumed = refl
look-at-kept s p k cell state.Empty = tt
look-at-kept s p k cell state.Value = tt
look-at-kept s p k cell state.Taken = tt
look-at-kept s p k cell state.Broken = tt
look-at-kept s p k cell state.Cancelling = tt
look-at-kept s p k cell state.Delegated = tt
look-at-kept s p k cell state.Cancelled = tt
look-at-kept s p k cell state.Refused = tt

look-with-kept : (s : Shape) (p : ℕ) (k : ℕ) (cell : CoreCell) → Keeps s (look_with s p k cell)
look-with-kept s p k cell = if-kept s (is_with p cell) (look_at s p k cell cell.state) None
    (look-at-kept s p k cell cell.state) tt

look-row-kept : (s : Shape) (p : ℕ) (k : ℕ) (d : Option Doing) → Keeps s (look_row s p k d)
look-row-kept s p k (Some doing.Idle) = and-kept s (λ cell. look_with s p k cell)
    (slice_get s.queue.cells k) (λ cell. look-with-kept s p k cell)
look-row-kept s p k (Some (doing.TryAt v)) = tt
look-row-kept s p k (Some doing.Door) = tt
look-row-kept s p k (Some (doing.Drawn n)) = tt
look-row-kept s p k (Some doing.Owes) = tt
look-row-kept s p k (Some (doing.Ticket n)) = tt
look-row-kept s p k (Some (doing.Leaving n)) = tt
look-row-kept s p k (Some (doing.Watching n)) = tt
look-row-kept s p k (Some (doing.Decided n on)) = tt
look-row-kept s p k None = tt

step-kept : (s : Shape) (e : Event) → Keeps s (step s e)
step-kept s (event.Take p) = take-row-kept s p (slice_get s.queue.doing p)
step-kept s (event.TryLoad p) = try-load-row-kept s p (slice_get s.queue.doing p)
step-kept s (event.TrySwap p) = try-swap-row-kept s p (slice_get s.queue.doing p)
step-kept s (event.Draw p) = draw-row-kept s p (slice_get s.queue.doing p)
step-kept s (event.Install p) = install-row-kept s p (slice_get s.queue.doing p)
step-kept s (event.Give p) = give-row-kept s p (slice_get s.queue.doing p)
step-kept s (event.Reach p) = reach-row-kept s p (slice_get s.queue.doing p)
step-kept s (event.Meet p) = meet-row-kept s p (slice_get s.queue.doing p)
step-kept s (event.See p) = see-row-kept s p (slice_get s.queue.doing p)
step-kept s (event.Break p) = break-row-kept s p (slice_get s.queue.doing p)
step-kept s (event.Leave p k) = leave-row-kept s p k (slice_get s.queue.doing p)
step-kept s (event.Decide p) = decide-row-kept s p (slice_get s.queue.doing p)
step-kept s (event.Settle p) = settle-row-kept s p (slice_get s.queue.doing p)
step-kept s (event.Look p k) = look-row-kept s p k (slice_get s.queue.doing p)

on-kept : (s : Shape) (events : List Event) (row : Option Stepped)
    → ((t : Shape) → (after_events t events).permits ≡ t.permits) → Keeps s row
    → (option_map_or (λ made. after_events made.shape events) row s).permits ≡ s.permits
on-kept s events None onward kept = refl
on-kept s events (Some row) onward kept = onward row.shape ∙ kept

pub permits-kept : (s : Shape) (events : List Event) → (after_events s events).permits ≡ s.permits
permits-kept s [] = refl
permits-kept s (e ∷ events) = on-kept s events (step s e) (λ t. permits-kept t events)
    (step-kept s e)

pub legal_history : (s : Schedule) → IsLegal (after_run s).permits (after_run s).history
    → IsLegal s.permits (after_run s).history
legal_history s legal = subst (λ n. IsLegal n (after_run s).history)
    (permits-kept (opened s) s.events.items) legal
