-- The core's table of events: where each event may be made, what it does, which entry it
-- appends and what it answers.
use Rattle.std.specs.Prelude.{ℕ, ◌+◌, ◌-◌, ◌==◌, nat_lt, ◌&&◌, Bool, true, false, List, [], ◌∷◌, ◌++◌, ℤ, pos, negsuc, ◌+ℤ◌, ◌-ℤ◌, int_lt, int_le, Option, Some, None, slice_get, slice_set, slice_index, if◌then◌else◌}
use Rattle.std.specs.Option.{option_and_then}
use Rattle.std.specs.Ordering.{int_eq}
use Rattle.cqs_core.specs.declared.cells.CoreCell.{CoreCell}
use Rattle.cqs_core.specs.declared.cells.CoreState.{CoreState}
use Rattle.cqs_core.specs.declared.cells.CoreState.TheVariants as state
use Rattle.cqs_core.specs.declared.doings.Doing.{Doing}
use Rattle.cqs_core.specs.declared.doings.Doing.TheVariants as doing
use Rattle.cqs_core.specs.declared.entries.Entry.{Entry}
use Rattle.cqs_core.specs.declared.entries.Entry.TheVariants as entry
use Rattle.cqs_core.specs.declared.events.Event.{Event}
use Rattle.cqs_core.specs.declared.events.Event.TheVariants as event
use Rattle.cqs_core.specs.declared.outcomes.Outcome.{Outcome}
use Rattle.cqs_core.specs.declared.outcomes.Outcome.TheVariants as outcome
use Rattle.cqs_core.specs.QueueState.{Queue}
use Rattle.cqs_core.specs.QueueMoves as move
use Rattle.cqs_core.specs.QueueMoves.{Move, move_queue, now_doing, with_cell, at_state}

-- A core: whether it is synchronous, the permits that it was made with, the state word, what each
-- pass holds, the history, and the queue part.
pub record Shape : Type 0 where
  pub sync : Bool
  pub permits : ℕ
  pub state : ℤ
  pub held : List ℕ
  pub history : List Entry
  pub queue : Queue

-- what an allowed event makes of the core, and what it answers
pub record Stepped : Type 0 where
  pub shape : Shape
  pub outcome : Outcome

-- one more is held by the pass
abbrev pub gains : Shape → ℕ → Shape
gains s p = record s { held = slice_set s.held p (slice_index s.held p + 1) }

-- one fewer is held by the pass
abbrev pub loses : Shape → ℕ → Shape
loses s p = record s { held = slice_set s.held p (slice_index s.held p - 1) }

-- one is added to the state word
abbrev pub adds : Shape → Shape
adds s = record s { state = s.state +ℤ pos 1 }

-- one is taken from the state word
abbrev pub takes : Shape → Shape
takes s = record s { state = s.state -ℤ pos 1 }

abbrev pub records : Shape → Entry → Shape
records s e = record s { history = s.history ++ e ∷ [] }

abbrev pub moves : Shape → Move → Shape
moves s m = record s { queue = move_queue s.queue m }

-- the pass goes on to do this, and the cell of the number becomes this one
abbrev pub writes : Shape → ℕ → ℕ → CoreCell → Doing → Shape
writes s p k cell d = record s { queue = now_doing (with_cell s.queue k cell) p d }

-- the pass goes on to do this
abbrev pub turns : Shape → ℕ → Doing → Shape
turns s p d = record s { queue = now_doing s.queue p d }

abbrev pub answers : Shape → Outcome → Option Stepped
answers s o = Some (record { shape = s; outcome = o })

-- the state word never falls to -2^32, and the counters stay below 2^40
abbrev pub lowest : ℤ
lowest = negsuc 4294967294

abbrev pub last_number : ℕ
last_number = 1099511627775

abbrev pub take_row : Shape → ℕ → Option Doing → Option Stepped
take_row s p (Some doing.Idle) =
    if int_lt lowest s.state then
    (if int_lt (pos 0) s.state
    then answers (records (gains (takes s) p) (entry.TakeNow p)) outcome.Now
    else answers (records (moves (takes s) (move.turn p doing.Idle doing.Door)) (entry.TakeDoor p))
    outcome.Door)
    else None
take_row s p (Some (doing.TryAt v)) = None
take_row s p (Some doing.Door) = None
take_row s p (Some (doing.Drawn n)) = None
take_row s p (Some doing.Owes) = None
take_row s p (Some (doing.Ticket n)) = None
take_row s p (Some (doing.Leaving n)) = None
take_row s p (Some (doing.Watching n)) = None
take_row s p (Some (doing.Decided n on)) = None
take_row s p None = None

abbrev pub try_load_row : Shape → ℕ → Option Doing → Option Stepped
try_load_row s p (Some doing.Idle) =
    if int_le s.state (pos 0)
    then answers (records s (entry.TryBusy p)) outcome.Busy
    else answers (moves s (move.turn p doing.Idle (doing.TryAt s.state))) (outcome.Loaded s.state)
try_load_row s p (Some (doing.TryAt v)) = None
try_load_row s p (Some doing.Door) = None
try_load_row s p (Some (doing.Drawn n)) = None
try_load_row s p (Some doing.Owes) = None
try_load_row s p (Some (doing.Ticket n)) = None
try_load_row s p (Some (doing.Leaving n)) = None
try_load_row s p (Some (doing.Watching n)) = None
try_load_row s p (Some (doing.Decided n on)) = None
try_load_row s p None = None

abbrev pub try_swap_row : Shape → ℕ → Option Doing → Option Stepped
try_swap_row s p (Some (doing.TryAt v)) =
    if int_eq s.state v
    then answers (records (gains (moves (takes s) (move.turn p (doing.TryAt v) doing.Idle)) p)
    (entry.TryGot p))
    outcome.Got
    else answers (moves s (move.turn p (doing.TryAt v) doing.Idle)) (outcome.Contended v s.state)
try_swap_row s p (Some doing.Idle) = None
try_swap_row s p (Some doing.Door) = None
try_swap_row s p (Some (doing.Drawn n)) = None
try_swap_row s p (Some doing.Owes) = None
try_swap_row s p (Some (doing.Ticket n)) = None
try_swap_row s p (Some (doing.Leaving n)) = None
try_swap_row s p (Some (doing.Watching n)) = None
try_swap_row s p (Some (doing.Decided n on)) = None
try_swap_row s p None = None

abbrev pub draw_row : Shape → ℕ → Option Doing → Option Stepped
draw_row s p (Some doing.Door) =
    if nat_lt s.queue.suspends last_number
    then answers
    (records (moves s (move.draw p s.queue.suspends (slice_get s.queue.cells s.queue.suspends)))
    (entry.Enter p s.queue.suspends))
    (outcome.Drew s.queue.suspends)
    else None
draw_row s p (Some doing.Idle) = None
draw_row s p (Some (doing.TryAt v)) = None
draw_row s p (Some (doing.Drawn n)) = None
draw_row s p (Some doing.Owes) = None
draw_row s p (Some (doing.Ticket n)) = None
draw_row s p (Some (doing.Leaving n)) = None
draw_row s p (Some (doing.Watching n)) = None
draw_row s p (Some (doing.Decided n on)) = None
draw_row s p None = None

abbrev pub install_at : Shape → ℕ → ℕ → CoreCell → CoreState → Option Stepped
install_at s p k cell state.Empty = answers (moves s (move.install p k cell)) (outcome.Waits k)
install_at s p k cell state.Value =
    answers (records (gains (moves s (move.take_value p k cell)) p) (entry.Deliver k))
    (outcome.Took k)
install_at s p k cell state.Broken =
    answers
    (records
    (writes s p k (record { state = state.Broken; owner = cell.owner; collected = true })
    doing.Idle)
    (entry.Undo p k))
    (outcome.Broke k)
install_at s p k cell state.Waiter = None
install_at s p k cell state.Taken = None
install_at s p k cell state.Resumed = None
install_at s p k cell state.Cancelling = None
install_at s p k cell state.Delegated = None
install_at s p k cell state.Cancelled = None
install_at s p k cell state.Refused = None

abbrev pub install_row : Shape → ℕ → Option Doing → Option Stepped
install_row s p (Some (doing.Drawn k)) =
    option_and_then (λ cell. install_at s p k cell cell.state) (slice_get s.queue.cells k)
install_row s p (Some doing.Idle) = None
install_row s p (Some (doing.TryAt v)) = None
install_row s p (Some doing.Door) = None
install_row s p (Some doing.Owes) = None
install_row s p (Some (doing.Ticket n)) = None
install_row s p (Some (doing.Leaving n)) = None
install_row s p (Some (doing.Watching n)) = None
install_row s p (Some (doing.Decided n on)) = None
install_row s p None = None

abbrev pub give_row : Shape → ℕ → Option Doing → Option Stepped
give_row s p (Some doing.Idle) =
    if nat_lt 0 (slice_index s.held p) then
    (if int_lt s.state (pos 0)
    then answers (records (moves (loses (adds s) p) (move.turn p doing.Idle doing.Owes))
    (entry.GiveSent p))
    outcome.Owes
    else answers (records (loses (adds s) p) (entry.GiveFreed p)) outcome.Freed)
    else None
give_row s p (Some (doing.TryAt v)) = None
give_row s p (Some doing.Door) = None
give_row s p (Some (doing.Drawn n)) = None
give_row s p (Some doing.Owes) = None
give_row s p (Some (doing.Ticket n)) = None
give_row s p (Some (doing.Leaving n)) = None
give_row s p (Some (doing.Watching n)) = None
give_row s p (Some (doing.Decided n on)) = None
give_row s p None = None

abbrev pub reach_row : Shape → ℕ → Option Doing → Option Stepped
reach_row s p (Some doing.Owes) =
    if nat_lt s.queue.resumes last_number
    then answers (moves s (move.reach p s.queue.resumes (slice_get s.queue.cells s.queue.resumes)))
    (outcome.Reached s.queue.resumes)
    else None
reach_row s p (Some doing.Idle) = None
reach_row s p (Some (doing.TryAt v)) = None
reach_row s p (Some doing.Door) = None
reach_row s p (Some (doing.Drawn n)) = None
reach_row s p (Some (doing.Ticket n)) = None
reach_row s p (Some (doing.Leaving n)) = None
reach_row s p (Some (doing.Watching n)) = None
reach_row s p (Some (doing.Decided n on)) = None
reach_row s p None = None

abbrev pub meet_at : Shape → ℕ → ℕ → CoreCell → CoreState → Option Stepped
meet_at s p k cell state.Waiter =
    answers (records (moves s (move.serve p k cell)) (entry.Deliver k)) (outcome.Served k)
meet_at s p k cell state.Empty =
    if s.sync
    then answers (writes s p k (at_state cell state.Value) (doing.Watching k)) (outcome.Left k)
    else answers (moves s (move.leave_value p k cell)) (outcome.Left k)
meet_at s p k cell state.Cancelling =
    if s.sync
    then answers s (outcome.Handling k)
    else answers (moves s (move.delegate p k cell)) (outcome.Left k)
meet_at s p k cell state.Cancelled = answers (moves s (move.pass_over p k cell)) (outcome.Passed k)
meet_at s p k cell state.Refused = answers (moves s (move.meet_refused p k cell)) (outcome.Void k)
meet_at s p k cell state.Value = None
meet_at s p k cell state.Taken = None
meet_at s p k cell state.Broken = None
meet_at s p k cell state.Resumed = None
meet_at s p k cell state.Delegated = None

abbrev pub meet_row : Shape → ℕ → Option Doing → Option Stepped
meet_row s p (Some (doing.Ticket k)) =
    option_and_then (λ cell. meet_at s p k cell cell.state) (slice_get s.queue.cells k)
meet_row s p (Some doing.Idle) = None
meet_row s p (Some (doing.TryAt v)) = None
meet_row s p (Some doing.Door) = None
meet_row s p (Some (doing.Drawn n)) = None
meet_row s p (Some doing.Owes) = None
meet_row s p (Some (doing.Leaving n)) = None
meet_row s p (Some (doing.Watching n)) = None
meet_row s p (Some (doing.Decided n on)) = None
meet_row s p None = None

abbrev pub see_at : Shape → ℕ → ℕ → CoreState → Option Stepped
see_at s p k state.Value = answers s outcome.Pending
see_at s p k state.Taken = answers (turns s p doing.Idle) (outcome.Served k)
see_at s p k state.Empty = None
see_at s p k state.Waiter = None
see_at s p k state.Broken = None
see_at s p k state.Resumed = None
see_at s p k state.Cancelling = None
see_at s p k state.Delegated = None
see_at s p k state.Cancelled = None
see_at s p k state.Refused = None

abbrev pub see_row : Shape → ℕ → Option Doing → Option Stepped
see_row s p (Some (doing.Watching k)) =
    option_and_then (λ cell. see_at s p k cell.state) (slice_get s.queue.cells k)
see_row s p (Some doing.Idle) = None
see_row s p (Some (doing.TryAt v)) = None
see_row s p (Some doing.Door) = None
see_row s p (Some (doing.Drawn n)) = None
see_row s p (Some doing.Owes) = None
see_row s p (Some (doing.Ticket n)) = None
see_row s p (Some (doing.Leaving n)) = None
see_row s p (Some (doing.Decided n on)) = None
see_row s p None = None

abbrev pub break_at : Shape → ℕ → ℕ → CoreCell → CoreState → Option Stepped
break_at s p k cell state.Value =
    answers
    (records (gains (writes s p k (at_state cell state.Broken) doing.Idle) p) (entry.Spoil p k))
    (outcome.Broke k)
break_at s p k cell state.Taken = answers (turns s p doing.Idle) (outcome.Served k)
break_at s p k cell state.Empty = None
break_at s p k cell state.Waiter = None
break_at s p k cell state.Broken = None
break_at s p k cell state.Resumed = None
break_at s p k cell state.Cancelling = None
break_at s p k cell state.Delegated = None
break_at s p k cell state.Cancelled = None
break_at s p k cell state.Refused = None

abbrev pub break_row : Shape → ℕ → Option Doing → Option Stepped
break_row s p (Some (doing.Watching k)) =
    option_and_then (λ cell. break_at s p k cell cell.state) (slice_get s.queue.cells k)
break_row s p (Some doing.Idle) = None
break_row s p (Some (doing.TryAt v)) = None
break_row s p (Some doing.Door) = None
break_row s p (Some (doing.Drawn n)) = None
break_row s p (Some doing.Owes) = None
break_row s p (Some (doing.Ticket n)) = None
break_row s p (Some (doing.Leaving n)) = None
break_row s p (Some (doing.Decided n on)) = None
break_row s p None = None

-- the pass is the owner of the cell's number
abbrev pub is_owner : ℕ → Option ℕ → Bool
is_owner p (Some owner) = owner == p
is_owner p None = false

-- the wait of the cell is this pass's, and isn't closed
abbrev pub is_with : ℕ → CoreCell → Bool
is_with p cell = is_owner p cell.owner && (if cell.collected then false else true)

abbrev pub leave_at : Shape → ℕ → ℕ → CoreCell → CoreState → Option Stepped
leave_at s p k cell state.Waiter =
    answers (moves s (move.begin_cancel p k cell)) (outcome.Cancelling k)
leave_at s p k cell state.Resumed =
    answers (records (gains (moves s (move.collect p k cell)) p) (entry.Late p k))
    (outcome.TooLate k)
leave_at s p k cell state.Empty = None
leave_at s p k cell state.Value = None
leave_at s p k cell state.Taken = None
leave_at s p k cell state.Broken = None
leave_at s p k cell state.Cancelling = None
leave_at s p k cell state.Delegated = None
leave_at s p k cell state.Cancelled = None
leave_at s p k cell state.Refused = None

abbrev pub leave_with : Shape → ℕ → ℕ → CoreCell → Option Stepped
leave_with s p k cell = if is_with p cell then leave_at s p k cell cell.state else None

abbrev pub leave_row : Shape → ℕ → ℕ → Option Doing → Option Stepped
leave_row s p k (Some doing.Idle) =
    option_and_then (λ cell. leave_with s p k cell) (slice_get s.queue.cells k)
leave_row s p k (Some (doing.TryAt v)) = None
leave_row s p k (Some doing.Door) = None
leave_row s p k (Some (doing.Drawn n)) = None
leave_row s p k (Some doing.Owes) = None
leave_row s p k (Some (doing.Ticket n)) = None
leave_row s p k (Some (doing.Leaving n)) = None
leave_row s p k (Some (doing.Watching n)) = None
leave_row s p k (Some (doing.Decided n on)) = None
leave_row s p k None = None

abbrev pub decide_row : Shape → ℕ → Option Doing → Option Stepped
decide_row s p (Some (doing.Leaving k)) =
    if int_lt s.state (pos 0)
    then answers (records (moves (adds s) (move.decide p k true)) (entry.Leave p k))
    (outcome.Decided true)
    else answers (records (moves (adds s) (move.decide p k false)) (entry.Leave p k))
    (outcome.Decided false)
decide_row s p (Some doing.Idle) = None
decide_row s p (Some (doing.TryAt v)) = None
decide_row s p (Some doing.Door) = None
decide_row s p (Some (doing.Drawn n)) = None
decide_row s p (Some doing.Owes) = None
decide_row s p (Some (doing.Ticket n)) = None
decide_row s p (Some (doing.Watching n)) = None
decide_row s p (Some (doing.Decided n on)) = None
decide_row s p None = None

abbrev pub settle_at : Shape → ℕ → ℕ → Bool → CoreCell → CoreState → Option Stepped
settle_at s p k true cell state.Cancelling =
    answers (moves s (move.cancel p k cell)) (outcome.Cancelled k)
settle_at s p k true cell state.Delegated =
    answers (moves s (move.cancel_owing p k cell)) (outcome.OwesOn k)
settle_at s p k false cell state.Cancelling =
    answers (moves s (move.refuse p k cell)) (outcome.Refused k)
settle_at s p k false cell state.Delegated =
    answers (moves s (move.refuse p k cell)) (outcome.Refused k)
settle_at s p k on cell state.Empty = None
settle_at s p k on cell state.Waiter = None
settle_at s p k on cell state.Value = None
settle_at s p k on cell state.Taken = None
settle_at s p k on cell state.Broken = None
settle_at s p k on cell state.Resumed = None
settle_at s p k on cell state.Cancelled = None
settle_at s p k on cell state.Refused = None

abbrev pub settle_row : Shape → ℕ → Option Doing → Option Stepped
settle_row s p (Some (doing.Decided k on)) =
    option_and_then (λ cell. settle_at s p k on cell cell.state) (slice_get s.queue.cells k)
settle_row s p (Some doing.Idle) = None
settle_row s p (Some (doing.TryAt v)) = None
settle_row s p (Some doing.Door) = None
settle_row s p (Some (doing.Drawn n)) = None
settle_row s p (Some doing.Owes) = None
settle_row s p (Some (doing.Ticket n)) = None
settle_row s p (Some (doing.Leaving n)) = None
settle_row s p (Some (doing.Watching n)) = None
settle_row s p None = None

abbrev pub look_at : Shape → ℕ → ℕ → CoreCell → CoreState → Option Stepped
look_at s p k cell state.Waiter = answers (records s (entry.LookPending p k)) outcome.Pending
look_at s p k cell state.Resumed =
    answers (records (gains (moves s (move.collect p k cell)) p) (entry.LookGranted p k))
    outcome.Granted
look_at s p k cell state.Empty = None
look_at s p k cell state.Value = None
look_at s p k cell state.Taken = None
look_at s p k cell state.Broken = None
look_at s p k cell state.Cancelling = None
look_at s p k cell state.Delegated = None
look_at s p k cell state.Cancelled = None
look_at s p k cell state.Refused = None

abbrev pub look_with : Shape → ℕ → ℕ → CoreCell → Option Stepped
look_with s p k cell = if is_with p cell then look_at s p k cell cell.state else None

abbrev pub look_row : Shape → ℕ → ℕ → Option Doing → Option Stepped
look_row s p k (Some doing.Idle) =
    option_and_then (λ cell. look_with s p k cell) (slice_get s.queue.cells k)
look_row s p k (Some (doing.TryAt v)) = None
look_row s p k (Some doing.Door) = None
look_row s p k (Some (doing.Drawn n)) = None
look_row s p k (Some doing.Owes) = None
look_row s p k (Some (doing.Ticket n)) = None
look_row s p k (Some (doing.Leaving n)) = None
look_row s p k (Some (doing.Watching n)) = None
look_row s p k (Some (doing.Decided n on)) = None
look_row s p k None = None

-- the table: none where the event isn't allowed
abbrev pub step : Shape → Event → Option Stepped
step s (event.Take p) = take_row s p (slice_get s.queue.doing p)
step s (event.TryLoad p) = try_load_row s p (slice_get s.queue.doing p)
step s (event.TrySwap p) = try_swap_row s p (slice_get s.queue.doing p)
step s (event.Draw p) = draw_row s p (slice_get s.queue.doing p)
step s (event.Install p) = install_row s p (slice_get s.queue.doing p)
step s (event.Give p) = give_row s p (slice_get s.queue.doing p)
step s (event.Reach p) = reach_row s p (slice_get s.queue.doing p)
step s (event.Meet p) = meet_row s p (slice_get s.queue.doing p)
step s (event.See p) = see_row s p (slice_get s.queue.doing p)
step s (event.Break p) = break_row s p (slice_get s.queue.doing p)
step s (event.Leave p k) = leave_row s p k (slice_get s.queue.doing p)
step s (event.Decide p) = decide_row s p (slice_get s.queue.doing p)
step s (event.Settle p) = settle_row s p (slice_get s.queue.doing p)
step s (event.Look p k) = look_row s p k (slice_get s.queue.doing p)
