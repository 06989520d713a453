-- The steps of a core that isn't synchronous keep it, by the law of every core.
use Rattle.std.proofs.Common.{◌≡◌, ℕ, ◌<◌, ℤ, pos, ◌≤ℤ◌, ◌<ℤ◌, true, false, Some, slice_get, slice_index}
use Rattle.cqs_core.specs.declared.cells.CoreCell.{CoreCell}
use Rattle.cqs_core.specs.declared.cells.CoreState.TheVariants as state
use Rattle.cqs_core.specs.declared.doings.Doing.TheVariants as doing
use Rattle.cqs_core.specs.declared.entries.Entry.TheVariants as entry
use Rattle.cqs_core.specs.QueueMoves as move
use Rattle.cqs_core.specs.QueueMoves.{Works, Owns}
use Rattle.cqs_core.specs.SemaphoreTable.{Shape, gains, loses, adds, takes, records, moves, lowest, last_number}
use Rattle.cqs_core.specs.SemaphoreShown.{IsCore}
use Rattle.cqs_core.proofs.EitherFacts.{either-core, plain-core}
use Rattle.cqs_core.proofs.EitherRows as either
use Rattle.cqs_core.proofs.EitherDraws as drawn

-- Take, a permit is free
pub take-now : (s : Shape) (p : ℕ) → IsCore s → slice_get s.queue.doing p ≡ Some doing.Idle
    → lowest <ℤ s.state → pos 0 <ℤ s.state → IsCore (records (gains (takes s) p) (entry.TakeNow p))
take-now s p core does above free = plain-core _ (either.take-now s p (either-core s core) does above free) core.plain

-- Take, none is free
pub take-door : (s : Shape) (p : ℕ) → IsCore s → slice_get s.queue.doing p ≡ Some doing.Idle
    → lowest <ℤ s.state → s.state ≤ℤ pos 0
    → IsCore (records (moves (takes s) (move.turn p doing.Idle doing.Door)) (entry.TakeDoor p))
take-door s p core does above none = plain-core _ (either.take-door s p (either-core s core) does above none) core.plain

-- TryLoad, none is free
pub try-busy : (s : Shape) (p : ℕ) → IsCore s → s.state ≤ℤ pos 0 → IsCore (records s (entry.TryBusy p))
try-busy s p core none = plain-core _ (either.try-busy s p (either-core s core) none) core.plain

-- TryLoad, a permit is free
pub try-loaded : (s : Shape) (p : ℕ) → IsCore s → slice_get s.queue.doing p ≡ Some doing.Idle → pos 0 <ℤ s.state
    → IsCore (moves s (move.turn p doing.Idle (doing.TryAt s.state)))
try-loaded s p core does free = plain-core _ (either.try-loaded s p (either-core s core) does free) core.plain

-- TrySwap, the state is the one that was loaded
pub try-got : (s : Shape) (p : ℕ) (v : ℤ) → IsCore s → slice_get s.queue.doing p ≡ Some (doing.TryAt v)
    → s.state ≡ v
    → IsCore (records (gains (moves (takes s) (move.turn p (doing.TryAt v) doing.Idle)) p) (entry.TryGot p))
try-got s p v core does same = plain-core _ (either.try-got s p v (either-core s core) does same) core.plain

-- TrySwap, the state has changed
pub try-contended : (s : Shape) (p : ℕ) (v : ℤ) → IsCore s → slice_get s.queue.doing p ≡ Some (doing.TryAt v)
    → IsCore (moves s (move.turn p (doing.TryAt v) doing.Idle))
try-contended s p v core does = plain-core _ (either.try-contended s p v (either-core s core) does) core.plain

-- Draw
pub draw-number : (s : Shape) (p : ℕ) → IsCore s → slice_get s.queue.doing p ≡ Some doing.Door
    → s.queue.suspends < last_number
    → IsCore (records (moves s (move.draw p s.queue.suspends (slice_get s.queue.cells s.queue.suspends)))
    (entry.Enter p s.queue.suspends))
draw-number s p core does below = plain-core _ (drawn.draw-number s p (either-core s core) does below) core.plain

-- Install, the cell is Empty
pub install-waiter : (s : Shape) (p k : ℕ) (found : CoreCell) → IsCore s
    → Works s.queue p (doing.Drawn k) k found state.Empty → IsCore (moves s (move.install p k found))
install-waiter s p k found core works =
    plain-core _ (either.install-waiter s p k found (either-core s core) works) core.plain

-- Install, the cell has a value
pub install-took : (s : Shape) (p k : ℕ) (found : CoreCell) → IsCore s
    → Works s.queue p (doing.Drawn k) k found state.Value
    → IsCore (records (gains (moves s (move.take_value p k found)) p) (entry.Deliver k))
install-took s p k found core works =
    plain-core _ (either.install-took s p k found (either-core s core) works) core.plain

-- Give, somebody must be resumed
pub give-sent : (s : Shape) (p : ℕ) → IsCore s → slice_get s.queue.doing p ≡ Some doing.Idle
    → 0 < slice_index s.held p → s.state <ℤ pos 0
    → IsCore (records (moves (loses (adds s) p) (move.turn p doing.Idle doing.Owes)) (entry.GiveSent p))
give-sent s p core does holds below =
    plain-core _ (either.give-sent s p (either-core s core) does holds below) core.plain

-- Give, nobody must be resumed
pub give-freed : (s : Shape) (p : ℕ) → IsCore s → slice_get s.queue.doing p ≡ Some doing.Idle
    → 0 < slice_index s.held p → pos 0 ≤ℤ s.state
    → IsCore (records (loses (adds s) p) (entry.GiveFreed p))
give-freed s p core does holds above =
    plain-core _ (either.give-freed s p (either-core s core) does holds above) core.plain

-- Reach
pub reach-number : (s : Shape) (p : ℕ) → IsCore s → slice_get s.queue.doing p ≡ Some doing.Owes
    → s.queue.resumes < last_number
    → IsCore (moves s (move.reach p s.queue.resumes (slice_get s.queue.cells s.queue.resumes)))
reach-number s p core does below = plain-core _ (either.reach-number s p (either-core s core) does below) core.plain

-- Meet, a waiter
pub meet-waiter : (s : Shape) (p k : ℕ) (found : CoreCell) → IsCore s
    → Works s.queue p (doing.Ticket k) k found state.Waiter
    → IsCore (records (moves s (move.serve p k found)) (entry.Deliver k))
meet-waiter s p k found core works = plain-core _ (either.meet-waiter s p k found (either-core s core) works) core.plain

-- Meet, an Empty cell
pub meet-empty : (s : Shape) (p k : ℕ) (found : CoreCell) → IsCore s
    → Works s.queue p (doing.Ticket k) k found state.Empty → IsCore (moves s (move.leave_value p k found))
meet-empty s p k found core works = plain-core _ (either.meet-empty s p k found (either-core s core) works) core.plain

-- Meet, a cell that is being cancelled
pub meet-cancelling : (s : Shape) (p k : ℕ) (found : CoreCell) → IsCore s
    → Works s.queue p (doing.Ticket k) k found state.Cancelling → IsCore (moves s (move.delegate p k found))
meet-cancelling s p k found core works =
    plain-core _ (either.meet-cancelling s p k found (either-core s core) works) core.plain

-- Meet, a cell that was cancelled
pub meet-cancelled : (s : Shape) (p k : ℕ) (found : CoreCell) → IsCore s
    → Works s.queue p (doing.Ticket k) k found state.Cancelled → IsCore (moves s (move.pass_over p k found))
meet-cancelled s p k found core works =
    plain-core _ (either.meet-cancelled s p k found (either-core s core) works) core.plain

-- Meet, a cell that was refused
pub meet-refused : (s : Shape) (p k : ℕ) (found : CoreCell) → IsCore s
    → Works s.queue p (doing.Ticket k) k found state.Refused → IsCore (moves s (move.meet_refused p k found))
meet-refused s p k found core works =
    plain-core _ (either.meet-refused s p k found (either-core s core) works) core.plain

-- Leave, the wait stands
pub leave-waiter : (s : Shape) (p k : ℕ) (found : CoreCell) → IsCore s
    → Works s.queue p doing.Idle k found state.Waiter → Owns p found
    → IsCore (moves s (move.begin_cancel p k found))
leave-waiter s p k found core works owns =
    plain-core _ (either.leave-waiter s p k found (either-core s core) works owns) core.plain

-- Leave, the wait was served before
pub leave-late : (s : Shape) (p k : ℕ) (found : CoreCell) → IsCore s
    → Works s.queue p doing.Idle k found state.Resumed → Owns p found
    → IsCore (records (gains (moves s (move.collect p k found)) p) (entry.Late p k))
leave-late s p k found core works owns =
    plain-core _ (either.leave-late s p k found (either-core s core) works owns) core.plain

-- Settle, resumes pass over the cell
pub settle-cancelled : (s : Shape) (p k : ℕ) (found : CoreCell) → IsCore s
    → Works s.queue p (doing.Decided k true) k found state.Cancelling → IsCore (moves s (move.cancel p k found))
settle-cancelled s p k found core works =
    plain-core _ (either.settle-cancelled s p k found (either-core s core) works) core.plain

-- Settle, a value was left to the canceller
pub settle-owing : (s : Shape) (p k : ℕ) (found : CoreCell) → IsCore s
    → Works s.queue p (doing.Decided k true) k found state.Delegated
    → IsCore (moves s (move.cancel_owing p k found))
settle-owing s p k found core works =
    plain-core _ (either.settle-owing s p k found (either-core s core) works) core.plain

-- Settle, the cell is refused and no resume has met it
pub settle-refused : (s : Shape) (p k : ℕ) (found : CoreCell) → IsCore s
    → Works s.queue p (doing.Decided k false) k found state.Cancelling
    → IsCore (moves s (move.refuse p k found))
settle-refused s p k found core works =
    plain-core _ (either.settle-refused s p k found (either-core s core) works) core.plain

-- Settle, the cell is refused and ends the resumption that left its value there
pub settle-ended : (s : Shape) (p k : ℕ) (found : CoreCell) → IsCore s
    → Works s.queue p (doing.Decided k false) k found state.Delegated → IsCore (moves s (move.refuse p k found))
settle-ended s p k found core works =
    plain-core _ (either.settle-ended s p k found (either-core s core) works) core.plain

-- Decide, fewer are on their way than must be resumed
pub decide-passes : (s : Shape) (p k : ℕ) → IsCore s → slice_get s.queue.doing p ≡ Some (doing.Leaving k)
    → s.state <ℤ pos 0 → IsCore (records (moves (adds s) (move.decide p k true)) (entry.Leave p k))
decide-passes s p k core does below =
    plain-core _ (either.decide-passes s p k (either-core s core) does below) core.plain

-- Decide, as many are on their way as must be resumed
pub decide-refuses : (s : Shape) (p k : ℕ) → IsCore s → slice_get s.queue.doing p ≡ Some (doing.Leaving k)
    → pos 0 ≤ℤ s.state → IsCore (records (moves (adds s) (move.decide p k false)) (entry.Leave p k))
decide-refuses s p k core does above =
    plain-core _ (either.decide-refuses s p k (either-core s core) does above) core.plain

-- Look, the wait stands
pub look-pending : (s : Shape) (p k : ℕ) (found : CoreCell) → IsCore s
    → Works s.queue p doing.Idle k found state.Waiter → Owns p found
    → IsCore (records s (entry.LookPending p k))
look-pending s p k found core works owns =
    plain-core _ (either.look-pending s p k found (either-core s core) works owns) core.plain

-- Look, the wait was served
pub look-granted : (s : Shape) (p k : ℕ) (found : CoreCell) → IsCore s
    → Works s.queue p doing.Idle k found state.Resumed → Owns p found
    → IsCore (records (gains (moves s (move.collect p k found)) p) (entry.LookGranted p k))
look-granted s p k found core works owns =
    plain-core _ (either.look-granted s p k found (either-core s core) works owns) core.plain
