-- A synchronous queue read as one that isn't: a broken cell as one whose value is still there for
-- its suspend, or was taken by it; and a pass that watches the value which it left as an idle one.
-- In this reading each step of a synchronous queue is a step of an asynchronous one, or none, so
-- what is proved of the one holds of the other.
use Rattle.std.specs.Prelude.{Bool, true, false, map}
use Rattle.cqs_core.specs.declared.cells.CoreCell.{CoreCell}
use Rattle.cqs_core.specs.declared.cells.CoreState.{CoreState}
use Rattle.cqs_core.specs.declared.cells.CoreState.TheVariants as state
use Rattle.cqs_core.specs.declared.doings.Doing.{Doing}
use Rattle.cqs_core.specs.declared.doings.Doing.TheVariants as doing
use Rattle.cqs_core.specs.Numbered.{EachAt}
use Rattle.cqs_core.specs.QueueState.{Queue}

abbrev pub unbroken_state : CoreState → Bool → CoreState
unbroken_state state.Broken false = state.Value
unbroken_state state.Broken true = state.Taken
unbroken_state state.Empty collected = state.Empty
unbroken_state state.Waiter collected = state.Waiter
unbroken_state state.Value collected = state.Value
unbroken_state state.Taken collected = state.Taken
unbroken_state state.Resumed collected = state.Resumed
unbroken_state state.Cancelling collected = state.Cancelling
unbroken_state state.Delegated collected = state.Delegated
unbroken_state state.Cancelled collected = state.Cancelled
unbroken_state state.Refused collected = state.Refused

abbrev pub unbroken_cell : CoreCell → CoreCell
unbroken_cell c =
    record { state = unbroken_state c.state c.collected; owner = c.owner; collected = c.collected }

abbrev pub unwatching : Doing → Doing
unwatching (doing.Watching k) = doing.Idle
unwatching doing.Idle = doing.Idle
unwatching (doing.TryAt v) = doing.TryAt v
unwatching doing.Door = doing.Door
unwatching (doing.Drawn k) = doing.Drawn k
unwatching doing.Owes = doing.Owes
unwatching (doing.Ticket k) = doing.Ticket k
unwatching (doing.Leaving k) = doing.Leaving k
unwatching (doing.Decided k on) = doing.Decided k on

abbrev pub as_unbroken : Queue → Queue
as_unbroken q = record q { cells = map unbroken_cell q.cells; doing = map unwatching q.doing }

abbrev pub IsIntact : CoreState → Type 0
IsIntact state.Broken = ⊥
IsIntact state.Empty = Unit {0}
IsIntact state.Waiter = Unit {0}
IsIntact state.Value = Unit {0}
IsIntact state.Taken = Unit {0}
IsIntact state.Resumed = Unit {0}
IsIntact state.Cancelling = Unit {0}
IsIntact state.Delegated = Unit {0}
IsIntact state.Cancelled = Unit {0}
IsIntact state.Refused = Unit {0}

abbrev pub WatchesNone : Doing → Type 0
WatchesNone (doing.Watching k) = ⊥
WatchesNone doing.Idle = Unit {0}
WatchesNone (doing.TryAt v) = Unit {0}
WatchesNone doing.Door = Unit {0}
WatchesNone (doing.Drawn k) = Unit {0}
WatchesNone doing.Owes = Unit {0}
WatchesNone (doing.Ticket k) = Unit {0}
WatchesNone (doing.Leaving k) = Unit {0}
WatchesNone (doing.Decided k on) = Unit {0}

-- no cell is broken and no pass watches one: the queue reads as itself
pub record IsUnbroken (q : Queue) : Type 0 where
  pub cells : EachAt (λ k c. IsIntact c.state) q.cells
  pub passes : EachAt (λ p d. WatchesNone d) q.doing
