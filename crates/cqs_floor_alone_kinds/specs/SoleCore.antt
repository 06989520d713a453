-- A core with one pass, which makes one whole call after the other.
use Rattle.std.specs.Prelude.{◌≡◌, ℕ, ◌+◌, ◌*◌, ◌<◌, ◌≤◌, All, length, slice_index, Bool, true, false, Option, Some, None}
use Rattle.cqs_core.specs.declared.calls.Call.{Call}
use Rattle.cqs_core.specs.declared.calls.Reply.{Reply}
use Rattle.cqs_core.specs.declared.calls.Reply.TheVariants as reply
use Rattle.cqs_core.specs.declared.cells.CoreCell.{CoreCell}
use Rattle.cqs_core.specs.declared.cells.CoreState.{CoreState}
use Rattle.cqs_core.specs.declared.cells.CoreState.TheVariants as state
use Rattle.cqs_core.specs.Resting.{IsIdle}
use Rattle.cqs_core.specs.SemaphoreAnswers.{Room}
use Rattle.cqs_core.specs.SemaphoreShown.{IsCore, shown_semaphore}
use Rattle.cqs_core.specs.SemaphoreTable.{Shape, last_number}
use Rattle.cqs_core.specs.SoleCaller.{HasWait, IsSoleCall, NoneTaken, ShowsNext}
use Rattle.cqs_plan.specs.Floor.{size_of}
use Rattle.cqs_plan.specs.LegalFloor.{BreaksNone}
use Rattle.cqs_rule_laws.specs.declared.config.Place.{Place}
use Rattle.cqs_rule_laws.specs.Placed.{place_at}
use Rattle.cqs_floor_alone_kinds.specs.declared.any_sole.AnySole.{AnySole}
use Rattle.cqs_floor_alone_kinds.specs.AnySoles.{store_any}
use Rattle.cqs_floor_alone_kinds.specs.Soles.{Sole}
use Rattle.cqs_floor_alone_kinds.specs.Stores.{Store}

-- Its one pass is between two calls, no suspend ever found its value in its cell, and no number was
-- broken.
pub record IsSole (s : Shape) : Type 0 where
  pub core : IsCore s
  pub idle : IsIdle s.queue.doing
  pub one : length s.queue.doing ≡ 1
  pub untaken : NoneTaken s
  pub unbroken : All BreaksNone s.history

-- one more call may be made
pub record IsReady (core : Room) : Type 0 where
  pub sole : IsSole core.shape
  pub numbers : core.shape.queue.suspends < last_number
  pub room : 3 ≤ core.spare

-- the core has made the call as the plain semaphore does
pub record HasMade (old : Room) (c : Call) (answer : Reply) (new : Room) : Type 0 where
  pub call : IsSoleCall old.shape c answer new.shape
  pub shown : ShowsNext old.shape c new.shape
  pub sole : IsSole new.shape
  pub spare : old.spare ≤ new.spare + 3

-- the wait of a cell was served
abbrev pub is_resumed : CoreState → Bool
is_resumed state.Resumed = true
is_resumed state.Empty = false
is_resumed state.Waiter = false
is_resumed state.Value = false
is_resumed state.Taken = false
is_resumed state.Broken = false
is_resumed state.Cancelling = false
is_resumed state.Delegated = false
is_resumed state.Cancelled = false
is_resumed state.Refused = false

abbrev pub is_served_at : Option CoreCell → Bool
is_served_at None = false
is_served_at (Some cell) = is_resumed cell.state

-- The core has room for all that can still come: three entries for each take, three for the look
-- or the leave of each wait, and three for each give. Its pass holds so many permits.
pub record IsFunded (core : Room) (size room waiting held : ℕ) : Type 0 where
  pub sole : IsSole core.shape
  pub permits : core.shape.permits ≡ size
  pub numbers : core.shape.queue.suspends + room ≤ 1048576
  pub spare : 9 * room + 6 * waiting + 3 * held ≤ core.spare
  pub holds : slice_index core.shape.held 0 ≡ held

-- a core with one pass, as a floor sees it: a wait's cell is the one of its number, in no word
abbrev pub sole_core : Sole Room
sole_core = record {
  entries = λ core. core.shape.history;
  funded = λ core kind. IsFunded core (size_of kind);
  has = λ core wait. HasWait wait.index 0 (shown_semaphore core.shape);
}

-- what a resource is on a floor of cores
abbrev pub store_core : Store (AnySole Room)
store_core = store_any sole_core

-- what the replies tell of a wait that came, of the wait that a permit was sent to, and of a wait
-- that left the line
abbrev pub wait_in : Reply → Option Place
wait_in (reply.Later wait) = Some (place_at 0 wait)
wait_in reply.Now = None
wait_in (reply.Took wait) = None
wait_in reply.Got = None
wait_in reply.Busy = None
wait_in reply.Freed = None
wait_in (reply.Sent wait) = None
wait_in reply.Granted = None
wait_in reply.Pending = None
wait_in reply.Cancelled = None
wait_in reply.TooLate = None

abbrev pub sent_in : Reply → Option ℕ
sent_in (reply.Sent wait) = Some wait
sent_in reply.Now = None
sent_in (reply.Later wait) = None
sent_in (reply.Took wait) = None
sent_in reply.Got = None
sent_in reply.Busy = None
sent_in reply.Freed = None
sent_in reply.Granted = None
sent_in reply.Pending = None
sent_in reply.Cancelled = None
sent_in reply.TooLate = None

abbrev pub has_left : Reply → Bool
has_left reply.Cancelled = true
has_left reply.Now = false
has_left (reply.Later wait) = false
has_left (reply.Took wait) = false
has_left reply.Got = false
has_left reply.Busy = false
has_left reply.Freed = false
has_left (reply.Sent wait) = false
has_left reply.Granted = false
has_left reply.Pending = false
has_left reply.TooLate = false
