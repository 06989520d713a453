-- Which entries of its caller an answer has, by the kind of the resource. What is delivered names
-- no caller, and isn't told here.
use Rattle.std.specs.Prelude.{ℕ, Bool, true, false, List, [], ◌∷◌, Option, Some, None}
use Rattle.cqs_core.specs.declared.entries.Entry.{Entry}
use Rattle.cqs_core.specs.declared.entries.Entry.TheVariants as permit
use Rattle.cqs_pool_object.specs.declared.entries.PoolEntry.{PoolEntry}
use Rattle.cqs_pool_object.specs.declared.entries.PoolEntry.TheVariants as element
use Rattle.cqs_latch_object.specs.declared.entries.LatchEntry.{LatchEntry}
use Rattle.cqs_latch_object.specs.declared.entries.LatchEntry.TheVariants as latch
use Rattle.cqs_barrier_object.specs.declared.entries.BarrierEntry.{BarrierEntry}
use Rattle.cqs_barrier_object.specs.declared.entries.BarrierEntry.TheVariants as party
use Rattle.cqs_plan.specs.declared.plans.kind.Kind.{Kind}
use Rattle.cqs_plan.specs.declared.plans.kind.Kind.TheVariants as kind
use Rattle.cqs_plan.specs.declared.floors.answers.FloorTake.{FloorTake}
use Rattle.cqs_plan.specs.declared.floors.answers.FloorTake.TheVariants.{Now, Waits}
use Rattle.cqs_plan.specs.declared.floors.answers.FloorLook.{FloorLook}
use Rattle.cqs_plan.specs.declared.floors.answers.FloorLook.TheVariants.{Pending, Granted}
use Rattle.cqs_plan.specs.declared.floors.answers.FloorLeave.{FloorLeave}
use Rattle.cqs_plan.specs.declared.floors.answers.FloorLeave.TheVariants.{Gone, Late}
use Rattle.cqs_plan.specs.declared.floors.answers.FloorDown.{FloorDown}
use Rattle.cqs_plan.specs.declared.floors.answers.FloorDown.TheVariants.{Left, Last, Already}
use Rattle.cqs_floor_shared.specs.declared.shared.SharedGive.{SharedGive}
use Rattle.cqs_floor_shared.specs.declared.shared.SharedGive.TheVariants as shared
use Rattle.cqs_floor_shared.specs.Entries.{Entries, at_permits, at_elements, at_latch, in_round, none_of}

-- The number that a call drew: where it waits, that of its wait; where it had at once what it came
-- for, it drew one or none.
abbrev pub number_drawn : FloorTake → Option ℕ → Option ℕ
number_drawn (Waits k) drew = Some k
number_drawn (Now element) drew = drew

-- a take of a semaphore that doesn't wait draws no number
abbrev pub permit_taken : ℕ → FloorTake → List Entry
permit_taken c (Now element) = permit.TakeNow c ∷ []
permit_taken c (Waits k) = permit.TakeDoor c ∷ permit.Enter c k ∷ []

-- each take of a pool draws one
abbrev pub element_taken : ℕ → Option ℕ → List PoolEntry
element_taken c None = []
element_taken c (Some k) = element.Enter c k ∷ []

-- who drew a number came by the door
abbrev pub latch_waited : ℕ → Option ℕ → List LatchEntry
latch_waited c None = latch.Passed c ∷ []
latch_waited c (Some k) = latch.AwaitDoor c ∷ latch.Enter c k ∷ []

abbrev pub party_arrived : ℕ → Option ℕ → List BarrierEntry
party_arrived c None = party.ArriveLast c ∷ []
party_arrived c (Some k) = party.ArriveDoor c ∷ party.Enter c k ∷ []

-- of the pass c, which came to take, to wait or to arrive
abbrev pub come_entries : Option Kind → ℕ → ℕ → FloorTake → Option ℕ → Entries
come_entries (Some (kind.Semaphore permits)) round c answer drew =
    at_permits (permit_taken c answer)
come_entries (Some kind.Mutex) round c answer drew = at_permits (permit_taken c answer)
come_entries (Some (kind.Pool elements)) round c answer drew =
    at_elements (element_taken c (number_drawn answer drew))
come_entries (Some (kind.Latch count)) round c answer drew =
    at_latch (latch_waited c (number_drawn answer drew))
come_entries (Some (kind.Rounds parties rounds)) round c answer drew =
    in_round round (party_arrived c (number_drawn answer drew))
come_entries None round c answer drew = at_permits []

-- a call that was turned away has none
abbrev pub turned_entries : Option Kind → ℕ → Entries
turned_entries (Some (kind.Semaphore permits)) round = at_permits []
turned_entries (Some kind.Mutex) round = at_permits []
turned_entries (Some (kind.Pool elements)) round = at_elements []
turned_entries (Some (kind.Latch count)) round = at_latch []
turned_entries (Some (kind.Rounds parties rounds)) round = in_round round []
turned_entries None round = at_permits []

abbrev pub came_entries : Option Kind → ℕ → ℕ → Option FloorTake → Option ℕ → Entries
came_entries k round c (Some answer) drew = come_entries k round c answer drew
came_entries k round c None drew = turned_entries k round

-- a permit was given back
abbrev pub permit_given : ℕ → SharedGive → List Entry
permit_given c (shared.Free element) = permit.GiveFreed c ∷ []
permit_given c (shared.Sent element k) = permit.GiveSent c ∷ []
permit_given c (shared.Left element k) = permit.GiveSent c ∷ []
permit_given c (shared.Void k) = permit.GiveSent c ∷ []

-- of the pass c, which gave back the element e
abbrev pub give_entries : Option Kind → ℕ → ℕ → SharedGive → Entries
give_entries (Some (kind.Semaphore permits)) c e answer =
    at_permits (permit_given c answer)
give_entries (Some kind.Mutex) c e answer = at_permits (permit_given c answer)
give_entries (Some (kind.Pool elements)) c e answer =
    at_elements (element.Put c e ∷ [])
give_entries (Some (kind.Latch count)) c e answer = at_latch []
give_entries (Some (kind.Rounds parties rounds)) c e answer = in_round 0 []
give_entries None c e answer = at_permits []

-- of the pass c, which looked at its wait of the number k
abbrev pub permit_looked : ℕ → ℕ → FloorLook → List Entry
permit_looked c k Pending = permit.LookPending c k ∷ []
permit_looked c k (Granted element) = permit.LookGranted c k ∷ []

abbrev pub element_looked : ℕ → ℕ → FloorLook → List PoolEntry
element_looked c k Pending = element.LookPending c k ∷ []
element_looked c k (Granted e) = element.LookGranted c k e ∷ []

abbrev pub latch_looked : ℕ → ℕ → FloorLook → List LatchEntry
latch_looked c k Pending = latch.LookPending c k ∷ []
latch_looked c k (Granted element) = latch.LookGranted c k ∷ []

abbrev pub party_looked : ℕ → ℕ → FloorLook → List BarrierEntry
party_looked c k Pending = party.LookPending c k ∷ []
party_looked c k (Granted element) = party.LookGranted c k ∷ []

abbrev pub look_entries : Option Kind → ℕ → ℕ → ℕ → FloorLook → Entries
look_entries (Some (kind.Semaphore permits)) round c k answer =
    at_permits (permit_looked c k answer)
look_entries (Some kind.Mutex) round c k answer = at_permits (permit_looked c k answer)
look_entries (Some (kind.Pool elements)) round c k answer =
    at_elements (element_looked c k answer)
look_entries (Some (kind.Latch count)) round c k answer = at_latch (latch_looked c k answer)
look_entries (Some (kind.Rounds parties rounds)) round c k answer =
    in_round round (party_looked c k answer)
look_entries None round c k answer = at_permits []

-- of the pass c, which wanted to leave with its wait of the number k
abbrev pub permit_left : ℕ → ℕ → FloorLeave → List Entry
permit_left c k Gone = permit.Leave c k ∷ []
permit_left c k (Late element) = permit.Late c k ∷ []

abbrev pub element_left : ℕ → ℕ → FloorLeave → List PoolEntry
element_left c k Gone = element.Leave c k ∷ []
element_left c k (Late e) = element.Late c k e ∷ []

abbrev pub latch_left : ℕ → ℕ → FloorLeave → List LatchEntry
latch_left c k Gone = latch.Leave c k ∷ []
latch_left c k (Late element) = latch.Late c k ∷ []

-- a party may be too late though its wait wasn't served yet: all had arrived, and it stays
abbrev pub party_left : ℕ → ℕ → FloorLeave → Bool → List BarrierEntry
party_left c k Gone stays = party.Withdraw c k ∷ []
party_left c k (Late element) true = party.Stay c k ∷ []
party_left c k (Late element) false = party.Late c k ∷ []

abbrev pub leave_entries : Option Kind → ℕ → ℕ → ℕ → FloorLeave → Bool → Entries
leave_entries (Some (kind.Semaphore permits)) round c k answer stays =
    at_permits (permit_left c k answer)
leave_entries (Some kind.Mutex) round c k answer stays = at_permits (permit_left c k answer)
leave_entries (Some (kind.Pool elements)) round c k answer stays =
    at_elements (element_left c k answer)
leave_entries (Some (kind.Latch count)) round c k answer stays =
    at_latch (latch_left c k answer)
leave_entries (Some (kind.Rounds parties rounds)) round c k answer stays =
    in_round round (party_left c k answer stays)
leave_entries None round c k answer stays = at_permits []

-- a look at, or a leave of, a wait whose permit came with its number has none
abbrev pub unless_came : Bool → Entries → Entries
unless_came true entries = none_of entries
unless_came false entries = entries

-- of the pass c, which counted a latch down; who took the last count opened it
abbrev pub latch_counted : ℕ → FloorDown → List LatchEntry
latch_counted c (Left n) = latch.DownLeft c n ∷ []
latch_counted c Last = latch.DownLast c ∷ latch.Open c ∷ []
latch_counted c Already = latch.DownAlready c ∷ []

abbrev pub down_entries : ℕ → FloorDown → Entries
down_entries c answer = at_latch (latch_counted c answer)
