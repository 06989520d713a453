-- What happened at a resource of a floor, in the words of its kind, and how the resource stands
-- then. One caller makes all calls of a floor, as pass 0.
use Rattle.std.specs.Prelude.{ℕ, ◌==◌, Bool, false, List, [], ◌∷◌, ◌++◌, length, map, replicate, find, count_by, slice_index, slice_index_or, slice_set}
use Rattle.std.specs.Option.{option_map_or}
use Rattle.cqs_core.specs.declared.entries.Entry.{Entry}
use Rattle.cqs_core.specs.declared.entries.Entry.TheVariants as permit
use Rattle.cqs_core.specs.QueueLine.{Waiting}
use Rattle.cqs_core.specs.SemaphoreObject.{Semaphore}
use Rattle.cqs_core.specs.SemaphoreEntries.{object_after}
use Rattle.cqs_pool_object.specs.declared.entries.PoolEntry.{PoolEntry}
use Rattle.cqs_pool_object.specs.declared.entries.PoolEntry.TheVariants as element
use Rattle.cqs_pool_object.specs.PoolObject.{Pool}
use Rattle.cqs_pool_object.specs.PoolEntries.{object_after as pool_after}
use Rattle.cqs_latch_object.specs.declared.entries.LatchEntry.{LatchEntry}
use Rattle.cqs_latch_object.specs.declared.entries.LatchEntry.TheVariants as latch
use Rattle.cqs_latch_object.specs.LatchObject.{Latch}
use Rattle.cqs_latch_object.specs.LatchEntries.{object_after as latch_object_after}
use Rattle.cqs_barrier_object.specs.declared.entries.BarrierEntry.{BarrierEntry}
use Rattle.cqs_barrier_object.specs.declared.entries.BarrierEntry.TheVariants as barrier
use Rattle.cqs_barrier_object.specs.BarrierObject.{Barrier}
use Rattle.cqs_barrier_object.specs.BarrierEntries.{object_after as barrier_object_after}
use Rattle.cqs_plan.specs.declared.plans.kind.Kind.{Kind}
use Rattle.cqs_plan.specs.declared.plans.kind.Kind.TheVariants as kind
use Rattle.cqs_plan.specs.declared.floors.answers.FloorEnd.{FloorEnd}
use Rattle.cqs_plan.specs.declared.floors.answers.FloorEnd.TheVariants as end

-- the entries so far, without looks that found nothing new
pub data History : Type 0 where
  -- of a semaphore, or of a mutex
  of_permits : List Entry → History
  -- of a pool
  of_elements : List PoolEntry → History
  -- of a latch
  of_latch : List LatchEntry → History
  -- of a barrier, round by round
  of_rounds : List (List BarrierEntry) → History

-- before the first call
abbrev pub no_history : Kind → History
no_history (kind.Semaphore permits) = of_permits []
no_history kind.Mutex = of_permits []
no_history (kind.Pool elements) = of_elements []
no_history (kind.Latch count) = of_latch []
no_history (kind.Rounds parties rounds) = of_rounds (replicate rounds [])

-- what a call does at a resource
pub data Deed : Type 0 where
  -- it takes this element at once
  takes : ℕ → Deed
  -- it joins the line, under this number; at a barrier it arrives
  joins : ℕ → Deed
  -- it gives this element back, and nobody waits
  frees : ℕ → Deed
  -- it gives this element back, and the wait of this number has it
  sends : ℕ → ℕ → Deed
  -- it looks at its wait, which has this element
  gets : ℕ → ℕ → Deed
  -- its wait leaves the line; at a barrier it withdraws
  leaves : ℕ → Deed
  -- its wait was to leave the line, and has this element
  is_late : ℕ → ℕ → Deed
  -- it passes a latch that is open
  passes : Deed
  -- it counts a latch down, and so many are left
  counts : ℕ → Deed
  -- it counts a latch down for the last time, and all who wait come through
  opens : Deed
  -- it counts a latch down that is open
  is_open : Deed
  -- it is the last to arrive at a barrier, and all who wait come through
  completes : Deed

-- who must wait for a permit goes by the door into the line, and one that is given to the line is
-- delivered at once
abbrev pub permit_entries : Deed → List Entry
permit_entries (takes e) = permit.TakeNow 0 ∷ []
permit_entries (joins k) = permit.TakeDoor 0 ∷ permit.Enter 0 k ∷ []
permit_entries (frees e) = permit.GiveFreed 0 ∷ []
permit_entries (sends e k) = permit.GiveSent 0 ∷ permit.Deliver k ∷ []
permit_entries (gets k e) = permit.LookGranted 0 k ∷ []
permit_entries (leaves k) = permit.Leave 0 k ∷ []
permit_entries (is_late k e) = permit.Late 0 k ∷ []
permit_entries passes = []
permit_entries (counts n) = []
permit_entries opens = []
permit_entries is_open = []
permit_entries completes = []

-- a take of a pool has the next number also where it doesn't wait
abbrev pub element_entries : ℕ → Deed → List PoolEntry
element_entries next (takes e) = element.Enter 0 next ∷ element.Deliver next e ∷ []
element_entries next (joins k) = element.Enter 0 k ∷ []
element_entries next (frees e) = element.Put 0 e ∷ []
element_entries next (sends e k) = element.Put 0 e ∷ element.Deliver k e ∷ []
element_entries next (gets k e) = element.LookGranted 0 k e ∷ []
element_entries next (leaves k) = element.Leave 0 k ∷ []
element_entries next (is_late k e) = element.Late 0 k e ∷ []
element_entries next passes = []
element_entries next (counts n) = []
element_entries next opens = []
element_entries next is_open = []
element_entries next completes = []

-- who must wait at a latch goes by the door into the line; a latch that opens resumes all who
-- stand in the line, in order
abbrev pub latch_entries : List Waiting → Deed → List LatchEntry
latch_entries line (takes e) = []
latch_entries line (joins k) = latch.AwaitDoor 0 ∷ latch.Enter 0 k ∷ []
latch_entries line (frees e) = []
latch_entries line (sends e k) = []
latch_entries line (gets k e) = latch.LookGranted 0 k ∷ []
latch_entries line (leaves k) = latch.Leave 0 k ∷ []
latch_entries line (is_late k e) = latch.Late 0 k ∷ []
latch_entries line passes = latch.Passed 0 ∷ []
latch_entries line (counts n) = latch.DownLeft 0 n ∷ []
latch_entries line opens =
    latch.DownLast 0 ∷ latch.Open 0 ∷ map (λ w. latch.Deliver w.wait) line
latch_entries line is_open = latch.DownAlready 0 ∷ []
latch_entries line completes = []

-- who arrives at a barrier before the last goes by the door into the line; the last resumes all who
-- stand there, in order
abbrev pub barrier_entries : List Waiting → Deed → List BarrierEntry
barrier_entries line (takes e) = []
barrier_entries line (joins k) = barrier.ArriveDoor 0 ∷ barrier.Enter 0 k ∷ []
barrier_entries line (frees e) = []
barrier_entries line (sends e k) = []
barrier_entries line (gets k e) = barrier.LookGranted 0 k ∷ []
barrier_entries line (leaves k) = barrier.Withdraw 0 k ∷ []
barrier_entries line (is_late k e) = barrier.Late 0 k ∷ []
barrier_entries line passes = []
barrier_entries line (counts n) = []
barrier_entries line opens = []
barrier_entries line is_open = []
barrier_entries line completes =
    barrier.ArriveLast 0 ∷ map (λ w. barrier.Deliver w.wait) line

-- a resource of this size, after these entries; the latches of a plan are smart
abbrev pub permits_after : ℕ → List Entry → Semaphore
permits_after size entries = object_after size entries

abbrev pub elements_after : ℕ → List PoolEntry → Pool
elements_after size entries = pool_after size entries

abbrev pub latch_after : ℕ → List LatchEntry → Latch
latch_after size entries = latch_object_after false size entries

abbrev pub barrier_after : ℕ → List BarrierEntry → Barrier
barrier_after size entries = barrier_object_after size entries

-- what happened in a round
abbrev pub entries_in : List (List BarrierEntry) → ℕ → List BarrierEntry
entries_in all round = slice_index_or all round []

-- the history and what a call does then, at a barrier in this round; nothing else has rounds
abbrev pub with_deed_in : ℕ → History → ℕ → Deed → History
with_deed_in size (of_permits entries) round deed = of_permits (entries ++ permit_entries deed)
with_deed_in size (of_elements entries) round deed =
    of_elements (entries ++ element_entries (elements_after size entries).next deed)
with_deed_in size (of_latch entries) round deed =
    of_latch (entries ++ latch_entries (latch_after size entries).waiters.line deed)
with_deed_in size (of_rounds all) round deed =
    let entries = entries_in all round in
    of_rounds (slice_set all round
    (entries ++ barrier_entries (barrier_after size entries).waiters.line deed))

-- the same at what has no rounds
abbrev pub with_deed : ℕ → History → Deed → History
with_deed size history deed = with_deed_in size history 0 deed

-- how a resource stands: what is free and what is held, the line, and the next number
pub record Standing : Type 0 where
  pub free : ℕ
  pub held : ℕ
  pub line : List Waiting
  pub next : ℕ

abbrev pub permits_stand : Semaphore → Standing
permits_stand o = record { free = o.free; held = o.held; line = o.line; next = o.next }

-- with one caller the elements on their way are free between two calls
abbrev pub elements_stand : Pool → Standing
elements_stand o =
    record { free = length o.way; held = length o.held; line = o.line; next = o.next }

-- nothing of a latch or a barrier can be held
abbrev pub latch_stands : Latch → Standing
latch_stands o =
    record { free = 0; held = 0; line = o.waiters.line; next = o.waiters.next }

abbrev pub barrier_stands : Barrier → Standing
barrier_stands o =
    record { free = 0; held = 0; line = o.waiters.line; next = o.waiters.next }

-- how a resource stands, a barrier in this round
abbrev pub standing_in : ℕ → History → ℕ → Standing
standing_in size (of_permits entries) round = permits_stand (permits_after size entries)
standing_in size (of_elements entries) round = elements_stand (elements_after size entries)
standing_in size (of_latch entries) round = latch_stands (latch_after size entries)
standing_in size (of_rounds all) round =
    barrier_stands (barrier_after size (entries_in all round))

abbrev pub standing : ℕ → History → Standing
standing size history = standing_in size history 0

-- how often a latch is still to be counted down, or how many parties are still to arrive in a
-- round of a barrier
abbrev pub to_come : ℕ → History → ℕ → ℕ
to_come size (of_permits entries) round = 0
to_come size (of_elements entries) round = 0
to_come size (of_latch entries) round = (latch_after size entries).count
to_come size (of_rounds all) round = (barrier_after size (entries_in all round)).remaining

-- which element a taker has at once: of a pool the first that is free, where they stand in the
-- order in which they were given back, and at the start in order of their numbers. What isn't of a
-- pool has the number 0
abbrev pub first_free : ℕ → History → ℕ
first_free size (of_permits entries) = 0
first_free size (of_elements entries) = slice_index (elements_after size entries).way 0
first_free size (of_latch entries) = 0
first_free size (of_rounds all) = 0

-- which element came for the wait of a number
abbrev pub came_for : ℕ → History → ℕ → ℕ
came_for size (of_permits entries) number = 0
came_for size (of_elements entries) number =
    option_map_or (λ g. g.element)
    (find (λ g. g.wait == number) (elements_after size entries).served)
    0
came_for size (of_latch entries) number = 0
came_for size (of_rounds all) number = 0

-- in this round all parties have arrived
abbrev pub is_over : ℕ → List BarrierEntry → Bool
is_over size entries = (barrier_after size entries).remaining == 0

-- what is told of a resource that stands so
abbrev pub permits_end : Standing → FloorEnd
permits_end s = end.Permits s.free s.held (length s.line)

-- what is told of a resource at the end
abbrev pub ending : ℕ → History → FloorEnd
ending size (of_permits entries) = permits_end (standing size (of_permits entries))
ending size (of_elements entries) = permits_end (standing size (of_elements entries))
ending size (of_latch entries) =
    end.Latch (latch_after size entries).count (length (latch_after size entries).waiters.line)
ending size (of_rounds all) = end.Rounds (count_by (is_over size) all)
