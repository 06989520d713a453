-- The entries of one call at a resource, in the words of its kind; and what one caller has of a
-- history.
use Rattle.std.specs.Prelude.{◌≡◌, ◌<◌, ℕ, Bool, true, false, List, [], ◌∷◌, ◌++◌, length, map, count_by, slice_set}
use Rattle.cqs_core.specs.Numbered.{IsIn}
use Rattle.cqs_core.specs.Parts.{IsPrefix, part}
use Rattle.cqs_core.specs.declared.entries.Entry.{Entry}
use Rattle.cqs_core.specs.declared.entries.Entry.TheVariants as permit
use Rattle.cqs_core.specs.SemaphoreNames.{entry_names as permit_names}
use Rattle.cqs_pool_object.specs.declared.entries.PoolEntry.{PoolEntry}
use Rattle.cqs_pool_object.specs.declared.entries.PoolEntry.TheVariants as element
use Rattle.cqs_pool_object.specs.PoolNames.{entry_names as element_names}
use Rattle.cqs_latch_object.specs.declared.entries.LatchEntry.{LatchEntry}
use Rattle.cqs_latch_object.specs.declared.entries.LatchEntry.TheVariants as latch
use Rattle.cqs_latch_object.specs.LatchNames.{entry_names as latch_names}
use Rattle.cqs_barrier_object.specs.declared.entries.BarrierEntry.{BarrierEntry}
use Rattle.cqs_barrier_object.specs.declared.entries.BarrierEntry.TheVariants as party
use Rattle.cqs_barrier_object.specs.BarrierNames.{entry_names as party_names}
use Rattle.cqs_plan.specs.FloorHistory.{History, of_permits, of_elements, of_latch, of_rounds, entries_in}

pub data Entries : Type 0 where
  -- at a semaphore, or a mutex
  at_permits : List Entry → Entries
  -- at a pool
  at_elements : List PoolEntry → Entries
  -- at a latch
  at_latch : List LatchEntry → Entries
  -- at a barrier, in this round
  in_round : ℕ → List BarrierEntry → Entries

-- none, in the same words
abbrev pub none_of : Entries → Entries
none_of (at_permits entries) = at_permits []
none_of (at_elements entries) = at_elements []
none_of (at_latch entries) = at_latch []
none_of (in_round round entries) = in_round round []

-- the history, and then these
abbrev pub with_entries : History → Entries → History
with_entries (of_permits h) (at_permits entries) = of_permits (h ++ entries)
with_entries (of_elements h) (at_elements entries) = of_elements (h ++ entries)
with_entries (of_latch h) (at_latch entries) = of_latch (h ++ entries)
with_entries (of_rounds all) (in_round round entries) =
    of_rounds (slice_set all round (entries_in all round ++ entries))
with_entries (of_permits h) entries = of_permits h
with_entries (of_elements h) entries = of_elements h
with_entries (of_latch h) entries = of_latch h
with_entries (of_rounds all) entries = of_rounds all

-- the entries are in the words of the history
abbrev pub AreOf : History → Entries → Type 0
AreOf (of_permits h) (at_permits entries) = Unit {0}
AreOf (of_elements h) (at_elements entries) = Unit {0}
AreOf (of_latch h) (at_latch entries) = Unit {0}
AreOf (of_rounds all) (in_round round entries) = round < length all
AreOf h entries = ⊥

-- those of the entries that name the caller n
abbrev pub own_entries : ℕ → Entries → Entries
own_entries n (at_permits entries) = at_permits (part permit_names n entries)
own_entries n (at_elements entries) = at_elements (part element_names n entries)
own_entries n (at_latch entries) = at_latch (part latch_names n entries)
own_entries n (in_round round entries) = in_round round (part party_names n entries)

-- what names the caller n in a history
abbrev pub own_history : ℕ → History → History
own_history n (of_permits h) = of_permits (part permit_names n h)
own_history n (of_elements h) = of_elements (part element_names n h)
own_history n (of_latch h) = of_latch (part latch_names n h)
own_history n (of_rounds all) = of_rounds (map (part party_names n) all)

-- nothing has happened yet, in no round
abbrev pub are_nothing : List (List BarrierEntry) → Bool
are_nothing [] = true
are_nothing ([] ∷ rounds) = are_nothing rounds
are_nothing ((entry ∷ entries) ∷ rounds) = false

abbrev pub is_nothing : History → Bool
is_nothing (of_permits []) = true
is_nothing (of_elements []) = true
is_nothing (of_latch []) = true
is_nothing (of_rounds all) = are_nothing all
is_nothing (of_permits (entry ∷ entries)) = false
is_nothing (of_elements (entry ∷ entries)) = false
is_nothing (of_latch (entry ∷ entries)) = false

-- the one is how the other begins
abbrev pub IsBefore : History → History → Type 0
IsBefore (of_permits h) (of_permits all) = IsPrefix h all
IsBefore (of_elements h) (of_elements all) = IsPrefix h all
IsBefore (of_latch h) (of_latch all) = IsPrefix h all
IsBefore (of_rounds h) (of_rounds all) =
    (round : ℕ) → IsPrefix (entries_in h round) (entries_in all round)
IsBefore h all = ⊥

-- the entry draws a number
abbrev pub enters_for_permit : Entry → Bool
enters_for_permit (permit.Enter c k) = true
enters_for_permit entry = false

abbrev pub enters_for_element : PoolEntry → Bool
enters_for_element (element.Enter c k) = true
enters_for_element entry = false

abbrev pub enters_at_latch : LatchEntry → Bool
enters_at_latch (latch.Enter c k) = true
enters_at_latch entry = false

abbrev pub enters_at_barrier : BarrierEntry → Bool
enters_at_barrier (party.Enter c k) = true
enters_at_barrier entry = false

-- how many numbers were drawn, at a barrier in this round
abbrev pub drawn_in : History → ℕ → ℕ
drawn_in (of_permits h) round = count_by enters_for_permit h
drawn_in (of_elements h) round = count_by enters_for_element h
drawn_in (of_latch h) round = count_by enters_at_latch h
drawn_in (of_rounds all) round = count_by enters_at_barrier (entries_in all round)

-- what the number k waits for was delivered, of a pool this element, at a barrier in this round
abbrev pub IsDelivered : History → ℕ → ℕ → ℕ → Type 0
IsDelivered (of_permits h) round k e = IsIn (permit.Deliver k) h
IsDelivered (of_elements h) round k e = IsIn (element.Deliver k e) h
IsDelivered (of_latch h) round k e = IsIn (latch.Deliver k) h
IsDelivered (of_rounds all) round k e = IsIn (party.Deliver k) (entries_in all round)

-- the last of all is that what the number k waits for was delivered, of a pool this element; a call
-- that gives back sends nothing to a latch or a barrier
abbrev pub EndsDelivered : History → ℕ → ℕ → Type 0
EndsDelivered (of_permits h) k e = (before : List Entry) × (h ≡ before ++ permit.Deliver k ∷ [])
EndsDelivered (of_elements h) k e =
    (before : List PoolEntry) × (h ≡ before ++ element.Deliver k e ∷ [])
EndsDelivered (of_latch h) k e = ⊥
EndsDelivered (of_rounds all) k e = ⊥

-- nothing was delivered to the number k
abbrev pub IsUnserved : History → ℕ → Type 0
IsUnserved h k = (e : ℕ) → IsDelivered h 0 k e → ⊥

-- the wait of the number k left the line; a call that gives back finds none gone at another kind
abbrev pub HasGone : History → ℕ → Type 0
HasGone (of_permits h) k = (c : ℕ) × IsIn (permit.Leave c k) h
HasGone (of_elements h) k = ⊥
HasGone (of_latch h) k = ⊥
HasGone (of_rounds all) k = ⊥

-- the entries are those of permits
abbrev pub AreOfPermits : History → Type 0
AreOfPermits (of_permits h) = Unit {0}
AreOfPermits (of_elements h) = ⊥
AreOfPermits (of_latch h) = ⊥
AreOfPermits (of_rounds all) = ⊥
