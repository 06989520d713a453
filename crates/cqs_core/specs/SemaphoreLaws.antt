-- The laws of the fair semaphore: what holds of every legal history,
-- whatever machine it comes from.
use Rattle.std.specs.Prelude.{◌≡◌, ℕ, ◌<◌, List, take, Some, slice_get}
use Rattle.cqs_core.specs.declared.entries.Entry.{Entry}
use Rattle.cqs_core.specs.declared.entries.Entry.TheVariants as entry
use Rattle.cqs_core.specs.Numbered.{IsIn}
use Rattle.cqs_core.specs.SemaphoreObject.{Semaphore}
use Rattle.cqs_core.specs.SemaphoreEntries.{object_after, IsLegal, IsBalanced, IsFirst}

-- no permit is lost, no more are on their way than wait, and none is free while one waits
-- for whom none is on its way
abbrev pub EveryLegalHistoryIsBalanced : Type 0
EveryLegalHistoryIsBalanced =
    (permits : ℕ) (history : List Entry) → IsLegal permits history
    → IsBalanced permits (object_after permits history)

-- the semaphore that the entry of number n comes to
abbrev pub object_before : ℕ → List Entry → ℕ → Semaphore
object_before permits history n = object_after permits (take n history)

-- where just one permit is on its way, the first of the line gets it
abbrev pub OnePermitGoesToTheFirst : Type 0
OnePermitGoesToTheFirst =
    (permits : ℕ) (history : List Entry) (n k : ℕ) → IsLegal permits history
    → slice_get history n ≡ Some (entry.Deliver k)
    → (object_before permits history n).way ≡ 1 → IsFirst k (object_before permits history n).line

-- the entry ends wait k in the line: it is served, or it leaves, or its number is broken
abbrev pub EndsWait : ℕ → Entry → Type 0
EndsWait k (entry.Deliver j) = j ≡ k
EndsWait k (entry.Leave c j) = j ≡ k
EndsWait k (entry.Spoil c j) = j ≡ k
EndsWait k (entry.Undo c j) = ⊥
EndsWait k (entry.TakeNow c) = ⊥
EndsWait k (entry.TakeDoor c) = ⊥
EndsWait k (entry.Enter c j) = ⊥
EndsWait k (entry.TryGot c) = ⊥
EndsWait k (entry.TryBusy c) = ⊥
EndsWait k (entry.GiveFreed c) = ⊥
EndsWait k (entry.GiveSent c) = ⊥
EndsWait k (entry.Late c j) = ⊥
EndsWait k (entry.LookGranted c j) = ⊥
EndsWait k (entry.LookPending c j) = ⊥

-- a wait ends once: it is served no second time, and neither after it left nor does it
-- leave after it was served
abbrev pub EveryWaitEndsOnce : Type 0
EveryWaitEndsOnce =
    (permits : ℕ) (history : List Entry) (k m n : ℕ) (d e : Entry) → IsLegal permits history
    → slice_get history m ≡ Some d → slice_get history n ≡ Some e → EndsWait k d → EndsWait k e
    → m ≡ n

-- the entry hands the permit of wait k to its caller, who looks, or comes too late to leave
abbrev pub Collects : ℕ → Entry → Type 0
Collects k (entry.LookGranted c j) = j ≡ k
Collects k (entry.Late c j) = j ≡ k
Collects k (entry.TakeNow c) = ⊥
Collects k (entry.TakeDoor c) = ⊥
Collects k (entry.Enter c j) = ⊥
Collects k (entry.TryGot c) = ⊥
Collects k (entry.TryBusy c) = ⊥
Collects k (entry.GiveFreed c) = ⊥
Collects k (entry.GiveSent c) = ⊥
Collects k (entry.Deliver j) = ⊥
Collects k (entry.Spoil c j) = ⊥
Collects k (entry.Undo c j) = ⊥
Collects k (entry.Leave c j) = ⊥
Collects k (entry.LookPending c j) = ⊥

-- a permit is handed over only after it was delivered
abbrev pub EveryCollectionFollowsItsDelivery : Type 0
EveryCollectionFollowsItsDelivery =
    (permits : ℕ) (history : List Entry) (k n : ℕ) (e : Entry) → IsLegal permits history
    → slice_get history n ≡ Some e → Collects k e → IsIn (entry.Deliver k) (take n history)

-- a permit that was delivered is handed over once
abbrev pub EveryWaitIsCollectedOnce : Type 0
EveryWaitIsCollectedOnce =
    (permits : ℕ) (history : List Entry) (k m n : ℕ) (d e : Entry) → IsLegal permits history
    → slice_get history m ≡ Some d → slice_get history n ≡ Some e → Collects k d → Collects k e
    → m ≡ n

-- each permit is delivered before the next is on its way
abbrev pub DeliversOneByOne : ℕ → List Entry → Type 0
DeliversOneByOne permits history =
    (n k : ℕ) → slice_get history n ≡ Some (entry.Deliver k)
    → (object_before permits history n).way ≡ 1

-- where each permit is delivered before the next is on its way, waits are served in the
-- order in which they entered
abbrev pub ServiceIsInOrder : Type 0
ServiceIsInOrder =
    (permits : ℕ) (history : List Entry) (m n j k : ℕ) → IsLegal permits history
    → DeliversOneByOne permits history
    → slice_get history m ≡ Some (entry.Deliver j) → slice_get history n ≡ Some (entry.Deliver k)
    → m < n → j < k

-- the entry breaks number k
abbrev pub Breaks : ℕ → Entry → Type 0
Breaks k (entry.Spoil c j) = j ≡ k
Breaks k (entry.Undo c j) = ⊥
Breaks k (entry.Deliver j) = ⊥
Breaks k (entry.Leave c j) = ⊥
Breaks k (entry.TakeNow c) = ⊥
Breaks k (entry.TakeDoor c) = ⊥
Breaks k (entry.Enter c j) = ⊥
Breaks k (entry.TryGot c) = ⊥
Breaks k (entry.TryBusy c) = ⊥
Breaks k (entry.GiveFreed c) = ⊥
Breaks k (entry.GiveSent c) = ⊥
Breaks k (entry.Late c j) = ⊥
Breaks k (entry.LookGranted c j) = ⊥
Breaks k (entry.LookPending c j) = ⊥

-- the caller of number k comes to it, and it is broken
abbrev pub FindsBroken : ℕ → Entry → Type 0
FindsBroken k (entry.Undo c j) = j ≡ k
FindsBroken k (entry.Spoil c j) = ⊥
FindsBroken k (entry.Deliver j) = ⊥
FindsBroken k (entry.Leave c j) = ⊥
FindsBroken k (entry.TakeNow c) = ⊥
FindsBroken k (entry.TakeDoor c) = ⊥
FindsBroken k (entry.Enter c j) = ⊥
FindsBroken k (entry.TryGot c) = ⊥
FindsBroken k (entry.TryBusy c) = ⊥
FindsBroken k (entry.GiveFreed c) = ⊥
FindsBroken k (entry.GiveSent c) = ⊥
FindsBroken k (entry.Late c j) = ⊥
FindsBroken k (entry.LookGranted c j) = ⊥
FindsBroken k (entry.LookPending c j) = ⊥

-- a number is broken once
abbrev pub EveryNumberIsBrokenOnce : Type 0
EveryNumberIsBrokenOnce =
    (permits : ℕ) (history : List Entry) (k m n : ℕ) (d e : Entry) → IsLegal permits history
    → slice_get history m ≡ Some d → slice_get history n ≡ Some e → Breaks k d → Breaks k e
    → m ≡ n

-- and found so once
abbrev pub EveryBreakIsFoundOnce : Type 0
EveryBreakIsFoundOnce =
    (permits : ℕ) (history : List Entry) (k m n : ℕ) (d e : Entry) → IsLegal permits history
    → slice_get history m ≡ Some d → slice_get history n ≡ Some e → FindsBroken k d
    → FindsBroken k e
    → m ≡ n
