-- What the answers of a pool that workers share have as entries.
use Rattle.std.proofs.Common.{◌≡◌, ℕ, Bool, List, [], ◌∷◌, Option, Some, None, refl, ap, count_by}
use Rattle.std.specs.Bool.{if◌then◌else◌}
use Rattle.cqs_plan.specs.declared.plans.kind.Kind.{Kind}
use Rattle.cqs_plan.specs.declared.plans.kind.Kind.TheVariants as kind
use Rattle.cqs_plan.specs.declared.floors.answers.FloorTake.{FloorTake}
use Rattle.cqs_plan.specs.declared.floors.answers.FloorTake.TheVariants as take
use Rattle.cqs_plan.specs.declared.floors.answers.FloorLook.{FloorLook}
use Rattle.cqs_plan.specs.declared.floors.answers.FloorLeave.{FloorLeave}
use Rattle.cqs_plan.specs.declared.floors.answers.FloorLeave.TheVariants as leave
use Rattle.cqs_plan.specs.Floor.{size_of}
use Rattle.cqs_plan.specs.FloorHistory.{of_elements}
use Rattle.cqs_plan.specs.Language.{can_hold}
use Rattle.cqs_plan.specs.LegalFloor.{IsHistory}
use Rattle.cqs_pool.specs.Causes.{is_enter}
use Rattle.cqs_pool_object.specs.declared.entries.PoolEntry.{PoolEntry}
use Rattle.cqs_pool_object.specs.declared.entries.PoolEntry.TheVariants as entry
use Rattle.cqs_pool_object.specs.PoolEntries.{IsLegal}
use Rattle.cqs_floor_shared.specs.declared.shared.SharedGive.{SharedGive}
use Rattle.cqs_floor_shared.specs.AnswerEntries.{came_entries, element_left, element_looked, element_taken, give_entries, leave_entries, look_entries, number_drawn}
use Rattle.cqs_floor_shared.specs.Calls.{IsDrawn, IsElement}
use Rattle.cqs_floor_shared.specs.Entries.{at_elements, enters_for_element}
use Rattle.cqs_floor_shared_kinds.specs.PoolRuns.{IsPool}
use Rattle.cqs_floor_shared_kinds.specs.Shares.{Funds, with_more}
use Rattle.cqs_floor_shared_kinds.specs.ShareCalls.{parties_left}

-- a legal history of the size of the kind
pub history-of : (k : Kind) (h : List PoolEntry) → IsPool k → IsLegal (size_of (Some k)) h → IsHistory k (of_elements h)
history-of (kind.Pool elements) h sort legal = legal
history-of (kind.Semaphore permits) h sort legal = absurd sort
history-of kind.Mutex h sort legal = absurd sort
history-of (kind.Latch count) h sort legal = absurd sort
history-of (kind.Rounds parties rounds) h sort legal = absurd sort

-- what the answers have as entries of a pool
pub come-is : (k : Kind) (round c : ℕ) (answer : FloorTake) (drew : Option ℕ) → IsPool k
    → came_entries (Some k) round c (Some answer) drew ≡ at_elements (element_taken c (number_drawn answer drew))
come-is (kind.Pool elements) round c answer drew sort = refl
come-is (kind.Semaphore permits) round c answer drew sort = absurd sort
come-is kind.Mutex round c answer drew sort = absurd sort
come-is (kind.Latch count) round c answer drew sort = absurd sort
come-is (kind.Rounds parties rounds) round c answer drew sort = absurd sort

pub turned-is : (k : Kind) (round c : ℕ) → IsPool k → came_entries (Some k) round c None None ≡ at_elements []
turned-is (kind.Pool elements) round c sort = refl
turned-is (kind.Semaphore permits) round c sort = absurd sort
turned-is kind.Mutex round c sort = absurd sort
turned-is (kind.Latch count) round c sort = absurd sort
turned-is (kind.Rounds parties rounds) round c sort = absurd sort

pub give-is : (k : Kind) (c e : ℕ) (answer : SharedGive) → IsPool k
    → give_entries (Some k) c e answer ≡ at_elements (entry.Put c e ∷ [])
give-is (kind.Pool elements) c e answer sort = refl
give-is (kind.Semaphore permits) c e answer sort = absurd sort
give-is kind.Mutex c e answer sort = absurd sort
give-is (kind.Latch count) c e answer sort = absurd sort
give-is (kind.Rounds parties rounds) c e answer sort = absurd sort

pub look-is : (k : Kind) (round c n : ℕ) (answer : FloorLook) → IsPool k
    → look_entries (Some k) round c n answer ≡ at_elements (element_looked c n answer)
look-is (kind.Pool elements) round c n answer sort = refl
look-is (kind.Semaphore permits) round c n answer sort = absurd sort
look-is kind.Mutex round c n answer sort = absurd sort
look-is (kind.Latch count) round c n answer sort = absurd sort
look-is (kind.Rounds parties rounds) round c n answer sort = absurd sort

pub leave-is : (k : Kind) (round c n : ℕ) (answer : FloorLeave) (stays : Bool) → IsPool k
    → leave_entries (Some k) round c n answer stays ≡ at_elements (element_left c n answer)
leave-is (kind.Pool elements) round c n answer stays sort = refl
leave-is (kind.Semaphore permits) round c n answer stays sort = absurd sort
leave-is kind.Mutex round c n answer stays sort = absurd sort
leave-is (kind.Latch count) round c n answer stays sort = absurd sort
leave-is (kind.Rounds parties rounds) round c n answer stays sort = absurd sort

-- elements have numbers of their own
pub its-element : (k : Kind) (e : ℕ) → IsPool k → IsElement (Some k) e
its-element (kind.Pool elements) e sort = tt
its-element (kind.Semaphore permits) e sort = absurd sort
its-element kind.Mutex e sort = absurd sort
its-element (kind.Latch count) e sort = absurd sort
its-element (kind.Rounds parties rounds) e sort = absurd sort

-- a take drew a number, if it had an element at once
pub drew-one : (k : Kind) (answer : Option FloorTake) (n : ℕ) → IsPool k → IsDrawn (Some k) answer (Some n)
drew-one (kind.Pool elements) None n sort = tt
drew-one (kind.Pool elements) (Some (take.Now e)) n sort = tt
drew-one (kind.Pool elements) (Some (take.Waits m)) n sort = tt
drew-one (kind.Semaphore permits) answer n sort = absurd sort
drew-one kind.Mutex answer n sort = absurd sort
drew-one (kind.Latch count) answer n sort = absurd sort
drew-one (kind.Rounds parties rounds) answer n sort = absurd sort

pub drew-none : (k : Kind) → IsPool k → IsDrawn (Some k) None None
drew-none (kind.Pool elements) sort = tt
drew-none (kind.Semaphore permits) sort = absurd sort
drew-none kind.Mutex sort = absurd sort
drew-none (kind.Latch count) sort = absurd sort
drew-none (kind.Rounds parties rounds) sort = absurd sort

pub drew-waits : (k : Kind) (n : ℕ) → IsPool k → IsDrawn (Some k) (Some (take.Waits n)) None
drew-waits (kind.Pool elements) n sort = tt
drew-waits (kind.Semaphore permits) n sort = absurd sort
drew-waits kind.Mutex n sort = absurd sort
drew-waits (kind.Latch count) n sort = absurd sort
drew-waits (kind.Rounds parties rounds) n sort = absurd sort

pub brought-is : (k : Kind) (a : Funds) (job e : ℕ) → IsPool k
    → (if can_hold k then with_more a job e else a) ≡ with_more a job e
brought-is (kind.Pool elements) a job e sort = refl
brought-is (kind.Semaphore permits) a job e sort = absurd sort
brought-is kind.Mutex a job e sort = absurd sort
brought-is (kind.Latch count) a job e sort = absurd sort
brought-is (kind.Rounds parties rounds) a job e sort = absurd sort

pub parties-is : (k : Kind) (round : ℕ) (answer : FloorLeave) → IsPool k → [] ≡ parties_left k [] round answer
parties-is (kind.Pool elements) round leave.Gone sort = refl
parties-is (kind.Pool elements) round (leave.Late e) sort = refl
parties-is (kind.Semaphore permits) round answer sort = absurd sort
parties-is kind.Mutex round answer sort = absurd sort
parties-is (kind.Latch count) round answer sort = absurd sort
parties-is (kind.Rounds parties rounds) round answer sort = absurd sort

-- the two words for how many numbers were drawn
same-draws : (e : PoolEntry) → is_enter e ≡ enters_for_element e
same-draws (entry.Put c e) = refl
same-draws (entry.Enter c k) = refl
same-draws (entry.Deliver k e) = refl
same-draws (entry.Leave c k) = refl
same-draws (entry.Late c k e) = refl
same-draws (entry.LookGranted c k e) = refl
same-draws (entry.LookPending c k) = refl

pub drawn-same : (h : List PoolEntry) → count_by is_enter h ≡ count_by enters_for_element h
drawn-same h = ap (λ (f : PoolEntry → Bool). count_by f h) (λ i e. same-draws e i)
