-- What the answers of a semaphore or a mutex that workers share have as entries.
use Rattle.std.proofs.Common.{◌≡◌, ℕ, Bool, true, List, All, [], ◌∷◌, slice_index_or, sum_by, Option, Some, None, refl, ap, subst, count_by}
use Rattle.std.specs.Bool.{if◌then◌else◌}
use Rattle.std.proofs.lemmas.Option.{slice_get-get_or}
use Rattle.cqs_core.specs.declared.entries.Entry.{Entry}
use Rattle.cqs_core.specs.declared.entries.Entry.TheVariants as entry
use Rattle.cqs_plan.specs.declared.plans.kind.Kind.{Kind}
use Rattle.cqs_plan.specs.declared.plans.kind.Kind.TheVariants as kind
use Rattle.cqs_plan.specs.declared.floors.answers.FloorTake.{FloorTake}
use Rattle.cqs_plan.specs.declared.floors.answers.FloorLook.{FloorLook}
use Rattle.cqs_plan.specs.declared.floors.answers.FloorLeave.{FloorLeave}
use Rattle.cqs_plan.specs.declared.floors.answers.FloorLeave.TheVariants as leave
use Rattle.cqs_plan.specs.Floor.{size_of}
use Rattle.cqs_plan.specs.FloorHistory.{of_permits}
use Rattle.cqs_plan.specs.Language.{can_hold}
use Rattle.cqs_plan.specs.LegalFloor.{BreaksNone, IsHistory}
use Rattle.cqs_semaphore_client.specs.PlainHistories.{IsPlainHistory, IsUnbroken}
use Rattle.cqs_semaphore_client.specs.PlainHistories.{BreaksNone as HasNoBreak}
use Rattle.cqs_semaphore.specs.Causes.{is_enter}
use Rattle.cqs_floor_shared.specs.declared.shared.SharedGive.{SharedGive}
use Rattle.cqs_floor_shared.specs.declared.shared.SharedGive.TheVariants as shared
use Rattle.cqs_floor_shared.specs.AnswerEntries.{came_entries, give_entries, leave_entries, look_entries, permit_given, permit_left, permit_looked, permit_taken}
use Rattle.cqs_floor_shared.specs.Calls.{IsDrawn, MayCome, TellsGive}
use Rattle.cqs_floor_shared.specs.Entries.{at_permits, enters_for_permit}
use Rattle.cqs_floor_shared_kinds.specs.PermitAccounts.{doors, enters, gains, losses}
use Rattle.cqs_floor_shared_kinds.specs.PermitRuns.{IsOfPermits, TellsSent}
use Rattle.cqs_floor_shared_kinds.specs.Shares.{Funds, with_more}
use Rattle.cqs_floor_shared_kinds.specs.ShareCalls.{parties_left}
use Rattle.cqs_floor_shared_kinds.specs.PermitShares.{ArePermits}

-- a legal history of the size of the kind, in which no number is broken
breaks-none : (h : List Entry) → IsUnbroken h → All BreaksNone h
breaks-none h unbroken n d below c k = (λ is. subst HasNoBreak is whole, λ is. subst HasNoBreak is whole)
  where
    whole : HasNoBreak (slice_index_or h n d)
    whole = unbroken.at n _ (slice_get-get_or h n d below)

pub history-of : (k : Kind) (h : List Entry) → IsOfPermits k → IsPlainHistory (size_of (Some k)) h
    → IsHistory k (of_permits h)
history-of (kind.Semaphore permits) h sort plain =
    record { legal = plain.legal; unbroken = breaks-none h plain.unbroken }
history-of kind.Mutex h sort plain =
    record { legal = plain.legal; unbroken = breaks-none h plain.unbroken }
history-of (kind.Pool elements) h sort plain = absurd sort
history-of (kind.Latch count) h sort plain = absurd sort
history-of (kind.Rounds parties rounds) h sort plain = absurd sort

-- what the answers have as entries of a semaphore or a mutex
pub come-is : (k : Kind) (round c : ℕ) (answer : FloorTake) (drew : Option ℕ) → IsOfPermits k
    → came_entries (Some k) round c (Some answer) drew ≡ at_permits (permit_taken c answer)
come-is (kind.Semaphore permits) round c answer drew sort = refl
come-is kind.Mutex round c answer drew sort = refl
come-is (kind.Pool elements) round c answer drew sort = absurd sort
come-is (kind.Latch count) round c answer drew sort = absurd sort
come-is (kind.Rounds parties rounds) round c answer drew sort = absurd sort

pub turned-is : (k : Kind) (round c : ℕ) → IsOfPermits k → came_entries (Some k) round c None None ≡ at_permits []
turned-is (kind.Semaphore permits) round c sort = refl
turned-is kind.Mutex round c sort = refl
turned-is (kind.Pool elements) round c sort = absurd sort
turned-is (kind.Latch count) round c sort = absurd sort
turned-is (kind.Rounds parties rounds) round c sort = absurd sort

pub give-is : (k : Kind) (c e : ℕ) (answer : SharedGive) → IsOfPermits k
    → give_entries (Some k) c e answer ≡ at_permits (permit_given c answer)
give-is (kind.Semaphore permits) c e answer sort = refl
give-is kind.Mutex c e answer sort = refl
give-is (kind.Pool elements) c e answer sort = absurd sort
give-is (kind.Latch count) c e answer sort = absurd sort
give-is (kind.Rounds parties rounds) c e answer sort = absurd sort

pub look-is : (k : Kind) (round c n : ℕ) (answer : FloorLook) → IsOfPermits k
    → look_entries (Some k) round c n answer ≡ at_permits (permit_looked c n answer)
look-is (kind.Semaphore permits) round c n answer sort = refl
look-is kind.Mutex round c n answer sort = refl
look-is (kind.Pool elements) round c n answer sort = absurd sort
look-is (kind.Latch count) round c n answer sort = absurd sort
look-is (kind.Rounds parties rounds) round c n answer sort = absurd sort

pub leave-is : (k : Kind) (round c n : ℕ) (answer : FloorLeave) (stays : Bool) → IsOfPermits k
    → leave_entries (Some k) round c n answer stays ≡ at_permits (permit_left c n answer)
leave-is (kind.Semaphore permits) round c n answer stays sort = refl
leave-is kind.Mutex round c n answer stays sort = refl
leave-is (kind.Pool elements) round c n answer stays sort = absurd sort
leave-is (kind.Latch count) round c n answer stays sort = absurd sort
leave-is (kind.Rounds parties rounds) round c n answer stays sort = absurd sort

pub may-come : (k : Kind) → IsOfPermits k → MayCome true (Some k)
may-come (kind.Semaphore permits) sort = tt
may-come kind.Mutex sort = tt
may-come (kind.Pool elements) sort = absurd sort
may-come (kind.Latch count) sort = absurd sort
may-come (kind.Rounds parties rounds) sort = absurd sort

pub drawn-is : (k : Kind) (answer : Option FloorTake) (drew : Option ℕ) → IsOfPermits k → IsDrawn (Some k) answer drew
drawn-is (kind.Semaphore permits) answer drew sort = tt
drawn-is kind.Mutex answer drew sort = tt
drawn-is (kind.Pool elements) answer drew sort = absurd sort
drawn-is (kind.Latch count) answer drew sort = absurd sort
drawn-is (kind.Rounds parties rounds) answer drew sort = absurd sort

pub brought-is : (k : Kind) (a : Funds) (job e : ℕ) → IsOfPermits k
    → (if can_hold k then with_more a job e else a) ≡ with_more a job e
brought-is (kind.Semaphore permits) a job e sort = refl
brought-is kind.Mutex a job e sort = refl
brought-is (kind.Pool elements) a job e sort = absurd sort
brought-is (kind.Latch count) a job e sort = absurd sort
brought-is (kind.Rounds parties rounds) a job e sort = absurd sort

pub parties-is : (k : Kind) (round : ℕ) (answer : FloorLeave) → IsOfPermits k → [] ≡ parties_left k [] round answer
parties-is (kind.Semaphore permits) round leave.Gone sort = refl
parties-is (kind.Semaphore permits) round (leave.Late e) sort = refl
parties-is kind.Mutex round leave.Gone sort = refl
parties-is kind.Mutex round (leave.Late e) sort = refl
parties-is (kind.Pool elements) round answer sort = absurd sort
parties-is (kind.Latch count) round answer sort = absurd sort
parties-is (kind.Rounds parties rounds) round answer sort = absurd sort

pub oldest-is : (es : List ℕ) → ArePermits es → slice_index_or es 0 0 ≡ 0
oldest-is [] all = refl
oldest-is (e ∷ es) all = all.0

-- the two words for how many numbers were drawn
same-draws : (e : Entry) → is_enter e ≡ enters_for_permit e
same-draws (entry.TakeNow c) = refl
same-draws (entry.TakeDoor c) = refl
same-draws (entry.Enter c k) = refl
same-draws (entry.TryGot c) = refl
same-draws (entry.TryBusy c) = refl
same-draws (entry.GiveFreed c) = refl
same-draws (entry.GiveSent c) = refl
same-draws (entry.Deliver k) = refl
same-draws (entry.Spoil c k) = refl
same-draws (entry.Undo c k) = refl
same-draws (entry.Leave c k) = refl
same-draws (entry.Late c k) = refl
same-draws (entry.LookGranted c k) = refl
same-draws (entry.LookPending c k) = refl

pub drawn-same : (h : List Entry) → count_by is_enter h ≡ count_by enters_for_permit h
drawn-same h = ap (λ (f : Entry → Bool). count_by f h) (λ i e. same-draws e i)

-- a give has one loss
pub give-counts : (c : ℕ) (answer : SharedGive)
    → (sum_by gains (permit_given c answer) ≡ 0) × (sum_by losses (permit_given c answer) ≡ 1)
    × (sum_by enters (permit_given c answer) ≡ sum_by doors (permit_given c answer))
give-counts c (shared.Free e) = (refl, refl, refl)
give-counts c (shared.Sent e k) = (refl, refl, refl)
give-counts c (shared.Left e k) = (refl, refl, refl)
give-counts c (shared.Void k) = (refl, refl, refl)

-- what was sent on is told as of a give of a permit, which had GiveSent alone
pub sent-tells : (answer : SharedGive) (seen : List Entry) → TellsSent answer seen → TellsGive 0 answer
    (of_permits seen)
sent-tells (shared.Free e) seen tells = absurd tells
sent-tells (shared.Sent e k) seen tells = tells
sent-tells (shared.Left e k) seen tells = tells
sent-tells (shared.Void k) seen tells = tells

pub sent-given : (c : ℕ) (answer : SharedGive) (seen : List Entry) → TellsSent answer seen
    → permit_given c answer ≡ entry.GiveSent c ∷ []
sent-given c (shared.Free e) seen tells = absurd tells
sent-given c (shared.Sent e k) seen tells = refl
sent-given c (shared.Left e k) seen tells = refl
sent-given c (shared.Void k) seen tells = refl
