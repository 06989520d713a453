-- What the answers of a latch that workers share have as entries.
use Rattle.std.proofs.Common.{◌≡◌, ◌≢◌, ◌⊎◌, inl, inr, ℕ, Bool, true, false, List, [], ◌∷◌, count_by, Option, Some, None, refl, ap, sym, ◌∙◌, arith}
use Rattle.std.specs.Bool.{if◌then◌else◌}
use Rattle.std.proofs.lemmas.Bool.{false≢true}
use Rattle.cqs_core.specs.Numbered.{IsIn}
use Rattle.cqs_core.proofs.Counts.{bit}
use Rattle.cqs_core.proofs.Rising.{in-behind, in-none}
use Rattle.cqs_latch_object.specs.declared.entries.LatchEntry.{LatchEntry}
use Rattle.cqs_latch_object.specs.declared.entries.LatchEntry.TheVariants as entry
use Rattle.cqs_latch_object.specs.LatchEntries.{IsLegal}
use Rattle.cqs_plan.specs.declared.plans.kind.Kind.{Kind}
use Rattle.cqs_plan.specs.declared.plans.kind.Kind.TheVariants as kind
use Rattle.cqs_plan.specs.declared.floors.answers.FloorTake.{FloorTake}
use Rattle.cqs_plan.specs.declared.floors.answers.FloorLook.{FloorLook}
use Rattle.cqs_plan.specs.declared.floors.answers.FloorLeave.{FloorLeave}
use Rattle.cqs_plan.specs.declared.floors.answers.FloorLeave.TheVariants as leave
use Rattle.cqs_plan.specs.Floor.{IsLatch, size_of}
use Rattle.cqs_plan.specs.FloorHistory.{of_latch}
use Rattle.cqs_plan.specs.Language.{can_hold}
use Rattle.cqs_plan.specs.LegalFloor.{IsHistory}
use Rattle.cqs_floor_shared.specs.AnswerEntries.{came_entries, latch_left, latch_looked, latch_waited, leave_entries, look_entries, number_drawn}
use Rattle.cqs_floor_shared.specs.Calls.{IsDrawn}
use Rattle.cqs_floor_shared.specs.Entries.{at_latch, enters_at_latch}
use Rattle.cqs_floor_shared_kinds.specs.Shares.{Funds, with_more}
use Rattle.cqs_floor_shared_kinds.specs.ShareCalls.{parties_left}
use Rattle.cqs_floor_shared_any.proofs.LatchWaits.{first-drawn}

-- a legal history of the size of the latch
pub history-of : (k : Kind) (h : List LatchEntry) → IsLatch (Some k) → IsLegal false (size_of (Some k)) h
    → IsHistory k (of_latch h)
history-of (kind.Latch count) h sort legal = legal
history-of (kind.Semaphore permits) h sort legal = absurd sort
history-of kind.Mutex h sort legal = absurd sort
history-of (kind.Pool elements) h sort legal = absurd sort
history-of (kind.Rounds parties rounds) h sort legal = absurd sort

-- what the answers have as entries of a latch
pub come-is : (k : Kind) (round c : ℕ) (answer : FloorTake) (drew : Option ℕ) → IsLatch (Some k)
    → came_entries (Some k) round c (Some answer) drew ≡ at_latch (latch_waited c (number_drawn answer drew))
come-is (kind.Latch count) round c answer drew sort = refl
come-is (kind.Semaphore permits) round c answer drew sort = absurd sort
come-is kind.Mutex round c answer drew sort = absurd sort
come-is (kind.Pool elements) round c answer drew sort = absurd sort
come-is (kind.Rounds parties rounds) round c answer drew sort = absurd sort

pub turned-is : (k : Kind) (round c : ℕ) → IsLatch (Some k) → came_entries (Some k) round c None None ≡ at_latch []
turned-is (kind.Latch count) round c sort = refl
turned-is (kind.Semaphore permits) round c sort = absurd sort
turned-is kind.Mutex round c sort = absurd sort
turned-is (kind.Pool elements) round c sort = absurd sort
turned-is (kind.Rounds parties rounds) round c sort = absurd sort

pub look-is : (k : Kind) (round c n : ℕ) (answer : FloorLook) → IsLatch (Some k)
    → look_entries (Some k) round c n answer ≡ at_latch (latch_looked c n answer)
look-is (kind.Latch count) round c n answer sort = refl
look-is (kind.Semaphore permits) round c n answer sort = absurd sort
look-is kind.Mutex round c n answer sort = absurd sort
look-is (kind.Pool elements) round c n answer sort = absurd sort
look-is (kind.Rounds parties rounds) round c n answer sort = absurd sort

pub leave-is : (k : Kind) (round c n : ℕ) (answer : FloorLeave) (stays : Bool) → IsLatch (Some k)
    → leave_entries (Some k) round c n answer stays ≡ at_latch (latch_left c n answer)
leave-is (kind.Latch count) round c n answer stays sort = refl
leave-is (kind.Semaphore permits) round c n answer stays sort = absurd sort
leave-is kind.Mutex round c n answer stays sort = absurd sort
leave-is (kind.Pool elements) round c n answer stays sort = absurd sort
leave-is (kind.Rounds parties rounds) round c n answer stays sort = absurd sort

pub drawn-is : (k : Kind) (answer : Option FloorTake) (drew : Option ℕ) → IsLatch (Some k)
    → IsDrawn (Some k) answer drew
drawn-is (kind.Latch count) answer drew sort = tt
drawn-is (kind.Semaphore permits) answer drew sort = absurd sort
drawn-is kind.Mutex answer drew sort = absurd sort
drawn-is (kind.Pool elements) answer drew sort = absurd sort
drawn-is (kind.Rounds parties rounds) answer drew sort = absurd sort

pub brought-is : (k : Kind) (a : Funds) (job e : ℕ) → IsLatch (Some k)
    → (if can_hold k then with_more a job e else a) ≡ a
brought-is (kind.Latch count) a job e sort = refl
brought-is (kind.Semaphore permits) a job e sort = absurd sort
brought-is kind.Mutex a job e sort = absurd sort
brought-is (kind.Pool elements) a job e sort = absurd sort
brought-is (kind.Rounds parties rounds) a job e sort = absurd sort

pub parties-is : (k : Kind) (round : ℕ) (answer : FloorLeave) → IsLatch (Some k) → [] ≡ parties_left k [] round answer
parties-is (kind.Latch count) round leave.Gone sort = refl
parties-is (kind.Latch count) round (leave.Late e) sort = refl
parties-is (kind.Semaphore permits) round answer sort = absurd sort
parties-is kind.Mutex round answer sort = absurd sort
parties-is (kind.Pool elements) round answer sort = absurd sort
parties-is (kind.Rounds parties rounds) round answer sort = absurd sort

-- where no entry draws a number, none comes to the line
pub none-enter : (entries : List LatchEntry) → count_by enters_at_latch entries ≡ 0 → (c k : ℕ)
    → IsIn (entry.Enter c k) entries → ⊥
none-enter [] undrawn c k is = in-none (entry.Enter c k) is
none-enter (e ∷ es) undrawn c k is =
    go (enters_at_latch e) refl (in-behind (entry.Enter c k) e es is) (λ later. none-enter es later c k)
  where
    go : (b : Bool) → enters_at_latch e ≡ b → (entry.Enter c k ≡ e) ⊎ IsIn (entry.Enter c k) es
        → (count_by enters_at_latch es ≡ 0 → IsIn (entry.Enter c k) es → ⊥) → ⊥
    go true draws stands rest =
        let one : bit (enters_at_latch e) ≡ 1 = ap bit draws in
        absurd (omega (arith, undrawn, one, first-drawn e es))
    go false other (inl same) rest = absurd (false≢true (sym other ∙ ap enters_at_latch (sym same)))
    go false other (inr there) rest =
        let none : bit (enters_at_latch e) ≡ 0 = ap bit other in
        rest (omega (arith, undrawn, none, first-drawn e es)) there

-- who comes to the door and to the line has that number
pub which-enter : (p n c k : ℕ) → IsIn (entry.Enter c k) (entry.AwaitDoor p ∷ entry.Enter p n ∷ []) → n ≡ k
which-enter p n c k is = first (in-behind (entry.Enter c k) (entry.AwaitDoor p) (entry.Enter p n ∷ []) is)
  where
    number : LatchEntry → ℕ
    number (entry.Enter d j) = j
    number e = 0

    second : (entry.Enter c k ≡ entry.Enter p n) ⊎ IsIn (entry.Enter c k) [] → n ≡ k
    second (inl same) = sym (ap number same)
    second (inr none) = absurd (in-none (entry.Enter c k) none)

    first : (entry.Enter c k ≡ entry.AwaitDoor p) ⊎ IsIn (entry.Enter c k) (entry.Enter p n ∷ []) → n ≡ k
    first (inl same) = absurd (false≢true (ap enters_at_latch (sym same)))
    first (inr later) = second (in-behind (entry.Enter c k) (entry.Enter p n) [] later)
