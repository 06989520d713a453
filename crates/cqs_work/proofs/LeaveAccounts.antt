-- What a worker came to and has no more over a leave: a wait that is gone is lost, and one that was late came.
use Rattle.std.proofs.Common.{◌≡◌, ◌≢◌, ℕ, ◌+◌, Bool, true, false, Option, Some, None, set, get_or, slice_get, sum_by, refl, ap, ◌∙◌, arith}
use Rattle.cqs_plan.specs.declared.floors.answers.FloorLeave.{FloorLeave}
use Rattle.cqs_plan.specs.declared.floors.answers.FloorLeave.TheVariants.{Gone, Late}
use Rattle.cqs_plan.specs.declared.plans.kind.Kind.{Kind}
use Rattle.cqs_plan.specs.declared.plans.kind.Kind.TheVariants as kind
use Rattle.cqs_plan.specs.Floor.{PlainFloor, JobWait, IsJob, IsHoldable, room_at, wait_of}
use Rattle.cqs_plan.specs.FloorCalls.{after_leave, with_left}
use Rattle.cqs_plan.specs.FloorHistory.{is_late}
use Rattle.cqs_floor_shared.specs.Entries.{Entries}
use Rattle.cqs_floor_shared.specs.AnswerEntries.{leave_entries, unless_came}
use Rattle.cqs_floor_shared.specs.Shared.{Shared, kind_at, came_of}
use Rattle.cqs_floor_shared.specs.Calls.{Leaves, IsLate}
use Rattle.cqs_work.specs.Accounts.{gains, losses, doors, enters, sum_of, waits_at, held_at, count_at}
use Rattle.cqs_work.specs.Later.{Later}
use Rattle.cqs_work.proofs.Draws.{left-none, left-room}
use Rattle.cqs_work.proofs.LookAccounts.{came-else, came-here, came-kinds, wait-gone}
use Rattle.cqs_work.proofs.Accounts.{later-by, one-else, one-here}

-- a leave: a wait that is gone is lost, and one that was late came
abbrev left_ones : FloorLeave → ℕ
left_ones Gone = 1
left_ones (Late element) = 0

record LeftAdds (entries : Entries) (ones : ℕ) : Type 0 where
  pub gained : sum_of gains entries ≡ 0
  pub lost : sum_of losses entries ≡ ones
  pub entered : sum_of enters entries ≡ sum_of doors entries

left-adds : (came : Bool) (k : Option Kind) (round c n : ℕ) (got : FloorLeave) (stays : Bool) → IsLate came got
    → IsHoldable k → LeftAdds (unless_came came (leave_entries k round c n got stays)) (left_ones got)
left-adds true k round c n Gone stays late holdable = absurd late
left-adds true (Some (kind.Semaphore permits)) round c n (Late e) stays late holdable =
    record { gained = refl; lost = refl; entered = refl }
left-adds true (Some kind.Mutex) round c n (Late e) stays late holdable =
    record { gained = refl; lost = refl; entered = refl }
left-adds true (Some (kind.Pool elements)) round c n (Late e) stays late holdable =
    record { gained = refl; lost = refl; entered = refl }
left-adds true (Some (kind.Latch count)) round c n (Late e) stays late holdable = absurd holdable
left-adds true (Some (kind.Rounds parties rounds)) round c n (Late e) stays late holdable = absurd holdable
left-adds true None round c n (Late e) stays late holdable = absurd holdable
left-adds false (Some (kind.Semaphore permits)) round c n Gone stays late holdable =
    record { gained = refl; lost = refl; entered = refl }
left-adds false (Some (kind.Semaphore permits)) round c n (Late e) stays late holdable =
    record { gained = refl; lost = refl; entered = refl }
left-adds false (Some kind.Mutex) round c n Gone stays late holdable =
    record { gained = refl; lost = refl; entered = refl }
left-adds false (Some kind.Mutex) round c n (Late e) stays late holdable =
    record { gained = refl; lost = refl; entered = refl }
left-adds false (Some (kind.Pool elements)) round c n Gone stays late holdable =
    record { gained = refl; lost = refl; entered = refl }
left-adds false (Some (kind.Pool elements)) round c n (Late e) stays late holdable =
    record { gained = refl; lost = refl; entered = refl }
left-adds false (Some (kind.Latch count)) round c n got stays late holdable = absurd holdable
left-adds false (Some (kind.Rounds parties rounds)) round c n got stays late holdable = absurd holdable
left-adds false None round c n got stays late holdable = absurd holdable

left-doors : (came : Bool) (k : Option Kind) (round c n : ℕ) (got : FloorLeave) (stays : Bool)
    → sum_of enters (unless_came came (leave_entries k round c n got stays))
    ≡ sum_of doors (unless_came came (leave_entries k round c n got stays))
left-doors true (Some (kind.Semaphore permits)) round c n got stays = refl
left-doors true (Some kind.Mutex) round c n got stays = refl
left-doors true (Some (kind.Pool elements)) round c n got stays = refl
left-doors true (Some (kind.Latch count)) round c n got stays = refl
left-doors true (Some (kind.Rounds parties rounds)) round c n got stays = refl
left-doors true None round c n got stays = refl
left-doors false (Some (kind.Semaphore permits)) round c n Gone stays = refl
left-doors false (Some (kind.Semaphore permits)) round c n (Late e) stays = refl
left-doors false (Some kind.Mutex) round c n Gone stays = refl
left-doors false (Some kind.Mutex) round c n (Late e) stays = refl
left-doors false (Some (kind.Pool elements)) round c n Gone stays = refl
left-doors false (Some (kind.Pool elements)) round c n (Late e) stays = refl
left-doors false (Some (kind.Latch count)) round c n got stays = refl
left-doors false (Some (kind.Rounds parties rounds)) round c n got stays = refl
left-doors false None round c n got stays = refl

module _ (b : PlainFloor) (job : ℕ) (wait : JobWait) (is_job : IsJob b job) (waits : wait_of b job ≡ Some wait) where
  left-here : (got : FloorLeave) → IsHoldable (slice_get b.kinds wait.at)
      → count_at (after_leave b job got) wait.at + left_ones got ≡ count_at b wait.at
  left-here Gone holdable =
      let gone : count_at (after_leave b job Gone) wait.at
      ≡ sum_by (held_at wait.at) b.holds + sum_by (waits_at wait.at) (set b.waits job None)
      = ap (λ w. count_at (with_left b job w) wait.at) waits in
      omega (arith, gone, wait-gone b job wait is_job waits wait.at, one-here wait.at)
  left-here (Late element) holdable = omega (arith, came-here b job wait is_job waits is_late element holdable)

  left-else : (got : FloorLeave) (q : ℕ) → q ≢ wait.at → count_at (after_leave b job got) q ≡ count_at b q
  left-else Gone q other =
      let gone : count_at (after_leave b job Gone) q
      ≡ sum_by (held_at q) b.holds + sum_by (waits_at q) (set b.waits job None)
      = ap (λ w. count_at (with_left b job w) q) waits in
      omega (arith, gone, wait-gone b job wait is_job waits q, one-else wait.at q other)
  left-else (Late element) q other = came-else b job wait is_job waits is_late element q other

  left-kinds : (got : FloorLeave) → (after_leave b job got).kinds ≡ b.kinds
  left-kinds Gone = ap (λ w. (with_left b job w).kinds) waits
  left-kinds (Late element) = came-kinds b job wait is_job waits is_late element

pub leave-later : (f : Shared) (job : ℕ) (wait : JobWait) (got : FloorLeave) (g : Shared)
    → Leaves f job wait got g → IsJob f.board job → wait_of f.board job ≡ Some wait → Later f g
leave-later f job wait got g leaves is_job waits =
    let k : Option Kind = kind_at f wait.at in
    later-by f wait.at _ g leaves.sees
    (ap (λ b. b.kinds) leaves.board ∙ left-kinds f.board job wait is_job waits got)
    (λ holdable.
    let adds
    = left-adds (came_of f job) k wait.round f.number wait.number got leaves.stays leaves.found holdable in
    omega (
      arith,
      adds.gained,
      adds.lost,
      ap (λ b. count_at b wait.at) leaves.board,
      left-here f.board job wait is_job waits got holdable,
    ))
    (λ q other. ap (λ b. count_at b q) leaves.board ∙ left-else f.board job wait is_job waits got q other)
    (left-doors (came_of f job) k wait.round f.number wait.number got leaves.stays)
    (λ r. omega (
      arith,
      left-none (came_of f job) k wait.round f.number wait.number got leaves.stays r,
      room wait.at,
    ))
    (λ q other. omega (arith, room q))
  where
    room : (q : ℕ) → room_at g.board q ≡ room_at f.board q
    room q = ap (λ b. room_at b q) leaves.board ∙ ap (λ l. get_or l q 0) (left-room f.board job got)
