-- What a worker came to and has no more over a look at a wait.
use Rattle.std.proofs.Common.{◌≡◌, ◌≢◌, ℕ, ◌+◌, ◌==◌, Bool, true, false, List, [], ◌∷◌, ◌++◌, Option, Some, None, set, get_or, slice_get, sum_by, refl, ap, ◌∙◌, arith}
use Rattle.std.specs.Bool.{if◌then◌else◌}
use Rattle.std.specs.Option.{option_map_or}
use Rattle.cqs_plan.specs.declared.floors.answers.FloorLook.{FloorLook}
use Rattle.cqs_plan.specs.declared.floors.answers.FloorLook.TheVariants.{Pending, Granted}
use Rattle.cqs_plan.specs.declared.plans.kind.Kind.{Kind}
use Rattle.cqs_plan.specs.declared.plans.kind.Kind.TheVariants as kind
use Rattle.cqs_plan.specs.Language.{can_hold}
use Rattle.cqs_plan.specs.Floor.{PlainFloor, JobWait, Holding, IsJob, IsHoldable, holds_of, wait_of, is_holdable, room_at, with_done_in, with_wait}
use Rattle.cqs_plan.specs.FloorCalls.{after_look, with_granted}
use Rattle.cqs_plan.specs.FloorHistory.{Deed, gets}
use Rattle.cqs_floor_shared.specs.Entries.{Entries}
use Rattle.cqs_floor_shared.specs.AnswerEntries.{look_entries, unless_came}
use Rattle.cqs_floor_shared.specs.Shared.{Shared, kind_at, came_of}
use Rattle.cqs_floor_shared.specs.Calls.{Looks}
use Rattle.cqs_work.specs.Accounts.{gains, losses, doors, enters, sum_of, waits_at, held_at, count_at}
use Rattle.cqs_work.specs.Later.{Later}
use Rattle.cqs_work.proofs.Draws.{looked-none, looked-room}
use Rattle.cqs_work.proofs.Accounts.{held-newest, holds-set, later-by, one, one-else, one-here, waits-set}

-- what was waited for came
holdable-then : (k : Option Kind) → IsHoldable k → option_map_or can_hold k false ≡ true
holdable-then (Some (kind.Semaphore permits)) holdable = refl
holdable-then (Some kind.Mutex) holdable = refl
holdable-then (Some (kind.Pool elements)) holdable = refl
holdable-then (Some (kind.Latch count)) holdable = absurd holdable
holdable-then (Some (kind.Rounds parties rounds)) holdable = absurd holdable
holdable-then None holdable = absurd holdable

module _ (b : PlainFloor) (job : ℕ) (wait : JobWait) (is_job : IsJob b job) (waits : wait_of b job ≡ Some wait) where
  pub wait-gone : (q : ℕ)
      → sum_by (waits_at q) (set b.waits job None) + one (wait.at == q) ≡ sum_by (waits_at q) b.waits
  wait-gone q =
      let had : waits_at q (wait_of b job) ≡ one (wait.at == q) = ap (waits_at q) waits in
      omega (arith, waits-set b job is_job q None, had)

  module _ (deed : ℕ → ℕ → Deed) (element : ℕ) where
    abbrev over : PlainFloor
    over = with_wait (with_done_in b wait.at wait.round (deed wait.number element)) job None

    abbrev newest : List Holding
    newest = holds_of b job ++ record { at = wait.at; element = element } ∷ []

    abbrev granted : Bool → PlainFloor
    granted h = if h then record over { holds = set b.holds job newest } else over

    is-granted : (q : ℕ) → count_at (with_granted b job deed (wait_of b job) element) q
        ≡ count_at (granted (is_holdable b wait.at)) q
    is-granted q = ap (λ w. count_at (with_granted b job deed w element) q) waits

    pub came-here : IsHoldable (slice_get b.kinds wait.at)
        → count_at (with_granted b job deed (wait_of b job) element) wait.at ≡ count_at b wait.at
    came-here holdable =
        let all : count_at (granted true) wait.at
        ≡ sum_by (held_at wait.at) (set b.holds job newest) + sum_by (waits_at wait.at) (set b.waits job None)
        = refl in
        is-granted wait.at
        ∙ ap (λ h. count_at (granted h) wait.at) (holdable-then (slice_get b.kinds wait.at) holdable)
        ∙ omega (
          arith,
          all,
          one-here wait.at,
          wait-gone wait.at,
          holds-set b job is_job wait.at newest,
          held-newest wait.at wait.at element (holds_of b job),
        )

    granted-else : (q : ℕ) → q ≢ wait.at → (h : Bool) → count_at (granted h) q ≡ count_at b q
    granted-else q other true =
        let all : count_at (granted true) q
        ≡ sum_by (held_at q) (set b.holds job newest) + sum_by (waits_at q) (set b.waits job None)
        = refl in
        omega (
          arith,
          all,
          wait-gone q,
          holds-set b job is_job q newest,
          held-newest q wait.at element (holds_of b job),
          one-else wait.at q other,
        )
    granted-else q other false =
        let all : count_at (granted false) q
        ≡ sum_by (held_at q) b.holds + sum_by (waits_at q) (set b.waits job None)
        = refl in
        omega (arith, all, wait-gone q, one-else wait.at q other)

    pub came-else : (q : ℕ) → q ≢ wait.at → count_at (with_granted b job deed (wait_of b job) element) q ≡ count_at b q
    came-else q other = is-granted q ∙ granted-else q other (is_holdable b wait.at)

    granted-kinds : (h : Bool) → (granted h).kinds ≡ b.kinds
    granted-kinds true = refl
    granted-kinds false = refl

    pub came-kinds : (with_granted b job deed (wait_of b job) element).kinds ≡ b.kinds
    came-kinds = ap (λ w. (with_granted b job deed w element).kinds) waits ∙ granted-kinds (is_holdable b wait.at)

  looked-here : (got : FloorLook) → IsHoldable (slice_get b.kinds wait.at)
      → count_at (after_look b job got) wait.at ≡ count_at b wait.at
  looked-here Pending holdable = refl
  looked-here (Granted element) holdable = came-here gets element holdable

  looked-else : (got : FloorLook) (q : ℕ) → q ≢ wait.at → count_at (after_look b job got) q ≡ count_at b q
  looked-else Pending q other = refl
  looked-else (Granted element) q other = came-else gets element q other

  looked-kinds : (got : FloorLook) → (after_look b job got).kinds ≡ b.kinds
  looked-kinds Pending = refl
  looked-kinds (Granted element) = came-kinds gets element

-- a look: entries that neither gain nor lose
record AddsNone (entries : Entries) : Type 0 where
  pub gained : sum_of gains entries ≡ 0
  pub lost : sum_of losses entries ≡ 0
  pub entered : sum_of enters entries ≡ sum_of doors entries

looked-adds : (came : Bool) (k : Option Kind) (round c n : ℕ) (got : FloorLook)
    → AddsNone (unless_came came (look_entries k round c n got))
looked-adds true (Some (kind.Semaphore permits)) round c n got = record { gained = refl; lost = refl; entered = refl }
looked-adds true (Some kind.Mutex) round c n got = record { gained = refl; lost = refl; entered = refl }
looked-adds true (Some (kind.Pool elements)) round c n got = record { gained = refl; lost = refl; entered = refl }
looked-adds true (Some (kind.Latch count)) round c n got = record { gained = refl; lost = refl; entered = refl }
looked-adds true (Some (kind.Rounds parties rounds)) round c n got =
    record { gained = refl; lost = refl; entered = refl }
looked-adds true None round c n got = record { gained = refl; lost = refl; entered = refl }
looked-adds false (Some (kind.Semaphore permits)) round c n Pending =
    record { gained = refl; lost = refl; entered = refl }
looked-adds false (Some (kind.Semaphore permits)) round c n (Granted e) =
    record { gained = refl; lost = refl; entered = refl }
looked-adds false (Some kind.Mutex) round c n Pending = record { gained = refl; lost = refl; entered = refl }
looked-adds false (Some kind.Mutex) round c n (Granted e) = record { gained = refl; lost = refl; entered = refl }
looked-adds false (Some (kind.Pool elements)) round c n Pending = record { gained = refl; lost = refl; entered = refl }
looked-adds false (Some (kind.Pool elements)) round c n (Granted e) =
    record { gained = refl; lost = refl; entered = refl }
looked-adds false (Some (kind.Latch count)) round c n got = record { gained = refl; lost = refl; entered = refl }
looked-adds false (Some (kind.Rounds parties rounds)) round c n got =
    record { gained = refl; lost = refl; entered = refl }
looked-adds false None round c n got = record { gained = refl; lost = refl; entered = refl }

pub look-later : (f : Shared) (job : ℕ) (wait : JobWait) (got : FloorLook) (g : Shared) → Looks f job wait got g
    → IsJob f.board job → wait_of f.board job ≡ Some wait → Later f g
look-later f job wait got g looks is_job waits =
    let adds = looked-adds (came_of f job) (kind_at f wait.at) wait.round f.number wait.number got in
    later-by f wait.at _ g looks.sees
    (ap (λ b. b.kinds) looks.board ∙ looked-kinds f.board job wait is_job waits got)
    (λ holdable. omega (
      arith,
      adds.gained,
      adds.lost,
      ap (λ b. count_at b wait.at) looks.board,
      looked-here f.board job wait is_job waits got holdable,
    ))
    (λ q other. ap (λ b. count_at b q) looks.board ∙ looked-else f.board job wait is_job waits got q other) adds.entered
    (λ r. omega (
      arith,
      looked-none (came_of f job) (kind_at f wait.at) wait.round f.number wait.number got r,
      room wait.at,
    ))
    (λ q other. omega (arith, room q))
  where
    room : (q : ℕ) → room_at g.board q ≡ room_at f.board q
    room q = ap (λ b. room_at b q) looks.board ∙ ap (λ l. get_or l q 0) (looked-room f.board job got)
